-- What a store does to what the lists say, and what the lists say before a search.
-- Distances, predecessors and the content of the bag, side by side, say for each index what the pending bag has of it: nothing, or a distance, a predecessor and
-- whether it is pending. A store at v changes the three lists at v alone, so it changes what they say at v alone. Blank lists and an empty bag say nothing of any
-- index.
-- Assumes nothing.
use mathlib.Core.Path.{◌≡◌, refl, sym, ap, ◌∙◌, subst, fun_ext}
use mathlib.Core.Bool.{Bool, true}
use mathlib.Core.Logic.{◌⊎◌, inl, inr}
use mathlib.Core.List.{List, [], ◌∷◌}
use mathlib.Core.Option.{Option, none, some, none-ne-some}
use Prim.Native.Nat.{ℕ, zero, suc, ◌<◌}
use native.Mathlib.Omega.{arith}
use native.Mathlib.Decide.{ℕ_discrete}
use lib.ListN.{length, get_or, set, replicate, length-set, length-replicate}
use lib.Seq.{get_or-set_same, get_or-set_other}
use borrow.Author.Tests.{lt-ltb}
use Rattle.clean.specs.None.{none_u32, shown}
use Rattle.bag.specs.Content.{content_of}
use Rattle.bag.specs.Bag.{Bag, NotAbove}
use Rattle.bag.proofs.Empty.{cleared_bag, cleared_content}
use Rattle.bag.specs.Order.{pick}
use Rattle.pending.specs.Setting.{upd}
use Rattle.pending.specs.OnePlace.{Cell, out, has, dist_of, pred_of}
use Rattle.pending.specs.Laws.{OkCell}
use Rattle.pending.specs.Content.{cell_of, Holds}
use Rattle.pending.proofs.Content.{holds_store}
use Rattle.pending.proofs.Cells.{upd_here, upd_there, not_out}
use Rattle.turns.specs.Kind.{Kind, turn_of}
use Rattle.turns.specs.Memory.{Memory, pred_in, is_pending, cells, cells_of, Good, Fresh}
use Rattle.turns.proofs.Lawful.{Lawful}

-- ---- reading and writing
-- an index is read back
pub pred_back : (p : ℕ) → p < none_u32 → pred_in p ≡ some p
pred_back p h = ap (λ (b : Bool). pick b (some p) none) (lt-ltb p none_u32 h)

-- one value everywhere
pub get_or_same : {X : Type 0} (m : ℕ) (x : X) (v : ℕ) → get_or (replicate m x) v x ≡ x
get_or_same zero x v = refl
get_or_same (suc m) x zero = refl
get_or_same (suc m) x (suc v) = get_or_same m x v

-- the content is as long as the words
pub content_long : {K : Type 0} (ps : List ℕ) (ks : List K) → length ks ≡ length ps → length (content_of ps ks) ≡ length ps
unfolding content_of
content_long [] ks e = refl
content_long (p ∷ ps) [] e = absurd (omega arith)
content_long (p ∷ ps) (k ∷ ks) e = ap suc (content_long ps ks (omega arith))

-- a list with one entry replaced, as a function
pub set_upd : {X : Type 0} (l : List X) (v : ℕ) (x z : X) → v < length l → (w : ℕ) → get_or (set l v x) w z ≡ upd (λ y. get_or l y z) v x w
set_upd l v x z h w = go (ℕ_discrete w v)
  where
    go : Dec (w ≡ v) → get_or (set l v x) w z ≡ upd (λ y. get_or l y z) v x w
    go (yes e) = ap (λ (y : ℕ). get_or (set l v x) y z) e ∙ get_or-set_same l v x z h ∙ sym (upd_here (λ y. get_or l y z) v x) ∙ ap (upd (λ y. get_or l y z) v x) (sym e)
    go (no n) = get_or-set_other l v w x z n ∙ sym (upd_there (λ y. get_or l y z) v x w n)

-- the distance of a cell
pub cell_dist : {K : Type 0} (o : Option K) (p : Option ℕ) (b : Bool) → dist_of (cell_of o p b) ≡ o
cell_dist none p b = refl
cell_dist (some d) p b = refl

module _ {K C : Type 0} (Y : Kind K C) where
  -- what the lists say of v's distance
  pub cells_dist : (ds : List K) (ps : List ℕ) (ct : List (Option K)) (v : ℕ) → dist_of (cells Y ds ps ct v) ≡ Y.read (get_or ds v Y.blank)
  unfolding cells
  cells_dist ds ps ct v = cell_dist (Y.read (get_or ds v Y.blank)) (pred_in (get_or ps v none_u32)) (is_pending (get_or ct v none))

  -- the predecessor does not look at the content
  pub cells_pred : (ds : List K) (ps : List ℕ) (ct ct' : List (Option K)) (v : ℕ) → pred_of (cells Y ds ps ct v) ≡ pred_of (cells Y ds ps ct' v)
  unfolding cells
  cells_pred ds ps ct ct' v = go (Y.read (get_or ds v Y.blank)) (pred_in (get_or ps v none_u32)) (is_pending (get_or ct v none)) (is_pending (get_or ct' v none))
    where
      go : (o : Option K) (r : Option ℕ) (b c : Bool) → pred_of (cell_of o r b) ≡ pred_of (cell_of o r c)
      go none r b c = refl
      go (some x) r b c = refl

  -- three lists that change at v
  pub cells_set : (ds : List K) (ps : List ℕ) (ct : List (Option K)) (v : ℕ) (x : K) (p : ℕ) (k : Option K) → v < length ds → v < length ps → v < length ct → (w : ℕ)
      → cells Y (set ds v x) (set ps v p) (set ct v k) w ≡ upd (cells Y ds ps ct) v (cell_of (Y.read x) (pred_in p) (is_pending k)) w
  unfolding cells
  cells_set ds ps ct v x p k a b c w = go (ℕ_discrete w v)
    where
      go : Dec (w ≡ v)
          → cell_of (Y.read (get_or (set ds v x) w Y.blank)) (pred_in (get_or (set ps v p) w none_u32)) (is_pending (get_or (set ct v k) w none))
          ≡ upd (λ y. cell_of (Y.read (get_or ds y Y.blank)) (pred_in (get_or ps y none_u32)) (is_pending (get_or ct y none))) v (cell_of (Y.read x) (pred_in p) (is_pending k)) w
      go (yes e) =
          ap (λ (y : ℕ). cell_of (Y.read (get_or (set ds v x) y Y.blank)) (pred_in (get_or (set ps v p) y none_u32)) (is_pending (get_or (set ct v k) y none))) e
          ∙ (λ i. cell_of (Y.read (get_or-set_same ds v x Y.blank a i)) (pred_in (get_or-set_same ps v p none_u32 b i)) (is_pending (get_or-set_same ct v k none c i)))
          ∙ sym (upd_here (λ y. cell_of (Y.read (get_or ds y Y.blank)) (pred_in (get_or ps y none_u32)) (is_pending (get_or ct y none))) v (cell_of (Y.read x) (pred_in p) (is_pending k)))
          ∙ ap (upd (λ y. cell_of (Y.read (get_or ds y Y.blank)) (pred_in (get_or ps y none_u32)) (is_pending (get_or ct y none))) v (cell_of (Y.read x) (pred_in p) (is_pending k))) (sym e)
      go (no n) =
          (λ i. cell_of (Y.read (get_or-set_other ds v w x Y.blank n i)) (pred_in (get_or-set_other ps v w p none_u32 n i)) (is_pending (get_or-set_other ct v w k none n i)))
          ∙ sym (upd_there (λ y. cell_of (Y.read (get_or ds y Y.blank)) (pred_in (get_or ps y none_u32)) (is_pending (get_or ct y none))) v (cell_of (Y.read x) (pred_in p) (is_pending k)) w n)

  -- the content alone changes at v
  pub cells_mark : (ds : List K) (ps : List ℕ) (ct : List (Option K)) (v : ℕ) (k : Option K) → v < length ct → (w : ℕ)
      → cells Y ds ps (set ct v k) w ≡ upd (cells Y ds ps ct) v (cell_of (Y.read (get_or ds v Y.blank)) (pred_in (get_or ps v none_u32)) (is_pending k)) w
  unfolding cells
  cells_mark ds ps ct v k c w = go (ℕ_discrete w v)
    where
      go : Dec (w ≡ v)
          → cell_of (Y.read (get_or ds w Y.blank)) (pred_in (get_or ps w none_u32)) (is_pending (get_or (set ct v k) w none))
          ≡ upd (λ y. cell_of (Y.read (get_or ds y Y.blank)) (pred_in (get_or ps y none_u32)) (is_pending (get_or ct y none))) v
          (cell_of (Y.read (get_or ds v Y.blank)) (pred_in (get_or ps v none_u32)) (is_pending k)) w
      go (yes e) =
          ap (λ (y : ℕ). cell_of (Y.read (get_or ds y Y.blank)) (pred_in (get_or ps y none_u32)) (is_pending (get_or (set ct v k) y none))) e
          ∙ ap (λ (z : Option K). cell_of (Y.read (get_or ds v Y.blank)) (pred_in (get_or ps v none_u32)) (is_pending z)) (get_or-set_same ct v k none c)
          ∙ sym (upd_here (λ y. cell_of (Y.read (get_or ds y Y.blank)) (pred_in (get_or ps y none_u32)) (is_pending (get_or ct y none))) v
          (cell_of (Y.read (get_or ds v Y.blank)) (pred_in (get_or ps v none_u32)) (is_pending k)))
          ∙ ap (upd (λ y. cell_of (Y.read (get_or ds y Y.blank)) (pred_in (get_or ps y none_u32)) (is_pending (get_or ct y none))) v
          (cell_of (Y.read (get_or ds v Y.blank)) (pred_in (get_or ps v none_u32)) (is_pending k))) (sym e)
      go (no n) =
          ap (λ (z : Option K). cell_of (Y.read (get_or ds w Y.blank)) (pred_in (get_or ps w none_u32)) (is_pending z)) (get_or-set_other ct v w k none n)
          ∙ sym (upd_there (λ y. cell_of (Y.read (get_or ds y Y.blank)) (pred_in (get_or ps y none_u32)) (is_pending (get_or ct y none))) v
          (cell_of (Y.read (get_or ds v Y.blank)) (pred_in (get_or ps v none_u32)) (is_pending k)) w n)

-- an entry is blank, or a distance that is stored
pub entry_is : {K C : Type 0} {Y : Kind K C} {m : ℕ} {M : Memory K} {n : ℕ} → Good Y m M n → (v : ℕ) → (get_or M.dist v Y.blank ≡ Y.blank) ⊎ Y.good (get_or M.dist v Y.blank)
entry_is {K} {Y = Y} {M = M} g v = go (cells_of Y M v) (g.oks v) (g.tidy_d v)
  where
    go : (c : Cell K) → OkCell Y.good c → get_or M.dist v Y.blank ≡ shown Y.blank (dist_of c) → (get_or M.dist v Y.blank ≡ Y.blank) ⊎ Y.good (get_or M.dist v Y.blank)
    go out x e = inl e
    go (has d p b) x e = inr (subst Y.good (sym e) x)

-- ---- a store: v has the distance x and the predecessor o, and is pending
module _ {K C : Type 0} {Y : Kind K C} {ok : K → Type 0} (W : Lawful Y ok) {m : ℕ} {M M' : Memory K} {n n' : ℕ} (g : Good Y m M n) (v : ℕ) (inside : v < m) (x : K) (fine : Y.good x) (o : Option ℕ)
    (back : pred_in (shown none_u32 o) ≡ o)
    (dist_is : M'.dist ≡ set M.dist v x) (preds_is : M'.preds ≡ set M.preds v (shown none_u32 o)) (bag_is : Bag Y.order M'.peaks M'.words M'.keys n')
    (content_is : content_of M'.words M'.keys ≡ set (content_of M.words M.keys) v (some (Y.key x v))) (long : length M'.words ≡ m) where
  in_ct : v < length (content_of M.words M.keys)
  in_ct = omega (arith, content_long M.words M.keys g.bag.long, g.long_b)

  -- what the lists say then
  pub stored_cells : cells_of Y M' ≡ upd (cells_of Y M) v (has x o true)
  stored_cells =
      (λ i. cells Y (dist_is i) (preds_is i) (content_is i))
      ∙ fun_ext (cells_set Y M.dist M.preds (content_of M.words M.keys) v x (shown none_u32 o) (some (Y.key x v)) (omega (arith, g.long_d)) (omega (arith, g.long_p)) in_ct)
      ∙ (λ i. upd (cells_of Y M) v (cell_of (W.back x fine i) (back i) true))

  stored_content : (λ w. get_or (content_of M'.words M'.keys) w none) ≡ upd (λ w. get_or (content_of M.words M.keys) w none) v (some (Y.key x v))
  stored_content = (λ i w. get_or (content_is i) w none) ∙ fun_ext (set_upd (content_of M.words M.keys) v (some (Y.key x v)) none in_ct)

  -- one entry of a list, and of what it stands for
  tidy : {X : Type 0} (l l' : List X) (z y : X) (f : Cell K → X) → l' ≡ set l v y → v < length l → f (has x o true) ≡ y → ((w : ℕ) → get_or l w z ≡ f (cells_of Y M w)) → (w : ℕ)
      → get_or l' w z ≡ f (cells_of Y M' w)
  tidy {X} l l' z y f e b r t w =
      ap (λ (k : List X). get_or k w z) e ∙ go (ℕ_discrete w v) ∙ ap (λ (s : ℕ → Cell K). f (s w)) (sym stored_cells)
    where
      go : Dec (w ≡ v) → get_or (set l v y) w z ≡ f (upd (cells_of Y M) v (has x o true) w)
      go (yes q) =
          ap (λ (k : ℕ). get_or (set l v y) k z) q ∙ get_or-set_same l v y z b ∙ sym r ∙ ap f (sym (upd_here (cells_of Y M) v (has x o true)))
          ∙ ap (λ (k : ℕ). f (upd (cells_of Y M) v (has x o true) k)) (sym q)
      go (no q) = get_or-set_other l v w y z q ∙ t w ∙ ap f (sym (upd_there (cells_of Y M) v (has x o true) w q))

  stored_oks : (w : ℕ) → OkCell Y.good (upd (cells_of Y M) v (has x o true) w)
  stored_oks w = go (ℕ_discrete w v)
    where
      go : Dec (w ≡ v) → OkCell Y.good (upd (cells_of Y M) v (has x o true) w)
      go (yes q) = subst (OkCell Y.good) (sym (ap (upd (cells_of Y M) v (has x o true)) q ∙ upd_here (cells_of Y M) v (has x o true))) fine
      go (no q) = subst (OkCell Y.good) (sym (upd_there (cells_of Y M) v (has x o true) w q)) (g.oks w)

  pub stored_good : Good Y m M' n'
  stored_good = record {
    long_d = ap length dist_is ∙ length-set M.dist v x ∙ g.long_d;
    long_p = ap length preds_is ∙ length-set M.preds v (shown none_u32 o) ∙ g.long_p;
    long_b = long;
    bag = bag_is;
    holds = subst (λ (s : ℕ → Cell K). Holds (turn_of Y) (λ w. get_or (content_of M'.words M'.keys) w none) s) (sym stored_cells)
        (subst (λ (c : ℕ → Option K). Holds (turn_of Y) c (upd (cells_of Y M) v (has x o true))) (sym stored_content) (holds_store (turn_of Y) g.holds v x o));
    oks = λ w. subst (λ (s : ℕ → Cell K). OkCell Y.good (s w)) (sym stored_cells) (stored_oks w);
    tidy_d = tidy M.dist M'.dist Y.blank x (λ c. shown Y.blank (dist_of c)) dist_is (omega (arith, g.long_d)) refl g.tidy_d;
    tidy_p = tidy M.preds M'.preds none_u32 (shown none_u32 o) (λ c. shown none_u32 (pred_of c)) preds_is (omega (arith, g.long_p)) refl g.tidy_p;
  }

-- ---- the lists before a search
module _ {K C : Type 0} {Y : Kind K C} {m : ℕ} {M : Memory K} (f : Fresh Y m M) where
  -- an empty bag
  pub empty_bag : Bag Y.order M.peaks M.words M.keys 0
  empty_bag = cleared_bag Y.order M.peaks M.words M.keys m f.few f.peaks f.words f.keys

  -- nothing in it
  pub empty_content : (v : ℕ) → get_or (content_of M.words M.keys) v none ≡ none
  empty_content v = ap (λ (l : List (Option K)). get_or l v none) (cleared_content M.words M.keys m f.words f.keys) ∙ get_or_same (length M.words) none v

  -- an index below m has an entry
  pub fresh_inside : {v : ℕ} → v < m → (v < length M.dist) × (v < length M.preds)
  fresh_inside h = (omega (arith, ap length f.dist, length-replicate m Y.blank), omega (arith, ap length f.preds, length-replicate m none_u32))

  -- so any key may be pushed
  pub empty_lower : (v : ℕ) (k : K) → NotAbove Y.order (content_of M.words M.keys) v k
  empty_lower v k = record { lower = λ j e. absurd (none-ne-some j (sym (empty_content v) ∙ e)) }

module _ {K C : Type 0} {Y : Kind K C} {ok : K → Type 0} (W : Lawful Y ok) {m : ℕ} {M : Memory K} (f : Fresh Y m M) where
  -- no index has a distance
  pub fresh_cells : (v : ℕ) → cells_of Y M v ≡ out
  unfolding cells
  fresh_cells v =
      ap (λ (d : K). cell_of (Y.read d) (pred_in (get_or M.preds v none_u32)) (is_pending (get_or (content_of M.words M.keys) v none)))
      (ap (λ (l : List K). get_or l v Y.blank) f.dist ∙ get_or_same m Y.blank v)
      ∙ ap (λ (o : Option K). cell_of o (pred_in (get_or M.preds v none_u32)) (is_pending (get_or (content_of M.words M.keys) v none))) W.empty

  pub fresh_good : Good Y m M 0
  fresh_good = record {
    long_d = ap length f.dist ∙ length-replicate m Y.blank;
    long_p = ap length f.preds ∙ length-replicate m none_u32;
    long_b = ap length f.words ∙ length-replicate m 0;
    bag = empty_bag f;
    holds = record { pending = λ v d p e. absurd (not_out (sym (fresh_cells v) ∙ e)); held = λ v k e. absurd (none-ne-some k (sym (empty_content f v) ∙ e)) };
    oks = λ v. subst (OkCell Y.good) (sym (fresh_cells v)) tt;
    tidy_d = λ v. ap (λ (l : List K). get_or l v Y.blank) f.dist ∙ get_or_same m Y.blank v ∙ ap (λ (c : Cell K). shown Y.blank (dist_of c)) (sym (fresh_cells v));
    tidy_p = λ v. ap (λ (l : List ℕ). get_or l v none_u32) f.preds ∙ get_or_same m none_u32 v ∙ ap (λ (c : Cell K). shown none_u32 (pred_of c)) (sym (fresh_cells v));
  }

-- ---- lengths
-- two memories of one length
pub record SameLong {K : Type 0} (M M' : Memory K) : Type 0 where
  pub dist : length M.dist ≡ length M'.dist
  pub preds : length M.preds ≡ length M'.preds
  pub peaks : length M.peaks ≡ length M'.peaks
  pub words : length M.words ≡ length M'.words
  pub keys : length M.keys ≡ length M'.keys

pub same_long : {K C : Type 0} {Y : Kind K C} {m : ℕ} {M M' : Memory K} {n n' : ℕ} → Good Y m M n → Good Y m M' n' → SameLong M M'
same_long g h = record {
  dist = g.long_d ∙ sym h.long_d;
  preds = g.long_p ∙ sym h.long_p;
  peaks = g.bag.shape.same ∙ g.long_b ∙ sym (h.bag.shape.same ∙ h.long_b);
  words = g.long_b ∙ sym h.long_b;
  keys = g.bag.long ∙ g.long_b ∙ sym (h.bag.long ∙ h.long_b);
}
