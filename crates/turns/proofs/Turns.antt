-- The loop over the bag, for any kind of search: what holds at its head, and what a take and a row make of it.
-- Whatever the pending bag ends in from the state at the head, over the arcs of the neighbour list, it ends in from its start. A kind says what it keeps of the state
-- from turn to turn beside what its lists say (`keeps`), and what each turn lowers (`left`); with that the loop ends, and its takes can be counted.
-- Assumes nothing.
use mathlib.Core.Path.{◌≡◌, refl, sym, ap, ◌∙◌, subst, fun_ext}
use mathlib.Core.Bool.{Bool, true, false}
use mathlib.Core.List.{List, [], ◌∷◌}
use mathlib.Core.Option.{Option, none, some}
use Prim.Native.Nat.{ℕ, zero, suc, ◌+◌, ◌-◌, ◌≤◌, ◌<◌, ◌^◌}
use native.Mathlib.Omega.{arith}
use native.Mathlib.Numerals.{add-one}
use native.Mathlib.Decide.{ℕ_discrete}
use lib.ListN.{length, get_or, set}
use Rattle.clean.specs.None.{none_u32, shown}
use Rattle.rows.specs.Rows.{Lists}
use Rattle.rows.specs.RowArc.{RowArc, Sound}
use Rattle.walks.specs.Pigeon.{In, here, there}
use Rattle.bag.specs.Content.{content_of, IsLeast}
use Rattle.bag.specs.Bag.{Bag}
use Rattle.bag.proofs.Empty.{none_held}
use Rattle.pending.specs.Setting.{upd, is_target, refused}
use Rattle.pending.proofs.One.{cell_ok}
use Rattle.pending.specs.OnePlace.{Cell, has, dist_of, done_at, begin, Takes, NewCell, stays, stores, Next, empty, found, wrong}
use Rattle.pending.specs.Laws.{OkCell}
use Rattle.pending.specs.Content.{cell_of, Holds, Leads}
use Rattle.pending.proofs.Content.{holds_takes, holds_empty, holds_pop, leads_begin, leads_next}
use Rattle.pending.proofs.Cells.{upd_here, upd_there, not_out}
use Rattle.pending.proofs.Once.{Within, begin_within, next_within}
use Rattle.turns.specs.Kind.{Kind, setting_of, turn_of}
use Rattle.turns.specs.Memory.{Memory, memory_of, pred_in, is_pending, cells, cells_of, Good, Fresh}
use Rattle.turns.specs.Row.{Opens, BadArc, RowDone}
use Rattle.turns.specs.Searched.{Started, Searched}
use Rattle.turns.proofs.Lawful.{Lawful}
use Rattle.turns.proofs.Cells.{content_long, set_upd, cells_mark, cells_dist, cells_pred, stored_cells, stored_good, fresh_cells, fresh_good, SameLong, same_long}

-- the indices below m
abbrev pub upto : ℕ → List ℕ
upto zero = []
upto (suc m) = m ∷ upto m

pub in_upto : (m v : ℕ) → v < m → In v (upto m)
in_upto zero v h = absurd (omega arith)
in_upto (suc m) v h = go (ℕ_discrete v m) (λ l. in_upto m v l)
  where
    go : Dec (v ≡ m) → (v < m → In v (upto m)) → In v (m ∷ upto m)
    go (yes e) f = here e
    go (no n) f = there (f (omega (arith, n)))

pub upto_long : (m : ℕ) → length (upto m) ≡ m
upto_long zero = refl
upto_long (suc m) = ap suc (upto_long m)

pub upto_below : (m v : ℕ) → In v (upto m) → v < m
upto_below zero v i = elim i [ ]
upto_below (suc m) v (here e) = omega arith
upto_below (suc m) v (there i) = omega (arith, upto_below m v i)

-- a pending cell that is taken
pub unmark : {K C : Type 0} (Y : Kind K C) (ds : List K) (ps : List ℕ) (ct : List (Option K)) (u : ℕ) (d : K) (p : Option ℕ) → cells Y ds ps ct u ≡ has d p true
    → cell_of (Y.read (get_or ds u Y.blank)) (pred_in (get_or ps u none_u32)) false ≡ has d p false
unfolding cells
unmark {K} Y ds ps ct u d p e = go (Y.read (get_or ds u Y.blank)) (pred_in (get_or ps u none_u32)) (is_pending (get_or ct u none)) e
  where
    go : (o : Option K) (r : Option ℕ) (b : Bool) → cell_of o r b ≡ has d p true → cell_of o r false ≡ has d p false
    go none r b k = absurd (not_out k)
    go (some x) r b k = let a : x ≡ d = cc in let c : r ≡ p = cc in λ i. has (a i) (c i) false

-- what a turn is does not look at source and target
holds_for : {K C : Type 0} (Y : Kind K C) (target : Option ℕ) (source : ℕ) {ct : ℕ → Option K} {s : ℕ → Cell K} → Holds (turn_of Y) ct s → Holds (setting_of Y target source) ct s
holds_for Y target source h = record { pending = h.pending; held = h.held }

new_for : {K C : Type 0} (Y : Kind K C) (target : Option ℕ) (source : ℕ) {A : C → Type 0} {u : ℕ} {d : K} {old new : Cell K} → NewCell (turn_of Y) A u d old new
    → NewCell (setting_of Y target source) A u d old new
new_for Y target source (stays f e) = stays f e
new_for Y target source (stores c a k b m e) = stores c a k b m e

module _ {K C : Type 0} (Y : Kind K C) (m : ℕ) (target : Option ℕ) (source : ℕ) (nb : Lists C) (keeps : (ℕ → Cell K) → ℕ → Type 0) where
  -- at the head of the loop, after t kept takes: the lists say one thing, it leads on from the start, and the kind keeps what it keeps
  pub record Head (M : Memory K) (n t : ℕ) : Type 0 where
    pub leads : Leads (setting_of Y target source) (RowArc m nb) (cells_of Y M) t
    pub within : Within (upto m) (cells_of Y M)
    pub good : Good Y m M n
    pub kept : keeps (cells_of Y M) t

  -- what a kind of search has to show
  pub record Course (ok : K → Type 0) (left : (ℕ → Cell K) → ℕ → ℕ) : Type 0 where
    pub lawful : Lawful Y ok
    pub rows : Sound m nb
    pub inside : source < m
    -- it keeps it at the start and from turn to turn, and less is left
    pub first : Within (upto m) (begin (setting_of Y target source)) → keeps (begin (setting_of Y target source)) 0
    pub again : {s s' : ℕ → Cell K} {t : ℕ} → keeps s t → Within (upto m) s → Next (setting_of Y target source) (RowArc m nb) s s' → Within (upto m) s' → keeps
        s' (suc t) × (left s' (suc t) < left s t)
    -- the takes can be counted
    pub few : {s : ℕ → Cell K} {t : ℕ} → keeps s t → Within (upto m) s → t + 1 < 2 ^ 64

-- what a take finds and leaves: u's cell, which is marked as taken
pub record Popped {K C : Type 0} (Y : Kind K C) (m : ℕ) (target : Option ℕ) (source : ℕ) (M M' : Memory K) (n u : ℕ) : Type 0 where
  pub d : K
  pub p : Option ℕ
  pub taken : Takes (setting_of Y target source) (cells_of Y M) u d p
  pub entry : get_or M.dist u Y.blank ≡ d
  pub fine : Y.good d
  pub below : u < m
  pub is : cells_of Y M' ≡ upd (cells_of Y M) u (has d p false)
  pub good : Good Y m M' (n - 1)

-- the source alone is pending
started : {K C : Type 0} (Y : Kind K C) (m : ℕ) (target : Option ℕ) (source : ℕ) {ok : K → Type 0} (W : Lawful Y ok) (inside : source < m) {M M' : Memory K} {n : ℕ} (f : Fresh Y m M)
    (s : Started Y source M M' n)
    → length M'.words ≡ m → cells_of Y M' ≡ begin (setting_of Y target source)
unfolding begin
started Y m target source W inside f s long =
    stored_cells W (fresh_good W f) source inside Y.zero W.good_zero none refl s.dist s.preds s.bag s.content long
    ∙ (λ i. upd (λ v. fresh_cells W f v i) source (has Y.zero none true))

module _ {K C : Type 0} {Y : Kind K C} {m : ℕ} {target : Option ℕ} {source : ℕ} {nb : Lists C} {keeps : (ℕ → Cell K) → ℕ → Type 0} {ok : K → Type 0} {left : (ℕ → Cell K) → ℕ → ℕ}
    (way : Course Y m target source nb keeps ok left) where
  source_in : In source (upto m)
  source_in = in_upto m source way.inside

  heads_in : (u v : ℕ) (x : C) → RowArc m nb u v x → In v (upto m)
  heads_in u v x a = in_upto m v (way.rows.inside u v x a)

  -- ---- the start
  module _ {M : Memory K} (f : Fresh Y m M) where
    long : length M.words ≡ m
    long = (fresh_good way.lawful f).long_b

    -- what it asks
    pub start_asks : Fresh Y (length M.words) M × (source < length M.words)
    start_asks = (subst (λ (z : ℕ). Fresh Y z M) (sym long) f, subst (λ (z : ℕ). source < z) (sym long) way.inside)

    pub starts : {M' : Memory K} {n : ℕ} → Started Y source M M' n → length M'.words ≡ length M.words → Head Y m target source nb keeps M' n 0
    starts {M'} {n} s l = record {
      leads = subst (λ (z : ℕ → Cell K). Leads (setting_of Y target source) (RowArc m nb) z 0) (sym is) (leads_begin (setting_of Y target source) (RowArc m nb));
      within = subst (Within (upto m)) (sym is) within;
      good = stored_good way.lawful (fresh_good way.lawful f) source way.inside Y.zero way.lawful.good_zero none refl s.dist s.preds s.bag s.content (l ∙ long);
      kept = subst (λ (z : ℕ → Cell K). keeps z 0) (sym is) (way.first within);
    }
      where
        is : cells_of Y M' ≡ begin (setting_of Y target source)
        is = started Y m target source way.lawful way.inside f s (l ∙ long)

        within : Within (upto m) (begin (setting_of Y target source))
        within = begin_within (setting_of Y target source) (RowArc m nb) (upto m) source_in heads_in

    -- no list gets longer or shorter
    pub lengths : {M' : Memory K} {n : ℕ} → Good Y m M' n → SameLong M' M
    lengths g = same_long g (fresh_good way.lawful f)

  -- ---- a take
  module _ {M : Memory K} {n t : ℕ} (w : Head Y m target source nb keeps M n t) where
    -- one take more can be counted
    pub takes_fit : t + 1 < 2 ^ 64
    takes_fit = way.few w.kept w.within

    module _ {u : ℕ} {k : K} {peaks words : List ℕ}
        (e : IsLeast Y.order.lt (content_of M.words M.keys) k u × (Bag Y.order peaks words M.keys (n - 1) × (content_of words M.keys ≡ set (content_of M.words M.keys) u none)))
        (long : length words ≡ length M.words) where
      -- the memory then
      abbrev M₁ : Memory K
      M₁ = memory_of M.dist M.preds peaks words M.keys

      pub popped : Popped Y m target source M M₁ n u
      popped = record { d = x.0; p = x.1; taken = x.2; entry = entry; fine = cell_ok Y.good x.2.held (w.good.oks u); below = below; is = is; good = good }
        where
          x : (d : K) × (p : Option ℕ) × Takes (setting_of Y target source) (cells_of Y M) u d p × (k ≡ Y.key d u)
          x = holds_takes (setting_of Y target source) (holds_for Y target source w.good.holds) u k e.0.found (λ v j q. e.0.least j v q)

          below : u < m
          below = upto_below m u (w.within u x.0 x.1 true x.2.held)

          entry : get_or M.dist u Y.blank ≡ x.0
          entry = w.good.tidy_d u ∙ ap (λ (c : Cell K). shown Y.blank (dist_of c)) x.2.held

          in_ct : u < length (content_of M.words M.keys)
          in_ct = omega (arith, below, content_long M.words M.keys w.good.bag.long, w.good.long_b)

          is : cells Y M.dist M.preds (content_of words M.keys) ≡ upd (cells_of Y M) u (has x.0 x.1 false)
          is =
              (λ i. cells Y M.dist M.preds (e.1.1 i))
              ∙ fun_ext (cells_mark Y M.dist M.preds (content_of M.words M.keys) u none in_ct)
              ∙ ap (upd (cells_of Y M) u) (unmark Y M.dist M.preds (content_of M.words M.keys) u x.0 x.1 x.2.held)

          content : (λ v. get_or (content_of words M.keys) v none) ≡ upd (λ v. get_or (content_of M.words M.keys) v none) u none
          content = (λ i v. get_or (e.1.1 i) v none) ∙ fun_ext (set_upd (content_of M.words M.keys) u none none in_ct)

          oks : (v : ℕ) → OkCell Y.good (upd (cells_of Y M) u (has x.0 x.1 false) v)
          oks v = go (ℕ_discrete v u)
            where
              go : Dec (v ≡ u) → OkCell Y.good (upd (cells_of Y M) u (has x.0 x.1 false) v)
              go (yes e) =
                  subst (OkCell Y.good) (sym (ap (upd (cells_of Y M) u (has x.0 x.1 false)) e ∙ upd_here (cells_of Y M) u (has x.0 x.1 false)))
                  (cell_ok Y.good x.2.held (w.good.oks u))
              go (no e) = subst (OkCell Y.good) (sym (upd_there (cells_of Y M) u (has x.0 x.1 false) v e)) (w.good.oks v)

          good : Good Y m (memory_of M.dist M.preds peaks words M.keys) (n - 1)
          good = record {
            long_d = w.good.long_d;
            long_p = w.good.long_p;
            long_b = long ∙ w.good.long_b;
            bag = e.1.0;
            holds = subst (λ (z : ℕ → Cell K). Holds (turn_of Y) (λ v. get_or (content_of words M.keys) v none) z) (sym is)
                (subst (λ (c : ℕ → Option K). Holds (turn_of Y) c (upd (cells_of Y M) u (has x.0 x.1 false))) (sym content) (holds_pop (turn_of Y) w.good.holds u x.0 x.1));
            oks = λ v. subst (λ (z : ℕ → Cell K). OkCell Y.good (z v)) (sym is) (oks v);
            tidy_d = λ v.
                w.good.tidy_d v ∙ ap (shown Y.blank) (cells_dist Y M.dist M.preds (content_of M.words M.keys) v ∙ sym (cells_dist Y M.dist M.preds (content_of words M.keys) v));
            tidy_p = λ v. w.good.tidy_p v ∙ ap (shown none_u32) (cells_pred Y M.dist M.preds (content_of M.words M.keys) (content_of words M.keys) v);
          }

      -- what the row asks
      pub opens : Opens Y m nb u (n - 1) M₁
      opens = record { rows = way.rows; good = popped.good; index = popped.below; dist = subst Y.good (sym popped.entry) popped.fine }

      -- the target is taken
      pub finds : is_target target u ≡ true → {number takes : ℕ} → number ≡ 0 → takes ≡ t + 1 → Searched Y m target source nb M₁ number takes
      finds g z y = record {
        end = done_at (cells_of Y M) (suc t);
        ends = w.leads.to _ (found u popped.d popped.p popped.taken g);
        is = z;
        many = y ∙ add-one t;
        shows = λ x. record { dist = w.good.tidy_d; preds = w.good.tidy_p };
      }

      module _ (other : is_target target u ≡ false) where
        -- a bad cost, whatever the lists are then
        pub stops : BadArc Y m nb u → {M' : Memory K} {number takes : ℕ} → number ≡ 6 → takes ≡ t + 1 → Searched Y m target source nb M' number takes
        stops b z y = record {
          end = refused (suc t);
          ends = w.leads.to _ (wrong u popped.d popped.p popped.taken other b.v b.c b.arc b.bad);
          is = z;
          many = y ∙ add-one t;
          shows = λ x. absurd (omega (arith, x, z));
        }

        module _ {M' : Memory K} {n' : ℕ} (r : RowDone Y m nb u M₁ M' n') where
          -- the whole row is a turn
          turn : Next (setting_of Y target source) (RowArc m nb) (cells_of Y M) (cells_of Y M')
          turn = record { u = u; d = popped.d; p = popped.p; taken = popped.taken; passed = other; good = r.fine; turned = turned }
            where
              turned : (v : ℕ) → NewCell (setting_of Y target source) (RowArc m nb u v) u popped.d (upd (cells_of Y M) u (has popped.d popped.p false) v) (cells_of Y M' v)
              turned v =
                  subst (λ (z : K). NewCell (setting_of Y target source) (RowArc m nb u v) u z (upd (cells_of Y M) u (has popped.d popped.p false) v) (cells_of Y M' v)) popped.entry
                  (subst (λ (f : ℕ → Cell K). NewCell (setting_of Y target source) (RowArc m nb u v) u (get_or M.dist u Y.blank) (f v) (cells_of Y M' v)) popped.is
                  (new_for Y target source (r.turned v)))

          within : Within (upto m) (cells_of Y M')
          within = next_within (setting_of Y target source) (RowArc m nb) (upto m) source_in heads_in w.within turn

          kept : keeps (cells_of Y M') (suc t) × (left (cells_of Y M') (suc t) < left (cells_of Y M) t)
          kept = way.again w.kept w.within turn within

          -- so the loop goes on
          pub next : Head Y m target source nb keeps M' n' (t + 1)
          next =
              subst (Head Y m target source nb keeps M' n') (sym (add-one t))
              (record { leads = leads_next (setting_of Y target source) (RowArc m nb) w.leads turn; within = within; good = r.good; kept = kept.0 })

          -- and less is left
          pub falls : left (cells_of Y M') (t + 1) < left (cells_of Y M) t
          falls = subst (λ (z : ℕ). left (cells_of Y M') z < left (cells_of Y M) t) (sym (add-one t)) kept.1

    -- nothing is pending
    pub rests : n ≤ 0 → {number takes : ℕ} → number ≡ 0 → takes ≡ t → Searched Y m target source nb M number takes
    rests l z y = record {
      end = done_at (cells_of Y M) t;
      ends =
          w.leads.to _
          (empty
          (holds_empty (setting_of Y target source) (holds_for Y target source w.good.holds) (none_held Y.blank M.words M.keys w.good.bag.long (omega (arith, w.good.bag.many)))));
      is = z;
      many = y;
      shows = λ x. record { dist = w.good.tidy_d; preds = w.good.tidy_p };
    }
