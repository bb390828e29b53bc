-- What a caller may rely on: one answer, and after feeds of puts from count 0 no trace of an old cost.
-- `QUESTION-reliable`: the four promises of `Reliable` for a question. `put_ints_one`, `put_floats_one`, `sheet_one_text`, `matrices_one`: whatever holds of one allowed
-- answer holds of every other. `put_past`, `put_f64_past`: past the limits a put gives 1 and leaves all as lent. `skipped_ints`, `skipped_floats`: a record that is
-- refused changes no answer. `refused_ints_next`, `refused_floats_next`: nor what the next put finds.
-- Assumes nothing.
use mathlib.Core.Path.{◌≡◌, sym, ap, ◌∙◌, subst}
use mathlib.Core.Bool.{Bool, false}
use mathlib.Core.List.{List, ◌∷◌, ◌++◌, map}
use mathlib.Core.Logic.{⊎_elim, ◌↔◌}
use Prim.Native.Nat.{ℕ, ◌≤◌}
use native.Mathlib.Omega.{arith}
use lib.IntN.{ℤ}
use lib.ListN.{length, take}
use Rattle.float.specs.Cutoff.{Cutoff}
use Rattle.table.specs.Links.{Link, inside, lent_whole}
use Rattle.table.specs.Lent.{RawCost, ints_no, floats_no, Ints, ints_now, put_ints, ints_put, Floats, floats_now, put_floats, floats_put}
use Rattle.table.specs.declared.FloatCost.{FloatCost}
use Rattle.table.specs.Feeds.{Kind, ints, floats, Feed, fed, lasts, SameFeeds}
use Rattle.net.specs.Net.{Net, most_arcs_of, width}
use Rattle.dijkstra.specs.Promise as dijkstra
use Rattle.a_star.specs.Promise as star
use Rattle.bellman_ford.specs.Promise as bellman
use Rattle.floyd_warshall.specs.Promise as floyd
use Rattle.johnson.specs.Promise as johnson
use Rattle.hops.specs.Promise as hops
use Rattle.dijkstra_path.specs.Promise as search
use Rattle.page.specs.Promise as page
use Rattle.answers.specs.Answers.{Written}
use Rattle.sheet.specs.Sheet.{Sheet}
use Rattle.sheet.proofs.Settles.{sheet_settled}
use Rattle.promises.specs.Maps.{map_after, map_of_lasts}
use Rattle.promises.specs.Used.{LeaveSame, ran, refused, dijkstra_used, dijkstra_path_used, bellman_used, a_star_used, pairs_used, johnson_used, hops_used}
use Rattle.promises.proofs.Demand1 as demand1
use Rattle.promises.proofs.Demand3 as demand
use Rattle.promises.proofs.Agree.{matrices_agree}
use Rattle.audit.proofs.Tables as told

-- whatever holds of one thing that is allowed holds of every other
abbrev One : {X : Type 0} → (X → Type 0) → Type 1
One {X} Allowed = (P : X → Type 0) (x x' : X) → Allowed x → Allowed x' → P x → P x'

-- so it is of pairs that are equal part by part
two : {X Y : Type 0} (P : X × Y → Type 0) (x x' : X × Y) → (x.0 ≡ x'.0) × (x.1 ≡ x'.1) → P x → P x'
two P x x' e = subst P (λ i. (e.0 i, e.1 i))

-- feeds whose last accepted records make one map allow the same
abbrev GoesByLasts : {C R S : Type 0} → Kind C R S → (Net C → Type 0) → Type 0
GoesByLasts {R = R} {S = S} k Allowed = (f h : Feed R S) → k.count f.lent ≡ 0 → k.count h.lent ≡ 0 → map_of_lasts k f ≡ map_of_lasts k h → Allowed (map_after k f) ↔ Allowed (map_after k h)

goes_of : {C R S : Type 0} (k : Kind C R S) (Allowed : Net C → Type 0) → ((f : Feed R S) → k.count f.lent ≡ 0 → Allowed (map_after k f) ↔ Allowed (map_of_lasts k f)) → GoesByLasts k Allowed
goes_of k Allowed last f h e e' m = (λ p. (last h e').1 (subst Allowed m ((last f e).0 p)), λ p. (last f e).1 (subst Allowed (sym m) ((last h e').0 p)))

-- what two calls leave: after 1 to 5 both as lent; else, and wherever the memories were the same in their used parts, the same in these
alike_of : {B U : Type 0} {used : B → U} {n : ℕ} {b b' e e' : B} → LeaveSame used n b b' e e'
    → (1 ≤ n → n ≤ 5 → (e ≡ b) × (e' ≡ b')) × ((1 ≤ n → n ≤ 5 → ⊥) → used e ≡ used e') × (used b ≡ used b' → used e ≡ used e')
alike_of (ran o u) = ((λ h l. absurd (⊎_elim (λ y. omega (arith, h, y)) (λ w. ⊎_elim (λ y. omega (arith, l, y)) (λ y. omega (arith, l, y)) w) o)), (λ _. u), λ _. u)
alike_of {used = used} (refused h l p q) = ((λ _ _. (p, q)), (λ f. absurd (f h l)), λ u. ap used p ∙ (u ∙ sym (ap used q)))

-- ---- a question that is asked with I beside the map, is lent B and answers A
module _ {C R S I B A U : Type 0} (k : Kind C R S) (Allowed : Net C → I → B → B → A → Type 0) (number : A → ℕ) (long : Net C → I → B → Bool) (used : Net C → B → U) where
  pub record Reliable : Type 1 where
    pub one : (g : Net C) (i : I) (b : B) → One (λ (x : A × B). Allowed g i b x.1 x.0)
    pub goes : (i : I) (b e : B) (a : A) → GoesByLasts k (λ g. Allowed g i b e a)
    -- after feeds with the same last records, each call with its own memory
    pub alike : (f h : Feed R S) → SameFeeds k f h → (i : I) (b b' e e' : B) (a a' : A) → let g = map_after k f in
        long g i b ≡ long g i b' → Allowed g i b e a → Allowed (map_after k h) i b' e' a'
        → (a ≡ a') × (1 ≤ number a → number a ≤ 5 → (e ≡ b) × (e' ≡ b')) × ((1 ≤ number a → number a ≤ 5 → ⊥) → used g e ≡ used g e') × (used g b ≡ used g b' → used g e ≡ used g e')
    -- past the limits: 1, and all as lent
    pub past : (f : Feed R S) → k.count f.lent ≡ 0 → lent_whole f.bound 0 0 f.marks ≡ false → (i : I) (b e : B) (a : A) → Allowed (map_after k f) i b e a → (number a ≡ 1) × (e ≡ b)

  reliable : ((g : Net C) (i : I) (b e e' : B) (a a' : A) → Allowed g i b e a → Allowed g i b e' a' → (a ≡ a') × (e ≡ e'))
      → ((f : Feed R S) → k.count f.lent ≡ 0 → (i : I) (b e : B) (a : A) → Allowed (map_after k f) i b e a ↔ Allowed (map_of_lasts k f) i b e a)
      → ((f h : Feed R S) → SameFeeds k f h → (i : I) (b b' e e' : B) (a a' : A) → long (map_after k f) i b ≡ long (map_after k f) i b'
      → Allowed (map_after k f) i b e a → Allowed (map_after k h) i b' e' a' → (a ≡ a') × LeaveSame (used (map_after k f)) (number a) b b' e e')
      → ((g : Net C) (i : I) (b e : B) (a : A) → Allowed g i b e a → number a ≡ 1 → e ≡ b)
      → ((f : Feed R S) → k.count f.lent ≡ 0 → lent_whole f.bound 0 0 f.marks ≡ false → (i : I) (b e : B) (a : A) → Allowed (map_after k f) i b e a → number a ≡ 1) → Reliable
  reliable settled of by lent over = record {
    one = λ g i b P x x' p q. two P x x' (settled g i b x.1 x'.1 x.0 x'.0 p q);
    goes = λ i b e a. goes_of k (λ g. Allowed g i b e a) (λ f z. of f z i b e a);
    alike = λ f h same i b b' e e' a a' l p q. let x = by f h same i b b' e e' a a' l p q in let y = alike_of x.1 in (x.0, y.0, y.1, y.2);
    past = λ f z o i b e a p. let y = over f z o i b e a p in (y, lent (map_after k f) i b e a p y);
  }

pub dijkstra_reliable : Reliable ints (λ g s b e n. dijkstra.Promise g s b e n) (λ n. n) (λ g s b. dijkstra.enough g b) (λ g. dijkstra_used g.bound (most_arcs_of g))
dijkstra_reliable =
    reliable ints _ (λ n. n) (λ g s b. dijkstra.enough g b) _ (λ _ _ _ _ _ _ _ p q. demand1.dijkstra_settled p q) (λ f z _ _ _ _. demand.dijkstra_of_last_records f z)
    (λ _ _ same _ _ _ _ _ _ _ l p q. demand.dijkstra_by_last_records same l p q) (λ _ _ _ _ _ p. (told.dijkstra_leaves p).0) (λ f z o _ _ _ _ p. demand.dijkstra_past_limits f z o p)

pub a_star_reliable : Reliable ints (λ g q b e r. star.Promise g q b e r) (λ r. r.number) (λ g q b. star.enough g q b) (λ g. a_star_used g.bound (most_arcs_of g))
a_star_reliable =
    reliable ints _ (λ (r : star.Answer). r.number) (λ g q b. star.enough g q b) _ (λ _ _ _ _ _ _ _ p q. demand1.a_star_settled p q) (λ f z _ _ _ _. demand.a_star_of_last_records f z)
    (λ _ _ same _ _ _ _ _ _ _ l p q. demand.a_star_by_last_records same l p q) (λ _ _ _ _ _ p n. ap (λ (y : star.Result). y.buffers) ((told.a_star_leaves p).0 n))
    (λ f z o _ _ _ _ p. demand.a_star_past_limits f z o p)

pub bellman_ford_reliable : Reliable ints (λ g s b e n. bellman.Promise g s b e n) (λ n. n) (λ g s b. bellman.enough g b) (λ g. bellman_used g.bound (most_arcs_of g))
bellman_ford_reliable =
    reliable ints _ (λ n. n) (λ g s b. bellman.enough g b) _ (λ _ _ _ _ _ _ _ p q. demand1.bellman_ford_settled p q) (λ f z _ _ _ _. demand.bellman_ford_of_last_records f z)
    (λ _ _ same _ _ _ _ _ _ _ l p q. demand.bellman_ford_by_last_records same l p q) (λ _ _ _ _ _ p. (told.bellman_ford_leaves p).0) (λ f z o _ _ _ _ p. demand.bellman_ford_past_limits f z o p)

-- a matrix and scratch are lent
pub floyd_warshall_reliable : Reliable {I = Unit} {B = List ℤ × List ℕ} ints (λ g _ b e n. floyd.Promise g b.0 b.1 e.0 e.1 n) (λ n. n) (λ g _ b. floyd.enough g b.0 b.1)
    (λ g. pairs_used (width g) (take g.bound))
floyd_warshall_reliable =
    reliable ints _ (λ n. n) (λ g _ b. floyd.enough g b.0 b.1) _ (λ _ _ _ _ _ _ _ p q. let x = demand1.floyd_warshall_settled p q in (x.0, λ j. (x.1 j, x.2 j)))
    (λ f z _ _ _ _. demand.floyd_warshall_of_last_records f z)
    (λ _ _ same _ _ _ _ _ _ _ l p q. demand.floyd_warshall_by_last_records same l p q) (λ _ _ _ _ _ p n. let x = (told.floyd_warshall_leaves p).0 n in λ j. (x.0 j, x.1 j))
    (λ f z o _ _ _ _ p. demand.floyd_warshall_past_limits f z o p)

pub johnson_reliable : Reliable {I = Unit} {B = List ℤ × johnson.Scratch} ints (λ g _ b e n. johnson.Promise g b.0 b.1 e.0 e.1 n) (λ n. n) (λ g _ b. johnson.enough g b.0 b.1)
    (λ g. pairs_used (width g) (johnson_used g.bound (most_arcs_of g)))
johnson_reliable =
    reliable ints _ (λ n. n) (λ g _ b. johnson.enough g b.0 b.1) _ (λ _ _ _ _ _ _ _ p q. let x = demand1.johnson_settled p q in (x.0, λ j. (x.1 j, x.2 j)))
    (λ f z _ _ _ _. demand.johnson_of_last_records f z)
    (λ _ _ same _ _ _ _ _ _ _ l p q. demand.johnson_by_last_records same l p q) (λ _ _ _ _ _ p n. let x = (told.johnson_leaves p).0 n in λ j. (x.0 j, x.1 j))
    (λ f z o _ _ _ _ p. demand.johnson_past_limits f z o p)

-- the answer is the number and the length of the node list
module _ {C R S : Type 0} (k : Kind C R S) where
  abbrev HopsReliable : Type 1
  HopsReliable = Reliable {I = Unit} {A = ℕ × ℕ} k (λ g _ b e a. hops.Promise g b e a.0 a.1) (λ a. a.0) (λ g _ b. hops.enough g b) (λ g. hops_used g.bound (most_arcs_of g) (width g))

pub hops_reliable : HopsReliable ints
hops_reliable =
    reliable ints _ (λ (a : ℕ × ℕ). a.0) (λ g _ b. hops.enough g b) _ (λ _ _ _ _ _ _ _ p q. let x = demand1.hops_settled p q in ((λ j. (x.0 j, x.1 j)), x.2))
    (λ f z _ _ _ _. demand.hops_of_last_records f z)
    (λ _ _ same _ _ _ _ _ _ _ l p q. let x = demand.hops_by_last_records same l p q in ((λ j. (x.0 j, x.1 j)), x.2)) (λ _ _ _ _ _ p n. ((told.hops_leaves p).0 n).1)
    (λ f z o _ _ _ _ p. demand.hops_past_limits f z o p)

pub hops_f64_reliable : HopsReliable floats
hops_f64_reliable =
    reliable floats _ (λ (a : ℕ × ℕ). a.0) (λ g _ b. hops.enough g b) _ (λ _ _ _ _ _ _ _ p q. let x = demand1.hops_settled p q in ((λ j. (x.0 j, x.1 j)), x.2))
    (λ f z _ _ _ _. demand.hops_f64_of_last_records f z)
    (λ _ _ same _ _ _ _ _ _ _ l p q. let x = demand.hops_f64_by_last_records same l p q in ((λ j. (x.0 j, x.1 j)), x.2)) (λ _ _ _ _ _ p n. ((told.hops_leaves p).0 n).1)
    (λ f z o _ _ _ _ p. demand.hops_f64_past_limits f z o p)

pub dijkstra_path_reliable : Reliable {I = ℕ × Cutoff} floats (λ g i b e n. search.Promise g i.0 i.1 b e n) (λ n. n) (λ g i b. search.enough g b)
    (λ g. dijkstra_path_used g.bound (most_arcs_of g))
dijkstra_path_reliable =
    reliable floats _ (λ n. n) (λ g i b. search.enough g b) _ (λ _ _ _ _ _ _ _ p q. demand1.dijkstra_path_settled p q) (λ f z _ _ _ _. demand.dijkstra_path_of_last_records f z)
    (λ _ _ same _ _ _ _ _ _ _ l p q. demand.dijkstra_path_by_last_records same l p q) (λ _ _ _ _ _ p. (told.dijkstra_path_leaves p).0) (λ f z o _ _ _ _ p. demand.dijkstra_path_past_limits f z o p)

-- the page check is lent nothing to write
pub page_reliable : (s : ℕ) (l : List ℤ) → ((g : Net ℤ) → One (page.Promise g s l)) × ((a : page.Answer) → GoesByLasts ints (λ g. page.Promise g s l a))
    × ((f h : Feed (Link ℤ) Ints) (a a' : page.Answer) → SameFeeds ints f h → page.Promise (map_after ints f) s l a → page.Promise (map_after ints h) s l a'
    → (a.number ≡ a'.number) × (a.yes ≡ a'.yes))
    × ((f : Feed (Link ℤ) Ints) (a : page.Answer) → f.lent.count ≡ 0 → lent_whole f.bound 0 0 f.marks ≡ false → page.Promise (map_after ints f) s l a → (a.number ≡ 1) × (a.yes ≡ false))
page_reliable s l = (
  λ g P a a' p q. subst P (demand1.page_settled p q),
  λ a. goes_of ints (λ g. page.Promise g s l a) (λ f z. demand.page_of_last_records f z),
  λ f h a a' same p q. let x = demand.page_by_last_records same p q in (ap (λ (a : page.Answer). a.number) x, ap (λ (a : page.Answer). a.yes) x),
  λ f a z o p. let y = demand.page_past_limits f z o p in (y, (told.page_leaves p).0 y),
)

-- ---- puts
pub put_ints_one : (d : Bool) (m : ℕ) (marks : List ℕ) (r : Link ℤ) (n : ℕ) (xs ys : List ℕ) (cs : List ℤ) → One (λ (e : Ints). e ≡ put_ints d m marks r n xs ys cs)
put_ints_one d m marks r n xs ys cs P e e' p q = subst P (demand1.put_ints_settled d m marks r n xs ys cs p q)

pub put_floats_one : (d : Bool) (m : ℕ) (marks : List ℕ) (r : Link RawCost) (n : ℕ) (xs ys bs os : List ℕ) → One (λ (e : Floats). e ≡ put_floats d m marks r n xs ys bs os)
put_floats_one d m marks r n xs ys bs os P e e' p q = subst P (demand1.put_floats_settled d m marks r n xs ys bs os p q)

pub put_past : (f : Feed (Link ℤ) Ints) → f.lent.count ≡ 0 → lent_whole f.bound 0 0 f.marks ≡ false → (r : Link ℤ) → let s = fed ints f in
    ints_put f.directed f.bound f.marks r s ≡ ints_now 1 s.count s.from s.to s.costs
put_past f e over r = let s = fed ints f in (told.put_ints_leaves f.directed f.bound f.marks r s.count s.from s.to s.costs).0 (demand.put_past_limits f e over r)

pub put_f64_past : (f : Feed (Link RawCost) Floats) → f.lent.count ≡ 0 → lent_whole f.bound 0 0 f.marks ≡ false → (r : Link RawCost) → let s = fed floats f in
    floats_put f.directed f.bound f.marks r s ≡ floats_now 1 s.count s.from s.to s.bits s.opens
put_f64_past f e over r =
    let s = fed floats f in (told.put_floats_leaves f.directed f.bound f.marks r s.count s.from s.to s.bits s.opens).0 (demand.put_f64_past_limits f e over r)

-- ---- a record that is refused
-- the same feed with other records
abbrev feeding : {R S : Type 0} → Feed R S → List R → Feed R S
feeding f l = record { bound = f.bound; directed = f.directed; marks = f.marks; lent = f.lent; records = l }

-- the map of the last ones of accepted records
abbrev of_accepted : {C R S : Type 0} → Kind C R S → Feed R S → List R → Net C
of_accepted k f l = let t = lasts f.directed (map k.seen l) in record { bound = f.bound; count = length t; directed = f.directed; room = length t; marks = f.marks; table = t }

-- changes no answer that goes by last records, wherever it stands in the feed
pub skipped_ints : (Allowed : Net ℤ → Type 0) → GoesByLasts ints Allowed → (f : Feed (Link ℤ) Ints) → f.lent.count ≡ 0 → (before after : List (Link ℤ)) (r : Link ℤ)
    → ((ints_put f.directed f.bound f.marks r (fed ints (feeding f before))).number ≡ 0 → ⊥) → Allowed (map_after ints (feeding f (before ++ (r ∷ after))))
    ↔ Allowed (map_after ints (feeding f (before ++ after)))
skipped_ints Allowed by f e before after r h =
    by (feeding f (before ++ (r ∷ after))) (feeding f (before ++ after)) e e (ap (of_accepted ints f) (demand.unseen_ints f.directed f.bound f.marks before after r f.lent h))

pub skipped_floats : (Allowed : Net FloatCost → Type 0) → GoesByLasts floats Allowed → (f : Feed (Link RawCost) Floats) → f.lent.count ≡ 0 → (before after : List (Link RawCost)) (r : Link RawCost)
    → ((floats_put f.directed f.bound f.marks r (fed floats (feeding f before))).number ≡ 0 → ⊥) → Allowed (map_after floats (feeding f (before ++ (r ∷ after))))
    ↔ Allowed (map_after floats (feeding f (before ++ after)))
skipped_floats Allowed by f e before after r h =
    by (feeding f (before ++ (r ∷ after))) (feeding f (before ++ after)) e e (ap (of_accepted floats f) (demand.unseen_floats f.directed f.bound f.marks before after r f.lent h))

-- one with an end that the map has not gives 2, and the next put finds the table as if it had not been put
pub refused_ints_next : (d : Bool) (m : ℕ) (marks : List ℕ) (r x : Link ℤ) (s : Ints) → ints_no m s.count marks s.from s.to s.costs ≡ 0 → inside m marks r ≡ false
    → ((ints_put d m marks r s).number ≡ 2) × (ints_put d m marks x (ints_put d m marks r s) ≡ ints_put d m marks x s)
refused_ints_next d m marks r x s good out = let e = demand.refused_ints d m marks r s good out in (ap (λ (y : Ints). y.number) e, ap (ints_put d m marks x) e)

pub refused_floats_next : (d : Bool) (m : ℕ) (marks : List ℕ) (r x : Link RawCost) (s : Floats) → floats_no m s.count marks s.from s.to s.bits s.opens ≡ 0 → inside m marks r ≡ false
    → ((floats_put d m marks r s).number ≡ 2) × (floats_put d m marks x (floats_put d m marks r s) ≡ floats_put d m marks x s)
refused_floats_next d m marks r x s good out = let e = demand.refused_floats d m marks r s good out in (ap (λ (y : Floats). y.number) e, ap (floats_put d m marks x) e)

-- ---- of a file: the output and the length
pub sheet_one_text : (file out : List ℕ) → One (λ (x : List ℕ × ℕ). Written (Sheet file) out 0 x.0 x.1)
sheet_one_text file out P x x' p q = two P x x' (sheet_settled p q)

-- of the two questions on all pairs, with one matrix lent: whatever holds of the number and the matrix of the one holds of the other's
pub matrices_one : (g : Net ℤ) (m : List ℤ) (r r' : List ℕ) (s s' : johnson.Scratch) (P : ℕ × List ℤ → Type 0) (x y : ℕ × List ℤ)
    → floyd.Promise g m r x.1 r' x.0 → johnson.Promise g m s y.1 s' y.0 → (x.0 ≡ 1 → ⊥) → (y.0 ≡ 1 → ⊥) → P x → P y
matrices_one g m r r' s s' P x y p q f f' = two P x y (matrices_agree p q f f')
