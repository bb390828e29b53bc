-- What a caller reads off the number. `QUESTION-leaves`: the number tells what is in the buffers. `QUESTION-zero`: 0 exactly where nothing is wrong.
-- `QUESTION-fits`: there is scratch of at most 8(m + 1) + 4a entries with which no call gives 1.
-- Assumes nothing.
use mathlib.Core.Path.{◌≡◌, refl, ap}
use mathlib.Core.Bool.{Bool, true, false}
use mathlib.Core.List.{List, []}
use mathlib.Core.Logic.{◌⊎◌, inl, inr, ⊎_elim, ◌↔◌}
use Prim.Native.Nat.{ℕ, ◌+◌, ◌*◌, ◌≤◌, ◌<◌}
use native.Mathlib.Omega.{arith}
use borrow.Author.Tests.{ltb-true, ltb-false}
use lib.Dec.{ltb}
use lib.IntN.{ℤ}
use lib.ListN.{length, take, set}
use Rattle.whole.proofs.Cases.{clash}
use Rattle.numbers.specs.Numbers.{Given, Follows}
use Rattle.numbers.proofs.Numbers.{◌then◌, given, left, among}
use Rattle.clean.specs.Fill.{filled}
use Rattle.clean.specs.None.{none_i64}
use Rattle.float.specs.Cutoff.{Cutoff}
use Rattle.table.specs.Links.{Link, zip3, place_of, present_both, all_inside, lent_whole, table_no}
use Rattle.table.specs.Lent.{float_costs, RawCost, room_ints, room_floats, ints_no, floats_no, ints_now, put_ints, floats_now, put_floats}
use Rattle.table.specs.declared.FloatCost.{FloatCost}
use Rattle.table.specs.Promise.{ints_table, floats_table}
use Rattle.walks.specs.Walk.{NegativeFrom, Negative}
use Rattle.net.specs.Net.{Net, ArcOf, inside_net, has, whole_net, width, most_arcs_of}
use Rattle.rows.specs.Rows.{Lists}
use Rattle.rows.specs.Kept.{Kept}
use Rattle.rows.proofs.Kept.{kept_settled}
use Rattle.pending.specs.Setting.{End}
use Rattle.pending.specs.Reach.{BadInReach}
use Rattle.matrix.specs.Matrix.{square}
use Rattle.matrix.specs.Matrix as pairs
use Rattle.dijkstra.specs.Promise as dijkstra
use Rattle.a_star.specs.Promise as star
use Rattle.bellman_ford.specs.Promise as bellman
use Rattle.bellman_ford.proofs.Settles as bellman_laws
use Rattle.floyd_warshall.specs.Promise as floyd
use Rattle.johnson.specs.Promise as johnson
use Rattle.hops.specs.Promise as hops
use Rattle.dijkstra_path.specs.Promise as search
use Rattle.page.specs.Promise as page
use Rattle.promises.proofs.Demand1.{put_ints_follows, put_floats_follows, dijkstra_follows, dijkstra_path_follows, bellman_ford_follows}
use Rattle.promises.proofs.Demand1.{a_star_follows, a_star_length, floyd_warshall_follows, johnson_follows, hops_follows, page_follows}
use Rattle.promises.proofs.Demand2.{page_yes}
use Rattle.promises.proofs.Scratch.{dijkstra_scratch, a_star_scratch, bellman_ford_scratch, floyd_warshall_scratch, johnson_scratch, hops_scratch, dijkstra_path_scratch}
use Rattle.promises.proofs.Demand1.{put_ints_exactly, put_floats_exactly, dijkstra_exactly, dijkstra_path_exactly, bellman_ford_exactly}
use Rattle.promises.proofs.Demand1.{a_star_exactly, floyd_warshall_exactly, johnson_exactly, hops_exactly, page_exactly}

-- a test fails, or it holds and then B
either : {B : Type 0} (t : Bool) → (t ≡ true → B) → (t ≡ false) ⊎ ((t ≡ true) × B)
either true f = inr (refl, f refl)
either false f = inl refl

-- ---- `dijkstra`
module _ {g : Net ℤ} {s : ℕ} {b e : dijkstra.Buffers} {number : ℕ} (p : dijkstra.Promise g s b e number) where
  pub dijkstra_leaves : (number ≡ 1 → e ≡ b) × (number ≡ 2 → e ≡ b) × (number ≡ 3 → e ≡ b) × (number ≡ 6 → e ≡ dijkstra.blank g b)
      × (number ≡ 0 → Kept g.bound b.dist e.dist × (e.scratch ≡ dijkstra.clear g b))
  dijkstra_leaves = let f = left (dijkstra.table g s b) e number (dijkstra_follows p) in (f 1, f 2, f 3, f 6, λ z. (kept_settled (f 0 z).0, (f 0 z).1))

  pub dijkstra_zero : (number ≡ 0) ↔ ((dijkstra.enough g b ≡ true) × (inside_net g ≡ true) × (has g s ≡ true) × (BadInReach (ArcOf g) s → ⊥))
  dijkstra_zero = let x = dijkstra_exactly p 0 in (λ z. let (l, (i, (h, (w, t)))) = x.0 z in (l, i, h, w), λ c. x.1 (c.0, (c.1, (c.2, (c.3, tt)))))

-- ---- `dijkstra_path_impl`, `dijkstra_path_f64`
module _ {g : Net FloatCost} {s : ℕ} {k : Cutoff} {b e : search.Buffers} {number : ℕ} (p : search.Promise g s k b e number) where
  pub dijkstra_path_leaves :
      (number ≡ 1 → e ≡ b) × (number ≡ 2 → e ≡ b) × (number ≡ 3 → e ≡ b) × (number ≡ 6 → e ≡ search.blank g b)
      × (number ≡ 0 → Kept g.bound b.memory.dist e.memory.dist × Kept g.bound b.memory.preds e.memory.preds
      × (e ≡ search.left g b e.memory.dist e.memory.preds))
  dijkstra_path_leaves =
      let f = left (search.table g s k b) e number (dijkstra_path_follows p) in (
        f 1,
        f 2,
        f 3,
        f 6,
        λ z. let (x, r, y, a, q) = f 0 z in (record { long = a.dist.long; rest = a.dist.rest }, record { long = a.preds.long; rest = a.preds.rest }, q),
      )

  pub dijkstra_path_zero : (number ≡ 0) ↔ ((search.enough g b ≡ true) × (inside_net g ≡ true) × (has g s ≡ true) × ((x : End ℕ) → search.EndsIn g s k x → x.number ≡ 6 → ⊥))
  dijkstra_path_zero =
      let x = dijkstra_path_exactly p 0 in
      (λ z. let (l, (i, (h, (w, t)))) = x.0 z in (l, i, h, λ y r n. w (y, r, n)), λ c. x.1 (c.0, (c.1, (c.2, (λ y. c.3 y.0 y.1 y.2, tt)))))

-- ---- `bellman_ford`
module _ {g : Net ℤ} {s : ℕ} {b e : bellman.Buffers} {number : ℕ} (p : bellman.Promise g s b e number) where
  pub bellman_ford_leaves : (number ≡ 1 → e ≡ b) × (number ≡ 2 → e ≡ b) × (number ≡ 7 → e ≡ bellman.blank g b) × (number ≡ 0 → Kept g.bound b.dist e.dist × (e.scratch ≡ bellman.clear g b))
  bellman_ford_leaves =
      let f = left (bellman.table g s b) e number (bellman_ford_follows p) in
      (f 1, f 2, f 7, λ z. ((bellman_laws.promise_kept p).0, ⊎_elim (λ q. ap (λ (x : bellman.Buffers). x.scratch) q) (λ x. x.1) (f 0 z)))

  pub bellman_ford_zero : (number ≡ 0) ↔ ((bellman.enough g b ≡ true) × (inside_net g ≡ true) × (has g s ≡ true → NegativeFrom (ArcOf g) s → ⊥))
  bellman_ford_zero =
      let x = bellman_ford_exactly p 0 in
      (λ z. let y = x.0 z in (y.0, y.1.0, λ h w. ⊎_elim (clash h) (λ f. f.1.0 w) y.1.1), λ c. x.1 (c.0, (c.1, either (has g s) (λ h. (c.2 h, tt)))))

-- ---- `a_star`
module _ {g : Net ℤ} {q : star.Question} {b e : star.Buffers} {r : star.Answer} (p : star.Promise g q b e r) where
  abbrev Lent : ℕ → Type 0
  Lent k = r.number ≡ k → star.result_of r e ≡ star.no_path b

  pub a_star_leaves :
      Lent 1 × Lent 2 × Lent 3 × Lent 4 × Lent 5 × (r.number ≡ 6 → star.result_of r e ≡ star.no_path (star.left g b []))
      × (r.number ≡ 0 → (l : List ℕ) × (length l ≤ width g) × (r.length ≡ length l) × (e ≡ star.left g b l))
  a_star_leaves = let f = left (star.table g q b) (star.result_of r e) r.number (a_star_follows p) in (f 1, f 2, f 3, f 4, f 5, f 6, a_star_length p)

  pub a_star_zero : (r.number ≡ 0) ↔ (star.Fine g q b × ((x : End ℤ) → star.EndsIn g q x → x.number ≡ 6 → ⊥))
  a_star_zero =
      let x = a_star_exactly p 0 in (
        λ z. let (l, (i, (s, (t, (h, (w, u)))))) = x.0 z in (record { enough = l; inside = i; source = s; target = t; fair = h }, λ y k n. w (y, k, n)),
        λ c. x.1 (c.0.enough, (c.0.inside, (c.0.source, (c.0.target, (c.0.fair, (λ y. c.1 y.0 y.1 y.2, tt)))))),
      )

-- ---- `floyd_warshall` and `johnson`: long is the test of their lengths
module _ {S : Type 0} (g : Net ℤ) (lent clear left : S) (before after : List ℤ) (number : ℕ) where
  abbrev AllLeave : Type 0
  AllLeave =
      (number ≡ 1 → (after ≡ before) × (left ≡ lent)) × (number ≡ 2 → (after ≡ before) × (left ≡ lent))
      × (number ≡ 7 → (after ≡ filled (square g) none_i64 before) × (left ≡ clear)) × (number ≡ 0 → Kept (square g) before after × (left ≡ clear))

all_leave : {S : Type 0} (g : Net ℤ) (long : Bool) (lent clear left : S) (before after : List ℤ) (n : ℕ)
    → Follows (pairs.table g long clear (pairs.buffers_of before lent)) (pairs.buffers_of after left) n
    → AllLeave g lent clear left before after n
all_leave {S} g long lent clear left before after n f =
    (λ z. told (x 1 z).1, λ z. told (x 2 z).1.1, λ z. told (x 7 z).1.1.1, λ z. let y = (x 0 z).1.1.1.1 in (record { long = y.0.long; rest = y.0.rest }, y.1))
  where
    x : (k : ℕ) → n ≡ k → Given k (pairs.table g long clear (pairs.buffers_of before lent)) (pairs.buffers_of after left)
    x = given (pairs.table g long clear (pairs.buffers_of before lent)) (pairs.buffers_of after left) n f

    told : {m : List ℤ} {s : S} → pairs.buffers_of after left ≡ pairs.buffers_of m s → (after ≡ m) × (left ≡ s)
    told e = (ap (λ (y : pairs.Buffers S). y.matrix) e, ap (λ (y : pairs.Buffers S). y.scratch) e)

-- the last row asks for nothing more
all_zero : {A B C D T : Type 0} → T → A ↔ (B × (C × (D × T))) → A ↔ (B × C × D)
all_zero t x = (λ z. let (l, (i, (w, s))) = x.0 z in (l, i, w), λ c. x.1 (c.0, (c.1, (c.2, t))))

module _ {g : Net ℤ} {m m' : List ℤ} {r r' : List ℕ} {number : ℕ} (p : floyd.Promise g m r m' r' number) where
  pub floyd_warshall_leaves : AllLeave g r (filled g.bound 0 r) r' m m' number
  floyd_warshall_leaves = all_leave g (floyd.enough g m r) r _ r' m m' number (floyd_warshall_follows p)

  pub floyd_warshall_zero : (number ≡ 0) ↔ ((floyd.enough g m r ≡ true) × (inside_net g ≡ true) × (Negative (ArcOf g) → ⊥))
  floyd_warshall_zero = all_zero tt (floyd_warshall_exactly p 0)

module _ {g : Net ℤ} {m m' : List ℤ} {s s' : johnson.Scratch} {number : ℕ} (p : johnson.Promise g m s m' s' number) where
  pub johnson_leaves : AllLeave g s (johnson.wiped_all g.bound (most_arcs_of g) s) s' m m' number
  johnson_leaves = all_leave g (johnson.enough g m s) s _ s' m m' number (johnson_follows p)

  pub johnson_zero : (number ≡ 0) ↔ ((johnson.enough g m s ≡ true) × (inside_net g ≡ true) × (Negative (ArcOf g) → ⊥))
  johnson_zero = all_zero tt (johnson_exactly p 0)

-- ---- `hops` and `hops_f64`
module _ {C : Type 0} {g : Net C} {b e : hops.Buffers} {number p : ℕ} (a : hops.Promise g b e number p) where
  pub hops_leaves : (number ≡ 1 → (p ≡ 0) × (e ≡ b)) × (number ≡ 2 → (p ≡ 0) × (e ≡ b))
      × (number ≡ 0 → (p ≡ width g) × Kept (width g * width g) b.matrix e.matrix × (e ≡ hops.left g b e.matrix))
  hops_leaves =
      let x = given (hops.table g b) (hops.result_of p e) number (hops_follows a) in
      (λ z. told (x 1 z).1, λ z. told (x 2 z).1.1, λ z. let y = (x 0 z).1.1.1 in let t = told y.1 in (t.0, record { long = y.0.long; rest = y.0.rest }, t.1))
    where
      told : {n : ℕ} {c : hops.Buffers} → hops.result_of p e ≡ hops.result_of n c → (p ≡ n) × (e ≡ c)
      told q = (ap (λ (o : hops.Result). o.count) q, ap (λ (o : hops.Result). o.buffers) q)

  pub hops_zero : (number ≡ 0) ↔ ((hops.enough g b ≡ true) × (inside_net g ≡ true))
  hops_zero = let x = hops_exactly a 0 in (λ z. let (l, (i, s)) = x.0 z in (l, i), λ c. x.1 (c.0, (c.1, tt)))

-- ---- the page check
module _ {g : Net ℤ} {s : ℕ} {l : List ℤ} {a : page.Answer} (p : page.Promise g s l a) where
  pub page_leaves : (a.number ≡ 1 → a.yes ≡ false) × (a.number ≡ 2 → a.yes ≡ false) × (a.number ≡ 3 → a.yes ≡ false) × (a.number ≡ 0 → (a.yes ≡ true) ↔ page.Right (ArcOf g) g.bound s l)
  page_leaves =
      let f = left (page.table g s l) a.yes a.number (page_follows p) in
      (f 1, f 2, f 3, λ z. go (given (page.table g s l) a.yes a.number (page_follows p) 0 z))
    where
      go : Given 0 (page.table g s l) a.yes → (a.yes ≡ true) ↔ page.Right (ArcOf g) g.bound s l
      go (w, (i, (h, inl x))) = (λ y. x.0, λ y. x.1)
      go (w, (i, (h, inr x))) = (λ y. absurd (clash y x.1.1), λ y. absurd (x.0 y))

  -- and a yes comes with 0
  pub page_zero : ((a.number ≡ 0) ↔ ((page.enough g l ≡ true) × (inside_net g ≡ true) × (has g s ≡ true))) × ((a.yes ≡ true) ↔ ((a.number ≡ 0) × page.Right (ArcOf g) g.bound s l))
  page_zero =
      let zero : (page.enough g l ≡ true) × (inside_net g ≡ true) × (has g s ≡ true) → a.number ≡ 0 =
      λ c. among (λ n. n ≡ 0) (page.table g s l) a.yes a.number (inl c.0 then inl c.1 then inl c.2 then inr refl then inr refl then tt) (page_follows p) in
      let good : a.number ≡ 0 → (page.enough g l ≡ true) × (inside_net g ≡ true) × (has g s ≡ true) = λ z. let (w, (i, (h, x))) = (page_exactly p 0).0 z in (w, i, h) in
      ((good, zero), (λ y. let c = (page_yes p).0 y in (zero (c.0, c.1, c.2), c.3), λ y. let c = good y.0 in (page_yes p).1 (c.0, c.1, c.2, y.1)))

-- ---- `put` and `put_f64`
-- which of the two rows with 0
below : (k n : ℕ) → (k < n) ⊎ ((k < n → ⊥) × (n ≤ k))
below k n = go (ltb k n) refl
  where
    go : (t : Bool) → ltb k n ≡ t → (k < n) ⊎ ((k < n → ⊥) × (n ≤ k))
    go true e = inl (ltb-true k n e)
    go false e = let h = ltb-false k n e in inr (λ z. omega arith, h)

-- a table that passes both tests has the number 0
good_table : {C : Type 0} (m n room : ℕ) (marks : List ℕ) (ls : List (Link C)) → lent_whole m n room marks ≡ true → all_inside m marks (take n ls) ≡ true → table_no m n room marks ls ≡ 0
unfolding table_no
good_table m n room marks ls w a = rw (w, a)

-- t, u and v are the tests of the table and the record, k the place of its link, no the number of the table
module _ {t u v : Bool} {k n : ℕ} where
  zero_leaves : {F X Y T : Type 0} → (t ≡ true) × ((u ≡ true) × ((v ≡ true) × (F × (((k < n) × X) ⊎ ((k < n → ⊥) × (T × Y)))))) → ((k < n) × X) ⊎ ((n ≤ k) × Y)
  zero_leaves (w, (a, (p, (f, inl x)))) = inl x
  zero_leaves (w, (a, (p, (f, inr x)))) = inr (⊎_elim (λ h. absurd (x.0 h)) (λ h. h.1) (below k n), x.1.1)

  put_zero : {T : Type 0} {room number x : ℕ} → T → (t ≡ true → u ≡ true → number ≡ 0) → (x ≡ 0)
      ↔ ((t ≡ true) × ((u ≡ true) × ((v ≡ true) × (((n ≤ k) × (n ≡ room) → ⊥) × ((k < n) ⊎ ((k < n → ⊥) × T))))))
      → (x ≡ 0) ↔ ((t ≡ true) × (u ≡ true) × (v ≡ true) × (number ≡ 0 → n ≤ k → n ≡ room → ⊥))
  put_zero y z x = (
    λ e. let (w, (a, (p, (f, o)))) = x.0 e in (w, a, p, λ _ h r. f (h, r)),
    λ c. x.1 (c.0, (c.1, (c.2, (λ o. c.3 (z c.0 c.1) o.0 o.1, ⊎_elim inl (λ h. inr (h.0, y)) (below k n))))),
  )

module _ (d : Bool) (m : ℕ) (marks : List ℕ) (r : Link ℤ) (n : ℕ) (xs ys : List ℕ) (cs : List ℤ) where
  pub put_ints_leaves : let e = put_ints d m marks r n xs ys cs in let k = place_of d r.a r.b (take n (zip3 xs ys cs)) in
      (e.number ≡ 1 → e ≡ ints_now 1 n xs ys cs) × (e.number ≡ 2 → e ≡ ints_now 2 n xs ys cs) × (e.number ≡ 8 → e ≡ ints_now 8 n xs ys cs)
      × (e.number ≡ 0 → ((k < n) × (e ≡ ints_now 0 n xs ys (set cs k r.cost))) ⊎ ((n ≤ k) × (e ≡ ints_now 0 (n + 1) (set xs n r.a) (set ys n r.b) (set cs n r.cost))))
  put_ints_leaves =
      let e = put_ints d m marks r n xs ys cs in
      let f = left (ints_table d m marks r n xs ys cs) e e.number (put_ints_follows d m marks r n xs ys cs) in
      let told = given (ints_table d m marks r n xs ys cs) e e.number (put_ints_follows d m marks r n xs ys cs) in
      (f 1, λ z. ⊎_elim (λ y. y) (λ y. y) (f 2 z), f 8, λ z. zero_leaves (told 0 z))

  pub put_ints_zero : ((put_ints d m marks r n xs ys cs).number ≡ 0)
      ↔ ((lent_whole m n (room_ints xs ys cs) marks ≡ true) × (all_inside m marks (take n (zip3 xs ys cs)) ≡ true) × (present_both m marks r.a r.b ≡ true)
      × (ints_no m n marks xs ys cs ≡ 0 → n ≤ place_of d r.a r.b (take n (zip3 xs ys cs)) → n ≡ room_ints xs ys cs → ⊥))
  put_ints_zero = put_zero tt (good_table m n (room_ints xs ys cs) marks (zip3 xs ys cs)) (put_ints_exactly d m marks r n xs ys cs 0)

module _ (d : Bool) (m : ℕ) (marks : List ℕ) (r : Link RawCost) (n : ℕ) (xs ys bs os : List ℕ) where
  pub put_floats_leaves : let e = put_floats d m marks r n xs ys bs os in let k = place_of d r.a r.b (take n (zip3 xs ys (float_costs bs os))) in
      (e.number ≡ 1 → e ≡ floats_now 1 n xs ys bs os) × (e.number ≡ 2 → e ≡ floats_now 2 n xs ys bs os) × (e.number ≡ 8 → e ≡ floats_now 8 n xs ys bs os)
      × (e.number ≡ 0
      → ((k < n) × (e ≡ floats_now 0 n xs ys (set bs k r.cost.bits) (set os k r.cost.mark))) ⊎
      ((n ≤ k) × (e ≡ floats_now 0 (n + 1) (set xs n r.a) (set ys n r.b) (set bs n r.cost.bits) (set os n r.cost.mark))))
  put_floats_leaves =
      let e = put_floats d m marks r n xs ys bs os in
      let f = left (floats_table d m marks r n xs ys bs os) e e.number (put_floats_follows d m marks r n xs ys bs os) in
      let told = given (floats_table d m marks r n xs ys bs os) e e.number (put_floats_follows d m marks r n xs ys bs os) in
      (f 1, λ z. ⊎_elim (λ y. y) (λ y. y) (f 2 z), f 8, λ z. zero_leaves (told 0 z))

  pub put_floats_zero : ((put_floats d m marks r n xs ys bs os).number ≡ 0)
      ↔ ((lent_whole m n (room_floats xs ys bs os) marks ≡ true) × (all_inside m marks (take n (zip3 xs ys (float_costs bs os))) ≡ true) × (present_both m marks r.a r.b ≡ true)
      × (floats_no m n marks xs ys bs os ≡ 0 → n ≤ place_of d r.a r.b (take n (zip3 xs ys (float_costs bs os))) → n ≡ room_floats xs ys bs os → ⊥))
  put_floats_zero = put_zero tt (good_table m n (room_floats xs ys bs os) marks (zip3 xs ys (float_costs bs os))) (put_floats_exactly d m marks r n xs ys bs os 0)

-- ---- scratch, of a map within the limits and with outputs that are long enough
-- lent scratch of the kind B: no call with it gives 1, and it has no more entries than that
abbrev Fits : {C B : Type 0} → Net C → (B → Type 0) → (B → ℕ) → Type 0
Fits {B = B} g GivesOne entries = (b : B) × (GivesOne b → ⊥) × (entries b ≤ 8 * (g.bound + 1) + 4 * most_arcs_of g)

-- the entries of a neighbour list
abbrev in_rows : Lists ℤ → ℕ
in_rows l = length l.offsets + length l.heads + length l.weights

module _ (g : Net ℤ) (whole : whole_net g ≡ true) where
  pub dijkstra_fits : (dist : List ℤ) → g.bound ≤ length dist
      → Fits g (λ b. (s : ℕ) × (e : dijkstra.Buffers) × dijkstra.Promise g s (record { dist = dist; scratch = b }) e 1)
      (λ b. in_rows b.rows + length b.preds + length b.peaks + length b.words + length b.keys)
  dijkstra_fits dist d = let x = dijkstra_scratch g whole dist d in (dijkstra.scratch_of x.0 x.1 x.2 x.3 x.4 x.5 x.6, (λ y. clash x.7 ((dijkstra_exactly y.2 1).0 refl)), x.8)

  pub a_star_fits : (q : star.Question) (path : List ℕ) → g.bound ≤ length q.guess → g.bound ≤ length path
      → Fits g (λ b. (e : star.Buffers) × (r : star.Answer) × star.Promise g q (record { path = path; scratch = b }) e r × (r.number ≡ 1))
      (λ b. in_rows b.rows + length b.memory.dist + length b.memory.preds + length b.memory.peaks + length b.memory.words + length b.memory.keys)
  a_star_fits q path h d =
      let x = a_star_scratch g whole q path h d in (star.scratch_of x.0 x.1 x.2 x.3 x.4 x.5 x.6 x.7, (λ y. clash x.8 ((a_star_exactly y.2 1).0 y.3)), x.9)

  pub bellman_ford_fits : (dist : List ℤ) → g.bound ≤ length dist
      → Fits g (λ b. (s : ℕ) × (e : bellman.Buffers) × bellman.Promise g s (record { dist = dist; scratch = b }) e 1)
      (λ b. in_rows b.rows + length b.queue + length b.queued + length b.lengths)
  bellman_ford_fits dist d =
      let x = bellman_ford_scratch g whole dist d in
      (bellman.scratch_of x.0 x.1 x.2 x.3 x.4 x.5, (λ y. clash x.6 ((bellman_ford_exactly y.2 1).0 refl)), x.7)

  pub floyd_warshall_fits : (m : List ℤ) → square g ≤ length m → Fits g (λ r. (m' : List ℤ) × (r' : List ℕ) × floyd.Promise g m r m' r' 1) length
  floyd_warshall_fits m d = let x = floyd_warshall_scratch g whole m d in (x.0, (λ y. clash x.1 ((floyd_warshall_exactly y.2 1).0 refl)), x.2)

  pub johnson_fits : (m : List ℤ) → square g ≤ length m
      → Fits g (λ b. (m' : List ℤ) × (s' : johnson.Scratch) × johnson.Promise g m b m' s' 1)
      (λ b. in_rows b.rows + length b.heights + length b.memory.dist + length b.memory.preds + length b.memory.peaks + length b.memory.words + length b.memory.keys)
  johnson_fits m d =
      let x = johnson_scratch g whole m d in (johnson.scratch_of x.0 x.1 x.2 x.3 x.4 x.5 x.6 x.7 x.8, (λ y. clash x.9 ((johnson_exactly y.2 1).0 refl)), x.10)

-- the slices beside the outputs
pub hops_fits : {C : Type 0} (g : Net C) → whole_net g ≡ true → (nodes matrix : List ℕ) → width g ≤ length nodes → width g * width g ≤ length matrix
    → Fits {B = List ℕ × List ℕ × List ℕ × List ℕ} g (λ b. (e : hops.Buffers) × (p : ℕ) × hops.Promise g (hops.buffers_of nodes matrix b.0 b.1 b.2 b.3) e 1 p)
    (λ b. length b.0 + length b.1 + length b.2 + length b.3)
hops_fits g whole nodes matrix n d = let x = hops_scratch g whole nodes matrix n d in ((x.0, x.1, x.2, x.3), (λ y. clash x.4 ((hops_exactly y.2 1).0 refl)), x.5)

pub dijkstra_path_fits : (g : Net FloatCost) → whole_net g ≡ true → (dist preds : List ℕ) → g.bound ≤ length dist → g.bound ≤ length preds
    → Fits {B = List ℕ × List ℕ × List ℕ × List ℕ × List ℕ × List ℕ} g
    (λ b. (s : ℕ) × (k : Cutoff) × (e : search.Buffers) × search.Promise g s k (search.buffers_of dist preds b.0 b.1 b.2 b.3 b.4 b.5) e 1)
    (λ b. length b.0 + length b.1 + length b.2 + length b.3 + length b.4 + length b.5)
dijkstra_path_fits g whole dist preds d p =
    let x = dijkstra_path_scratch g whole dist preds d p in ((x.0, x.1, x.2, x.3, x.4, x.5), (λ y. clash x.6 ((dijkstra_path_exactly y.3 1).0 refl)), x.7)
