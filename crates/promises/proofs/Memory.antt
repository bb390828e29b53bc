-- What a lent buffer held before is no input. `QUESTION-memory`: two calls of a question on one map, each with its own buffers, long enough in both or too short in
-- both, give the same number and values and leave the same used parts; after 1 to 5 each leaves its buffers as lent. `QUESTION-lengths`: buffers of equal lengths are
-- long enough in both or too short in both.
-- The argument: both calls stop at the same test, since none but the first looks at the buffers, and that one at their lengths alone. After it a used part that is blank
-- or wiped is so whatever stood there, and one that holds an answer holds at each place the one value that the promise allows.
-- Assumes nothing.
use mathlib.Core.Path.{◌≡◌, refl, sym, ap, ◌∙◌, subst}
use mathlib.Core.Bool.{Bool, true, ◌&&◌}
use mathlib.Core.List.{List, [], ◌∷◌, ◌++◌}
use mathlib.Core.Logic.{inl, inr}
use Prim.Native.Nat.{ℕ, zero, suc, ◌+◌, ◌*◌, ◌≤◌, ◌<◌}
use native.Mathlib.Omega.{arith}
use borrow.Author.Tests.{leb-true}
use lib.Dec.{leb}
use lib.IntN.{ℤ, pos}
use lib.ListN.{length, get_or, take, drop, replicate, length-replicate}
use lib.Seq.{take_at, get_or-take, length-take-le, ext_get_or}
use Rattle.whole.proofs.Cases.{and_left, and_right}
use Rattle.clean.specs.Fill.{filled, Settled}
use Rattle.clean.specs.None.{none_i64, none_u32, none_f64}
use Rattle.numbers.proofs.Numbers.{itself}
use Rattle.numbers.proofs.Beside.{Beside, beside, alike}
use Rattle.walks.specs.Walk.{Entry}
use Rattle.walks.proofs.Over.{entry_one}
use Rattle.float.specs.Cutoff.{Cutoff}
use Rattle.table.specs.declared.FloatCost.{FloatCost}
use Rattle.net.specs.Net.{Net, ArcOf, nodes_of, width, whole_net, inside_net, has, most_arcs_of}
use Rattle.pending.specs.Setting.{End}
use Rattle.rows.specs.Rows.{Lists, lists_of}
use Rattle.rows.specs.Scratch.{has_lists, wiped}
use Rattle.turns.specs.Memory.{Memory, memory_of}
use Rattle.turns.specs.Firsts.{firsts}
use Rattle.search.specs.Lists.{has_memory, wiped_memory}
use Rattle.matrix.specs.Matrix.{square, Matrix, Buffers, buffers_of, table, AllPairs}
use Rattle.matrix.proofs.Matrix.{place}
use Rattle.dijkstra.specs.Promise as dijkstra
use Rattle.dijkstra.proofs.Refusals as dijkstra_refusals
use Rattle.a_star.specs.Promise as star
use Rattle.a_star.proofs.Settles as star_laws
use Rattle.bellman_ford.specs.Promise as bellman
use Rattle.bellman_ford.proofs.Refusals as bellman_refusals
use Rattle.floyd_warshall.specs.Promise as floyd
use Rattle.johnson.specs.Promise as johnson
use Rattle.hops.specs.Promise as hops
use Rattle.hops.proofs.Settles as hops_laws
use Rattle.hops.proofs.Steps as hops_steps
use Rattle.hops.proofs.Refusals as hops_refusals
use Rattle.dijkstra_path.specs.Promise as search
use Rattle.dijkstra_path.proofs.Refusals as search_refusals
use Rattle.dijkstra_path.proofs.Settles as search_laws
use Rattle.promises.specs.Used.{LeaveSame, ran, refused, rows_used, dijkstra_used, dijkstra_path_used, bellman_used, a_star_used, pairs_used, johnson_used, hops_used}

-- ---- used parts
module _ {A : Type 0} where
  -- what is filled, whatever stood there
  part_filled : (n : ℕ) (x : A) (l l' : List A) → take n (filled n x l) ≡ take n (filled n x l')
  unfolding filled
  part_filled n x l l' = take_at (replicate n x) (drop n l) n (length-replicate n x) ∙ sym (take_at (replicate n x) (drop n l') n (length-replicate n x))

  -- a path in front of it
  part_path : (n : ℕ) (x : A) (k r r' : List A) → take n (k ++ drop (length k) (replicate n x ++ r)) ≡ take n (k ++ drop (length k) (replicate n x ++ r'))
  part_path n x [] r r' = take_at (replicate n x) r n (length-replicate n x) ∙ sym (take_at (replicate n x) r' n (length-replicate n x))
  part_path zero x (y ∷ k) r r' = refl
  part_path (suc n) x (y ∷ k) r r' = ap {B = List A} (λ z. y ∷ z) (part_path n x k r r')

  -- the same value at each place
  part_each : (n : ℕ) (d : A) (k l : List A) → n ≤ length k → n ≤ length l → ((i : ℕ) → i < n → get_or k i d ≡ get_or l i d) → take n k ≡ take n l
  part_each n d k l p q f =
      let long = length-take-le n k p in
      ext_get_or d (take n k) (take n l) (long ∙ sym (length-take-le n l q))
      (λ i h. get_or-take n k i d (omega (arith, long)) ∙ (f i (omega (arith, long)) ∙ sym (get_or-take n l i d (omega (arith, long)))))

  -- in each row and column
  part_square : (p : ℕ) (d : A) (x y : List A) → p * p ≤ length x → p * p ≤ length y → ((i j : ℕ) → i < p → j < p → get_or x (i * p + j) d ≡ get_or y (i * p + j) d) → take (p * p) x ≡ take (p * p) y
  part_square p d x y l l' f =
      part_each (p * p) d x y l l' (λ i h. let k = place p i h in subst (λ (z : ℕ). get_or x z d ≡ get_or y z d) k.at (f k.i k.j k.row k.column))

  -- the one value that is allowed there
  part_settled : {n : ℕ} {E : ℕ → A → Type 0} {b b' e e' : List A} (d : A) → ((i : ℕ) → i < n → (x y : A) → E i x → E i y → x ≡ y) → n ≤ length b → n ≤ length b' → Settled n E b e
      → Settled n E b' e' → take n e ≡ take n e'
  part_settled {n} {e = e} {e' = e'} d one l l' p q =
      part_each n d e e' (omega (arith, l, p.long)) (omega (arith, l', q.long)) (λ i h. one i h (get_or e i d) (get_or e' i d) (p.each i d h) (q.each i d h))

-- scratch that is wiped
rows_wiped : {C W : Type 0} (g : Net C) (z : W) (s s' : Lists W)
    → rows_used g.bound (most_arcs_of g) (wiped g.bound (most_arcs_of g) z s) ≡ rows_used g.bound (most_arcs_of g) (wiped g.bound (most_arcs_of g) z s')
rows_wiped g z s s' =
    let a = most_arcs_of g in
    λ i. lists_of (part_filled (g.bound + 1) 0 s.offsets s'.offsets i) (part_filled a 0 s.heads s'.heads i) (part_filled a z s.weights s'.weights i)

memory_wiped : (m : ℕ) (M N : Memory ℤ) → firsts m (wiped_memory m M) ≡ firsts m (wiped_memory m N)
memory_wiped m M N =
    λ i. memory_of (part_filled m (pos 0) M.dist N.dist i) (part_filled m 0 M.preds N.preds i) (part_filled m 0 M.peaks N.peaks i)
    (part_filled m 0 M.words N.words i) (part_filled m (pos 0) M.keys N.keys i)

-- the used parts of two buffers that are told
through : {B U : Type 0} (used : B → U) {e e' x y : B} → e ≡ x → e' ≡ y → used x ≡ used y → used e ≡ used e'
through used p q h = ap used p ∙ (h ∙ sym (ap used q))

-- two calls that are refused at a row from 1 to 5
untouched : {B U : Type 0} {used : B → U} {b b' : B} {k : ℕ} → (leb 1 k && leb k 5) ≡ true → (e e' : B) → e ≡ b → e' ≡ b' → LeaveSame used k b b' e e'
untouched {k = k} l e e' p q = refused (leb-true 1 k (and_left (leb 1 k) _ l)) (leb-true k 5 (and_right (leb 1 k) _ l)) p q

-- ---- `dijkstra`
module _ (g : Net ℤ) (s : ℕ) (b b' : dijkstra.Buffers) where
  dijkstra_left : (e e' : dijkstra.Buffers) → take g.bound e.dist ≡ take g.bound e'.dist → e.scratch ≡ dijkstra.clear g b → e'.scratch ≡ dijkstra.clear g b'
      → dijkstra_used g.bound (most_arcs_of g) e ≡ dijkstra_used g.bound (most_arcs_of g) e'
  dijkstra_left e e' d p q =
      let m = g.bound in
      let s = b.scratch in
      let t = b'.scratch in
      let o = rows_wiped g (pos 0) s.rows t.rows in
      let r = part_filled m 0 s.preds t.preds in
      let h = part_filled m 0 s.peaks t.peaks in
      (λ i. dijkstra_used g.bound (most_arcs_of g) (record { dist = e.dist; scratch = p i }))
      ∙ ((λ i. (o i, memory_of (d i) (r i) (h i) (part_filled m 0 s.words t.words i) (part_filled m (pos 0) s.keys t.keys i)))
      ∙ (λ i. dijkstra_used g.bound (most_arcs_of g) (record { dist = e'.dist; scratch = sym q i })))

  -- what two calls leave that gave k
  abbrev DijkstraLeave : ℕ → dijkstra.Buffers → dijkstra.Buffers → Type 0
  DijkstraLeave k e e' = LeaveSame (dijkstra_used g.bound (most_arcs_of g)) k b b' e e'

  dijkstra_rows : dijkstra.enough g b ≡ dijkstra.enough g b' → Beside DijkstraLeave (dijkstra.table g s b) (dijkstra.table g s b')
  dijkstra_rows long =
      alike refl long (untouched refl)
      (λ l l'. alike refl refl (untouched refl)
      (λ i i'. alike refl refl (untouched refl)
      (λ h h'. alike refl itself blanked
      (λ w w'. alike refl itself (settled l i h) (λ t t'. tt)))))
    where
      blanked : (e e' : dijkstra.Buffers) → e ≡ dijkstra.blank g b → e' ≡ dijkstra.blank g b' → DijkstraLeave 6 e e'
      blanked e e' p q =
          let blank = dijkstra_left (dijkstra.blank g b) (dijkstra.blank g b') (part_filled g.bound none_i64 b.dist b'.dist) refl refl in
          ran (inr (inl refl)) (through (dijkstra_used g.bound (most_arcs_of g)) p q blank)

      settled : dijkstra.enough g b ≡ true → inside_net g ≡ true → has g s ≡ true → (e e' : dijkstra.Buffers)
          → Settled g.bound (Entry (ArcOf g) s) b.dist e.dist × (e.scratch ≡ dijkstra.clear g b)
          → Settled g.bound (Entry (ArcOf g) s) b'.dist e'.dist × (e'.scratch ≡ dijkstra.clear g b') → DijkstraLeave 0 e e'
      settled l i h e e' p q =
          let k = (dijkstra_refusals.enough_passed g s b l i h).memory.dist in
          let k' = (dijkstra_refusals.enough_passed g s b' (sym long ∙ l) i h).memory.dist in
          ran (inl refl) (dijkstra_left e e' (part_settled (pos 0) (λ v k x y. entry_one) k k' p.0 q.0) p.1 q.1)

  pub dijkstra_memory : {e e' : dijkstra.Buffers} {number number' : ℕ} → dijkstra.enough g b ≡ dijkstra.enough g b' → dijkstra.Promise g s b e number → dijkstra.Promise g s b' e' number'
      → (number ≡ number') × LeaveSame (dijkstra_used g.bound (most_arcs_of g)) number b b' e e'
  dijkstra_memory {e} {e'} {number} {number'} long p q = beside DijkstraLeave (dijkstra.table g s b) (dijkstra.table g s b') e e' number number' (dijkstra_rows long) p.follows q.follows

-- ---- `bellman_ford`
module _ (g : Net ℤ) (s : ℕ) (b b' : bellman.Buffers) where
  bellman_left : (e e' : bellman.Buffers) → take g.bound e.dist ≡ take g.bound e'.dist → e.scratch ≡ bellman.clear g b → e'.scratch ≡ bellman.clear g b'
      → bellman_used g.bound (most_arcs_of g) e ≡ bellman_used g.bound (most_arcs_of g) e'
  bellman_left e e' d p q =
      let m = g.bound in
      let s = b.scratch in
      let t = b'.scratch in
      (λ i. bellman_used g.bound (most_arcs_of g) (record { dist = e.dist; scratch = p i }))
      ∙ ((λ i. (d i, rows_wiped g (pos 0) s.rows t.rows i, part_filled m 0 s.queue t.queue i, part_filled m 0 s.queued t.queued i, part_filled m 0 s.lengths t.lengths i))
      ∙ (λ i. bellman_used g.bound (most_arcs_of g) (record { dist = e'.dist; scratch = sym q i })))

  bellman_blank : {e e' : bellman.Buffers} → e ≡ bellman.blank g b → e' ≡ bellman.blank g b' → bellman_used g.bound (most_arcs_of g) e ≡ bellman_used g.bound (most_arcs_of g) e'
  bellman_blank p q =
      through (bellman_used g.bound (most_arcs_of g)) p q (bellman_left (bellman.blank g b) (bellman.blank g b') (part_filled g.bound none_i64 b.dist b'.dist) refl refl)

  -- what two calls leave that gave k
  abbrev BellmanLeave : ℕ → bellman.Buffers → bellman.Buffers → Type 0
  BellmanLeave k e e' = LeaveSame (bellman_used g.bound (most_arcs_of g)) k b b' e e'

  bellman_rows : bellman.enough g b ≡ bellman.enough g b' → Beside BellmanLeave (bellman.table g s b) (bellman.table g s b')
  bellman_rows long =
      alike refl long (untouched refl)
      (λ l l'. alike refl refl (untouched refl)
      (λ i i'. alike refl refl (λ e e' p q. ran (inl refl) (bellman_blank p q))
      (λ h h'. alike refl itself (λ e e' p q. ran (inr (inr refl)) (bellman_blank p q))
      (λ w w'. alike refl itself (settled l i) (λ t t'. tt)))))
    where
      settled : bellman.enough g b ≡ true → inside_net g ≡ true → (e e' : bellman.Buffers)
          → Settled g.bound (Entry (ArcOf g) s) b.dist e.dist × (e.scratch ≡ bellman.clear g b)
          → Settled g.bound (Entry (ArcOf g) s) b'.dist e'.dist × (e'.scratch ≡ bellman.clear g b') → BellmanLeave 0 e e'
      settled l i e e' p q =
          let k = (bellman_refusals.enough_passed g b l i).dist in
          let k' = (bellman_refusals.enough_passed g b' (sym long ∙ l) i).dist in
          ran (inl refl) (bellman_left e e' (part_settled (pos 0) (λ v k x y. entry_one) k k' p.0 q.0) p.1 q.1)

  pub bellman_ford_memory : {e e' : bellman.Buffers} {number number' : ℕ} → bellman.enough g b ≡ bellman.enough g b' → bellman.Promise g s b e number → bellman.Promise g s b' e' number'
      → (number ≡ number') × LeaveSame (bellman_used g.bound (most_arcs_of g)) number b b' e e'
  bellman_ford_memory {e} {e'} {number} {number'} long p q = beside BellmanLeave (bellman.table g s b) (bellman.table g s b') e e' number number' (bellman_rows long) p.follows q.follows

-- ---- `dijkstra_path_impl` and `dijkstra_path_f64`
module _ (g : Net FloatCost) (s : ℕ) (k : Cutoff) (b b' : search.Buffers) where
  path_left : (x y x' y' : List ℕ) → take g.bound x ≡ take g.bound x' → take g.bound y ≡ take g.bound y'
      → dijkstra_path_used g.bound (most_arcs_of g) (search.left g b x y) ≡ dijkstra_path_used g.bound (most_arcs_of g) (search.left g b' x' y')
  path_left x y x' y' d p =
      let m = g.bound in
      let M = b.memory in
      let N = b'.memory in
      let o = rows_wiped g 0 b.rows b'.rows in
      λ i. (o i, memory_of (d i) (p i) (part_filled m 0 M.peaks N.peaks i) (part_filled m 0 M.words N.words i) (part_filled m 0 M.keys N.keys i))

  path_answers : search_refusals.Passed g s b → search_refusals.Passed g s b' → {x y : End ℕ} {e e' : search.Buffers} → x ≡ y → search.Answers g.bound x b e → search.Answers g.bound y b' e'
      → e ≡ search.left g b e.memory.dist e.memory.preds → e' ≡ search.left g b' e'.memory.dist e'.memory.preds
      → dijkstra_path_used g.bound (most_arcs_of g) e ≡ dijkstra_path_used g.bound (most_arcs_of g) e'
  path_answers w w' {e = e} same a a' p q =
      let r = subst (λ (z : End _). search.Answers g.bound z b e) same a in
      let dist = part_settled none_f64 (λ i h u v a c. a ∙ sym c) w.memory.dist w'.memory.dist r.dist a'.dist in
      let preds = part_settled none_u32 (λ i h u v a c. a ∙ sym c) w.memory.preds w'.memory.preds r.preds a'.preds in
      through (dijkstra_path_used g.bound (most_arcs_of g)) p q (path_left _ _ _ _ dist preds)

  path_blank : dijkstra_path_used g.bound (most_arcs_of g) (search.blank g b) ≡ dijkstra_path_used g.bound (most_arcs_of g) (search.blank g b')
  path_blank = path_left _ _ _ _ (part_filled g.bound none_f64 b.memory.dist b'.memory.dist) (part_filled g.bound none_u32 b.memory.preds b'.memory.preds)

  pub dijkstra_path_memory : {e e' : search.Buffers} {number number' : ℕ} → search.enough g b ≡ search.enough g b' → search.Promise g s k b e number → search.Promise g s k b' e' number'
      → (number ≡ number') × LeaveSame (dijkstra_path_used g.bound (most_arcs_of g)) number b b' e e'
  dijkstra_path_memory {e} {e'} {number} {number'} long p q =
      let used = dijkstra_path_used g.bound (most_arcs_of g) in
      let passed = search_refusals.enough_passed g s in
      beside (λ (n : ℕ) (x y : search.Buffers). LeaveSame used n b b' x y) (search.table g s k b) (search.table g s k b') e e' number number'
      (alike refl long (untouched refl)
      (λ w w'. alike refl refl (untouched refl)
      (λ i i'. alike refl refl (untouched refl)
      (λ h h'. alike refl itself (λ x y p q. ran (inr (inl refl)) (through used p q path_blank))
      (λ z z'. alike refl itself (λ x y p q. ran (inl refl) (path_answers (passed b w i h) (passed b' w' i h) (search_laws.one_end p.1 q.1) p.3 q.3 p.4 q.4))
      (λ u u'. tt))))))
      p.follows q.follows

-- ---- `a_star`
module _ (g : Net ℤ) (q : star.Question) (b b' : star.Buffers) where
  star_left : (l : List ℕ) → a_star_used g.bound (most_arcs_of g) (star.left g b l) ≡ a_star_used g.bound (most_arcs_of g) (star.left g b' l)
  unfolding star.at_front filled
  star_left l =
      let m = g.bound in
      λ i. (part_path m none_u32 l (drop m b.path) (drop m b'.path) i, rows_wiped g (pos 0) b.scratch.rows b'.scratch.rows i, memory_wiped m b.scratch.memory b'.scratch.memory i)

  -- the same beside the number, and the same left
  abbrev StarSame : ℕ → star.Result → star.Result → Type 0
  StarSame n y y' = (y.cost ≡ y'.cost) × (y.length ≡ y'.length) × LeaveSame (a_star_used g.bound (most_arcs_of g)) n b b' y.buffers y'.buffers

  -- both without a path
  no_path_lem : (n : ℕ) (e e' : star.Buffers) → LeaveSame (a_star_used g.bound (most_arcs_of g)) n b b' e e'
      → (y y' : star.Result) → y ≡ star.no_path e → y' ≡ star.no_path e' → StarSame n y y'
  no_path_lem n e e' h y y' p q = subst (λ (z : star.Result). StarSame n z y') (sym p) (subst (StarSame n (star.no_path e)) (sym q) (refl, refl, h))

  star_refused : (n : ℕ) → (leb 1 n && leb n 5) ≡ true → (y y' : star.Result) → y ≡ star.no_path b → y' ≡ star.no_path b' → StarSame n y y'
  star_refused n l = no_path_lem n b b' (untouched l b b' refl refl)

  pub a_star_memory : {e e' : star.Buffers} {r r' : star.Answer} → star.enough g q b ≡ star.enough g q b' → star.Promise g q b e r → star.Promise g q b' e' r'
      → (r ≡ r') × LeaveSame (a_star_used g.bound (most_arcs_of g)) r.number b b' e e'
  a_star_memory {e} {e'} {r} {r'} long p p' =
      let blank : star.Buffers → star.Buffers = λ x. star.left g x [] in
      let k = beside StarSame (star.table g q b) (star.table g q b') (star.result_of r e) (star.result_of r' e') r.number r'.number
      (alike refl long (star_refused 1 refl)
      (λ w w'. alike refl refl (star_refused 2 refl)
      (λ w w'. alike refl refl (star_refused 3 refl)
      (λ w w'. alike refl refl (star_refused 4 refl)
      (λ w w'. alike refl refl (star_refused 5 refl)
      (λ w w'. alike refl itself (no_path_lem 6 (blank b) (blank b') (ran (inr (inl refl)) (star_left [])))
      (λ w w'. alike refl itself star_ran (λ w w'. tt))))))))
      p.follows p'.follows in
      (λ i. star.answer_of (k.0 i) (k.1.0 i) (k.1.1 i), k.1.2)
    where
      star_ran : (y y' : star.Result) → star.Outcome g q b y → star.Outcome g q b' y' → StarSame 0 y y'
      star_ran y y' o u =
          let k = star_laws.outcome_path o u in
          let path = star_left o.path ∙ ap (λ (l : List ℕ). a_star_used g.bound (most_arcs_of g) (star.left g b' l)) k.1 in
          let buffers : star.Result → star.Buffers = λ y. y.buffers in (
            ap (λ (y : star.Result). y.cost) o.leaves ∙ (k.0 ∙ sym (ap (λ (y : star.Result). y.cost) u.leaves)),
            ap (λ (y : star.Result). y.length) o.leaves ∙ (ap length k.1 ∙ sym (ap (λ (y : star.Result). y.length) u.leaves)),
            ran (inl refl) (through (a_star_used g.bound (most_arcs_of g)) (ap buffers o.leaves) (ap buffers u.leaves) path),
          )

-- ---- `floyd_warshall` and `johnson`
-- two matrices of least totals hold the same in the part used
matrix_part : (g : Net ℤ) (b b' x y : List ℤ) → square g ≤ length b → square g ≤ length b' → Matrix g b x → Matrix g b' y → take (square g) x ≡ take (square g) y
matrix_part g b b' x y l l' p q = part_square (width g) (pos 0) x y (omega (arith, l, p.long)) (omega (arith, l', q.long)) (λ i j h k. entry_one (p.each i j h k) (q.each i j h k))

-- two calls, which are lent b and b'
module _ {S U : Type 0} (g : Net ℤ) (used : S → U) (b b' : Buffers S) where
  -- what they leave, as the matrix and the scratch
  abbrev PairsSame : ℕ → Buffers S → Buffers S → Type 0
  PairsSame k e e' = LeaveSame (pairs_used (width g) used) k (b.matrix, b.scratch) (b'.matrix, b'.scratch) (e.matrix, e.scratch) (e'.matrix, e'.scratch)

  pairs_refused : {k : ℕ} → 1 ≤ k → k ≤ 5 → (x y : Buffers S) → x ≡ b → y ≡ b' → PairsSame k x y
  pairs_refused l h x y p q = refused l h (λ i. ((p i).matrix, (p i).scratch)) (λ i. ((q i).matrix, (q i).scratch))

  module _ {clear clear' : S} (same : used clear ≡ used clear') where
    pairs_blank : (x y : Buffers S) → x ≡ buffers_of (filled (square g) none_i64 b.matrix) clear → y ≡ buffers_of (filled (square g) none_i64 b'.matrix) clear' → PairsSame 7 x y
    pairs_blank x y p q =
        ran (inr (inr refl)) (through (λ (e : Buffers S). pairs_used (width g) used (e.matrix, e.scratch)) p q (λ i. (part_filled (square g) none_i64 b.matrix b'.matrix i, same i)))

    pairs_done : square g ≤ length b.matrix → square g ≤ length b'.matrix → (x y : Buffers S) → Matrix g b.matrix x.matrix × (x.scratch ≡ clear)
        → Matrix g b'.matrix y.matrix × (y.scratch ≡ clear') → PairsSame 0 x y
    pairs_done l l' x y p q =
        let part = matrix_part g b.matrix b'.matrix x.matrix y.matrix l l' p.0 q.0 in
        ran (inl refl) (λ i. (part i, through used p.1 q.1 same i))

    module _ {long long' : Bool} (roomy : long ≡ true → square g ≤ length b.matrix) (roomy' : long' ≡ true → square g ≤ length b'.matrix) where
      pairs_memory : {e e' : Buffers S} {number number' : ℕ} → long ≡ long' → AllPairs g long clear b e number → AllPairs g long' clear' b' e' number' → (number ≡ number') × PairsSame number e e'
      pairs_memory {e} {e'} {number} {number'} l p q =
          beside PairsSame (table g long clear b) (table g long' clear' b') e e' number number'
          (alike refl l (pairs_refused (omega arith) (omega arith))
          (λ w w'. alike refl refl (pairs_refused (omega arith) (omega arith))
          (λ i i'. alike refl itself pairs_blank
          (λ n n'. alike refl itself (pairs_done (roomy w) (roomy' w')) (λ u u'. tt)))))
          p.follows q.follows

floyd_roomy : (g : Net ℤ) (m : List ℤ) (r : List ℕ) → floyd.enough g m r ≡ true → square g ≤ length m
unfolding floyd.enough
floyd_roomy g m r e = leb-true _ _ (and_right (leb g.bound (length r)) _ (and_right (whole_net g) _ e))

pub floyd_warshall_memory : (g : Net ℤ) (m m' : List ℤ) (r r' : List ℕ) {m₁ m₂ : List ℤ} {r₁ r₂ : List ℕ} {number number' : ℕ} → floyd.enough g m r ≡ floyd.enough g m' r'
    → floyd.Promise g m r m₁ r₁ number → floyd.Promise g m' r' m₂ r₂ number'
    → (number ≡ number') × LeaveSame (pairs_used (width g) (take g.bound)) number (m, r) (m', r') (m₁, r₁) (m₂, r₂)
floyd_warshall_memory g m m' r r' e p q = pairs_memory g (take g.bound) (buffers_of m r) (buffers_of m' r') (part_filled g.bound 0 r r') (floyd_roomy g m r) (floyd_roomy g m' r') e p q

johnson_roomy : (g : Net ℤ) (m : List ℤ) (s : johnson.Scratch) → johnson.enough g m s ≡ true → square g ≤ length m
unfolding johnson.long_enough
johnson_roomy g m s e = leb-true _ _ (and_left (leb (square g) (length m)) _ (and_right (whole_net g) _ e))

johnson_wiped : (g : Net ℤ) (s t : johnson.Scratch)
    → johnson_used g.bound (most_arcs_of g) (johnson.wiped_all g.bound (most_arcs_of g) s) ≡ johnson_used g.bound (most_arcs_of g) (johnson.wiped_all g.bound (most_arcs_of g) t)
johnson_wiped g s t = λ i. (rows_wiped g (pos 0) s.rows t.rows i, part_filled g.bound (pos 0) s.heights t.heights i, memory_wiped g.bound s.memory t.memory i)

pub johnson_memory : (g : Net ℤ) (m m' : List ℤ) (s s' : johnson.Scratch) {m₁ m₂ : List ℤ} {s₁ s₂ : johnson.Scratch} {number number' : ℕ} → johnson.enough g m s ≡ johnson.enough g m' s'
    → johnson.Promise g m s m₁ s₁ number → johnson.Promise g m' s' m₂ s₂ number'
    → (number ≡ number') × LeaveSame (pairs_used (width g) (johnson_used g.bound (most_arcs_of g))) number (m, s) (m', s') (m₁, s₁) (m₂, s₂)
johnson_memory g m m' s s' e p q = pairs_memory g (johnson_used g.bound (most_arcs_of g)) (buffers_of m s) (buffers_of m' s') (johnson_wiped g s s') (johnson_roomy g m s) (johnson_roomy g m' s') e p q

-- ---- `hops` and `hops_f64`
-- the parts of an outcome that is told
counted : {o : hops.Result} {n : ℕ} {c : hops.Buffers} → o ≡ hops.result_of n c → o.count ≡ n
counted a = ap (λ (o : hops.Result). o.count) a

buffers_of_lem : {o : hops.Result} {n : ℕ} {c : hops.Buffers} → o ≡ hops.result_of n c → o.buffers ≡ c
buffers_of_lem a = ap (λ (o : hops.Result). o.buffers) a

module _ {C : Type 0} (g : Net C) (b b' : hops.Buffers) where
  hops_part : (x y : List ℕ) → width g * width g ≤ length b.matrix → width g * width g ≤ length b'.matrix → hops.Matrix g b.matrix x → hops.Matrix g b'.matrix y
      → take (width g * width g) x ≡ take (width g * width g) y
  hops_part x y l l' p q = part_square (width g) 0 x y (omega (arith, l, p.long)) (omega (arith, l', q.long)) (λ i j h k. hops_steps.entry_one (p.each i j h k) (q.each i j h k))

  hops_left : (x y : List ℕ) → take (width g * width g) x ≡ take (width g * width g) y
      → hops_used g.bound (most_arcs_of g) (width g) (hops.left g b x) ≡ hops_used g.bound (most_arcs_of g) (width g) (hops.left g b' y)
  hops_left x y h =
      let m = g.bound in
      let n = take_at (nodes_of g) (drop (width g) b.nodes) (width g) refl ∙ sym (take_at (nodes_of g) (drop (width g) b'.nodes) (width g) refl) in
      let o = part_filled (m + 1) 0 b.offsets b'.offsets in
      let k = part_filled (most_arcs_of g) 0 b.heads b'.heads in
      λ i. (n i, h i, o i, k i, part_filled m 0 b.labels b'.labels i, part_filled (m + 1) 0 b.queue b'.queue i)

  -- what two calls give and leave
  abbrev HopsSame : ℕ → hops.Result → hops.Result → Type 0
  HopsSame k o u = (o.count ≡ u.count) × LeaveSame (hops_used g.bound (most_arcs_of g) (width g)) k b b' o.buffers u.buffers

  hops_refused : {k : ℕ} → 1 ≤ k → k ≤ 5 → (o u : hops.Result) → o ≡ hops.result_of 0 b → u ≡ hops.result_of 0 b' → HopsSame k o u
  hops_refused l h o u a c = (counted a ∙ sym (counted c), refused l h (buffers_of_lem a) (buffers_of_lem c))

  hops_after : hops.enough g b ≡ true → hops.enough g b' ≡ true → (o u : hops.Result) → hops_laws.After g b o → hops_laws.After g b' u → HopsSame 0 o u
  hops_after w w' o u a c =
      let l = hops_refusals.fits_of g.bound (most_arcs_of g) (width g) b (and_right (whole_net g) _ w) in
      let l' = hops_refusals.fits_of g.bound (most_arcs_of g) (width g) b' (and_right (whole_net g) _ w') in
      let part = hops_part o.buffers.matrix u.buffers.matrix l.matrix l'.matrix a.0 c.0 in
      let rest = through (hops_used g.bound (most_arcs_of g) (width g)) (buffers_of_lem a.1) (buffers_of_lem c.1) (hops_left o.buffers.matrix u.buffers.matrix part) in
      (counted a.1 ∙ sym (counted c.1), ran (inl refl) rest)

  pub hops_memory : {e e' : hops.Buffers} {number number' p p' : ℕ} → hops.enough g b ≡ hops.enough g b' → hops.Promise g b e number p → hops.Promise g b' e' number' p'
      → (number ≡ number') × (p ≡ p') × LeaveSame (hops_used g.bound (most_arcs_of g) (width g)) number b b' e e'
  hops_memory {e} {e'} {number} {number'} {p} {p'} long x y =
      let z = beside HopsSame (hops.table g b) (hops.table g b') (hops.result_of p e) (hops.result_of p' e') number number'
      (alike refl long (hops_refused (omega arith) (omega arith))
      (λ w w'. alike refl refl (hops_refused (omega arith) (omega arith))
      (λ i i'. alike refl itself (hops_after w w') (λ u u'. tt))))
      x.follows y.follows in
      (z.0, z.1.0, z.1.1)

-- ---- buffers of equal lengths are long enough in both calls or in neither
abbrev AsLong : {A : Type 0} → List A → List A → Type 0
AsLong k l = length k ≡ length l

abbrev RowsAsLong : {W : Type 0} → Lists W → Lists W → Type 0
RowsAsLong s t = AsLong s.offsets t.offsets × AsLong s.heads t.heads × AsLong s.weights t.weights

abbrev MemoryAsLong : {K : Type 0} → Memory K → Memory K → Type 0
MemoryAsLong M N = AsLong M.dist N.dist × AsLong M.preds N.preds × AsLong M.peaks N.peaks × AsLong M.words N.words × AsLong M.keys N.keys

rows_lengths : {W : Type 0} (m a : ℕ) (s t : Lists W) → RowsAsLong s t → has_lists m a s ≡ has_lists m a t
unfolding has_lists
rows_lengths m a s t e = λ i. leb (m + 1) (e.0 i) && (leb a (e.1 i) && leb a (e.2 i))

memory_lengths : {K : Type 0} (m : ℕ) (M N : Memory K) → MemoryAsLong M N → has_memory m M ≡ has_memory m N
unfolding has_memory
memory_lengths m M N e = λ i. leb m (e.0 i) && (leb m (e.1 i) && (leb m (e.2 i) && (leb m (e.3 i) && leb m (e.4 i))))

pub dijkstra_lengths : (g : Net ℤ) (b c : dijkstra.Buffers) → RowsAsLong b.scratch.rows c.scratch.rows
    → MemoryAsLong (dijkstra.memory b) (dijkstra.memory c) → dijkstra.enough g b ≡ dijkstra.enough g c
unfolding dijkstra.long_enough
dijkstra_lengths g b c r m =
    λ i. whole_net g && (rows_lengths g.bound (most_arcs_of g) b.scratch.rows c.scratch.rows r i && memory_lengths g.bound (dijkstra.memory b) (dijkstra.memory c) m i)

pub a_star_lengths : (g : Net ℤ) (q : star.Question) (b c : star.Buffers) → AsLong b.path c.path → RowsAsLong b.scratch.rows c.scratch.rows
    → MemoryAsLong b.scratch.memory c.scratch.memory → star.enough g q b ≡ star.enough g q c
unfolding star.long_enough
a_star_lengths g q b c p r m =
    let rows = rows_lengths g.bound (most_arcs_of g) b.scratch.rows c.scratch.rows r in
    λ i. whole_net g && (leb g.bound (length q.guess) && (leb g.bound (p i) && (rows i && memory_lengths g.bound b.scratch.memory c.scratch.memory m i)))

pub bellman_ford_lengths : (g : Net ℤ) (b c : bellman.Buffers) → AsLong b.dist c.dist → RowsAsLong b.scratch.rows c.scratch.rows → AsLong b.scratch.queue c.scratch.queue
    → AsLong b.scratch.queued c.scratch.queued → AsLong b.scratch.lengths c.scratch.lengths → bellman.enough g b ≡ bellman.enough g c
unfolding bellman.long_enough
bellman_ford_lengths g b c d r q k l =
    let m = g.bound in
    λ i. whole_net g && (rows_lengths m (most_arcs_of g) b.scratch.rows c.scratch.rows r i && (leb m (d i) && (leb m (q i) && (leb m (k i) && leb m (l i)))))

pub dijkstra_path_lengths : (g : Net FloatCost) (b c : search.Buffers) → RowsAsLong b.rows c.rows → MemoryAsLong b.memory c.memory → search.enough g b ≡ search.enough g c
unfolding search.long_enough
dijkstra_path_lengths g b c r e = λ i. whole_net g && (rows_lengths g.bound (most_arcs_of g) b.rows c.rows r i && memory_lengths g.bound b.memory c.memory e i)

pub floyd_warshall_lengths : (g : Net ℤ) (m m' : List ℤ) (r r' : List ℕ) → AsLong m m' → AsLong r r' → floyd.enough g m r ≡ floyd.enough g m' r'
unfolding floyd.enough
floyd_warshall_lengths g m m' r r' p q = λ i. whole_net g && (leb g.bound (q i) && leb (square g) (p i))

pub johnson_lengths : (g : Net ℤ) (m m' : List ℤ) (s t : johnson.Scratch) → AsLong m m' → RowsAsLong s.rows t.rows → AsLong s.heights t.heights
    → MemoryAsLong s.memory t.memory → johnson.enough g m s ≡ johnson.enough g m' t
unfolding johnson.long_enough
johnson_lengths g m m' s t p r h e =
    λ i. whole_net g && (leb (square g) (p i) && (rows_lengths g.bound (most_arcs_of g) s.rows t.rows r i && (leb g.bound (h i) && memory_lengths g.bound s.memory t.memory e i)))

pub hops_lengths : {C : Type 0} (g : Net C) (b c : hops.Buffers) → AsLong b.nodes c.nodes → AsLong b.matrix c.matrix → AsLong b.offsets c.offsets → AsLong b.heads c.heads
    → AsLong b.labels c.labels → AsLong b.queue c.queue → hops.enough g b ≡ hops.enough g c
unfolding hops.long_enough
hops_lengths g b c n x o h l q =
    let m = g.bound in
    let p = width g in
    λ i. whole_net g && (leb p (n i) && (leb (p * p) (x i) && (leb (m + 1) (o i) && (leb (most_arcs_of g) (h i) && (leb m (l i) && leb (m + 1) (q i))))))
