-- S7 and S8 of 01, and the map whose least total is hidden behind a cost below zero: the bag by computation, and so the answer, whatever buffers were lent.
-- Assumes nothing.
use mathlib.Core.Path.{◌≡◌, refl, sym, ap, ◌∙◌, subst}
use mathlib.Core.Bool.{true}
use mathlib.Core.List.{List, [], ◌∷◌, reverse}
use mathlib.Core.Option.{Option, none, some}
use Prim.Native.Nat.{ℕ}
use native.Mathlib.Omega.{arith}
use lib.IntN.{ℤ, pos, negsuc}
use lib.ListN.{length}
use Rattle.walks.specs.Chain.{Chain, source, via, passed}
use Rattle.pending.specs.Setting.{End}
use Rattle.pending.specs.Literal as Lit
use Rattle.pending.specs.Literal.{start, run}
use Rattle.pending.proofs.Literal.{run_ends}
use Rattle.table.specs.Links.{present, present_both, arcs_of}
use Rattle.net.specs.Net.{Net, net_of, ArcOf}
use Rattle.rows.specs.Rows.{rows_of}
use Rattle.a_star.specs.Promise.{Question, question_of, Answer, answer_of, Buffers, enough, is_fair, fair_at, Fine, search_of, Says, unreached, reached, result_of, with_path, Outcome, Promise}
use Rattle.a_star.specs.Given.{path_in}
use Rattle.a_star.proofs.Settles.{end_one, outcome_of}
use Rattle.a_star.proofs.Gives.{path_front}

-- the predecessors from v back to s, v first
pub data Back (pred : ℕ → Option ℕ) (s : ℕ) : ℕ → List ℕ → Type 0 where
  here : {v : ℕ} → v ≡ s → Back pred s v (v ∷ [])
  next : {v : ℕ} {l : List ℕ} (u : ℕ) → (v ≡ s → ⊥) → pred v ≡ some u → Back pred s u l → Back pred s v (v ∷ l)

-- a chain passes them
back_passed : {Arc : ℕ → ℕ → ℤ → Type 0} {o : ℕ} {dist : ℕ → Option ℤ} {pred : ℕ → Option ℕ} {v w : ℕ} {l : List ℕ} (c : Chain Arc o dist pred v) → Back pred o w l → v ≡ w → passed c ≡ l
back_passed (source e) (here f) q = ap (λ (x : ℕ). x ∷ []) q
back_passed (source e) (next u n p b) q = absurd (n (sym q ∙ e))
back_passed (via u n p k c) (here f) q = absurd (n (q ∙ f))
back_passed {pred = pred} (via u n p k c) (next u' n' p' b) q =
    let j : some u ≡ some u' = sym p ∙ ap pred q ∙ p' in
    let r = back_passed c b (cc) in
    λ i. q i ∷ r i

-- what the literal bag ends in, with a cost and a way back, is the answer
pub by_bag : {g : Net ℤ} {q : Question} {b e : Buffers} {r : Answer} → Promise g q b e r → Fine g q b → (x : End ℤ)
    → Lit.Ends (search_of q) (rows_of g) (Lit.start (search_of q)) x → (d : ℤ) (l : List ℕ)
    → x.number ≡ 0 → x.dist q.target ≡ some d → Back x.pred q.source q.target l
    → (r ≡ answer_of 0 d (length (reverse l))) × (path_in e r ≡ reverse l)
by_bag {g} {q} {b} {e} {r} promise w x y d l z n k = go (subst (λ (u : End ℤ). Says (ArcOf g) q u o.cost o.path) end o.says)
  where
    o : Outcome g q b (result_of r e)
    o = (outcome_of promise w).0

    end : o.end ≡ x
    end = end_one o.ends (record { run = y })

    number : r.number ≡ 0
    number = (outcome_of promise w).1 ∙ (ap (λ (u : End ℤ). u.number) end ∙ z)

    go : Says (ArcOf g) q x o.cost o.path → (r ≡ answer_of 0 d (length (reverse l))) × (path_in e r ≡ reverse l)
    go (unreached n' p i) = absurd (let j : none ≡ some d = sym n' ∙ n in let h : ◌≡◌ {A = ℕ} 0 1 = cc in omega arith)
    go (reached n' c i) =
        let j : some o.cost ≡ some d = sym n' ∙ n in
        let cost : o.cost ≡ d = cc in
        let path : o.path ≡ reverse l = i ∙ ap reverse (back_passed c k refl) in
        let is : result_of r e ≡ with_path g b d (reverse l) = o.leaves ∙ (λ t. with_path g b (cost t) (path t)) in
        (λ t. answer_of (number t) (is t).cost (is t).length, path_front e r o ∙ path)

-- ---- S7 and S8
-- their map
abbrev pub map7 : Net ℤ
map7 = net_of 3 3 true (1 ∷ 1 ∷ 1 ∷ []) (0 ∷ 0 ∷ 1 ∷ []) (2 ∷ 1 ∷ 2 ∷ []) (pos 10 ∷ pos 1 ∷ pos 1 ∷ [])

-- with the heuristic 0, 1, -100
abbrev pub ask7 : Question
ask7 = question_of 0 2 (pos 0 ∷ pos 1 ∷ negsuc 99 ∷ [])

-- with the heuristic 0, 1, 0
abbrev pub ask8 : Question
ask8 = question_of 0 2 (pos 0 ∷ pos 1 ∷ pos 0 ∷ [])

-- nothing is refused where the buffers are long enough
fine7 : {b : Buffers} → enough map7 ask7 b ≡ true → Fine map7 ask7 b
unfolding present present_both is_fair fair_at
fine7 e = record { enough = e; inside = refl; source = refl; target = refl; fair = refl }

-- so in S8
fine8 : {b : Buffers} → enough map7 ask8 b ≡ true → Fine map7 ask8 b
unfolding present present_both is_fair fair_at
fine8 e = record { enough = e; inside = refl; source = refl; target = refl; fair = refl }

-- what the bag ends in
end7 : (x : End ℤ) × Lit.Ends (search_of ask7) (rows_of map7) (Lit.start (search_of ask7)) x × (x.number ≡ 0) × (x.dist 2 ≡ some (pos 10)) × (x.pred 2 ≡ some 0)
unfolding start run arcs_of
end7 = (_, run_ends (search_of ask7) (rows_of map7) 9 _ _ refl, refl, refl, refl)

-- and in S8
end8 : (x : End ℤ) × Lit.Ends (search_of ask8) (rows_of map7) (Lit.start (search_of ask8)) x × (x.number ≡ 0) × (x.dist 2 ≡ some (pos 2)) × (x.pred 2 ≡ some 1) × (x.pred 1 ≡ some 0)
unfolding start run arcs_of
end8 = (_, run_ends (search_of ask8) (rows_of map7) 9 _ _ refl, refl, refl, refl, refl)

-- S7: cost 10, path 0 2
pub s7 : {b e : Buffers} {r : Answer} → Promise map7 ask7 b e r → enough map7 ask7 b ≡ true → (r ≡ answer_of 0 (pos 10) 2) × (path_in e r ≡ 0 ∷ 2 ∷ [])
s7 p e = by_bag p (fine7 e) end7.0 end7.1 (pos 10) (2 ∷ 0 ∷ []) end7.2 end7.3 (next 0 (λ z. omega (arith, z)) end7.4 (here refl))

-- S8: cost 2, path 0 1 2
pub s8 : {b e : Buffers} {r : Answer} → Promise map7 ask8 b e r → enough map7 ask8 b ≡ true → (r ≡ answer_of 0 (pos 2) 3) × (path_in e r ≡ 0 ∷ 1 ∷ 2 ∷ [])
s8 p e = by_bag p (fine8 e) end8.0 end8.1 (pos 2) (2 ∷ 1 ∷ 0 ∷ []) end8.2 end8.3 (next 1 (λ z. omega (arith, z)) end8.4 (next 0 (λ z. omega (arith, z)) end8.5 (here refl)))

-- ---- 0→1 5, 0→2 6, 2→1 −3, heuristic 0: cost 5, though 3 is least
-- the map
abbrev pub hidden : Net ℤ
hidden = net_of 3 3 true (1 ∷ 1 ∷ 1 ∷ []) (0 ∷ 0 ∷ 2 ∷ []) (1 ∷ 2 ∷ 1 ∷ []) (pos 5 ∷ pos 6 ∷ negsuc 2 ∷ [])

-- from 0 to 1
abbrev pub ask_hidden : Question
ask_hidden = question_of 0 1 (pos 0 ∷ pos 0 ∷ pos 0 ∷ [])

-- nothing is refused
fine_hidden : {b : Buffers} → enough hidden ask_hidden b ≡ true → Fine hidden ask_hidden b
unfolding present present_both is_fair fair_at
fine_hidden e = record { enough = e; inside = refl; source = refl; target = refl; fair = refl }

-- what the bag ends in
end_hidden : (x : End ℤ) × Lit.Ends (search_of ask_hidden) (rows_of hidden) (Lit.start (search_of ask_hidden)) x × (x.number ≡ 0) × (x.dist 1 ≡ some (pos 5)) × (x.pred 1 ≡ some 0)
unfolding start run arcs_of
end_hidden = (_, run_ends (search_of ask_hidden) (rows_of hidden) 9 _ _ refl, refl, refl, refl)

-- the arc below zero is not looked at
pub not_least : {b e : Buffers} {r : Answer} → Promise hidden ask_hidden b e r → enough hidden ask_hidden b ≡ true → (r ≡ answer_of 0 (pos 5) 2) × (path_in e r ≡ 0 ∷ 1 ∷ [])
not_least p e = by_bag p (fine_hidden e) end_hidden.0 end_hidden.1 (pos 5) (1 ∷ 0 ∷ []) end_hidden.2 end_hidden.3 (next 0 (λ z. omega (arith, z)) end_hidden.4 (here refl))
