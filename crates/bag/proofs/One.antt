-- How many pairs a bag holds goes by its content: with the pairs the contract of a push settles the count. The first index of a word is one.
-- Assumes nothing.
use mathlib.Core.Path.{◌≡◌, refl, sym, ap, ◌∙◌}
use mathlib.Core.Bool.{Bool, true, false}
use mathlib.Core.List.{List, [], ◌∷◌}
use Prim.Native.Nat.{ℕ, zero, suc, ◌≤◌}
use native.Mathlib.Omega.{arith}
use borrow.Author.Tests.{ltb-true, ltb-false}
use lib.Dec.{ltb}
use lib.ListN.{length}
use Rattle.bag.specs.Keys.{Keys}
use Rattle.bag.specs.Bag.{Bag}
use Rattle.bag.specs.Content.{entry, content_of, held}
use Rattle.bag.specs.Peaks.{FirstOf}

-- words with the same content have as many indices in the bag
held_one : {K : Type 0} (ps qs : List ℕ) (ks js : List K) → length ks ≡ length ps → length js ≡ length qs → content_of ps ks ≡ content_of qs js → held ps ≡ held qs
unfolding content_of held
held_one [] [] ks js l m e = refl
held_one [] (q ∷ qs) ks [] l m e = absurd (omega arith)
held_one [] (q ∷ qs) ks (j ∷ js) l m e = absurd (let z : ◌≡◌ {A = ℕ} 0 1 = cc in omega arith)
held_one (p ∷ ps) [] [] js l m e = absurd (omega arith)
held_one (p ∷ ps) [] (k ∷ ks) js l m e = absurd (let z : ◌≡◌ {A = ℕ} 0 1 = cc in omega arith)
held_one (p ∷ ps) (q ∷ qs) [] js l m e = absurd (omega arith)
held_one (p ∷ ps) (q ∷ qs) (k ∷ ks) [] l m e = absurd (omega arith)
held_one {K} (p ∷ ps) (q ∷ qs) (k ∷ ks) (j ∷ js) l m e =
    go p q (let h : entry p k ≡ entry q j = cc in h) (held_one ps qs ks js (omega (arith, l)) (omega (arith, m)) (let t : content_of ps ks ≡ content_of qs js = cc in t))
  where
    go : (p q : ℕ) → entry p k ≡ entry q j → held ps ≡ held qs → held (p ∷ ps) ≡ held (q ∷ qs)
    go zero zero h f = f
    go zero (suc q) h f = absurd (let z : ◌≡◌ {A = ℕ} 0 1 = cc in omega arith)
    go (suc p) zero h f = absurd (let z : ◌≡◌ {A = ℕ} 0 1 = cc in omega arith)
    go (suc p) (suc q) h f = ap suc f

pub count_one : {K : Type 0} {o : Keys K} {peaks words peaks' words' : List ℕ} {keys keys' : List K} {n n' : ℕ} → Bag o peaks words keys n → Bag o peaks' words' keys' n'
    → content_of words keys ≡ content_of words' keys' → n ≡ n'
count_one {words = words} {words' = words'} {keys = keys} {keys' = keys'} a b e = a.many ∙ (held_one words words' keys keys' a.long b.long e ∙ sym b.many)

-- of two that are the first neither stands before the other
no_later : {l : List ℕ} {i n w r s : ℕ} → FirstOf l i n w r → FirstOf l i n w s → (t : Bool) → ltb s r ≡ t → r ≤ s
no_later {r = r} {s = s} p q true e = absurd (let h = ltb-true s r e in p.no_sooner s q.from (omega arith) q.is)
no_later {r = r} {s = s} p q false e = let h = ltb-false s r e in omega arith

pub first_one : {l : List ℕ} {i n w r s : ℕ} → FirstOf l i n w r → FirstOf l i n w s → r ≡ s
first_one {r = r} {s = s} p q = let a = no_later p q (ltb s r) refl in let b = no_later q p (ltb r s) refl in omega arith
