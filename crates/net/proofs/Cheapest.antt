-- Every path of a map has a total with the cheapest arcs: a table has finitely many links, so of the arcs between two indices one is cheapest.
-- Assumes nothing.
use mathlib.Core.Path.{◌≡◌, refl}
use mathlib.Core.Bool.{Bool, true, false}
use mathlib.Core.List.{List, [], ◌∷◌, reverse}
use mathlib.Core.Logic.{inl, inr, ⊎_elim}
use Prim.Native.Nat.{ℕ}
use lib.IntN.{ℤ}
use Rattle.whole.proofs.Cases.{clash}
use Rattle.table.specs.Links.{Link, joins, Arc}
use Rattle.walks.specs.Chain.{Path, Cheapest}
use Rattle.walks.proofs.Cheapest.{NoneOrCheapest, HasCheapest, one_more, path_total}
use Rattle.net.specs.Net.{Net, links_of, ArcOf}

module _ (d : Bool) (u v : ℕ) where
  -- of the arcs from u to v there is none, or a cheapest: link by link
  none_or_cheapest : (ls : List (Link ℤ)) → NoneOrCheapest (Arc d ls) u v
  none_or_cheapest [] = inl (λ c a. a)
  none_or_cheapest (l ∷ ls) = go (joins d u v l) refl (none_or_cheapest ls)
    where
      -- a link that does not join them adds none
      others : joins d u v l ≡ false → (c : ℤ) → Arc d (l ∷ ls) u v c → Arc d ls u v c
      others e c = elim [ inl a ↦ absurd (clash a.0 e) | inr a ↦ a ]

      go : (j : Bool) → joins d u v l ≡ j → NoneOrCheapest (Arc d ls) u v → NoneOrCheapest (Arc d (l ∷ ls)) u v
      go false e (inl f) = inl (λ c a. f c (others e c a))
      go false e (inr k) = inr (k.0, record { arc_is = inr k.1.arc_is; lowest = λ c a. k.1.lowest c (others e c a) })
      go true e k = inr (one_more (Arc d ls) (Arc d (l ∷ ls)) u v l.cost (inl (e, refl)) (λ b a. inr a) (λ b. ⊎_elim (λ a. inl a.1) (λ a. inr a)) k)

-- each arc has a cheapest beside it
pub arc_cheapest : (g : Net ℤ) (u v : ℕ) (c : ℤ) → ArcOf g u v c → HasCheapest (ArcOf g) u v
arc_cheapest g u v c a = ⊎_elim (λ f. absurd (f c a)) (λ k. k) (none_or_cheapest g.directed u v (links_of g))

-- so each path has a total
pub net_path_total : (g : Net ℤ) {s v : ℕ} {l : List ℕ} → Path (ArcOf g) s v l → (t : ℤ) × Cheapest (ArcOf g) (reverse l) t
net_path_total g p = path_total (arc_cheapest g) p
