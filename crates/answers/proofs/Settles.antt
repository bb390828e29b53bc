-- Two texts that are allowed for an engine on a map are equal: its promise settles the number and the buffers, and these the text.
-- Assumes nothing.
use mathlib.Core.Path.{◌≡◌, sym, ap, ◌∙◌}
use mathlib.Core.List.{List}
use Prim.Native.Nat.{ℕ, ◌+◌}
use lib.ListN.{length}
use Rattle.lines.specs.Text.{placed}
use lib.IntN.{ℤ}
use Rattle.table.specs.declared.FloatCost.{FloatCost}
use Rattle.net.specs.Net.{Net}
use Rattle.dijkstra.proofs.Settles as dijkstra_laws
use Rattle.bellman_ford.proofs.Settles as bellman_laws
use Rattle.a_star.specs.Promise as star
use Rattle.a_star.proofs.Settles as star_laws
use Rattle.floyd_warshall.proofs.Settles as floyd_laws
use Rattle.johnson.proofs.Settles as johnson_laws
use Rattle.hops.proofs.Settles as hops_laws
use Rattle.dijkstra_path.proofs.Settles as path_laws
use Rattle.answers.specs.Answers.{Written, Shown, Dijkstra, BellmanFord, AStar, FloydWarshall, Johnson, Hops, DijkstraPath}

-- what settles the number and what is left settles the text
shown_one : {X : Type 0} {gives : ℕ → X → Type 0} {lines : X → List ℕ} {t t' : List ℕ} → ((number number' : ℕ) (x y : X) → gives number x → gives number' y → (number ≡ number') × (x ≡ y))
    → Shown gives lines t → Shown gives lines t' → t ≡ t'
shown_one one x y = let p = one x.number y.number x.left y.left x.promise y.promise in x.says ∙ rw (p.0, p.1) (sym y.says)

-- each engine
module _ {t t' : List ℕ} where
  pub dijkstra_one : {g : Net ℤ} {s : ℕ} → Dijkstra g s t → Dijkstra g s t' → t ≡ t'
  dijkstra_one = shown_one (λ n n' x y p q. dijkstra_laws.promise_one p q)

  pub bellman_ford_one : {g : Net ℤ} {s : ℕ} → BellmanFord g s t → BellmanFord g s t' → t ≡ t'
  bellman_ford_one = shown_one (λ n n' x y p q. bellman_laws.promise_one p q)

  pub a_star_one : {g : Net ℤ} {s e : ℕ} → AStar g s e t → AStar g s e t' → t ≡ t'
  a_star_one = shown_one (λ n n' x y p q. let o = star_laws.promise_one p q in (ap (λ (r : star.Answer). r.number) o.0, λ i. ((o.0 i).cost, (o.0 i).length, o.1 i)))

  pub floyd_warshall_one : {g : Net ℤ} → FloydWarshall g t → FloydWarshall g t' → t ≡ t'
  floyd_warshall_one = shown_one (λ n n' x y p q. let o = floyd_laws.promise_one p q in (o.0, λ i. (o.1 i, o.2 i)))

  pub johnson_one : {g : Net ℤ} → Johnson g t → Johnson g t' → t ≡ t'
  johnson_one = shown_one (λ n n' x y p q. let o = johnson_laws.promise_one p q in (o.0, λ i. (o.1 i, o.2 i)))

  pub hops_one : {C : Type 0} {g : Net C} → Hops g t → Hops g t' → t ≡ t'
  hops_one = shown_one (λ n n' x y p q. let o = hops_laws.promise_one p q in (o.0, λ i. (o.1 i, o.2 i)))

  pub dijkstra_path_one : {g : Net FloatCost} {s : ℕ} → DijkstraPath g s t → DijkstraPath g s t' → t ≡ t'
  dijkstra_path_one = shown_one (λ n n' x y p q. path_laws.promise_one p q)

-- so what is printed at a place is settled: the bytes and where they end
pub written_one : {P : List ℕ → Type 0} {out after after' : List ℕ} {at stop stop' : ℕ} → ((t t' : List ℕ) → P t → P t' → t ≡ t') → Written P out at after stop → Written P out at after' stop'
    → (after ≡ after') × (stop ≡ stop')
written_one {out = out} {at = at} one x y =
    let e = one x.text y.text x.allowed y.allowed in
    (x.printed.bytes ∙ ap (placed out at) e ∙ sym y.printed.bytes, x.printed.ends ∙ ap (λ (t : List ℕ). at + length t) e ∙ sym y.printed.ends)
