-- `dimetumble::dimetumble_dijkstra` meets its contract: what the question leaves in its structs the slices hold, one by one.
-- Assumes nothing.
use Rattle.std.proofs.Common.{rules, ◌≡◌, ℕ, ℤ, List}
use Rattle.net.specs.Net.{Net}
use Rattle.dijkstra.specs.Promise.{Promise, Buffers, buffers_of}
use Rattle.dimetumble.proofs.dimetumble_dijkstra.Goals as goal

held : (g : Net ℤ) (s n n' : ℕ) (b : Buffers) (d d' w w' k k' : List ℤ) (o o' h h' p p' q q' i i' : List ℕ)
    → n' ≡ n → d' ≡ d → o' ≡ o → h' ≡ h → w' ≡ w → p' ≡ p → q' ≡ q → i' ≡ i → k' ≡ k
    → Promise g s b (buffers_of d o h w p q i k) n → Promise g s b (buffers_of d' o' h' w' p' q' i' k') n'
held g s n n' b d d' w w' k k' o o' h h' p p' q q' i i' r e1 e2 e3 e4 e5 e6 e7 e8 promise = rw (r, e1, e2, e3, e4, e5, e6, e7, e8) promise

pub returns : goal.returns
returns c =
    held _ _ _ _ _ _ _ _ _ _ _ _ _ _ _ _ _ _ _ _ _ c.number.ensures (search rules) (search rules) (search rules) (search rules) (search rules) (search rules)
    (search rules) (search rules) c.dijkstra.ensures.promise
