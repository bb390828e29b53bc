-- Demand 3: answers go by the last accepted records alone. Directed and undirected, integer and f64 maps.
-- `SameFeeds` (crate table, specs/Feeds) says of two feeds: from count 0, the same bound, direction and present indices, m marks lent to both or to neither, and the
-- same last accepted record of each link, accepted being a record whose put gave 0.
-- `QUESTION-by-last-records`: the question, asked after the one and after the other with the same other inputs, gives the same number and the same values beside it.
-- What stood in an output or in the scratch before is no input: each call has its own buffers, only that they are long enough in both or too short in both, as buffers
-- of equal lengths are (`QUESTION-lengths` in Memory). The used parts that the two leave are the same; after 1 to 5 each leaves its buffers as lent (`LeaveSame`,
-- specs/Used).
-- `QUESTION-of-last-records`: what it promises after a feed is what it promises of the map that holds exactly the last accepted records, no more and no less; so the
-- definitions of demand 2 speak of those records.
-- `QUESTION-past-limits`, `put_past_limits`: where the bound is over 1,024 or fewer marks are lent than it says, every put and every question gives 1.
-- `refused_ints`, `refused_floats`: a record with an end that the map has not, put into a good table, gives 2 and leaves the table and the count. `unseen_ints`,
-- `unseen_floats`: a record that is refused, with whatever number and wherever in a feed, is no accepted record, and the others are accepted as without it.
-- That m marks are lent to both feeds or to neither is 01's "m marks": with m 1, marks 0 against none at all, no index is present in either map, and yet the limits are
-- kept with the one alone (`no_marks` in table, Small), so that every question gives 1 with the other. That no put gave 8 is not asked: such a record is refused like
-- any other.
-- The argument: such feeds leave maps that no question can tell apart (table, Demand3), each promise goes by the arcs alone (`promise_arcs` in the Settles of each
-- question), and what it lets a call leave in the part used does not go by what was lent (Memory).
-- Assumes nothing.
use mathlib.Core.Path.{◌≡◌, refl, sym, ap, ◌∙◌, subst}
use mathlib.Core.Bool.{Bool, false, cond}
use mathlib.Core.Logic.{◌↔◌}
use mathlib.Core.List.{List, [], ◌∷◌, ◌++◌}
use Prim.Native.Nat.{ℕ}
use native.Mathlib.Nat.{le_refl}
use native.Mathlib.Omega.{arith}
use borrow.Author.Tests.{ne_eqb}
use lib.Dec.{eqb}
use lib.IntN.{ℤ}
use lib.ListN.{length, take}
use lib.Seq.{take_all}
use Rattle.whole.proofs.Cases.{other}
use Rattle.float.specs.Cutoff.{Cutoff}
use Rattle.table.specs.Links.{Link, Place, zip3, Arc, inside, lent_whole}
use Rattle.table.specs.Lent.{room_ints, room_floats, float_costs, RawCost, ints_no, floats_no, Ints, ints_now, store_ints, put_ints, ints_put, Floats, floats_now, store_floats, put_floats, floats_put}
use Rattle.table.specs.Feeds.{Kind, ints, floats, Feed, feed, fed, lasts_of, accepted, HoldsLasts, SameFeeds, SameMaps}
use Rattle.table.proofs.Laws as table
use Rattle.table.proofs.Stores.{untouched_ints, untouched_floats}
use Rattle.table.proofs.Slices.{follows_ints, follows_floats}
use Rattle.table.proofs.Demand3.{limits, next_one, ints_hold_lasts, floats_hold_lasts, ints_same_maps, floats_same_maps}
use Rattle.net.specs.Net.{Net, net_of, net_of64, whole_net, most_arcs_of, width, SameNet}
use Rattle.net.proofs.Same.{same_back}
use Rattle.matrix.proofs.Settles as matrix_laws
use Rattle.dijkstra.specs.Promise as dijkstra
use Rattle.dijkstra.proofs.Settles as dijkstra_laws
use Rattle.a_star.specs.Promise as star
use Rattle.a_star.proofs.Settles as star_laws
use Rattle.bellman_ford.specs.Promise as bellman
use Rattle.bellman_ford.proofs.Settles as bellman_laws
use Rattle.floyd_warshall.specs.Promise as floyd
use Rattle.floyd_warshall.proofs.Settles as floyd_laws
use Rattle.johnson.specs.Promise as johnson
use Rattle.johnson.proofs.Settles as johnson_laws
use Rattle.hops.specs.Promise as hops
use Rattle.hops.proofs.Settles as hops_laws
use Rattle.dijkstra_path.specs.Promise as search
use Rattle.dijkstra_path.proofs.Settles as search_laws
use Rattle.page.specs.Promise as page
use Rattle.page.proofs.Settles as page_laws
use Rattle.promises.specs.Maps.{map_after, map_of_lasts}
use Rattle.promises.specs.Used.{LeaveSame, dijkstra_used, dijkstra_path_used, bellman_used, a_star_used, pairs_used, johnson_used, hops_used}
use Rattle.promises.proofs.Memory.{dijkstra_memory, a_star_memory, bellman_ford_memory, floyd_warshall_memory, johnson_memory, hops_memory, dijkstra_path_memory}

-- ---- the map after a feed is the one that the contracts of the questions make of the lent slices
pub ints_after : (f : Feed (Link ℤ) Ints) → let s = fed ints f in map_after ints f ≡ net_of f.bound s.count f.directed f.marks s.from s.to s.costs
ints_after f = refl

pub floats_after : (f : Feed (Link RawCost) Floats) → let s = fed floats f in map_after floats f ≡ net_of64 f.bound s.count f.directed f.marks s.from s.to s.bits s.opens
floats_after f = refl

-- ---- no question can tell the maps apart
module _ {C R S : Type 0} (k : Kind C R S) where
  -- after two feeds with the same last accepted records
  same_after : {f g : Feed R S} → SameMaps k f g → SameNet (map_after k f) (map_after k g)
  same_after s = record { bound = s.bound; count = s.count; directed = s.directed; has = s.has; whole = s.whole; arcs = s.arcs }

  -- after a feed, and the map of its last accepted records
  same_lasts : (f : Feed R S) → HoldsLasts k f → SameNet (map_after k f) (map_of_lasts k f)
  same_lasts f h =
      let n = length (lasts_of k f) in
      record {
        bound = refl;
        count = h.counted;
        directed = refl;
        has = λ i. refl;
        whole = h.limits ∙ sym (limits f.bound n n f.marks (le_refl n));
        arcs =
            subst (λ (l : List (Link C)). (u v : ℕ) (c : C) → Arc f.directed (take (k.count (fed k f)) (k.places (fed k f))) u v c ↔ Arc f.directed l u v c)
            (sym (take_all n (lasts_of k f) (le_refl n))) h.arcs;
      }

-- integer maps, and f64 maps
pub ints_same : {f g : Feed (Link ℤ) Ints} → SameFeeds ints f g → SameNet (map_after ints f) (map_after ints g)
ints_same {f} {g} s = same_after ints (ints_same_maps f g s)

pub floats_same : {f g : Feed (Link RawCost) Floats} → SameFeeds floats f g → SameNet (map_after floats f) (map_after floats g)
floats_same {f} {g} s = same_after floats (floats_same_maps f g s)

pub ints_lasts : (f : Feed (Link ℤ) Ints) → f.lent.count ≡ 0 → SameNet (map_after ints f) (map_of_lasts ints f)
ints_lasts f e = same_lasts ints f (ints_hold_lasts f e)

pub floats_lasts : (f : Feed (Link RawCost) Floats) → f.lent.count ≡ 0 → SameNet (map_after floats f) (map_of_lasts floats f)
floats_lasts f e = same_lasts floats f (floats_hold_lasts f e)

-- ---- each question after two such feeds, each call with its own buffers: the same answer and the same used parts
module _ {f g : Feed (Link ℤ) Ints} (same : SameFeeds ints f g) where
  pub dijkstra_by_last_records : {s : ℕ} {b b' e e' : dijkstra.Buffers} {number number' : ℕ} → dijkstra.enough (map_after ints f) b ≡ dijkstra.enough (map_after ints f) b'
      → dijkstra.Promise (map_after ints f) s b e number → dijkstra.Promise (map_after ints g) s b' e' number'
      → (number ≡ number') × LeaveSame (dijkstra_used f.bound (most_arcs_of (map_after ints f))) number b b' e e'
  dijkstra_by_last_records {s} {b} {b'} long p q = dijkstra_memory (map_after ints f) s b b' long p (dijkstra_laws.promise_arcs (same_back (ints_same same)) q)

  pub a_star_by_last_records : {q : star.Question} {b b' e e' : star.Buffers} {r r' : star.Answer} → star.enough (map_after ints f) q b ≡ star.enough (map_after ints f) q b'
      → star.Promise (map_after ints f) q b e r → star.Promise (map_after ints g) q b' e' r' → (r ≡ r') × LeaveSame (a_star_used f.bound (most_arcs_of (map_after ints f))) r.number b b' e e'
  a_star_by_last_records {q} {b} {b'} long p p' = a_star_memory (map_after ints f) q b b' long p (star_laws.promise_arcs (same_back (ints_same same)) q b' p')

  pub bellman_ford_by_last_records : {s : ℕ} {b b' e e' : bellman.Buffers} {number number' : ℕ} → bellman.enough (map_after ints f) b ≡ bellman.enough (map_after ints f) b'
      → bellman.Promise (map_after ints f) s b e number → bellman.Promise (map_after ints g) s b' e' number'
      → (number ≡ number') × LeaveSame (bellman_used f.bound (most_arcs_of (map_after ints f))) number b b' e e'
  bellman_ford_by_last_records {s} {b} {b'} long p q = bellman_ford_memory (map_after ints f) s b b' long p (bellman_laws.promise_arcs (same_back (ints_same same)) q)

  pub floyd_warshall_by_last_records : {m m' m₁ m₂ : List ℤ} {r r' r₁ r₂ : List ℕ} {number number' : ℕ} → floyd.enough (map_after ints f) m r ≡ floyd.enough (map_after ints f) m' r'
      → floyd.Promise (map_after ints f) m r m₁ r₁ number → floyd.Promise (map_after ints g) m' r' m₂ r₂ number'
      → (number ≡ number') × LeaveSame (pairs_used (width (map_after ints f)) (take f.bound)) number (m, r) (m', r') (m₁, r₁) (m₂, r₂)
  floyd_warshall_by_last_records {m} {m'} {r = r} {r' = r'} long p q = floyd_warshall_memory (map_after ints f) m m' r r' long p (floyd_laws.promise_arcs (same_back (ints_same same)) q)

  pub johnson_by_last_records : {m m' m₁ m₂ : List ℤ} {s s' s₁ s₂ : johnson.Scratch} {number number' : ℕ} → johnson.enough (map_after ints f) m s ≡ johnson.enough (map_after ints f) m' s'
      → johnson.Promise (map_after ints f) m s m₁ s₁ number → johnson.Promise (map_after ints g) m' s' m₂ s₂ number'
      → (number ≡ number') × LeaveSame (pairs_used (width (map_after ints f)) (johnson_used f.bound (most_arcs_of (map_after ints f)))) number (m, s) (m', s') (m₁, s₁) (m₂, s₂)
  johnson_by_last_records {m} {m'} {s = s} {s' = s'} long p q = johnson_memory (map_after ints f) m m' s s' long p (johnson_laws.promise_arcs (same_back (ints_same same)) q)

  pub hops_by_last_records : {b b' e e' : hops.Buffers} {number number' p p' : ℕ} → hops.enough (map_after ints f) b ≡ hops.enough (map_after ints f) b'
      → hops.Promise (map_after ints f) b e number p → hops.Promise (map_after ints g) b' e' number' p'
      → (number ≡ number') × (p ≡ p') × LeaveSame (hops_used f.bound (most_arcs_of (map_after ints f)) (width (map_after ints f))) number b b' e e'
  hops_by_last_records {b} {b'} long p q = hops_memory (map_after ints f) b b' long p (hops_laws.promise_arcs (same_back (ints_same same)) q)

  -- the page check is lent nothing to write
  pub page_by_last_records : {s : ℕ} {l : List ℤ} {a a' : page.Answer} → page.Promise (map_after ints f) s l a → page.Promise (map_after ints g) s l a' → a ≡ a'
  page_by_last_records p q = page_laws.same_answers (ints_same same) p q

module _ {f g : Feed (Link RawCost) Floats} (same : SameFeeds floats f g) where
  -- one promise for `dijkstra_path_impl` and `dijkstra_path_f64`, with any cutoff
  pub dijkstra_path_by_last_records : {s : ℕ} {k : Cutoff} {b b' e e' : search.Buffers} {number number' : ℕ} → search.enough (map_after floats f) b ≡ search.enough (map_after floats f) b'
      → search.Promise (map_after floats f) s k b e number → search.Promise (map_after floats g) s k b' e' number'
      → (number ≡ number') × LeaveSame (dijkstra_path_used f.bound (most_arcs_of (map_after floats f))) number b b' e e'
  dijkstra_path_by_last_records {s} {k} {b} {b'} long p q = dijkstra_path_memory (map_after floats f) s k b b' long p (search_laws.promise_arcs (same_back (floats_same same)) q)

  pub hops_f64_by_last_records : {b b' e e' : hops.Buffers} {number number' p p' : ℕ} → hops.enough (map_after floats f) b ≡ hops.enough (map_after floats f) b'
      → hops.Promise (map_after floats f) b e number p → hops.Promise (map_after floats g) b' e' number' p'
      → (number ≡ number') × (p ≡ p') × LeaveSame (hops_used f.bound (most_arcs_of (map_after floats f)) (width (map_after floats f))) number b b' e e'
  hops_f64_by_last_records {b} {b'} long p q = hops_memory (map_after floats f) b b' long p (hops_laws.promise_arcs (same_back (floats_same same)) q)

-- ---- and that answer is the one of the map that holds exactly the last accepted records
module _ (f : Feed (Link ℤ) Ints) (e : f.lent.count ≡ 0) where
  pub dijkstra_of_last_records : {s : ℕ} {b a : dijkstra.Buffers} {number : ℕ} → dijkstra.Promise (map_after ints f) s b a number ↔ dijkstra.Promise (map_of_lasts ints f) s b a number
  dijkstra_of_last_records = (λ p. dijkstra_laws.promise_arcs (ints_lasts f e) p, λ p. dijkstra_laws.promise_arcs (same_back (ints_lasts f e)) p)

  pub a_star_of_last_records : {q : star.Question} {b a : star.Buffers} {r : star.Answer} → star.Promise (map_after ints f) q b a r ↔ star.Promise (map_of_lasts ints f) q b a r
  a_star_of_last_records {q} {b} = (λ p. star_laws.promise_arcs (ints_lasts f e) q b p, λ p. star_laws.promise_arcs (same_back (ints_lasts f e)) q b p)

  pub bellman_ford_of_last_records : {s : ℕ} {b a : bellman.Buffers} {number : ℕ} → bellman.Promise (map_after ints f) s b a number ↔ bellman.Promise (map_of_lasts ints f) s b a number
  bellman_ford_of_last_records = (λ p. bellman_laws.promise_arcs (ints_lasts f e) p, λ p. bellman_laws.promise_arcs (same_back (ints_lasts f e)) p)

  pub floyd_warshall_of_last_records : {m m₁ : List ℤ} {r r₁ : List ℕ} {number : ℕ} → floyd.Promise (map_after ints f) m r m₁ r₁ number ↔ floyd.Promise (map_of_lasts ints f) m r m₁ r₁ number
  floyd_warshall_of_last_records = (λ p. floyd_laws.promise_arcs (ints_lasts f e) p, λ p. floyd_laws.promise_arcs (same_back (ints_lasts f e)) p)

  pub johnson_of_last_records : {m m₁ : List ℤ} {s s₁ : johnson.Scratch} {number : ℕ} → johnson.Promise (map_after ints f) m s m₁ s₁ number ↔ johnson.Promise (map_of_lasts ints f) m s m₁ s₁ number
  johnson_of_last_records = (λ p. johnson_laws.promise_arcs (ints_lasts f e) p, λ p. johnson_laws.promise_arcs (same_back (ints_lasts f e)) p)

  pub hops_of_last_records : {b a : hops.Buffers} {number p : ℕ} → hops.Promise (map_after ints f) b a number p ↔ hops.Promise (map_of_lasts ints f) b a number p
  hops_of_last_records = (λ p. hops_laws.promise_arcs (ints_lasts f e) p, λ p. hops_laws.promise_arcs (same_back (ints_lasts f e)) p)

  pub page_of_last_records : {s : ℕ} {l : List ℤ} {a : page.Answer} → page.Promise (map_after ints f) s l a ↔ page.Promise (map_of_lasts ints f) s l a
  page_of_last_records = (λ p. page_laws.promise_arcs (ints_lasts f e) p, λ p. page_laws.promise_arcs (same_back (ints_lasts f e)) p)

module _ (f : Feed (Link RawCost) Floats) (e : f.lent.count ≡ 0) where
  pub dijkstra_path_of_last_records : {s : ℕ} {k : Cutoff} {b a : search.Buffers} {number : ℕ}
      → search.Promise (map_after floats f) s k b a number ↔ search.Promise (map_of_lasts floats f) s k b a number
  dijkstra_path_of_last_records = (λ p. search_laws.promise_arcs (floats_lasts f e) p, λ p. search_laws.promise_arcs (same_back (floats_lasts f e)) p)

  pub hops_f64_of_last_records : {b a : hops.Buffers} {number p : ℕ} → hops.Promise (map_after floats f) b a number p ↔ hops.Promise (map_of_lasts floats f) b a number p
  hops_f64_of_last_records = (λ p. hops_laws.promise_arcs (floats_lasts f e) p, λ p. hops_laws.promise_arcs (same_back (floats_lasts f e)) p)

-- ---- where the bound is over its limit or the marks are too few: every put and every question gives 1
floyd_short : (g : Net ℤ) (m : List ℤ) (r : List ℕ) → whole_net g ≡ false → floyd.enough g m r ≡ false
unfolding floyd.enough
floyd_short g m r w = rw w

module _ (f : Feed (Link ℤ) Ints) (e : f.lent.count ≡ 0) (over : lent_whole f.bound 0 0 f.marks ≡ false) where
  not_whole : whole_net (map_after ints f) ≡ false
  not_whole = (ints_hold_lasts f e).limits ∙ over

  pub put_past_limits : (r : Link ℤ) → (ints_put f.directed f.bound f.marks r (fed ints f)).number ≡ 1
  put_past_limits r = next_one ints follows_ints f e r over

  pub dijkstra_past_limits : {s : ℕ} {b a : dijkstra.Buffers} {number : ℕ} → dijkstra.Promise (map_after ints f) s b a number → number ≡ 1
  dijkstra_past_limits p = (dijkstra_laws.promise_exactly p 1).1 (rw not_whole)

  pub a_star_past_limits : {q : star.Question} {b a : star.Buffers} {r : star.Answer} → star.Promise (map_after ints f) q b a r → r.number ≡ 1
  a_star_past_limits p = (star_laws.promise_exactly p 1).1 (rw not_whole)

  pub bellman_ford_past_limits : {s : ℕ} {b a : bellman.Buffers} {number : ℕ} → bellman.Promise (map_after ints f) s b a number → number ≡ 1
  bellman_ford_past_limits p = (bellman_laws.promise_exactly p 1).1 (rw not_whole)

  pub floyd_warshall_past_limits : {m m₁ : List ℤ} {r r₁ : List ℕ} {number : ℕ} → floyd.Promise (map_after ints f) m r m₁ r₁ number → number ≡ 1
  floyd_warshall_past_limits {m} {r = r} p = (matrix_laws.promise_exactly p 1).1 (floyd_short (map_after ints f) m r not_whole)

  pub johnson_past_limits : {m m₁ : List ℤ} {s s₁ : johnson.Scratch} {number : ℕ} → johnson.Promise (map_after ints f) m s m₁ s₁ number → number ≡ 1
  johnson_past_limits p = (matrix_laws.promise_exactly p 1).1 (rw not_whole)

  pub hops_past_limits : {b a : hops.Buffers} {number p : ℕ} → hops.Promise (map_after ints f) b a number p → number ≡ 1
  hops_past_limits p = (hops_laws.promise_exactly p 1).1 (rw not_whole)

  pub page_past_limits : {s : ℕ} {l : List ℤ} {a : page.Answer} → page.Promise (map_after ints f) s l a → a.number ≡ 1
  page_past_limits p = (page_laws.promise_exactly p 1).1 (rw not_whole)

module _ (f : Feed (Link RawCost) Floats) (e : f.lent.count ≡ 0) (over : lent_whole f.bound 0 0 f.marks ≡ false) where
  not_whole_f64 : whole_net (map_after floats f) ≡ false
  not_whole_f64 = (floats_hold_lasts f e).limits ∙ over

  pub put_f64_past_limits : (r : Link RawCost) → (floats_put f.directed f.bound f.marks r (fed floats f)).number ≡ 1
  put_f64_past_limits r = next_one floats follows_floats f e r over

  pub dijkstra_path_past_limits : {s : ℕ} {k : Cutoff} {b a : search.Buffers} {number : ℕ} → search.Promise (map_after floats f) s k b a number → number ≡ 1
  dijkstra_path_past_limits p = (search_laws.promise_exactly p 1).1 (rw not_whole_f64)

  pub hops_f64_past_limits : {b a : hops.Buffers} {number p : ℕ} → hops.Promise (map_after floats f) b a number p → number ≡ 1
  hops_f64_past_limits p = (hops_laws.promise_exactly p 1).1 (rw not_whole_f64)

-- ---- a record with an end that the map has not, put into a good table: 2, and the table and the count stay, so the feed goes on from them
module _ (d : Bool) (m : ℕ) (marks : List ℕ) (r : Link ℤ) (s : Ints) (good : ints_no m s.count marks s.from s.to s.costs ≡ 0) (f : inside m marks r ≡ false) where
  two_ints : (ints_put d m marks r s).number ≡ 2
  unfolding put_ints store_ints
  two_ints = ap (λ (p : Place). p.number) (sym (table.place_outside d m (room_ints s.from s.to s.costs) marks r.a r.b s.count (zip3 s.from s.to s.costs) good f))

  pub refused_ints : ints_put d m marks r s ≡ ints_now 2 s.count s.from s.to s.costs
  refused_ints =
      untouched_ints d m marks r s.count s.from s.to s.costs (λ z. other 2 0 two_ints z (λ y. omega arith))
      ∙ ap (λ (n : ℕ). ints_now n s.count s.from s.to s.costs) two_ints

module _ (d : Bool) (m : ℕ) (marks : List ℕ) (r : Link RawCost) (s : Floats) (good : floats_no m s.count marks s.from s.to s.bits s.opens ≡ 0) (f : inside m marks r ≡ false) where
  two_floats : (floats_put d m marks r s).number ≡ 2
  unfolding put_floats store_floats
  two_floats =
      ap (λ (p : Place). p.number)
      (sym (table.place_outside d m (room_floats s.from s.to s.bits s.opens) marks r.a r.b s.count (zip3 s.from s.to (float_costs s.bits s.opens)) good f))

  pub refused_floats : floats_put d m marks r s ≡ floats_now 2 s.count s.from s.to s.bits s.opens
  refused_floats =
      untouched_floats d m marks r s.count s.from s.to s.bits s.opens (λ z. other 2 0 two_floats z (λ y. omega arith))
      ∙ ap (λ (n : ℕ). floats_now n s.count s.from s.to s.bits s.opens) two_floats

-- ---- a record that is refused, with whatever number and wherever in a feed it stands: the accepted ones are those of the feed without it
module _ {R S : Type 0} (put : R → S → S) (number : S → ℕ) (stays : (r x : R) (s : S) → (number (put r s) ≡ 0 → ⊥) → put x (put r s) ≡ put x s) where
  unseen : (before after : List R) (r : R) (s : S) → (number (put r (feed put s before)) ≡ 0 → ⊥) → accepted put number s (before ++ (r ∷ after)) ≡ accepted put number s (before ++ after)
  unseen [] [] r s h = rw (ne_eqb (number (put r s)) 0 h)
  unseen [] (x ∷ after) r s h =
      ap (λ (t : Bool). cond t (r ∷ []) [] ++ accepted put number (put r s) (x ∷ after)) (ne_eqb (number (put r s)) 0 h)
      ∙ (λ i. cond (eqb (number (stays r x s h i)) 0) (x ∷ []) [] ++ accepted put number (stays r x s h i) after)
  unseen (y ∷ before) after r s h = ap (λ (l : List R). cond (eqb (number (put y s)) 0) (y ∷ []) [] ++ l) (unseen before after r (put y s) h)

module _ (d : Bool) (m : ℕ) (marks : List ℕ) where
  pub unseen_ints : (before after : List (Link ℤ)) (r : Link ℤ) (s : Ints) → ((ints_put d m marks r (feed (ints_put d m marks) s before)).number ≡ 0 → ⊥)
      → accepted (ints_put d m marks) (λ s. s.number) s (before ++ (r ∷ after)) ≡ accepted (ints_put d m marks) (λ s. s.number) s (before ++ after)
  unseen_ints = unseen (ints_put d m marks) (λ s. s.number) (λ r x s h. ap (ints_put d m marks x) (untouched_ints d m marks r s.count s.from s.to s.costs h))

  pub unseen_floats : (before after : List (Link RawCost)) (r : Link RawCost) (s : Floats) → ((floats_put d m marks r (feed (floats_put d m marks) s before)).number ≡ 0 → ⊥)
      → accepted (floats_put d m marks) (λ s. s.number) s (before ++ (r ∷ after)) ≡ accepted (floats_put d m marks) (λ s. s.number) s (before ++ after)
  unseen_floats = unseen (floats_put d m marks) (λ s. s.number) (λ r x s h. ap (floats_put d m marks x) (untouched_floats d m marks r s.count s.from s.to s.bits s.opens h))
