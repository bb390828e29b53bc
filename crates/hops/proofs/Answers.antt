-- From what the parts gave to the promise: the answer by the ends alone is the answer of the map.
-- Assumes nothing.
use mathlib.Core.Path.{◌≡◌, refl, sym, ap, ◌∙◌, subst}
use mathlib.Core.Bool.{Bool, true}
use mathlib.Core.List.{List}
use Prim.Native.Nat.{ℕ, ◌+◌, ◌≤◌, ◌<◌}
use native.Mathlib.Omega.{arith}
use lib.ListN.{length, get_or, take}
use lib.Seq.{length-take-le, get_or-take}
use Rattle.numbers.specs.Numbers.{here, past}
use Rattle.clean.specs.Fill.{filled}
use Rattle.clean.proofs.Filled.{filled_same}
use Rattle.table.specs.Links.{Link, link_of, ends, inside as inside_link}
use Rattle.table.proofs.Laws.{Room, ends_at, ends_long, all_at, both_below}
use Rattle.table.proofs.Arcs.{ends_leads}
use Rattle.net.specs.declared.Lent.{Lent}
use Rattle.net.specs.Net.{Net, net_in, whole_net, inside_net, most_arcs_of}
use Rattle.net.proofs.Bounds.{Whole, whole_of, long_of}
use Rattle.hops.specs.Promise.{Buffers, buffers_of, result_of, Promise}
use Rattle.hops.specs.Parts.{refusal_no, net_ends, Ripe, Solved, Wiped, Answered}
use Rattle.hops.proofs.Refusals.{passed, passed_whole, passed_inside, passed_fits}
use Rattle.hops.proofs.Settles.{SameEnds, ends_back, inside_over, matrix_over}

-- ---- the scratch after the search, and cleared
module _ {m n : ℕ} {d : Bool} {marks xs ys : List ℕ} {b : Buffers} (r : Ripe m n d marks xs ys b) {a : ℕ} (is : a ≡ most_arcs_of (net_ends m n d marks xs ys)) {b₁ : Buffers} {p : ℕ}
    (v : Solved (net_ends m n d marks xs ys) b b₁ p) where
  module _ {o h l q : List ℕ} (w : Wiped m a b₁.offsets b₁.heads b₁.labels b₁.queue o h l q) where
    offsets_done : o ≡ filled (m + 1) 0 b.offsets
    offsets_done = w.offsets ∙ filled_same (m + 1) 0 b₁.offsets b.offsets v.offsets

    heads_done : h ≡ filled (most_arcs_of (net_ends m n d marks xs ys)) 0 b.heads
    heads_done = w.heads ∙ (ap (λ (k : ℕ). filled k 0 b₁.heads) is ∙ filled_same (most_arcs_of (net_ends m n d marks xs ys)) 0 b₁.heads b.heads v.heads)

    labels_done : l ≡ filled m 0 b.labels
    labels_done = w.labels ∙ filled_same m 0 b₁.labels b.labels v.labels

    queue_done : q ≡ filled (m + 1) 0 b.queue
    queue_done = w.queue ∙ filled_same (m + 1) 0 b₁.queue b.queue v.queue

    pub answered : Answered (net_ends m n d marks xs ys) b (buffers_of b₁.nodes b₁.matrix o h l q) p
    answered = record { count = v.count; matrix = v.matrix; left = λ i. buffers_of (v.nodes i) b₁.matrix (offsets_done i) (heads_done i) (labels_done i) (queue_done i) }

-- ---- a map of any kind, by what its costs list and the room that its slices leave
module _ {D C : Type 0} (listed : D → List C) (room : List ℕ → List ℕ → D → ℕ) (l : Lent D) (fits : Room (room l.from.now l.to.now l.costs) l.from.now l.to.now (length (listed l.costs))) where
  abbrev g : Net C
  g = net_in listed room l

  abbrev xs : List ℕ
  xs = l.from.now

  abbrev ys : List ℕ
  ys = l.to.now

  abbrev cs : List C
  cs = listed l.costs

  pub whole_map : whole_net g ≡ true → Whole g
  whole_map e = whole_of g xs ys cs fits refl e

  module _ (b : Buffers) (ok : 0 ≡ refusal_no g b) where
    whole : Whole g
    whole = whole_map (passed_whole g b (sym ok))

    long : (g.count ≤ length xs) × (g.count ≤ length ys) × (g.count ≤ length cs)
    long = long_of g xs ys cs fits refl (passed_whole g b (sym ok))

    same_ends : SameEnds g (net_ends g.bound g.count g.directed g.marks xs ys)
    same_ends = record {
      bound = refl;
      count = refl;
      directed = refl;
      has = λ i. refl;
      leads = λ u v. (λ w. (tt, (ends_leads g.directed xs ys cs g.count long.2 u v).1 w), λ w. (ends_leads g.directed xs ys cs g.count long.2 u v).0 w.1);
    }

    inside : inside_net (net_ends g.bound g.count g.directed g.marks xs ys) ≡ true
    inside = inside_over same_ends (passed_inside g b (sym ok))

    -- the ends of each link are below the bound
    below : (k : ℕ) → k < g.count → (get_or xs k 0 < g.bound) × (get_or ys k 0 < g.bound)
    below k h =
        let n = length-take-le g.count (ends xs ys) (ends_long xs ys g.count long.0 long.1) in
        let at = get_or-take g.count (ends xs ys) k (link_of 0 0 tt) h ∙ ends_at xs ys k (omega (arith, long.0)) (omega (arith, long.1)) in
        both_below g.bound g.marks (get_or xs k 0) (get_or ys k 0)
        (subst (λ (x : Link Unit). inside_link g.bound g.marks x ≡ true) at (all_at g.bound g.marks (take g.count (ends xs ys)) (link_of 0 0 tt) k (omega (arith, n)) inside))

    pub ripe_of : Ripe g.bound g.count g.directed g.marks xs ys b
    ripe_of = record {
      ready = record { indices = whole.indices; few = whole.links; in_from = long.0; in_to = long.1; tails = λ k h. (below k h).0; heads = λ k h. (below k h).1 };
      marked = whole.marked;
      inside = inside;
      fits = passed_fits g b (sym ok);
    }

    pub promised_of : {e : Buffers} {p : ℕ} → Answered (net_ends g.bound g.count g.directed g.marks xs ys) b e p → Promise g b e 0 p
    promised_of {e} a =
        let k = passed g b (sym ok) in
        record { follows = past k.0 (past k.1 (here tt (refl, (matrix_over (ends_back same_ends) b.matrix e.matrix a.matrix, λ i. result_of (a.count i) (a.left i))))) }
