-- The parts of the call put together. The neighbour list's arcs are the map's, so the search over it is the one that was asked for. Its end gives the target a
-- distance only with a chain of predecessors back to the source (A*'s answer), which has fewer arcs than the map has indices (no index twice): going back by the
-- predecessors reaches the source in time, and what is written is that chain.
-- Assumes nothing.
use mathlib.Core.Path.{◌≡◌, refl, sym, ap, ◌∙◌, subst}
use mathlib.Core.Bool.{Bool, true, false}
use mathlib.Core.List.{List, [], reverse}
use mathlib.Core.Option.{Option, none, some}
use Prim.Native.Nat.{ℕ, suc, ◌-◌, ◌≤◌, ◌<◌}
use native.Mathlib.Omega.{arith}
use borrow.Author.Tests.{lt-ltb}
use lib.IntN.{ℤ, pos}
use lib.Signed.{lt_z, ◌≤ℤ◌}
use lib.ListN.{length, get_or, take}
use lib.Seq.{get_or-take, length-take-le}
use Rattle.whole.specs.Zed.{◌⊕◌, zed}
use Rattle.whole.proofs.Cases.{clash}
use Rattle.clean.specs.None.{none_i64, none_u32, shown}
use Rattle.clean.specs.Fill.{filled}
use Rattle.walks.specs.Walk.{Walk, stay, step}
use Rattle.walks.specs.Chain.{Chain, passed, hops}
use Rattle.walks.proofs.Chain.{hops_few}
use Rattle.walks.specs.Costs.{Costs32}
use Rattle.bag.specs.Order.{pick}
use Rattle.pending.specs.Setting.{Setting, End}
use Rattle.pending.specs.Setting as Set
use Rattle.pending.specs.OnePlace.{Cell, begin, Ends, empty, wrong, more}
use Rattle.pending.specs.OnePlace as Bag
use Rattle.pending.specs.Ints.{whole}
use Rattle.pending.specs.Answers.{AStarAnswer}
use Rattle.pending.proofs.Ints.{lt_is, lt_isnt}
use Rattle.pending.proofs.Whole.{dist_has, Final, rested, arrived, stopped, begin_inv, final}
use Rattle.pending.proofs.One.{ends_map}
use Rattle.pending.proofs.AStar.{a_star_answer}
use Rattle.table.specs.Links.{links, Arc}
use Rattle.net.specs.Net.{Net, net_of, ArcOf, has, nodes_of, width, most_arcs}
use Rattle.net.proofs.Nodes.{has_below, width_most, present_in}
use Rattle.net.proofs.Bounds.{whole_ints}
use Rattle.net.proofs.Same.{arc_has, arc_below}
use Rattle.rows.specs.Rows.{Lists, arcs_ints, Ready, EnoughFor, Rows}
use Rattle.rows.specs.RowArc.{RowArc}
use Rattle.rows.proofs.Kept.{lists_kept, wiped_rows}
use Rattle.rows.proofs.Maps.{ready_ints, net_room, arcs_are, net_sound, net_kept, row_small}
use Rattle.turns.specs.Memory.{Memory, Shows}
use Rattle.search.specs.Ints.{key_of, target_of, asked_of, setting_of, Fair, Fit}
use Rattle.turns.specs.Firsts.{firsts, EnoughMemory}
use Rattle.turns.proofs.Firsts.{memory_enough}
use Rattle.search.specs.Runs.{Ran}
use Rattle.search.proofs.Runs.{shown_pred}
use Rattle.search.proofs.Lists.{wiped_memory_lem}
use Rattle.a_star.specs.Promise.{Question, question_of, Answer, answer_of, Scratch, Buffers, fair_guess, Fine, at_front, wiped_all, search_of, Says, unreached, reached, result_of, Outcome}
use Rattle.a_star.specs.Trail.{GoesBack}
use Rattle.a_star.specs.Parts.{EnoughScratch, CanSeek, Ripe, Sought, without, given, Told, path_back, Read, refused, nowhere, found, Solved}
use Rattle.a_star.proofs.Path.{chain_back, chain_trail}
use Rattle.a_star.proofs.Refusals.{fair_of, fair_where, fine_whole, fine_long}
use Rattle.a_star.proofs.Literal.{literal_exactly}

-- ---- the search that was asked for
key_is : (h : List ℤ) → key_of h ≡ (λ d v. d ⊕ get_or h v (pos 0))
unfolding key_of
key_is h = refl

-- an index below m is a target
target_is : (m t : ℕ) → t < m → target_of m t ≡ some t
unfolding target_of
target_is m t l = ap (λ (b : Bool). pick b (some t) none) (lt-ltb t m l)

-- so the search is the one of the question
setting_is : (m s t : ℕ) (h : List ℤ) → t < m → setting_of (asked_of m s t h) ≡ search_of (question_of s t h)
setting_is m s t h l = λ i. whole (key_is h i) (target_is m t l i) s

-- a heuristic is fair at each index that the map has
guess_fair : (g : Net ℤ) (h : List ℤ) → fair_guess g h ≡ true → (v : ℕ) → has g v ≡ true → Fair h v
guess_fair g h e v p = fair_of h v (fair_where (has g) h g.bound v e (has_below g v p) p)

-- ---- making the list and searching
module _ {m n : ℕ} {d : Bool} {xs ys : List ℕ} {cs : List ℤ} {s t : ℕ} {h : List ℤ} {b : Scratch} (w : CanSeek m n d xs ys cs (question_of s t h) b) where
  -- the map, by some marks
  abbrev g : Net ℤ
  g = net_of m n d w.ripe.marks xs ys cs

  -- nothing is refused
  abbrev fine : Fine g (question_of s t h) (record { path = w.path; scratch = b })
  fine = w.ripe.fine

  -- the neighbour list can be made
  pub can_place_lem : Ready m n xs ys × (n ≤ length cs)
  can_place_lem = ready_ints m n d w.ripe.marks xs ys cs (fine_whole fine) fine.inside

  -- there is room for it
  pub place_room : EnoughFor (arcs_ints d n xs ys cs) m b.rows
  place_room = net_room g (fine_long fine).rows

  -- and for the search
  pub search_room : EnoughMemory m b.memory
  search_room = (fine_long fine).memory

  module _ {nb : Lists ℤ} (r : Rows (arcs_ints d n xs ys cs) m b.rows nb) (small : Costs32 (Arc d (links n xs ys cs))) where
    -- each head is an index that the map has
    row_has : (u v : ℕ) (c : ℤ) → RowArc m nb u v c → has g v ≡ true
    row_has u v c a = (arc_has g fine.inside u v c ((arcs_are g fine.inside r u v c).0 a)).1

    -- it fits the search
    pub fit : Fit (asked_of m s t h) nb
    fit = record {
      rows = net_sound g fine.inside r (whole_ints m n d w.ripe.marks xs ys cs (fine_whole fine)).indices place_room;
      source = has_below g s fine.source;
      first = guess_fair g h fine.fair s fine.source;
      fair = λ u v c a. guess_fair g h fine.fair v (row_has u v c a);
      cheap = λ u v c a. omega (arith, row_small d (links n xs ys cs) r small u v c a);
    }

    -- and the search over it is the one over the map
    pub sought : {M : Memory ℤ} {number takes : ℕ} → Ran (asked_of m s t h) nb b.memory M number takes
        → Sought (Arc d (links n xs ys cs)) m (most_arcs d n) (question_of s t h) b (record { rows = nb; memory = M }) number
    sought z = record {
      end = z.searched.end;
      ends =
          ends_map (search_of (question_of s t h)) (RowArc m nb) (ArcOf g) (λ u v c. (arcs_are g fine.inside r u v c).0) (λ u v c. (arcs_are g fine.inside r u v c).1)
          (subst (λ (S : Setting ℤ ℤ). Ends S (RowArc m nb) (begin S) 0 z.searched.end) (setting_is m s t h (has_below g t fine.target)) z.searched.ends);
      is = z.searched.is;
      shows = z.searched.shows;
      rows = net_kept g fine.inside r;
      memory = z.kept;
    }

-- ---- what the end of a search has
-- an end without 0 is that of a cost below zero
pub end_refused : {S : Setting ℤ ℤ} {Arc : ℕ → ℕ → ℤ → Type 0} {s : ℕ → Cell ℤ} {n : ℕ} {x : End ℤ} → Ends S Arc s n x → (x.number ≡ 0 → ⊥) → (k : ℕ) × (x ≡ Set.refused k)
end_refused (empty f) z = absurd (z refl)
end_refused (Bag.found u d p t f) z = absurd (z refl)
end_refused {n = n} (wrong u d p t f v c a h) z = (suc n, refl)
end_refused (more w r) z = end_refused r z

module _ {Arc : ℕ → ℕ → ℤ → Type 0} (q : Question) {x : End ℤ} (ends : Ends (search_of q) Arc (begin (search_of q)) 0 x) where
  -- what the pending bag's end says of walks
  pub answered : AStarAnswer Arc (λ v. get_or q.guess v (pos 0)) q.source q.target x
  answered = a_star_answer Arc (λ v. get_or q.guess v (pos 0)) q.source q.target ends

  -- how the search ended
  ended : Final (λ d v. d ⊕ get_or q.guess v (pos 0)) (some q.target) q.source Arc x
  ended = final (λ d v. d ⊕ get_or q.guess v (pos 0)) (some q.target) q.source Arc (begin_inv (λ d v. d ⊕ get_or q.guess v (pos 0)) (some q.target) q.source Arc) ends

  -- a distance is not below zero, and is the total of a walk
  pub record Got (v : ℕ) (d : ℤ) : Type 0 where
    pub up : pos 0 ≤ℤ d
    pub walk : Walk Arc q.source v d

  -- of each distance
  pub got : (v : ℕ) (d : ℤ) → x.dist v ≡ some d → Got v d
  got v d = go ended
    where
      go : {y : End ℤ} → Final (λ d v. d ⊕ get_or q.guess v (pos 0)) (some q.target) q.source Arc y → y.dist v ≡ some d → Got v d
      go (rested s n i f) e = let k = dist_has (s v) d e in record { up = i.up v d k.0 k.1; walk = i.walk v d k.0 k.1 }
      go (arrived s n u c p i f j) e = let k = dist_has (s v) d e in record { up = i.up v d k.0 k.1; walk = i.walk v d k.0 k.1 }
      go (stopped n u c y k f j l) e = absurd (let z : ◌≡◌ {A = ℕ} 0 1 = cc in omega arith)

-- an end with a distance has 0
pub some_zero : {S : Setting ℤ ℤ} {Arc : ℕ → ℕ → ℤ → Type 0} {s : ℕ → Cell ℤ} {n : ℕ} {x : End ℤ} {v : ℕ} {d : ℤ} → Ends S Arc s n x → x.dist v ≡ some d → x.number ≡ 0
some_zero (empty f) e = refl
some_zero (Bag.found u d p t f) e = refl
some_zero (wrong u d p t f v c a h) e = absurd (let z : ◌≡◌ {A = ℕ} 0 1 = cc in omega arith)
some_zero (more w r) e = some_zero r e

-- a walk from an index that the map has ends at one
pub walk_has : (g : Net ℤ) → ((u v : ℕ) (c : ℤ) → ArcOf g u v c → has g v ≡ true) → {u v : ℕ} {t : ℤ} → Walk (ArcOf g) u v t → has g u ≡ true → has g v ≡ true
walk_has g f (stay e) h = h
walk_has g f (step {u} {v} {c = c} a w e) h = walk_has g f w (f u v c a)

-- ---- reading the answer off
-- a lent distance shows whether there is one
given_none : (ds : List ℤ) (v : ℕ) → get_or ds v none_i64 ≡ none_i64 → given ds v ≡ false
unfolding given
given_none ds v e = ap (lt_z none_i64) e ∙ lt_isnt none_i64 none_i64 (omega (arith, zed))

-- or that there is one
given_some : (ds : List ℤ) (v : ℕ) (d : ℤ) → get_or ds v none_i64 ≡ d → pos 0 ≤ℤ d → given ds v ≡ true
unfolding given
given_some ds v d e u = ap (lt_z none_i64) e ∙ lt_is none_i64 d (omega (arith, zed))

module _ (g : Net ℤ) (q : Question) {b : Buffers} (w : Fine g q b) {x : End ℤ} (ends : Ends (search_of q) (ArcOf g) (begin (search_of q)) 0 x) where
  -- the indices are below m
  abbrev m : ℕ
  m = g.bound

  -- the target is
  target_in : q.target < m
  target_in = has_below g q.target w.target

  -- an index with a distance is one that the map has, so a chain has fewer arcs than p
  pub chain_few : (d : ℤ) → x.dist q.target ≡ some d → (c : Chain (ArcOf g) q.source x.dist x.pred q.target) → hops c < width g
  chain_few d e c = hops_few (nodes_of g) (λ v y p. present_in g v (walk_has g (λ u z k a. (arc_has g w.inside u z k a).1) (got q ends v y p).walk w.source)) d e c

  -- the lists after the search
  module _ (M : Memory ℤ) (long_preds : m ≤ length M.preds) (shows : Shows none_i64 x (firsts m M)) where
    -- the target's distance, read
    dist_is : get_or M.dist q.target none_i64 ≡ shown none_i64 (x.dist q.target)
    dist_is = sym (get_or-take m M.dist q.target none_i64 target_in) ∙ shows.dist q.target

    -- m predecessors
    long : length (take m M.preds) ≡ m
    long = length-take-le m M.preds long_preds

    -- each arc leaves one of them
    tails : (u v : ℕ) (c : ℤ) → ArcOf g u v c → u < length (take m M.preds)
    tails u v c a = omega (arith, long, (arc_below g w.inside u v c a).0)

    -- each predecessor, read
    reads : (v u : ℕ) → v < length (take m M.preds) → x.pred v ≡ some u → get_or (take m M.preds) v 0 ≡ u
    reads = shown_pred {M = firsts m M} shows

    module _ (d : ℤ) (e : x.dist q.target ≡ some d) (c : Chain (ArcOf g) q.source x.dist x.pred q.target) where
      -- the chain has fewer than m arcs
      hops_left : hops c ≤ m - 1
      hops_left = omega (arith, chain_few d e c, width_most g)

      -- the target has a predecessor entry
      target_long : q.target < length (take m M.preds)
      target_long = omega (arith, long, target_in)

      -- going back along it reaches the source
      back_in_time : GoesBack (take m M.preds) q.source (m - 1) q.target
      back_in_time = chain_back (take m M.preds) tails reads (m - 1) target_long c hops_left

      -- and gives the chain, its first index first
      path_is : path_back m M.preds q.source q.target ≡ reverse (passed c)
      path_is = chain_trail (take m M.preds) tails reads (m - 1) target_long c hops_left

    -- so going back from a target with a distance reaches the source
    pub goes_back : x.number ≡ 0 → given M.dist q.target ≡ true → GoesBack (take m M.preds) q.source (m - 1) q.target
    goes_back z y = go (x.dist q.target) refl
      where
        go : (o : Option ℤ) → x.dist q.target ≡ o → GoesBack (take m M.preds) q.source (m - 1) q.target
        go none e = absurd (clash y (given_none M.dist q.target (dist_is ∙ ap (shown none_i64) e)))
        go (some d) e = back_in_time d e ((answered q ends).chain z d e)

    -- a target with a distance
    pub says_found : x.number ≡ 0 → given M.dist q.target ≡ true
        → Says (ArcOf g) q x (get_or M.dist q.target none_i64) (path_back m M.preds q.source q.target)
    says_found z y = go (x.dist q.target) refl
      where
        go : (o : Option ℤ) → x.dist q.target ≡ o → Says (ArcOf g) q x (get_or M.dist q.target none_i64) (path_back m M.preds q.source q.target)
        go none e = absurd (clash y (given_none M.dist q.target (dist_is ∙ ap (shown none_i64) e)))
        go (some d) e =
            let c = (answered q ends).chain z d e in
            let k : get_or M.dist q.target none_i64 ≡ d = dist_is ∙ ap (shown none_i64) e in
            reached (e ∙ ap some (sym k)) c (path_is d e c)

    -- and one without
    pub says_nowhere : given M.dist q.target ≡ false → Says (ArcOf g) q x none_i64 []
    says_nowhere y = go (x.dist q.target) refl
      where
        go : (o : Option ℤ) → x.dist q.target ≡ o → Says (ArcOf g) q x none_i64 []
        go none e = unreached e refl refl
        go (some d) e = absurd (clash (given_some M.dist q.target d (dist_is ∙ ap (shown none_i64) e) (got q ends q.target d e).up) y)

  -- a search that was refused
  pub says_bad : (x.number ≡ 0 → ⊥) → Says (ArcOf g) q x none_i64 []
  says_bad f = unreached (ap (λ (y : End ℤ). y.dist q.target) (end_refused ends f).1) refl refl

-- no path written
front_none : (p : List ℕ) → p ≡ at_front [] p
unfolding at_front
front_none p = refl

-- ---- the whole call
module _ {m n : ℕ} {d : Bool} {xs ys : List ℕ} {cs : List ℤ} {q : Question} {b : Buffers} (w : Ripe m n d xs ys cs q b) where
  -- the map, by some marks
  abbrev h : Net ℤ
  h = net_of m n d w.marks xs ys cs

  -- it keeps the limits
  pub few_indices : m ≤ 1024
  few_indices = (whole_ints m n d w.marks xs ys cs (fine_whole w.fine)).indices

  -- of indices and of links
  pub few_links : n ≤ 8192
  few_links = (whole_ints m n d w.marks xs ys cs (fine_whole w.fine)).links

  -- the search can be run
  pub can_seek : CanSeek m n d xs ys cs q b.scratch
  can_seek = record { path = b.path; ripe = w }

  -- after the search
  module _ {t : Scratch} {number : ℕ} (z : Sought (Arc d (links n xs ys cs)) m (most_arcs d n) q b.scratch t number) where
    -- the answer can be read off
    pub told : Told number m q.source q.target t.memory.dist t.memory.preds b.path
    told = record {
      bounded = few_indices;
      target = has_below h q.target w.fine.target;
      dist = (memory_enough (fine_long w.fine).memory z.memory).dist;
      preds = (memory_enough (fine_long w.fine).memory z.memory).preds;
      path = (fine_long w.fine).path;
      back = λ e y. goes_back h q w.fine z.ends t.memory (memory_enough (fine_long w.fine).memory z.memory).preds (z.shows e) (sym z.is ∙ e) y;
    }

    -- the scratch can be wiped
    pub can_wipe : {a : ℕ} → a ≡ most_arcs d n → EnoughScratch m a t
    can_wipe {a} e =
        subst (λ (k : ℕ). EnoughScratch m k t) (sym e) (record { rows = lists_kept (fine_long w.fine).rows z.rows; memory = memory_enough (fine_long w.fine).memory z.memory })

    -- the answer read off, and the scratch wiped
    pub outcome : {l : List ℕ} {r : Answer} {a : ℕ} {u : Scratch} → Read number m q.source q.target t.memory.dist t.memory.preds b.path l r → a ≡ most_arcs d n → u ≡ wiped_all m a t
        → Solved m n d xs ys cs q b (record { path = l; scratch = u }) r
    outcome {l} {r} {a} {u} y e f marks = go y
      where
        clean : u ≡ wiped_all m (most_arcs d n) b.scratch
        clean = f ∙ (ap (λ (k : ℕ). wiped_all m k t) e ∙ (λ i. record { rows = wiped_rows (pos 0) z.rows i; memory = wiped_memory_lem z.memory i }))

        made : (c : ℤ) (p : List ℕ) → Says (Arc d (links n xs ys cs)) q z.end c p → r ≡ answer_of number c (length p) → l ≡ at_front p (filled m none_u32 b.path)
            → (o : Outcome (net_of m n d marks xs ys cs) q b (result_of r (record { path = l; scratch = u }))) × (r.number ≡ o.end.number)
        made c p s i k = (
          record {
            end = z.end;
            ends = literal_exactly.1 z.ends;
            cost = c;
            path = p;
            says = s;
            leaves = λ j. result_of (i j) (record { path = k j; scratch = clean j });
          },
          ap (λ (y : Answer). y.number) i ∙ z.is,
        )

        long_p : m ≤ length t.memory.preds
        long_p = (memory_enough (fine_long w.fine).memory z.memory).preds

        go : Read number m q.source q.target t.memory.dist t.memory.preds b.path l r
            → (o : Outcome (net_of m n d marks xs ys cs) q b (result_of r (record { path = l; scratch = u }))) × (r.number ≡ o.end.number)
        go (refused p i k) = made none_i64 [] (says_bad h q w.fine z.ends (λ y. p (z.is ∙ y))) i (k ∙ front_none (filled m none_u32 b.path))
        go (nowhere p y i k) =
            made none_i64 [] (says_nowhere h q w.fine z.ends t.memory long_p (z.shows p) y) (i ∙ ap without (sym p)) (k ∙ front_none (filled m none_u32 b.path))
        go (found p y i k) =
            let back = path_back m t.memory.preds q.source q.target in
            let cost = get_or t.memory.dist q.target none_i64 in
            made cost back (says_found h q w.fine z.ends t.memory long_p (z.shows p) (sym z.is ∙ p) y) (i ∙ (λ j. answer_of (sym p j) cost (length back))) k
