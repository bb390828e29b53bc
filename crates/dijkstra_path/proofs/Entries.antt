-- What the entries hold after 0. The source has +0.0 and no predecessor, whatever the cutoff; any other index has both a distance and a predecessor, which the map has,
-- or neither. Under a cutoff below zero the source alone has a distance, for every total is at least 0.0 and so past it. No index is taken and kept twice, so there are
-- no more kept takes than present indices; and keys come out in rising order, since no rounded sum with a good cost is below the distance that it starts from.
-- All of it comes from the pending bag's laws (pending/proofs: Source, Stored, Cutoff64, Once), read off the lent entries.
-- Assumes nothing.
use mathlib.Core.Path.{◌≡◌, refl, ap, ◌∙◌, sym, subst}
use mathlib.Core.Bool.{true}
use mathlib.Core.List.{List, ◌∷◌}
use mathlib.Core.Option.{Option, none}
use Prim.Native.Nat.{ℕ, ◌≤◌, ◌<◌}
use native.Mathlib.Omega.{arith}
use lib.Dec.{T}
use lib.ListN.{get_or}
use lib.Ieee.{Float, inf, binary64, lt, fits, of_bits}
use Rattle.whole.proofs.Cases.{and_left}
use Rattle.clean.specs.None.{none_f64, none_u32, shown}
use Rattle.float.specs.Dist.{Dist64, zero64, lt64}
use Rattle.float.specs.Cutoff.{Cutoff, past}
use Rattle.std.specs.Prelude.{Some}
use Rattle.float.proofs.Cost.{plus_grows}
use Rattle.table.specs.declared.FloatCost.{FloatCost}
use Rattle.table.proofs.Laws as table
use Rattle.net.specs.Net.{Net, OpenArcOf, whole_net, inside_net, has, nodes_of, width, most_arcs_of}
use Rattle.net.proofs.Same.{open_has, open_below}
use Rattle.net.proofs.Nodes.{has_below, present_in}
use Rattle.walks.specs.Pigeon.{In, NoDup}
use Rattle.pending.specs.Setting.{End}
use Rattle.pending.specs.OnePlace.{Cell, Takes}
use Rattle.pending.specs.Floats.{search64}
use Rattle.pending.proofs.Floats.{laws64, once_rising64, from_source64}
use Rattle.pending.proofs.Source.{Both, neither, both}
use Rattle.pending.proofs.Stored.{good_dist, pred_arc}
use Rattle.pending.proofs.Once.{indices, Rising, Took, begin_within, begin_once, takes_few}
use Rattle.pending.proofs.Cutoff64.{Ends64, source_alone64}
use Rattle.dijkstra_path.specs.Promise.{Buffers, long_enough, EndsIn, Promise}
use Rattle.dijkstra_path.proofs.Literal.{literal_exactly}
use Rattle.dijkstra_path.proofs.Settles.{promise_given}

-- after 0 the entries show an end of the pending bag, here with one place per index
pub record Showing (g : Net FloatCost) (s : ℕ) (k : Cutoff) (e : Buffers) : Type 0 where
  pub end : End ℕ
  pub ends : Ends64 (OpenArcOf g) k s end
  pub number : end.number ≡ 0
  pub limit : g.bound ≤ 1024
  pub inside : inside_net g ≡ true
  pub source : has g s ≡ true
  pub dist : (v : ℕ) → v < g.bound → get_or e.memory.dist v none_f64 ≡ shown none_f64 (end.dist v)
  pub preds : (v : ℕ) → v < g.bound → get_or e.memory.preds v none_u32 ≡ shown none_u32 (end.pred v)

pub showing : {g : Net FloatCost} {s : ℕ} {k : Cutoff} {b e : Buffers} {number : ℕ} → Promise g s k b e number → number ≡ 0 → Showing g s k e
showing {g} {b = b} p z =
    let (l, (i, (h, (w, (t, (x, r, y, a, q)))))) = promise_given p 0 z in
    record {
      end = x;
      ends = literal_exactly.0 r;
      number = y;
      limit = (table.whole g.bound g.count g.room g.marks (and_left (whole_net g) (long_enough g.bound (most_arcs_of g) b) l)).indices;
      inside = i;
      source = h;
      dist = λ v k. a.dist.each v none_f64 k;
      preds = λ v k. a.preds.each v none_u32 k;
    }

-- the entries of an index: none and none, or a distance and an index below m as its predecessor
pub data Paired (m d p : ℕ) : Type 0 where
  missing : d ≡ none_f64 → p ≡ none_u32 → Paired m d p
  reached : Dist64 d → p < m → Paired m d p

module _ {g : Net FloatCost} {s : ℕ} {k : Cutoff} {b e : Buffers} {number : ℕ} (promise : Promise g s k b e number) (zero : number ≡ 0) where
  -- the source: +0.0 and no predecessor
  pub source_entry : (get_or e.memory.dist s none_f64 ≡ zero64) × (get_or e.memory.preds s none_u32 ≡ none_u32)
  source_entry =
      let w = showing promise zero in
      let f = from_source64 (past k) none s (OpenArcOf g) w.end w.ends w.number in
      let l = has_below g s w.source in
      (w.dist s l ∙ ap (shown none_f64) f.dist, w.preds s l ∙ ap (shown none_u32) f.pred)

  -- any other index: both or neither
  pub other_entry : (v : ℕ) → v < g.bound → (v ≡ s → ⊥) → Paired g.bound (get_or e.memory.dist v none_f64) (get_or e.memory.preds v none_u32)
  other_entry v l n = go refl refl ((from_source64 (past k) none s (OpenArcOf g) w.end w.ends w.number).others v n)
    where
      w : Showing g s k e
      w = showing promise zero

      go : {x p : Option ℕ} → w.end.dist v ≡ x → w.end.pred v ≡ p → Both x p → Paired g.bound (get_or e.memory.dist v none_f64) (get_or e.memory.preds v none_u32)
      go i j neither = missing (w.dist v l ∙ ap (shown none_f64) i) (w.preds v l ∙ ap (shown none_u32) j)
      go i j (both {d} {u}) =
          let a = pred_arc (search64 (past k) none s) (OpenArcOf g) w.ends v u j in
          reached
          (subst Dist64 (sym (w.dist v l ∙ ap (shown none_f64) i)) (good_dist (search64 (past k) none s) (laws64 (past k) none s) (OpenArcOf g) w.ends v i))
          (subst (λ (z : ℕ). z < g.bound) (sym (w.preds v l ∙ ap (shown none_u32) j)) (open_below g w.inside u v a.0 a.1).0)

-- under a cutoff below zero every other index has none
pub source_alone : (c : Float) → T (fits binary64 c) → lt c (of_bits binary64 zero64) ≡ true → {g : Net FloatCost} {s : ℕ} {b e : Buffers} {number : ℕ} → Promise g s (Some c) b e number → number ≡ 0
    → (v : ℕ) → v < g.bound → (v ≡ s → ⊥) → (get_or e.memory.dist v none_f64 ≡ none_f64) × (get_or e.memory.preds v none_u32 ≡ none_u32)
source_alone c held below {g} {s} {e = e} promise zero v l n = go refl refl ((from_source64 (past (Some c)) none s (OpenArcOf g) w.end w.ends w.number).others v n)
  where
    w : Showing g s (Some c) e
    w = showing promise zero

    lone : w.end.dist v ≡ none
    lone = source_alone64 c held below s (OpenArcOf g) w.end w.ends v n

    go : {x p : Option ℕ} → w.end.dist v ≡ x → w.end.pred v ≡ p → Both x p → (get_or e.memory.dist v none_f64 ≡ none_f64) × (get_or e.memory.preds v none_u32 ≡ none_u32)
    go i j neither = (w.dist v l ∙ ap (shown none_f64) i, w.preds v l ∙ ap (shown none_u32) j)
    go i j both = absurd (let q = sym i ∙ lone in let z : ◌≡◌ {A = ℕ} 0 1 = cc in omega arith)

-- -infinity is such a cutoff
pub infinity_below : T (fits binary64 (inf true)) × (lt (inf true) (of_bits binary64 zero64) ≡ true)
unfolding lt fits of_bits
infinity_below = (tt, refl)

-- no index is taken and kept twice, and keys come out in rising order
pub takes_rise : (g : Net FloatCost) (s : ℕ) (k : Cutoff) {l : List (ℕ × ℕ)} {c : ℕ → Cell ℕ} {u d : ℕ} {p : Option ℕ}
    → Took (search64 (past k) none s) (OpenArcOf g) l c → Takes (search64 (past k) none s) c u d p → NoDup (u ∷ indices l) × Rising lt64 ((u, d) ∷ l)
takes_rise g s k = once_rising64 (past k) none s (OpenArcOf g)

-- so there are no more kept takes than present indices
pub takes_few64 : {g : Net FloatCost} {s : ℕ} {k : Cutoff} {x : End ℕ} → inside_net g ≡ true → has g s ≡ true → EndsIn g s k x → x.takes ≤ width g
takes_few64 {g} {s} {k} i h r =
    let S = search64 (past k) none s in
    let L = laws64 (past k) none s in
    let at = present_in g s h in
    takes_few S L (λ d v. refl) plus_grows (OpenArcOf g) (nodes_of g) at (λ u v c a. heads u v c a) (begin_within S (OpenArcOf g) (nodes_of g) at (λ u v c a. heads u v c a))
    (begin_once S L (λ d v. refl) plus_grows (OpenArcOf g)) (literal_exactly.0 r)
  where
    heads : (u v c : ℕ) → OpenArcOf g u v c → In v (nodes_of g)
    heads u v c a = present_in g v (open_has g i u v c a).1
