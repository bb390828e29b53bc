-- From what the parts gave to the promise: each answer of `bellman_ford`, over plain lists.
-- Each part changes nothing past the part used of a buffer (`Kept`), one after the other too. So blanking or wiping at the end leaves what it would have left of the
-- buffers as they were lent, and that is what the promise says: after 7 the distances blank, after 0 the entries that the search found in front of the old rest,
-- after both the scratch wiped. From a source that the map has not the first blanking is the answer.
-- Assumes nothing.
use mathlib.Core.Path.{◌≡◌, refl, sym, ap, ◌∙◌, subst}
use mathlib.Core.Bool.{Bool, true, false}
use mathlib.Core.List.{List}
use Prim.Native.Nat.{ℕ, ◌≤◌}
use lib.IntN.{ℤ, pos}
use lib.ListN.{length}
use Rattle.numbers.specs.Numbers.{here, past}
use Rattle.clean.specs.Fill.{filled}
use Rattle.clean.specs.None.{none_i64}
use Rattle.clean.proofs.Filled.{filled_at, settle}
use Rattle.walks.proofs.Walk.{not_both}
use Rattle.net.specs.Net.{Net, has, most_arcs_of}
use Rattle.rows.specs.Kept.{Kept, KeptLists}
use Rattle.rows.proofs.Kept.{kept_none, kept_more, kept_filled, kept_same, kept_twice, lists_kept, lists_wiped, wiped_rows}
use Rattle.bellman_ford.specs.Promise.{Scratch, Buffers, wiped_all, clear, Promise}
use Rattle.bellman_ford.specs.Parts.{EnoughScratch, Ripe, Solved}
use Rattle.bellman_ford.proofs.Refusals.{Passed}

-- scratch of which only the part used changed
pub record KeptScratch (m a : ℕ) (s t : Scratch) : Type 0 where
  pub rows : KeptLists m a s.rows t.rows
  pub queue : Kept m s.queue t.queue
  pub queued : Kept m s.queued t.queued
  pub lengths : Kept m s.lengths t.lengths

-- nothing changed
pub scratch_same : {m a : ℕ} {s : Scratch} → KeptScratch m a s s
scratch_same = record { rows = record { offsets = kept_none; heads = kept_none; weights = kept_none }; queue = kept_none; queued = kept_none; lengths = kept_none }

module _ {m a : ℕ} {s t : Scratch} where
  -- it is as long as it was
  room_kept : EnoughScratch m a s → KeptScratch m a s t → EnoughScratch m a t
  room_kept r k = record { rows = lists_kept r.rows k.rows; queue = rw k.queue.long r.queue; queued = rw k.queued.long r.queued; lengths = rw k.lengths.long r.lengths }

  -- wiped scratch is such
  pub scratch_wiped : EnoughScratch m a s → t ≡ wiped_all m a s → KeptScratch m a s t
  scratch_wiped r e = record {
    rows = lists_wiped (pos 0) r.rows (ap (λ (x : Scratch). x.rows) e);
    queue = kept_filled 0 r.queue (ap (λ (x : Scratch). x.queue) e);
    queued = kept_filled 0 r.queued (ap (λ (x : Scratch). x.queued) e);
    lengths = kept_filled 0 r.lengths (ap (λ (x : Scratch). x.lengths) e);
  }

  -- after a change of the part used, wiping leaves what it would have left before
  wiped_same : KeptScratch m a s t → wiped_all m a t ≡ wiped_all m a s
  wiped_same k = λ i. record {
    rows = wiped_rows (pos 0) k.rows i;
    queue = kept_same 0 k.queue i;
    queued = kept_same 0 k.queued i;
    lengths = kept_same 0 k.lengths i;
  }

-- one change after another
scratch_more : {m a : ℕ} {s t u : Scratch} → KeptScratch m a s t → KeptScratch m a t u → KeptScratch m a s u
scratch_more p q = record {
  rows = record { offsets = kept_more p.rows.offsets q.rows.offsets; heads = kept_more p.rows.heads q.rows.heads; weights = kept_more p.rows.weights q.rows.weights };
  queue = kept_more p.queue q.queue;
  queued = kept_more p.queued q.queued;
  lengths = kept_more p.lengths q.lengths;
}

-- the scratch before the search: nothing waits, and no index has a path length
abbrev pub prepared : ℕ → Scratch → Scratch
prepared m s = record { rows = s.rows; queue = s.queue; queued = filled m 0 s.queued; lengths = filled m 0 s.lengths }

-- a map that is not refused, and the number a that the code computed
module _ {g : Net ℤ} {b : Buffers} (ok : Passed g b) {a : ℕ} (is : a ≡ most_arcs_of g) where
  abbrev m : ℕ
  m = g.bound

  pub room_first : EnoughScratch m a b.scratch
  room_first = rw is ok.room

  -- an unknown source: the distances blank and the scratch cleared
  pub answer_unknown : {s : ℕ} {b₁ : Buffers} → has g s ≡ false → b₁.dist ≡ filled m none_i64 b.dist → b₁.scratch ≡ wiped_all m a b.scratch → Promise g s b b₁ 0
  answer_unknown f bl w =
      let e : _ ≡ clear g b = w ∙ ap (λ (n : ℕ). wiped_all m n b.scratch) is in
      record { follows = past ok.long (past ok.inside (here f (refl, λ i. record { dist = bl i; scratch = e i }))) }

  -- the distances blank and the scratch prepared, before the search
  module _ {b₁ : Buffers} (bl : b₁.dist ≡ filled m none_i64 b.dist) (w : b₁.scratch ≡ prepared m b.scratch) where
    kept_first : KeptScratch m (most_arcs_of g) b.scratch b₁.scratch
    kept_first =
        subst (KeptScratch m (most_arcs_of g) b.scratch) (sym w)
        (record {
          rows = record { offsets = kept_none; heads = kept_none; weights = kept_none };
          queue = kept_none;
          queued = kept_filled 0 ok.room.queued refl;
          lengths = kept_filled 0 ok.room.lengths refl;
        })

    kept_dist : Kept m b.dist b₁.dist
    kept_dist = kept_filled none_i64 ok.dist bl

    pub ripe : {s : ℕ} → has g s ≡ true → Ripe g s b₁
    ripe k =
        let r = room_kept ok.room kept_first in
        record {
          whole = ok.whole;
          inside = ok.inside;
          source = k;
          rows = r.rows;
          fresh =
              record {
                wide = record { dist = rw kept_dist.long ok.dist; queue = r.queue; queued = r.queued; lengths = r.lengths };
                dist = λ v h. rw bl (filled_at m none_i64 (pos 0) b.dist v h);
                queued = λ v h. rw w (filled_at m 0 0 b.scratch.queued v h);
                lengths = λ v h. rw w (filled_at m 0 0 b.scratch.lengths v h);
              };
        }

    -- the map solved
    module _ {s : ℕ} {t : Bool} {b₂ : Buffers} (k : has g s ≡ true) (v : Solved g s b₁ b₂ t) where
      kept_second : KeptScratch m (most_arcs_of g) b₁.scratch b₂.scratch
      kept_second = record { rows = v.rows; queue = v.rest.queue; queued = v.rest.queued; lengths = v.rest.lengths }

      dist_second : Kept m b.dist b₂.dist
      dist_second = kept_more kept_dist v.rest.dist

      pub room_second : EnoughScratch m a b₂.scratch
      room_second = rw is (room_kept (room_kept ok.room kept_first) kept_second)

      pub dist_room : m ≤ length b₂.dist
      dist_room = rw dist_second.long ok.dist

      -- the scratch cleared again
      module _ {r₃ : Scratch} (w₂ : r₃ ≡ wiped_all m a b₂.scratch) where
        clear_again : r₃ ≡ clear g b
        clear_again = w₂ ∙ (ap (λ (n : ℕ). wiped_all m n b₂.scratch) is ∙ wiped_same (scratch_more kept_first kept_second))

        pub answer_negative : {d₃ : List ℤ} → t ≡ true → d₃ ≡ filled m none_i64 b₂.dist → Promise g s b (record { dist = d₃; scratch = r₃ }) 7
        answer_negative {d₃} y e =
            let f : d₃ ≡ filled m none_i64 b.dist = kept_twice none_i64 b.dist bl v.rest.dist e in
            record { follows = past ok.long (past ok.inside (past k (here (v.yes y) (refl, λ i. record { dist = f i; scratch = clear_again i })))) }

        pub answer_done : t ≡ false → Promise g s b (record { dist = b₂.dist; scratch = r₃ }) 0
        answer_done y =
            let x = settle (pos 0) ok.dist dist_second.long (v.no y).1 dist_second.rest in
            record { follows = past ok.long (past ok.inside (past k (past (λ w. not_both w (v.no y).0) (here tt (refl, (x, clear_again)))))) }
