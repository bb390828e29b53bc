-- The first entries of longer lists: cleared, searched, and put back before the rest.
-- Assumes nothing.
use mathlib.Core.Path.{◌≡◌, sym, ap, ◌∙◌, subst}
use mathlib.Core.List.{List, ◌++◌}
use mathlib.Core.Option.{Option}
use Prim.Native.Nat.{ℕ, ◌≤◌}
use native.Mathlib.Omega.{arith}
use lib.ListN.{length, take, drop, replicate, length-replicate, length-append, length-drop}
use lib.Seq.{drop_at, take_at, length-take-le}
use Rattle.clean.specs.None.{none_u32}
use Rattle.clean.specs.Fill.{filled}
use Rattle.rows.specs.Rows.{Lists}
use Rattle.rows.specs.Kept.{Kept}
use Rattle.rows.proofs.Kept.{kept_none, kept_more, kept_filled}
use Rattle.turns.specs.Kind.{Kind}
use Rattle.turns.specs.Memory.{Memory, memory_of, Fresh}
use Rattle.turns.specs.Searched.{Searched}
use Rattle.turns.specs.Firsts.{firsts, EnoughMemory, KeptMemory, Ran}

-- the part that was filled
filled_first : {X : Type 0} (m : ℕ) (x : X) (l k : List X) → k ≡ filled m x l → take m k ≡ replicate m x
unfolding filled
filled_first m x l k e = ap (take m) e ∙ take_at (replicate m x) (drop m l) m (length-replicate m x)

-- a part that is put back
kept_first : {X : Type 0} {m : ℕ} (p l : List X) → m ≤ length l → length p ≡ m → Kept m l (p ++ drop m l)
kept_first {m = m} p l h e = record { long = omega (arith, length-append p (drop m l), length-drop m l); rest = drop_at p (drop m l) m e }

module _ {K : Type 0} {m : ℕ} where
  -- nothing changed, and one change after another
  pub memory_none : {M : Memory K} → KeptMemory m M M
  memory_none = record { dist = kept_none; preds = kept_none; peaks = kept_none; words = kept_none; keys = kept_none }

  pub memory_more : {M M' M'' : Memory K} → KeptMemory m M M' → KeptMemory m M' M'' → KeptMemory m M M''
  memory_more p q = record {
    dist = kept_more p.dist q.dist;
    preds = kept_more p.preds q.preds;
    peaks = kept_more p.peaks q.peaks;
    words = kept_more p.words q.words;
    keys = kept_more p.keys q.keys;
  }

  -- there is room still
  pub memory_enough : {M M' : Memory K} → EnoughMemory m M → KeptMemory m M M' → EnoughMemory m M'
  memory_enough w k = record {
    dist = omega (arith, w.dist, k.dist.long);
    preds = omega (arith, w.preds, k.preds.long);
    peaks = omega (arith, w.peaks, k.peaks.long);
    words = omega (arith, w.words, k.words.long);
    keys = omega (arith, w.keys, k.keys.long);
  }

-- each part is m long
pub record Parts {K : Type 0} (m : ℕ) (M : Memory K) : Type 0 where
  pub dist : m ≡ length (take m M.dist)
  pub preds : m ≡ length (take m M.preds)
  pub peaks : m ≡ length (take m M.peaks)
  pub words : m ≡ length (take m M.words)
  pub keys : m ≡ length (take m M.keys)

-- ---- the first entries, cleared and searched
module _ {K C : Type 0} (Y : Kind K C) {m : ℕ} {M : Memory K} (w : EnoughMemory m M) {d : List K} {p h i : List ℕ}
    (e : (d ≡ filled m Y.blank M.dist) × (p ≡ filled m none_u32 M.preds) × (h ≡ filled m 0 M.peaks) × (i ≡ filled m 0 M.words)) where
  cleared : KeptMemory m M (memory_of d p h i M.keys)
  cleared = record {
    dist = kept_filled Y.blank w.dist e.0;
    preds = kept_filled none_u32 w.preds e.1;
    peaks = kept_filled 0 w.peaks e.2;
    words = kept_filled 0 w.words e.3;
    keys = kept_none;
  }

  roomy : EnoughMemory m (memory_of d p h i M.keys)
  roomy = memory_enough w cleared

  pub parts : Parts m (memory_of d p h i M.keys)
  parts = record {
    dist = sym (length-take-le m d roomy.dist);
    preds = sym (length-take-le m p roomy.preds);
    peaks = sym (length-take-le m h roomy.peaks);
    words = sym (length-take-le m i roomy.words);
    keys = sym (length-take-le m M.keys w.keys);
  }

  -- nothing has a distance, nothing is pending
  pub fresh : m ≤ 1024 → Fresh Y m (firsts m (memory_of d p h i M.keys))
  fresh few = record {
    few = few;
    dist = filled_first m Y.blank M.dist d e.0;
    preds = filled_first m none_u32 M.preds p e.1;
    peaks = filled_first m 0 M.peaks h e.2;
    words = filled_first m 0 M.words i e.3;
    keys = length-take-le m M.keys w.keys;
  }

  -- a part that was searched stands before the rest
  module _ (d' : List K) (p' h' i' : List ℕ) (k' : List K) (ld : length d' ≡ length (take m d)) (lp : length p' ≡ length (take m p)) (lh : length h' ≡ length (take m h))
      (li : length i' ≡ length (take m i)) (lk : length k' ≡ length (take m M.keys)) where
    abbrev after : Memory K
    after = memory_of (d' ++ drop m d) (p' ++ drop m p) (h' ++ drop m h) (i' ++ drop m i) (k' ++ drop m M.keys)

    nd : length d' ≡ m
    nd = ld ∙ sym parts.dist

    np : length p' ≡ m
    np = lp ∙ sym parts.preds

    nh : length h' ≡ m
    nh = lh ∙ sym parts.peaks

    ni : length i' ≡ m
    ni = li ∙ sym parts.words

    nk : length k' ≡ m
    nk = lk ∙ sym parts.keys

    first_is : memory_of d' p' h' i' k' ≡ firsts m after
    first_is = sym (λ j. memory_of (take_at d' (drop m d) m nd j) (take_at p' (drop m p) m np j) (take_at h' (drop m h) m nh j) (take_at i' (drop m i) m ni j) (take_at k' (drop m M.keys) m nk j))

    back : KeptMemory m (memory_of d p h i M.keys) after
    back = record {
      dist = kept_first d' d roomy.dist nd;
      preds = kept_first p' p roomy.preds np;
      peaks = kept_first h' h roomy.peaks nh;
      words = kept_first i' i roomy.words ni;
      keys = kept_first k' M.keys w.keys nk;
    }

    -- the search is over
    pub ran : {target : Option ℕ} {source number takes : ℕ} {nb : Lists C} → Searched Y m target source nb (memory_of d' p' h' i' k') number takes → Ran Y m target source nb M after number takes
    ran {target} {source} {number} {takes} {nb} z = record { searched = subst (λ (x : Memory K). Searched Y m target source nb x number takes) first_is z; kept = memory_more cleared back }
