-- Demand 3 for tables of both kinds, directed or not.
-- `holds_lasts`: a feed into an empty table leaves the map of the last accepted records: no link stands twice, the count is the number of links
-- accepted, and the arcs are those of their last records. `same_maps`: so two feeds with the same last accepted record of each link leave maps
-- that no engine can tell apart, whatever the order, the refused records, the lengths of the slices, what stands past the count, and the bytes
-- of marks. Both hold of every feed from count 0: accepted is a record whose put gave 0, so a put that gives 8 is refused like any other, and
-- where the bound is over its limit or the marks are too few each put gives 1 (`next_one`), none is accepted and the table stays empty.
-- A record that is refused changes nothing (`untouched_ints`, `untouched_floats` in Stores).
-- The argument: the slices follow the table that they show (Slices), each put that gives 0 does to its links what `put_list` does, and each
-- other leaves them (Puts), and a list fed from nothing has each link once, at the cost of its last record (Feed).
-- Assumes nothing.
use mathlib.Core.Path.{◌≡◌, refl, sym, ap, ◌∙◌, subst}
use mathlib.Core.Bool.{Bool, true, false, cond, ◌&&◌}
use mathlib.Core.Logic.{inr, ⊎_elim, ◌↔◌}
use mathlib.Core.List.{List, [], ◌∷◌, ◌++◌, map}
use Prim.Native.Nat.{ℕ, ◌≤◌}
use native.Mathlib.Omega.{arith}
use borrow.Author.Tests.{le-leb}
use lib.Dec.{leb, eqb}
use lib.IntN.{ℤ}
use lib.ListN.{length, take}
use Rattle.table.specs.Links.{Link, inside, all_inside, lent_whole, placing, Arc, Leads}
use Rattle.table.specs.Lent.{RawCost, Ints, Floats}
use Rattle.table.specs.Feeds.{feed, accepted, Single, Kind, ints, floats, Feed, fed, held_by, accepted_by, lasts_of, whole_after, HoldsLasts, SameFeeds, SameMaps}
use Rattle.table.proofs.Numbers.{put_exactly}
use Rattle.table.proofs.Tables.{put_list, feed_into, cost_of, Table, store, put_table, held, after, accepted_into}
use Rattle.table.proofs.Puts.{Sound, held_long, put_step}
use Rattle.table.proofs.Feed.{not_both, single_feed, single_lasts, same_length, same_arcs, same_costs, fed_lasts}
use Rattle.table.proofs.Slices.{table_of, Follows, follows_ints, follows_floats}

-- ---- a feed into a table
module _ {C : Type 0} (d : Bool) (m room : ℕ) (marks : List ℕ) where
  -- it leaves a sound table with the links of the accepted records
  record FedTable (t t' : Table C) (rs : List (Link C)) : Type 0 where
    pub sound : Sound m room marks t'
    pub holds : held t' ≡ feed_into d (held t) (accepted_into d m room marks t rs)

  -- by induction on the records
  fed_table : (rs : List (Link C)) (t : Table C) → Sound m room marks t → FedTable t (after d m room marks t rs) rs
  fed_table [] t s = record { sound = s; holds = refl }
  fed_table (r ∷ rs) t s =
      let t' = put_table d m room marks r t in
      let p = put_step d m room marks r t s in
      let q = fed_table rs t' p.sound in
      let a = accepted_into d m room marks t' rs in
      record { sound = q.sound; holds = q.holds ∙ (ap (λ (l : List (Link C)). feed_into d l a) p.holds ∙ sym (go (eqb t'.number 0) a)) }
    where
      go : (x : Bool) (l : List (Link C)) → feed_into d (held t) (cond x (r ∷ []) [] ++ l) ≡ feed_into d (cond x (put_list d r (held t)) (held t)) l
      go true l = refl
      go false l = refl

-- ---- a feed into lent slices
module _ {C R S : Type 0} (k : Kind C R S) (l : Follows k) (d : Bool) (m : ℕ) (marks : List ℕ) where
  -- it keeps the room
  feed_room : (rs : List R) (s : S) → k.room (feed (k.put d m marks) s rs) ≡ k.room s
  feed_room [] s = refl
  feed_room (r ∷ rs) s = feed_room rs (k.put d m marks r s) ∙ l.keeps d m marks r s

  -- a put follows the put into the table that they show
  put_shows : (r : R) (s : S) (n : ℕ) → k.room s ≡ n → table_of k (k.put d m marks r s) ≡ put_table d m n marks (k.seen r) (table_of k s)
  put_shows r s n e = l.shows d m marks r s ∙ ap (λ (n : ℕ). put_table d m n marks (k.seen r) (table_of k s)) e

  -- so does a feed
  feed_shows : (rs : List R) (s : S) (n : ℕ) → k.room s ≡ n → table_of k (feed (k.put d m marks) s rs) ≡ after d m n marks (table_of k s) (map k.seen rs)
  feed_shows [] s n e = refl
  feed_shows (r ∷ rs) s n e =
      feed_shows rs (k.put d m marks r s) n (l.keeps d m marks r s ∙ e)
      ∙ ap (λ (t : Table C). after d m n marks t (map k.seen rs)) (put_shows r s n e)

  -- and the same records are accepted
  accepted_shows : (rs : List R) (s : S) (n : ℕ) → k.room s ≡ n → map k.seen (accepted (k.put d m marks) k.number s rs) ≡ accepted_into d m n marks (table_of k s) (map k.seen rs)
  accepted_shows [] s n e = refl
  accepted_shows (r ∷ rs) s n e =
      let q = put_shows r s n e in
      go (eqb (k.number (k.put d m marks r s)) 0) (accepted (k.put d m marks) k.number (k.put d m marks r s) rs)
      ∙ ((λ i. cond (eqb (q i).number 0) (k.seen r ∷ []) [] ++ accepted_shows rs (k.put d m marks r s) n (l.keeps d m marks r s ∙ e) i)
      ∙ ap (λ (t : Table C). cond (eqb (put_table d m n marks (k.seen r) (table_of k s)).number 0) (k.seen r ∷ []) [] ++ accepted_into d m n marks t (map k.seen rs)) q)
    where
      go : (x : Bool) (a : List R) → map k.seen (cond x (r ∷ []) [] ++ a) ≡ cond x (k.seen r ∷ []) [] ++ map k.seen a
      go true a = refl
      go false a = refl

-- the limits of a table whose count is within its room are those of the bound and the marks
pub limits : (m n room : ℕ) (marks : List ℕ) → n ≤ room → lent_whole m n room marks ≡ lent_whole m 0 0 marks
unfolding lent_whole
limits m n room marks h = rw (le-leb n room h)

module _ {C R S : Type 0} (k : Kind C R S) (l : Follows k) (f : Feed R S) (e : k.count f.lent ≡ 0) where
  -- the table that the feed leaves
  fed_shown : FedTable f.directed f.bound (k.room f.lent) f.marks (table_of k f.lent) (table_of k (fed k f)) (map k.seen f.records)
  fed_shown =
      subst (λ (t : Table C). FedTable f.directed f.bound (k.room f.lent) f.marks (table_of k f.lent) t (map k.seen f.records))
      (sym (feed_shows k l f.directed f.bound f.marks f.records f.lent _ refl))
      (fed_table f.directed f.bound (k.room f.lent) f.marks (map k.seen f.records) (table_of k f.lent)
      (record { few = omega (arith, e); inside = ap (λ (n : ℕ). all_inside f.bound f.marks (take n (k.places f.lent))) e; roomy = l.roomy f.lent }))

  -- its links are those of the accepted records, fed from nothing
  holds_fed : held_by k f ≡ feed_into f.directed [] (accepted_by k f)
  holds_fed =
      fed_shown.holds
      ∙ (λ i. feed_into f.directed (take (e i) (k.places f.lent)) (sym (accepted_shows k l f.directed f.bound f.marks f.records f.lent _ refl) i))

  -- no link stands twice
  held_single : Single f.directed (held_by k f)
  held_single = subst (Single f.directed) (sym holds_fed) (single_feed f.directed (accepted_by k f) [] tt)

  -- each has the cost of its last record
  held_costs : (u v : ℕ) → cost_of f.directed u v (held_by k f) ≡ cost_of f.directed u v (lasts_of k f)
  held_costs u v = ap (cost_of f.directed u v) holds_fed ∙ fed_lasts f.directed (accepted_by k f) u v

  -- the count is their number
  held_count : length (held_by k f) ≡ k.count (fed k f)
  held_count = held_long f.bound (k.room f.lent) f.marks (table_of k (fed k f)) fed_shown.sound

  -- the room is the one lent, so the limits are kept if the bound and the marks keep theirs
  fed_limits : whole_after k f ≡ lent_whole f.bound 0 0 f.marks
  fed_limits = limits f.bound (k.count (fed k f)) (k.room (fed k f)) f.marks (omega (arith, feed_room k l f.directed f.bound f.marks f.records f.lent, fed_shown.sound.few))

  -- the map of the last accepted records
  pub holds_lasts : HoldsLasts k f
  holds_lasts =
      record {
        limits = fed_limits;
        inside = fed_shown.sound.inside;
        once = held_single;
        counted = sym held_count ∙ same_length f.directed (held_by k f) (lasts_of k f) held_single (single_lasts f.directed (accepted_by k f)) held_costs;
        arcs = same_arcs f.directed (held_by k f) (lasts_of k f) held_single (single_lasts f.directed (accepted_by k f)) held_costs;
      }

  -- ---- what the next put gives, whatever was put before
  module _ (r : R) where
    next_number :
        k.number (k.put f.directed f.bound f.marks r (fed k f))
        ≡ (placing f.directed f.bound (k.room (fed k f)) f.marks (k.seen r).a (k.seen r).b (k.count (fed k f)) (k.places (fed k f))).number
    unfolding store
    next_number = ap (λ (t : Table C). t.number) (l.shows f.directed f.bound f.marks r (fed k f))

    -- 1 where the bound is over its limit or the marks are too few
    pub next_one : lent_whole f.bound 0 0 f.marks ≡ false → k.number (k.put f.directed f.bound f.marks r (fed k f)) ≡ 1
    next_one w =
        next_number
        ∙ (put_exactly f.directed f.bound (k.room (fed k f)) f.marks (k.seen r).a (k.seen r).b (k.count (fed k f)) (k.places (fed k f)) (λ p. p) 1).1 (fed_limits ∙ w)

    -- else 2 exactly for a record with an end that the map has not
    pub next_two : lent_whole f.bound 0 0 f.marks ≡ true → (k.number (k.put f.directed f.bound f.marks r (fed k f)) ≡ 2) ↔ (inside f.bound f.marks (k.seen r) ≡ false)
    next_two w =
        let x = put_exactly f.directed f.bound (k.room (fed k f)) f.marks (k.seen r).a (k.seen r).b (k.count (fed k f)) (k.places (fed k f)) (λ p. p) 2 in
        let i = fed_shown.sound.inside in
        (λ z. ⊎_elim (λ y. not_both i y) (λ y. y.1) (x.0 (sym next_number ∙ z)).1, λ z. next_number ∙ x.1 (fed_limits ∙ w, inr (i, z)))

-- lists of different links with the same arcs are of one length
alike : {C : Type 0} (d d' : Bool) → d ≡ d' → (ls ks : List (Link C)) → Single d ls → Single d' ks → ((u v : ℕ) (c : C) → Arc d ls u v c ↔ Arc d' ks u v c) → length ls ≡ length ks
alike {C} d d' e ls ks s t h =
    subst (λ (x : Bool). Single x ks → ((u v : ℕ) (c : C) → Arc d ls u v c ↔ Arc x ks u v c) → length ls ≡ length ks) e
    (λ t h. same_length d ls ks s t (same_costs d ls ks s t h)) t h

-- limits that agree
same_limits : {m n : ℕ} (marks marks' : List ℕ) → m ≡ n → leb m (length marks) ≡ leb n (length marks') → lent_whole m 0 0 marks ≡ lent_whole n 0 0 marks'
unfolding lent_whole
same_limits marks marks' e h = λ i. leb (e i) 1024 && (h i && leb 0 0)

-- two feeds with the same last accepted records
pub same_maps : {C R S : Type 0} (k : Kind C R S) → Follows k → (f g : Feed R S) → SameFeeds k f g → SameMaps k f g
same_maps {C} k l f g s =
    record {
      bound = s.bound;
      directed = s.directed;
      has = s.has;
      count = sym (held_count k l f s.one)
          ∙ (alike f.directed g.directed s.directed (held_by k f) (held_by k g) (held_single k l f s.one) (held_single k l g s.other) over ∙ held_count k l g s.other);
      whole = fed_limits k l f s.one ∙ (same_limits f.marks g.marks s.bound s.marked ∙ sym (fed_limits k l g s.other));
      arcs = over;
    }
  where
    over : (u v : ℕ) (c : C) → Arc f.directed (held_by k f) u v c ↔ Arc g.directed (held_by k g) u v c
    over u v c =
        let a = (holds_lasts k l f s.one).arcs u v c in
        let b = (holds_lasts k l g s.other).arcs u v c in
        let h = s.last u v c in
        (λ w. b.1 (h.0 (a.0 w)), λ w. a.1 (h.1 (b.0 w)))

-- ---- the theorems for both kinds
-- a feed into an integer map, and into an f64 map, leaves the map of its last accepted records
pub ints_hold_lasts : (f : Feed (Link ℤ) Ints) → f.lent.count ≡ 0 → HoldsLasts ints f
ints_hold_lasts f e = holds_lasts ints follows_ints f e

pub floats_hold_lasts : (f : Feed (Link RawCost) Floats) → f.lent.count ≡ 0 → HoldsLasts floats f
floats_hold_lasts f e = holds_lasts floats follows_floats f e

-- two feeds with the same last accepted records leave the same map
pub ints_same_maps : (f g : Feed (Link ℤ) Ints) → SameFeeds ints f g → SameMaps ints f g
ints_same_maps f g s = same_maps ints follows_ints f g s

pub floats_same_maps : (f g : Feed (Link RawCost) Floats) → SameFeeds floats f g → SameMaps floats f g
floats_same_maps f g s = same_maps floats follows_floats f g s

-- so is what hops sees, arcs of any cost; an open arc of the f64 engine is an arc
pub same_leads : {C R S : Type 0} {k : Kind C R S} {f g : Feed R S} → SameMaps k f g → (u v : ℕ) → Leads f.directed (held_by k f) u v ↔ Leads g.directed (held_by k g) u v
same_leads s u v = (λ w. (w.0, (s.arcs u v w.0).0 w.1), λ w. (w.0, (s.arcs u v w.0).1 w.1))
