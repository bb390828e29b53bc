-- The marks: after the arcs of some links are looked at, they hold, and just the indices that one of them meets exactly are marked.
-- One arc more keeps that (`seen_more`); a link has one arc more, or two if undirected (`one_way`, `both_ways`).
-- Assumes nothing.
use mathlib.Core.Path.{◌≡◌, refl, sym, ap, ◌∙◌, subst}
use mathlib.Core.Bool.{Bool, true, false}
use mathlib.Core.List.{List}
use mathlib.Core.Logic.{◌⊎◌, inl, inr, ⊎_elim}
use Prim.Native.Nat.{ℕ, suc, ◌+◌, ◌<◌}
use native.Mathlib.Numerals.{add-one}
use native.Mathlib.Omega.{arith}
use native.Mathlib.Decide.{ℕ_discrete}
use lib.IntN.{ℤ, pos}
use lib.Signed.{◌≤ℤ◌}
use lib.ListN.{length, get_or, set, length-set}
use lib.Seq.{get_or-set_same, get_or-set_other}
use Rattle.whole.specs.Zed.{◌⊕◌, zed}
use Rattle.whole.proofs.Cases.{clash}
use Rattle.table.specs.Links.{Link, link_of, joins, zip3, links, Arc}
use Rattle.table.proofs.Laws.{zip_at, zip_long}
use Rattle.table.proofs.Joins.{Joined, joined, joins_of}
use Rattle.table.proofs.Arcs.{arc_at, arc_in, arc_out}
use Rattle.page.specs.Promise.{entry, Known, Holds, Meets}
use Rattle.page.specs.Parts.{Marked, CanLook, ArcChecked, free, lost, more, less, exact, Seen, Upto, Step}

-- the arcs of A, and one from a to b of cost e
abbrev pub Plus : (ℕ → ℕ → ℤ → Type 0) → ℕ → ℕ → ℤ → ℕ → ℕ → ℤ → Type 0
Plus A a b e u v c = A u v c ⊎ ((u ≡ a) × (v ≡ b) × (c ≡ e))

-- what meets an index meets it among more arcs
pub meets_over : {A B : ℕ → ℕ → ℤ → Type 0} {page : List ℤ} {v : ℕ} → ((u v : ℕ) (c : ℤ) → A u v c → B u v c) → Meets A page v → Meets B page v
meets_over {v} f m = record { u = m.u; c = m.c; arc = f m.u v m.c m.arc; known = m.known; exact = m.exact }

module _ {page : List ℤ} where
  -- no arc looked at, and no mark
  pub seen_start : {A : ℕ → ℕ → ℤ → Type 0} {met : List ℕ} → ((u v : ℕ) (c : ℤ) → A u v c → ⊥) → ((v : ℕ) → get_or met v 0 ≡ 0) → Seen A page met
  seen_start f z = record { holds = λ u v c a. absurd (f u v c a); sound = λ v n. absurd (n (z v)); whole = λ v m. absurd (f m.u v m.c m.arc) }

  -- the same arcs under another name
  pub seen_over : {A B : ℕ → ℕ → ℤ → Type 0} {met : List ℕ} → ((u v : ℕ) (c : ℤ) → A u v c → B u v c) → ((u v : ℕ) (c : ℤ) → B u v c → A u v c) → Seen A page met → Seen B page met
  seen_over f b s = record { holds = λ u v c a. s.holds u v c (b u v c a); sound = λ v n. meets_over f (s.sound v n); whole = λ v m. s.whole v (meets_over b m) }

  module _ {A : ℕ → ℕ → ℤ → Type 0} {a b : ℕ} {e : ℤ} {met : List ℕ} (s : Seen A page met) where
    -- one arc more that holds
    grows : (Known page a → Known page b × (entry page b ≤ℤ entry page a ⊕ e)) → Holds (Plus A a b e) page
    grows f u v c (inl x) k = s.holds u v c x k
    grows f u v c (inr q) k = rw (q.0, q.1, q.2) (f (rw q.0 at k))

    -- and does not meet its head
    kept : (Known page a → Known page b × (entry page b ≤ℤ entry page a ⊕ e)) → (Known page a → entry page b ≡ entry page a ⊕ e → ⊥) → Seen (Plus A a b e) page met
    kept f n =
        record {
          holds = grows f;
          sound = λ v k. meets_over (λ u v c x. inl x) (s.sound v k);
          whole = λ v m. whole m.u v m.c m.arc m.known m.exact;
        }
      where
        whole : (u v : ℕ) (c : ℤ) → Plus A a b e u v c → Known page u → entry page v ≡ entry page u ⊕ c → Marked met v
        whole u v c (inl x) k q = s.whole v (record { u = u; c = c; arc = x; known = k; exact = q })
        whole u v c (inr p) k q = absurd (n (rw p.0 at k) (rw (p.0, p.1, p.2) at q))

    -- or meets it exactly
    marked : b < length met → Known page a → Known page b → entry page b ≡ entry page a ⊕ e → Seen (Plus A a b e) page (set met b 1)
    marked h ka kb x =
        record {
          holds = grows (λ k. (kb, omega (arith, zed)));
          sound = λ v n. sound v n (ℕ_discrete b v);
          whole = λ v m. whole m.u v m.c m.arc m.known m.exact (ℕ_discrete b v);
        }
      where
        one : get_or (set met b 1) b 0 ≡ 1
        one = get_or-set_same met b 1 0 h

        sound : (v : ℕ) → Marked (set met b 1) v → Dec (b ≡ v) → Meets (Plus A a b e) page v
        sound v n (yes q) = subst (Meets (Plus A a b e) page) q (record { u = a; c = e; arc = inr (refl, refl, refl); known = ka; exact = x })
        sound v n (no f) = meets_over (λ u v c y. inl y) (s.sound v (λ z. n (get_or-set_other met b v 1 0 (λ i. f (sym i)) ∙ z)))

        whole : (u v : ℕ) (c : ℤ) → Plus A a b e u v c → Known page u → entry page v ≡ entry page u ⊕ c → Dec (b ≡ v) → Marked (set met b 1) v
        whole u v c y k q (yes p) z = let w : get_or (set met b 1) v 0 ≡ 1 = subst (λ (j : ℕ). get_or (set met b 1) j 0 ≡ 1) p one in omega (arith, w)
        whole u v c (inl y) k q (no f) z = s.whole v (record { u = u; c = c; arc = y; known = k; exact = q }) (sym (get_or-set_other met b v 1 0 (λ i. f (sym i))) ∙ z)
        whole u v c (inr p) k q (no f) z = absurd (f (sym p.1))

    -- one arc more, as the code looks at it
    pub seen_more : {met' : List ℕ} {r : Bool} → b < length met → ArcChecked page a b e met met' r → r ≡ true → Seen (Plus A a b e) page met'
    seen_more h (free q k m) t = rw m (kept (λ j. absurd (j k)) (λ j z. j k))
    seen_more h (lost q k l m) t = absurd (clash t q)
    seen_more h (more q k w m) t = absurd (clash t q)
    seen_more h (less q l w m) t = rw m (kept (λ j. (l, omega (arith, zed))) (λ j z. omega (arith, zed)))
    seen_more h (exact q k l w m) t = rw m (marked h k l w)

  -- the marks keep their length
  pub checked_length : {a b : ℕ} {e : ℤ} {met met' : List ℕ} {r : Bool} → ArcChecked page a b e met met' r → length met' ≡ length met
  checked_length (free q k m) = ap length m
  checked_length (lost q k l m) = ap length m
  checked_length (more q k w m) = ap length m
  checked_length (less q l w m) = ap length m
  checked_length (exact q k l w m) = ap length m ∙ simp length-set

  -- an arc that does not hold
  pub breaks : {A : ℕ → ℕ → ℤ → Type 0} {a b : ℕ} {e : ℤ} {met met' : List ℕ} {r : Bool} → A a b e → ArcChecked page a b e met met' r → r ≡ false → Holds A page → ⊥
  breaks x (free q k m) t w = clash q t
  breaks {a} {b} {e} x (lost q k l m) t w = (w a b e x k).0 l
  breaks {a} {b} {e} x (more q k n m) t w = let p : entry page b ≤ℤ entry page a ⊕ e = (w a b e x k).1 in omega (arith, zed)
  breaks x (less q l n m) t w = clash q t
  breaks x (exact q k l n m) t w = clash q t

-- ---- the link at place i of the slices
module _ (d : Bool) (xs ys : List ℕ) (cs : List ℤ) (i : ℕ) (p : i < length xs) (q : i < length ys) (r : i < length cs) where
  abbrev void : Link ℤ
  void = link_of 0 0 (pos 0)

  abbrev here : Link ℤ
  here = link_of (get_or xs i 0) (get_or ys i 0) (get_or cs i (pos 0))

  -- it is where the table has it
  link : get_or (zip3 xs ys cs) i void ≡ here
  link = zip_at xs ys cs void i p q r

  -- its arcs are among those of the first k links
  there : (k : ℕ) → i < k → (u v : ℕ) → joins d u v here ≡ true → Arc d (links k xs ys cs) u v here.cost
  there k h u v j = arc_at d (zip3 xs ys cs) void i k u v here.cost h (zip_long xs ys cs (suc i) p q r) (rw link j) (rw link)

  -- the arc from its first end to its second
  pub forth : (k : ℕ) → i < k → Arc d (links k xs ys cs) here.a here.b here.cost
  forth k h = there k h here.a here.b (joins_of d here.a here.b here (inl (refl, refl)))

  -- and back, if undirected
  pub back : d ≡ false → (k : ℕ) → i < k → Arc d (links k xs ys cs) here.b here.a here.cost
  back w k h = there k h here.b here.a (joins_of d here.b here.a here (inr (w, refl, refl)))

  -- an arc of the first i + 1 links is one of the first i, or one of its own
  split : (u v : ℕ) (c : ℤ) → Arc d (links (suc i) xs ys cs) u v c → Arc d (links i xs ys cs) u v c ⊎ (Joined d u v here × (here.cost ≡ c))
  split u v c x = ⊎_elim (λ y. inl y) (λ y. inr (joined d u v here y.0, y.1)) (rw link at (arc_out d (zip3 xs ys cs) void i u v c x))

  -- so its arcs are one more, or two if undirected
  one_way : {page : List ℤ} {met : List ℕ} → d ≡ true → Seen (Plus (Arc d (links i xs ys cs)) here.a here.b here.cost) page met → Seen (Arc d (links (suc i) xs ys cs)) page met
  one_way w s = seen_over to (λ u v c x. from u v c (split u v c x)) s
    where
      to : (u v : ℕ) (c : ℤ) → Plus (Arc d (links i xs ys cs)) here.a here.b here.cost u v c → Arc d (links (suc i) xs ys cs) u v c
      to u v c (inl x) = arc_in d (zip3 xs ys cs) i u v c x
      to u v c (inr x) = rw (x.0, x.1, x.2) (forth (suc i) (omega arith))

      from : (u v : ℕ) (c : ℤ) → Arc d (links i xs ys cs) u v c ⊎ (Joined d u v here × (here.cost ≡ c)) → Plus (Arc d (links i xs ys cs)) here.a here.b here.cost u v c
      from u v c (inl x) = inl x
      from u v c (inr (inl x, k)) = inr (sym x.0, sym x.1, sym k)
      from u v c (inr (inr x, k)) = absurd (clash w x.0)

  both_ways : {page : List ℤ} {met : List ℕ} → d ≡ false → Seen (Plus (Plus (Arc d (links i xs ys cs)) here.a here.b here.cost) here.b here.a here.cost) page met
      → Seen (Arc d (links (suc i) xs ys cs)) page met
  both_ways w s = seen_over to (λ u v c x. from u v c (split u v c x)) s
    where
      to : (u v : ℕ) (c : ℤ) → Plus (Plus (Arc d (links i xs ys cs)) here.a here.b here.cost) here.b here.a here.cost u v c → Arc d (links (suc i) xs ys cs) u v c
      to u v c (inl (inl x)) = arc_in d (zip3 xs ys cs) i u v c x
      to u v c (inl (inr x)) = rw (x.0, x.1, x.2) (forth (suc i) (omega arith))
      to u v c (inr x) = rw (x.0, x.1, x.2) (back w (suc i) (omega arith))

      from : (u v : ℕ) (c : ℤ) → Arc d (links i xs ys cs) u v c ⊎ (Joined d u v here × (here.cost ≡ c))
          → Plus (Plus (Arc d (links i xs ys cs)) here.a here.b here.cost) here.b here.a here.cost u v c
      from u v c (inl x) = inl (inl x)
      from u v c (inr (inl x, k)) = inl (inr (sym x.0, sym x.1, sym k))
      from u v c (inr (inr x, k)) = inr (sym x.2, sym x.1, sym k)

-- ---- the same link, as the code looks at its arcs
module _ {d : Bool} {m n : ℕ} {xs ys : List ℕ} {cs : List ℤ} {i : ℕ} {page : List ℤ} {met : List ℕ} (h : i < n) (upto : Upto d m n xs ys cs i page met) where
  abbrev a : ℕ
  a = get_or xs i 0

  abbrev b : ℕ
  b = get_or ys i 0

  abbrev e : ℤ
  e = get_or cs i (pos 0)

  in_xs : i < length xs
  in_xs = omega (arith, upto.ready.in_from)

  in_ys : i < length ys
  in_ys = omega (arith, upto.ready.in_to)

  in_cs : i < length cs
  in_cs = omega (arith, upto.ready.in_costs)

  below : (a < m) × (b < m)
  below = upto.ready.ends i h

  -- what looking at its arcs asks
  pub can_look : CanLook page met a b
  can_look = record {
    tail = omega (arith, below.0, upto.ready.paged);
    head = omega (arith, below.1, upto.ready.paged);
    mark = omega (arith, below.1, upto.ready.marked);
    ranged = upto.ranged a below.0;
  }

  can_look_back : {met' : List ℕ} → length met' ≡ length met → CanLook page met' b a
  can_look_back q = record {
    tail = omega (arith, below.1, upto.ready.paged);
    head = omega (arith, below.0, upto.ready.paged);
    mark = omega (arith, below.0, upto.ready.marked);
    ranged = upto.ranged b below.1;
  }

  -- one link more
  grown : {met' : List ℕ} → length met' ≡ length met → Seen (Arc d (links (suc i) xs ys cs)) page met' → Upto d m n xs ys cs (i + 1) page met'
  grown {met'} q s =
      let r = upto.ready in
      record {
        ready = record { in_from = r.in_from; in_to = r.in_to; in_costs = r.in_costs; ends = r.ends; paged = r.paged; marked = rw q r.marked };
        ranged = upto.ranged;
        seen = subst (λ (k : ℕ). Seen (Arc d (links k xs ys cs)) page met') (sym (add-one i)) s;
      }

  -- the code reads the cost as x
  module _ {x : ℤ} {met' : List ℕ} {r : Bool} (q : x ≡ e) (l : ArcChecked page a b x met met' r) where
    -- its first arc does not hold
    pub link_off : r ≡ false → Holds (Arc d (links n xs ys cs)) page → ⊥
    link_off t = breaks (rw q (forth d xs ys cs i in_xs in_ys in_cs n h)) l t

    -- what looking at its second arc asks
    pub link_back : CanLook page met' b a
    link_back = can_look_back (checked_length l)

    -- its first arc holds
    first : r ≡ true → Seen (Plus (Arc d (links i xs ys cs)) a b e) page met'
    first t = rw q at (seen_more upto.seen can_look.mark l t)

    -- that was all, if directed
    pub link_one : r ≡ true → d ≡ true → Upto d m n xs ys cs (i + 1) page met'
    link_one t w = grown (checked_length l) (one_way d xs ys cs i in_xs in_ys in_cs w (first t))

    -- else its second arc decides
    pub link_both : {x' : ℤ} {met'' : List ℕ} {r' : Bool} → r ≡ true → d ≡ false → x' ≡ e → ArcChecked page b a x' met' met'' r' → Step d m n xs ys cs i page met'' r'
    link_both t w q' l' =
        record {
          holds = λ k. grown (checked_length l' ∙ checked_length l) (both_ways d xs ys cs i in_xs in_ys in_cs w (rw q' at (seen_more (first t) link_back.mark l' k)));
          fails = λ k. breaks (rw q' (back d xs ys cs i in_xs in_ys in_cs w n h)) l' k;
        }

-- every link looked at
pub seen_all : {d : Bool} {m n : ℕ} {xs ys : List ℕ} {cs : List ℤ} {i : ℕ} {page : List ℤ} {met : List ℕ} → Upto d m n xs ys cs i page met → i ≡ n → Seen (Arc d (links n xs ys cs)) page met
seen_all {d} {xs} {ys} {cs} {page} {met} u q = subst (λ (k : ℕ). Seen (Arc d (links k xs ys cs)) page met) q u.seen
