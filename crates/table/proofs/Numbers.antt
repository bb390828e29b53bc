-- The numbers of a put are those of its table (specs/Promise.antt): where a record goes is the first row whose condition holds, whatever is then stored there.
-- The tests are looked at in the order in which `placing` looks at them; each way through them is a row.
-- Assumes nothing.
use mathlib.Core.Path.{◌≡◌, refl}
use mathlib.Core.Bool.{Bool, true, false}
use mathlib.Core.Logic.{◌↔◌}
use mathlib.Core.List.{List}
use Prim.Native.Nat.{ℕ, ◌+◌}
use native.Mathlib.Omega.{arith}
use borrow.Author.Tests.{ltb-true, ltb-false}
use lib.Dec.{ltb}
use lib.IntN.{ℤ}
use lib.ListN.{take}
use Rattle.numbers.specs.Numbers.{Row, here, past, Follows, At}
use Rattle.numbers.proofs.Numbers.{exactly}
use Rattle.table.specs.Links.{Link, zip3, present_both, lent_whole, all_inside, table_no, Place, place_now, place_of, place_at, placing}
use Rattle.table.specs.Lent.{room_ints, room_floats, float_costs, RawCost, store_ints, put_ints, store_floats, put_floats}
use Rattle.table.specs.Promise.{put_table, ints_table, floats_table}
use Rattle.table.proofs.Laws.{whole}

-- `store` is what is left once the place is known
module _ {C E : Type 0} (d : Bool) (m room : ℕ) (marks : List ℕ) (u v n : ℕ) (ls : List (Link C)) (store : Place → E) where
  abbrev pub stored : List (Row E)
  stored = put_table d m room marks u v n ls (λ k. store (place_now k n 0 false)) (λ i. store (place_now 0 n i false)) (store (place_now 0 (n + 1) n true))

  pub put_follows : Follows stored (store (placing d m room marks u v n ls)) (placing d m room marks u v n ls).number
  unfolding table_no placing place_at
  put_follows = go (lent_whole m n room marks) refl (all_inside m marks (take n ls)) refl (present_both m marks u v) refl (ltb (place_of d u v (take n ls)) n) refl (ltb n room) refl
    where
      go : (t : Bool) → lent_whole m n room marks ≡ t → (a : Bool) → all_inside m marks (take n ls) ≡ a → (b : Bool) → present_both m marks u v ≡ b
          → (o : Bool) → ltb (place_of d u v (take n ls)) n ≡ o → (f : Bool) → ltb n room ≡ f
          → Follows stored (store (placing d m room marks u v n ls)) (placing d m room marks u v n ls).number
      go false w a i b p o k f r = here w (rw w, rw w)
      go true w false i b p o k f r = past w (here i (rw (w, i), rw (w, i)))
      go true w true i false p o k f r = past w (past i (here p (rw (w, i, p), rw (w, i, p))))
      go true w true i true p true k f r =
          let h = ltb-true (place_of d u v (take n ls)) n k in
          past w (past i (past p (past (λ z. omega (arith, z.0)) (here h (rw (w, i, p, k), rw (w, i, p, k))))))
      go true w true i true p false k true r =
          let h = ltb-false (place_of d u v (take n ls)) n k in
          let l = ltb-true n room r in
          past w (past i (past p (past (λ z. omega (arith, z.1)) (past (λ z. omega arith) (here tt (rw (w, i, p, k, r), rw (w, i, p, k, r)))))))
      go true w true i true p false k false r =
          let h = ltb-false (place_of d u v (take n ls)) n k in
          let l = ltb-false n room r in
          past w (past i (past p (here (h, omega (arith, (whole m n room marks w).few)) (rw (w, i, p, k, r), rw (w, i, p, k, r)))))

  -- each number exactly when its row is reached
  pub put_exactly : (k : ℕ) → ((placing d m room marks u v n ls).number ≡ k) ↔ At k stored
  put_exactly = exactly stored (store (placing d m room marks u v n ls)) (placing d m room marks u v n ls).number put_follows

-- ---- both puts
module _ (d : Bool) (m : ℕ) (marks : List ℕ) (r : Link ℤ) (n : ℕ) (xs ys : List ℕ) (cs : List ℤ) where
  pub ints_follows : Follows (ints_table d m marks r n xs ys cs) (put_ints d m marks r n xs ys cs) (put_ints d m marks r n xs ys cs).number
  unfolding put_ints store_ints
  ints_follows = put_follows d m (room_ints xs ys cs) marks r.a r.b n (zip3 xs ys cs) (λ p. store_ints p r xs ys cs)

module _ (d : Bool) (m : ℕ) (marks : List ℕ) (r : Link RawCost) (n : ℕ) (xs ys bs os : List ℕ) where
  pub floats_follows : Follows (floats_table d m marks r n xs ys bs os) (put_floats d m marks r n xs ys bs os) (put_floats d m marks r n xs ys bs os).number
  unfolding put_floats store_floats
  floats_follows = put_follows d m (room_floats xs ys bs os) marks r.a r.b n (zip3 xs ys (float_costs bs os)) (λ p. store_floats p r xs ys bs os)
