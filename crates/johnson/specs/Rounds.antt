-- Potentials as lists: one arc, one link, one round over the links in table order, and some rounds, each in place.
-- Assumes nothing.
use Rattle.std.specs.Prelude.{◌≡◌, Bool, true, false, cond, List, ℕ, zero, suc, ◌+◌, ◌*◌, ◌≤◌, ◌<◌, ◌^◌, ℤ, pos, ◌≤ℤ◌, length}
use Rattle.std.specs.Prelude.{get_or, set}
use Rattle.std.specs.Int.Signed.{lt_z}
use Rattle.whole.specs.Zed.{◌⊕◌, P, N, Cost32}
use Rattle.net.specs.declared.Lent.{Lent}
use Rattle.net.specs.declared.Ints.{Ints}

-- the potential of v
abbrev pub label : List ℤ → ℕ → ℤ
label h v = get_or h v (pos 0)

-- would the arc from u to v of cost c lower the potential of v?
unfoldable pub lowers : ℕ → ℕ → ℤ → List ℤ → Bool
lowers u v c h = lt_z (label h u ⊕ c) (label h v)

-- the potentials after a look at that arc
unfoldable pub lowered : ℕ → ℕ → ℤ → List ℤ → List ℤ
lowered u v c h = cond (lowers u v c h) (set h v (label h u ⊕ c)) h

-- after a look at a link between u and v: from u to v, then, if not directed, back
unfoldable pub looked : Bool → ℕ → ℕ → ℤ → List ℤ → List ℤ
looked d u v c h = cond d (lowered u v c h) (lowered v u c (lowered u v c h))

-- the links of a table that are looked at: the first places of its slices
pub record Table : Type 0 where
  pub directed : Bool
  pub tails : List ℕ
  pub heads : List ℕ
  pub costs : List ℤ

abbrev pub table_of : Bool → List ℕ → List ℕ → List ℤ → Table
table_of d xs ys cs = record { directed = d; tails = xs; heads = ys; costs = cs }

abbrev pub table_in : Lent Ints → Table
table_in l = table_of l.map.directed l.from.now l.to.now l.costs.costs.now

-- the ends and the cost of the link at k
abbrev pub tail : Table → ℕ → ℕ
tail t k = get_or t.tails k 0

abbrev pub head : Table → ℕ → ℕ
head t k = get_or t.heads k 0

abbrev pub cost : Table → ℕ → ℤ
cost t k = get_or t.costs k (pos 0)

-- after the first k links
unfoldable pub swept : Table → ℕ → List ℤ → List ℤ
swept t zero h = h
swept t (suc k) h = looked t.directed (tail t k) (head t k) (cost t k) (swept t k h)

-- after r rounds over n links
unfoldable pub rounds : Table → ℕ → ℕ → List ℤ → List ℤ
rounds t n zero h = h
rounds t n (suc r) h = swept t n (rounds t n r h)

-- a link between u and v: what the potentials h become, h', is at most what its arcs give from h
pub record Bounded (d : Bool) (u v : ℕ) (c : ℤ) (h h' : List ℤ) : Type 0 where
  pub there : label h' v ≤ℤ label h u ⊕ c
  pub return : d ≡ false → label h' u ≤ℤ label h v ⊕ c

-- no arc of the link lowers a potential
abbrev pub Still : Bool → ℕ → ℕ → ℤ → List ℤ → Type 0
Still d u v c h = Bounded d u v c h h

-- no arc of the first k links does
abbrev pub StillTo : Table → ℕ → List ℤ → Type 0
StillTo t k h = (j : ℕ) → j < k → Still t.directed (tail t j) (head t j) (cost t j) h

-- potentials of m indices after at most k looks at an arc: none is above 0, and none has fallen by more than k greatest costs
pub record Shallow (m k : ℕ) (h : List ℤ) : Type 0 where
  pub long : length h ≡ m
  pub high : (v : ℕ) → P (label h v) ≡ 0
  pub low : (v : ℕ) → N (label h v) ≤ k * 2 ^ 31

-- the first n links of a table, whose ends are below m
pub record Linked (m n : ℕ) (t : Table) : Type 0 where
  pub few : n ≤ 8192
  pub room_a : n ≤ length t.tails
  pub room_b : n ≤ length t.heads
  pub room_c : n ≤ length t.costs
  pub tails : (k : ℕ) → k < n → tail t k < m
  pub heads : (k : ℕ) → k < n → head t k < m

-- a potential in -b ..= 0
pub record Deep (b : ℕ) (z : ℤ) : Type 0 where
  pub high : P z ≡ 0
  pub low : N z ≤ b

-- an arc of the link lowers a potential
pub data Improves (d : Bool) (u v : ℕ) (c : ℤ) (h : List ℤ) : Type 0 where
  forth : lowers u v c h ≡ true → Improves d u v c h
  back : d ≡ false → lowers v u c h ≡ true → Improves d u v c h

-- a look at a link: what it leaves, and whether a potential fell; its cost is one of 32 bits
pub record LinkRelaxed (d : Bool) (u v : ℕ) (c : ℤ) (h h' : List ℤ) (fell : Bool) : Type 0 where
  pub leaves : h' ≡ looked d u v c h
  pub small : Cost32 c
  pub improves : fell ≡ true → Improves d u v c h
  pub quiet : fell ≡ false → (h' ≡ h) × Still d u v c h

-- a link among the first k that lowers a potential
pub record OpenTo (t : Table) (k : ℕ) (h : List ℤ) : Type 0 where
  pub at : ℕ
  pub within : at < k
  pub improves : Improves t.directed (tail t at) (head t at) (cost t at) h

-- a round over n links, at most 8192, so of at most 16384 looks
pub record Swept (t : Table) (n : ℕ) (h h' : List ℤ) (fell : Bool) : Type 0 where
  pub leaves : h' ≡ swept t n h
  pub shallow : (k : ℕ) → Shallow (length h) k h → Shallow (length h) (k + 16384) h'
  pub small : (k : ℕ) → k < n → Cost32 (cost t k)
  pub improves : fell ≡ true → OpenTo t n h
  pub quiet : fell ≡ false → StillTo t n h'
