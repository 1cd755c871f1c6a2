-- Lamps, each with a button, and wires between them. Pressing a button changes its lamp and those that are wired to it: on to off, off to on.
-- Assumes nothing: these are definitions.
use Rattle.std.specs.Prelude.{ℕ, zero, suc, ◌+◌, Bool, true, false, not, ◌&&◌, ◌||◌, List, [], ◌∷◌, length, ◌==◌, slice_index_or}
use Rattle.gf2.specs.Rows.{pick, differ, Rows}

-- SETS OF LAMPS

-- lamps are numbered from 0, and a set of them says of each in turn whether it is in the set: the lamps that are lit, or the buttons that are pressed
abbrev pub Lamps : Type 0
Lamps = List Bool

-- is lamp i in the set
abbrev pub at : Lamps → ℕ → Bool
at s i = slice_index_or s i false

-- those of the first n lamps that pass a test
unfoldable pub listed : ℕ → (ℕ → Bool) → Lamps
listed zero f = []
listed (suc n) f = f 0 ∷ listed n (λ k. f (suc k))

-- none of n lamps; all of them
unfoldable pub none_lit : ℕ → Lamps
none_lit zero = []
none_lit (suc n) = false ∷ none_lit n

unfoldable pub all_lit : ℕ → Lamps
all_lit zero = []
all_lit (suc n) = true ∷ all_lit n

-- of two sets of as many lamps, those that are in one and not in the other
unfoldable pub both : Lamps → Lamps → Lamps
both [] ys = []
both (x ∷ xs) [] = x ∷ xs
both (x ∷ xs) (y ∷ ys) = differ x y ∷ both xs ys

-- is the set empty; how many lamps it has
unfoldable pub all_off : Lamps → Bool
all_off [] = true
all_off (l ∷ ls) = not l && all_off ls

unfoldable pub how_many : Lamps → ℕ
how_many [] = 0
how_many (l ∷ ls) = pick l 1 0 + how_many ls

-- have two sets an odd number of lamps in common
unfoldable pub odd_of : Lamps → Lamps → Bool
odd_of [] ss = false
odd_of (q ∷ qs) [] = false
odd_of (q ∷ qs) (s ∷ ss) = differ (q && s) (odd_of qs ss)

-- WIRES

-- a wire joins two lamps, and has no direction
pub record Wire : Type 0 where
  pub one : ℕ
  pub other : ℕ

-- are i and j the lamps a and b, one way round or the other
abbrev pub joins : ℕ → ℕ → ℕ → ℕ → Bool
joins a b i j = (a == i && b == j) || (a == j && b == i)

-- does one of the wires join i and j
unfoldable pub wired : List Wire → ℕ → ℕ → Bool
wired [] i j = false
wired (w ∷ ws) i j = joins w.one w.other i j || wired ws i j

-- does pressing i change j
abbrev pub changes : List Wire → ℕ → ℕ → Bool
changes ws i j = i == j || wired ws i j

-- the same as a table: row i is lamp i, column j is button j
abbrev pub table : List Wire → Rows
table ws i j = changes ws j i

-- PRESSES

-- do an odd number of the presses p, of the first n buttons, change lamp j
unfoldable pub odd_for : List Wire → Lamps → ℕ → ℕ → Bool
odd_for ws p j zero = false
odd_for ws p j (suc n) = differ (at p n && changes ws n j) (odd_for ws p j n)

-- s was lit and p was pressed: what is lit now, of n lamps from lamp i on; and of all
unfoldable pub lit_from : List Wire → Lamps → Lamps → ℕ → ℕ → Lamps
lit_from ws s p zero i = []
lit_from ws s p (suc n) i = differ (at s i) (odd_for ws p i (length s)) ∷ lit_from ws s p n (suc i)

abbrev pub pressed : List Wire → Lamps → Lamps → Lamps
pressed ws s p = lit_from ws s p (length s) 0

-- do the presses p put out all of s
abbrev pub puts_out : List Wire → Lamps → Lamps → Bool
puts_out ws s p = length p == length s && all_off (pressed ws s p)

-- is q, of n lamps, quiet: every press changes an even number of its lamps. Since wires have no direction, that is: pressed all together they change nothing
abbrev pub quiet : List Wire → ℕ → Lamps → Bool
quiet ws n q = length q == n && all_off (pressed ws (none_lit n) q)
