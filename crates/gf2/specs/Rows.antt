-- Rows and tables over two elements, off and on. A row says of each column whether it is on there, a table has a row for each number; both are looked at
-- below a bound n. Assumes nothing: these are definitions.
use Rattle.std.specs.Prelude.{◌≡◌, ℕ, zero, suc, ◌+◌, ◌<◌, Bool, true, false, not, ◌&&◌, ◌==◌}

-- the one or the other, by a test
abbrev pub pick : {A : Type 0} → Bool → A → A → A
pick true a b = a
pick false a b = b

-- is just one of two on: the sum over two elements
abbrev pub differ : Bool → Bool → Bool
differ a b = pick a (not b) b

abbrev pub Row : Type 0
Row = ℕ → Bool

abbrev pub Rows : Type 0
Rows = ℕ → ℕ → Bool

-- alike in the first n columns
abbrev pub Same : ℕ → Row → Row → Type 0
Same n a b = (j : ℕ) → j < n → a j ≡ b j

-- is an odd number of the first n on: the sum of n; and how many are
abbrev pub parity : (ℕ → Bool) → ℕ → Bool
parity f zero = false
parity f (suc n) = differ (f n) (parity f n)

abbrev pub one : Bool → ℕ
one b = pick b 1 0

abbrev pub tally : (ℕ → Bool) → ℕ → ℕ
tally f zero = 0
tally f (suc n) = one (f n) + tally f n

-- the sum of two rows; the row that is on at f alone; the row that is off everywhere
abbrev pub sum : Row → Row → Row
sum a b j = differ (a j) (b j)

abbrev pub only : ℕ → Row
only f j = j == f

abbrev pub nowhere : Row
nowhere j = false

-- the product of two rows: are they on together an odd number of times; and what a table makes of a row, by the products with its rows
abbrev pub dot : ℕ → Row → Row → Bool
dot n a p = parity (λ j. a j && p j) n

abbrev pub act : ℕ → Rows → Row → Row
act n M p i = dot n (M i) p
