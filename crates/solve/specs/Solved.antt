-- What is read off a system in reduced steps. A is the system, R its rows in steps, T what was done to them, c the pivots, s what is lit. Assumes nothing: these are definitions.
use Rattle.std.specs.Prelude.{◌≡◌, ℕ, ◌≤◌, Bool, true, false, List, [], length, nat_le}
use Rattle.gf2.specs.Rows.{Row, Rows, Same, dot, act}
use Rattle.gf2.specs.Reduction.{LeftQuiet, Tracks, Pivots}
use Rattle.lamps.specs.Lamps.{Lamps, Wire, listed, odd_of, puts_out, quiet}
use Rattle.lamps.specs.Calls.{count_on, power}

-- the bits of the row past n are not set
abbrev pub Within : ℕ → Row → Type 0
Within n v = (j : ℕ) → n ≤ j → v j ≡ false

-- q shows that nothing solves A for s: the rows that q has sum to nothing, and an odd number of them is lit
pub record Shows (n : ℕ) (A : Rows) (s q : Row) : Type 0 where
  pub quiet : LeftQuiet n A q
  pub odd : dot n q s ≡ true

-- r says whether there is a way. If so p solves every system that the steps are made from; else p shows that nothing does
pub record Solved (n : ℕ) (T : Rows) (c : ℕ → ℕ) (s p : Row) (r : Bool) : Type 0 where
  pub way : r ≡ true → (A R : Rows) → Tracks n A R T → Pivots n R c → Same n (act n A p) s
  pub never : r ≡ false → (A R : Rows) → Tracks n A R T → Pivots n R c → Shows n A s p
  pub within : Within n p

-- the same for a board with the wires ws and the lamps s lit: p puts all out, or is a quiet set that is odd for what is lit
pub record Tells (n : ℕ) (ws : List Wire) (s : Lamps) (p : Row) (r : Bool) : Type 0 where
  pub way : r ≡ true → puts_out ws s (listed n p) ≡ true
  pub never : r ≡ false → (quiet ws n (listed n p) ≡ true) × (odd_of (listed n p) s ≡ true)

-- there are two to the k quiet sets, and as many ways if there is one
pub record Counts (n : ℕ) (ws : List Wire) (k : ℕ) : Type 0 where
  pub quiet : count_on n [] (quiet ws n) ≡ power k
  pub ways : (s p : Lamps) → length s ≡ n → puts_out ws s p ≡ true → count_on n [] (puts_out ws s) ≡ power k

-- is row i zero
abbrev pub zero_row : ℕ → (ℕ → ℕ) → ℕ → Bool
zero_row n c i = nat_le n (c i)
