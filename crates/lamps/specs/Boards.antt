-- Small boards with their answers. Each is a statement, a type whose proof is owed. Assumes nothing.
use Rattle.std.specs.Prelude.{◌≡◌, ℕ, zero, suc, ◌+◌, ◌*◌, ◌/◌, ◌%◌, ◌^◌, ◌≤◌, true, false, List, [], ◌∷◌, ◌++◌, length, ◌==◌, nat_lt}
use Rattle.gf2.specs.Rows.{pick}
use Rattle.lamps.specs.Lamps.{Lamps, Wire, how_many, puts_out, quiet, odd_of}
use Rattle.lamps.specs.Calls.{count_on}

-- n lamps as the digits of a number, lamp 0 the first: 1 if it is in the set
unfoldable pub digits : ℕ → ℕ → Lamps
digits zero d = []
digits (suc n) d = (d / 10 ^ n % 10 == 1) ∷ digits n d

abbrev pub wire : ℕ → ℕ → Wire
wire i j = record { one = i; other = j }

-- of n lamps in rows of w, numbered row by row: the wires from the first i lamps to the right and down
unfoldable pub wires_before : ℕ → ℕ → ℕ → List Wire
wires_before w n zero = []
wires_before w n (suc i) = pick ((i + 1) % w == 0) [] (wire i (i + 1) ∷ []) ++ (pick (nat_lt (i + w) n) (wire i (i + w) ∷ []) [] ++ wires_before w n i)

-- h rows of w lamps, each wired to its neighbours
abbrev pub grid : ℕ → ℕ → List Wire
grid w h = wires_before w (w * h) (w * h)

-- p puts all out, no presses that do are fewer, and there are so many ways
pub record OutBy (ws : List Wire) (s p : Lamps) (ways : ℕ) : Type 0 where
  pub puts : puts_out ws s p ≡ true
  pub fewest : (q : Lamps) → puts_out ws s q ≡ true → how_many p ≤ how_many q
  pub many : count_on (length s) [] (puts_out ws s) ≡ ways

-- nothing puts all out, and q is quiet and odd for what is lit
pub record NeverBy (ws : List Wire) (s q : Lamps) : Type 0 where
  pub none : (p : Lamps) → puts_out ws s p ≡ false
  pub still : quiet ws (length s) q ≡ true
  pub odd : odd_of q s ≡ true

pub record Boards : Type 0 where
  -- rows of two, and of three
  pub square_all : OutBy (grid 2 2) (digits 4 1111) (digits 4 1111) 1
  pub square_corner : OutBy (grid 2 2) (digits 4 1000) (digits 4 1110) 1
  pub two_rows_all : OutBy (grid 3 2) (digits 6 111111) (digits 6 001100) 4
  pub two_rows_corner : NeverBy (grid 3 2) (digits 6 100000) (digits 6 101101)
  -- in one row
  pub one_on : OutBy (grid 1 1) (digits 1 1) (digits 1 1) 1
  pub two_all : OutBy (grid 2 1) (digits 2 11) (digits 2 10) 2
  pub two_end : NeverBy (grid 2 1) (digits 2 10) (digits 2 11)
  pub three_none : OutBy (grid 3 1) (digits 3 000) (digits 3 000) 1
  pub three_middle : OutBy (grid 3 1) (digits 3 010) (digits 3 111) 1
  pub four_all : OutBy (grid 4 1) (digits 4 1111) (digits 4 1001) 1
  pub five_end : NeverBy (grid 5 1) (digits 5 10000) (digits 5 11011)
  pub five_ends : OutBy (grid 5 1) (digits 5 10001) (digits 5 10110) 2
  -- without wires; each of three wired to each; one wired to three
  pub apart : OutBy [] (digits 3 101) (digits 3 101) 1
  pub triangle_all : OutBy (wire 0 1 ∷ wire 1 2 ∷ wire 2 0 ∷ []) (digits 3 111) (digits 3 100) 4
  pub triangle_one : NeverBy (wire 0 1 ∷ wire 1 2 ∷ wire 2 0 ∷ []) (digits 3 100) (digits 3 110)
  pub star_middle : NeverBy (wire 0 1 ∷ wire 0 2 ∷ wire 0 3 ∷ []) (digits 4 1000) (digits 4 1111)
