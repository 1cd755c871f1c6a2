-- A wire that comes or goes, seen from the steps. Assumes nothing: these are definitions.
use Rattle.std.specs.Prelude.{◌≡◌, ℕ, ◌<◌, ◌≢◌, List}
use Rattle.gf2.specs.Rows.{Rows}
use Rattle.gf2.specs.Reduction.{Tracks, Pivots, put_row, Replaced}
use Rattle.lamps.specs.Lamps.{Wire, table}
use Rattle.lamps.specs.Calls.{rewired}

-- the steps R and T of a board of n lamps, after the wire between i and j came or went: every row of the board but those of i and j is as it was, and with these two
-- replaced, one after the other, the steps are those of the new board
pub record TwoRows (n : ℕ) (ws : List Wire) (i j : ℕ) (R T : Rows) : Type 0 where
  pub others : (x : ℕ) → x ≢ i → x ≢ j → (y : ℕ) → table (rewired ws i j) x y ≡ table ws x y
  pub first : Replaced n (put_row (table ws) i (table (rewired ws i j) i)) R T i (table (rewired ws i j) i)
  pub second : Replaced n (put_row (put_row (table ws) i (table (rewired ws i j) i)) j (table (rewired ws i j) j)) first.R₃ first.T₃ j (table (rewired ws i j) j)
  pub tracks : Tracks n (table (rewired ws i j)) second.R₃ second.T₃
  pub in_steps : Pivots n second.R₃ second.c₃

abbrev pub TwoRowsChange : Type 0
TwoRowsChange =
    (n : ℕ) (ws : List Wire) (i j : ℕ) (R T : Rows) (c : ℕ → ℕ) → i < n → j < n → i ≢ j → Tracks n (table ws) R T → Pivots n R c → TwoRows n ws i j R T
