-- What the contracts of the functions on a matrix say: memory was `old` and is `new`. Assumes nothing: these are definitions.
use Rattle.std.specs.Prelude.{◌≡◌, ℕ, ◌+◌, ◌*◌, ◌<◌, ◌≤◌, false, List, take, drop}
use Rattle.gf2.specs.Rows.{Row, sum, only}
use Rattle.matrix.specs.Cells.{cell}

-- every word before row i and every word after it is as it was
pub record ButRow (old new : List ℕ) (width i : ℕ) : Type 0 where
  pub before : take (i * width) new ≡ take (i * width) old
  pub after : drop (i * width + width) new ≡ drop (i * width + width) old

-- row i is `row` now, and all else is as it was
pub record RowPut (old new : List ℕ) (width i : ℕ) (row : Row) : Type 0 where
  pub here : (j : ℕ) → cell new width i j ≡ row j
  pub rest : ButRow old new width i

-- row j is added to row i
abbrev pub RowAdded : List ℕ → List ℕ → ℕ → ℕ → ℕ → Type 0
RowAdded old new width i j = RowPut old new width i (sum (cell old width i) (cell old width j))

-- bit j of row i is turned over
abbrev pub Flipped : List ℕ → List ℕ → ℕ → ℕ → ℕ → Type 0
Flipped old new width i j = RowPut old new width i (sum (cell old width i) (only j))

-- each of the first n rows has the bit of its own place set alone, and no other row has any
pub record Identity (width : ℕ) (ws : List ℕ) (n : ℕ) : Type 0 where
  pub unit : (i : ℕ) → i < n → (j : ℕ) → cell ws width i j ≡ only i j
  pub rest : (i : ℕ) → n ≤ i → (j : ℕ) → cell ws width i j ≡ false
