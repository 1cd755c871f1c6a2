-- What the steps of elimination by blocks do in memory: rs and ts are the rows and what was done before, rs' and ts' after. A block is `count` rows from `first` on.
-- Assumes nothing: these are definitions.
use Rattle.std.specs.Prelude.{◌≡◌, ℕ, zero, suc, ◌+◌, ◌-◌, ◌^◌, ◌<◌, ◌≤◌, true, false, ◌&&◌, ◌⊎◌, List, length, take, drop, Option, Some, None, nat_lt}
use Rattle.gf2.specs.Rows.{pick, differ, Row, dot}
use Rattle.gf2.specs.Blocks.{Stepped, Stepping}
use Rattle.matrix.specs.Cells.{width_of, cell}
use Rattle.echelon.specs.Steps.{column_of, Kept}
use Rattle.echelon.specs.declared.steps.Steps.{Steps}

-- r is the first row from `from` on, below `to`, that has a bit set
pub record FirstRow (width : ℕ) (ws : List ℕ) (from to r : ℕ) : Type 0 where
  pub least : from ≤ r
  pub most : r < to
  pub before : (i : ℕ) → from ≤ i → i < r → (j : ℕ) → cell ws width i j ≡ false
  pub here : (j : ℕ) × (cell ws width r j ≡ true)

-- the first row from `from` on, below `to`, that has a bit set; or none, where none has
abbrev pub NextRow : ℕ → List ℕ → ℕ → ℕ → Option ℕ → Type 0
NextRow width ws from to (Some r) = FirstRow width ws from to r
NextRow width ws from to None = (i : ℕ) → from ≤ i → i < to → (j : ℕ) → cell ws width i j ≡ false

-- the number whose first binary digits w has, the lowest first
abbrev pub number : Row → ℕ → ℕ
number w zero = 0
number w (suc b) = pick (w b) (2 ^ b) 0 + number w b

-- the table has a row for each choice w of the block's rows: their sum
pub record Tabled (table memory : List ℕ) (width first count : ℕ) : Type 0 where
  pub chosen : (w : Row) (j : ℕ) → cell table width (number w count) j ≡ dot count w (λ b. cell memory width (first + b) j)

-- the first m of `size` rows, with `row` added, stand `size` rows further on, and all else is as it was
pub record Doubled (old new : List ℕ) (width size m : ℕ) (row : Row) : Type 0 where
  pub added : (e : ℕ) → e < m → (j : ℕ) → cell new width (size + e) j ≡ differ (cell old width e j) (row j)
  pub others : (i : ℕ) → (i < size) ⊎ (size + m ≤ i) → (j : ℕ) → cell new width i j ≡ cell old width i j

-- the columns of the rows from `first` to `end`
abbrev pub block_of : List ℕ → ℕ → ℕ → List ℕ
block_of cs first end = take (end - first) (drop first cs)

-- which of the columns row i has set; a column from n on is none
abbrev pub hits : ℕ → ℕ → List ℕ → List ℕ → ℕ → Row
hits n width ws columns i b = nat_lt (column_of columns b) n && cell ws width i (column_of columns b)

-- the row of the table that row i asks for
abbrev pub entry_of : ℕ → ℕ → List ℕ → List ℕ → ℕ → ℕ
entry_of n width ws columns i = number (hits n width ws columns i) (length columns)

-- the row of the table that row i of the steps asks for, where the block is the rows from `first` to `end`
abbrev pub asked : Steps → ℕ → ℕ → ℕ → ℕ
asked s first end i = entry_of s.n (width_of s.n) s.rows.now (block_of s.pivots.now first end) i

-- each row i from `low` to `high` has row `e i` of the table added, if the table's row 0 is off; and all else is as it was
pub record Swept (width : ℕ) (old new table : List ℕ) (e : ℕ → ℕ) (low high : ℕ) : Type 0 where
  pub added : ((j : ℕ) → cell table width 0 j ≡ false) → (i : ℕ) → low ≤ i → i < high → (j : ℕ) → cell new width i j ≡ differ (cell old width i j) (cell table width (e i) j)
  pub others : (i : ℕ) → (i < low) ⊎ (high ≤ i) → (j : ℕ) → cell new width i j ≡ cell old width i j

-- the rows from `first` to t take their pivots, which are cleared from the rows up to `end`
pub record BlockSettles (n width : ℕ) (rs ts : List ℕ) (c : ℕ → ℕ) (rs' ts' : List ℕ) (c' : ℕ → ℕ) (first t end : ℕ) : Type 0 where
  pub kept : Kept n (cell rs width) (cell ts width) (cell rs' width) (cell ts' width)
  pub column : (i : ℕ) → first ≤ i → i < t → c' i ≤ n
  pub columns : (i : ℕ) → (i < first) ⊎ (t ≤ i) → c' i ≡ c i
  pub others : (i : ℕ) → (i < first) ⊎ (end ≤ i) → (j : ℕ) → cell rs' width i j ≡ cell rs width i j
  pub steps : Stepped n (cell rs width) c first → Stepping n (cell rs' width) c' first t end

-- the rows from `first` to `end` take their pivots, which are cleared from all other rows
pub record BlockReduces (n width : ℕ) (rs ts : List ℕ) (c : ℕ → ℕ) (rs' ts' : List ℕ) (c' : ℕ → ℕ) (first end : ℕ) : Type 0 where
  pub kept : Kept n (cell rs width) (cell ts width) (cell rs' width) (cell ts' width)
  pub column : (i : ℕ) → first ≤ i → i < end → c' i ≤ n
  pub columns : (i : ℕ) → (i < first) ⊎ (end ≤ i) → c' i ≡ c i
  pub steps : Stepped n (cell rs width) c first → Stepped n (cell rs' width) c' end
