-- What the steps of elimination do to rows in memory: rs and ts are the rows and what was done before, rs' and ts' after.
-- Assumes nothing: these are definitions.
use Rattle.std.specs.Prelude.{◌≡◌, ℕ, ◌<◌, ◌≤◌, ◌≢◌, ◌⊎◌, List, slice_index}
use Rattle.gf2.specs.Rows.{Rows, Same, nowhere}
use Rattle.gf2.specs.Reduction.{Tracks, Pivots, Settled, Reduced}
use Rattle.gf2.specs.Blocks.{Clears}
use Rattle.bits.specs.Said.{First}
use Rattle.matrix.specs.Cells.{row_of, cell, Spare}

-- the column of row i's pivot, as the memory has it
abbrev pub column_of : List ℕ → ℕ → ℕ
column_of cs i = slice_index cs i

-- sums of rows, the same in both: what the rows were made from is kept, and so are the bits past n
pub record Kept (n : ℕ) (R T R' T' : Rows) : Type 0 where
  pub tracks : (A : Rows) → Tracks n A R T → Tracks n A R' T'
  pub spare_rows : Spare n R → Spare n R'
  pub spare_done : Spare n T → Spare n T'

-- row k is reduced by those of the first m rows that have a pivot
pub record Reducing (n width : ℕ) (rs ts rs' ts' : List ℕ) (c : ℕ → ℕ) (k m : ℕ) : Type 0 where
  pub kept : Kept n (cell rs width) (cell ts width) (cell rs' width) (cell ts' width)
  pub others : (i : ℕ) → i ≢ k → row_of rs' width i ≡ row_of rs width i
  pub reduced : Settled n (λ i. i ≢ k) (cell rs width) c → Reduced n (λ i. i ≢ k) (λ i. i < m) (cell rs' width) c k

-- row k is added to those rows from `from` to `to` that have bit j; the system may have any n rows, of which these are some
pub record Clearing (width : ℕ) (rs ts rs' ts' : List ℕ) (from to k j : ℕ) : Type 0 where
  pub kept : (n : ℕ) → to ≤ n → k < n → Kept n (cell rs width) (cell ts width) (cell rs' width) (cell ts' width)
  pub clears : Clears (cell rs width) (cell rs' width) from to k j

-- row k is off and has no pivot; or its first bit is its pivot, which is cleared from those rows from `from` to `to` that have it
pub record TakesPivot (n width : ℕ) (rs ts : List ℕ) (c : ℕ → ℕ) (rs' ts' : List ℕ) (c' : ℕ → ℕ) (from to k : ℕ) : Type 0 where
  pub taken : (Same n (cell rs width k) nowhere × (c' k ≡ n) × (rs' ≡ rs) × (ts' ≡ ts)) ⊎ (First n (cell rs width k) (c' k) × Clearing width rs ts rs' ts' from to k (c' k))
  pub columns : (i : ℕ) → i ≢ k → c' i ≡ c i

-- row k is settled: if every other row was, all are
pub record Settles (n width : ℕ) (rs ts : List ℕ) (c : ℕ → ℕ) (rs' ts' : List ℕ) (c' : ℕ → ℕ) (k : ℕ) : Type 0 where
  pub kept : Kept n (cell rs width) (cell ts width) (cell rs' width) (cell ts' width)
  pub column : c' k ≤ n
  pub columns : (i : ℕ) → i ≢ k → c' i ≡ c i
  pub all : Settled n (λ i. i ≢ k) (cell rs width) c → Pivots n (cell rs' width) c'

-- R is A in reduced steps, T what was done, c the pivots
pub record InSteps (n : ℕ) (A R T : Rows) (c : ℕ → ℕ) : Type 0 where
  pub tracks : Tracks n A R T
  pub pivots : Pivots n R c
  pub columns : (i : ℕ) → i < n → c i ≤ n
  pub spare_rows : Spare n A → Spare n R
  pub spare_done : Spare n T
