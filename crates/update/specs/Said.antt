-- What the steps of a row's replacement do in memory: rs and ts are the rows and what was done before, rs' and ts' after. Assumes nothing: these are definitions.
use Rattle.std.specs.Prelude.{◌≡◌, ℕ, ◌<◌, ◌≤◌, true, false, List, Option, Some, None}
use Rattle.gf2.specs.Rows.{Row, Rows, Same}
use Rattle.gf2.specs.Reduction.{Tracks, Pivots, PutsRow, Chosen, Freeing}
use Rattle.bits.specs.Bits.{bit_of}
use Rattle.matrix.specs.Cells.{cell, Spare}
use Rattle.echelon.specs.Steps.{Kept}

-- row k is taken for row l: it was made with it, and is a zero row, if one of the first i rows that were made with it is
pub record Taken (n width : ℕ) (ts : List ℕ) (c : ℕ → ℕ) (l i k : ℕ) : Type 0 where
  pub within : k < n
  pub made : cell ts width k l ≡ true
  pub zero_row : (z : ℕ) → z < i → n ≤ c z → cell ts width z l ≡ true → n ≤ c k

-- the row that is taken for row l, as far as the first i rows say; or none, where none of them was made with it
abbrev pub Taking : ℕ → ℕ → List ℕ → (ℕ → ℕ) → ℕ → ℕ → Option ℕ → Type 0
Taking n width ts c l i (Some k) = Taken n width ts c l i k
Taking n width ts c l i None = (z : ℕ) → z < i → cell ts width z l ≡ false

-- row k is added to those of the first m rows that were made with row l
pub record Frees (n width : ℕ) (rs ts rs' ts' : List ℕ) (k l m : ℕ) : Type 0 where
  pub kept : Kept n (cell rs width) (cell ts width) (cell rs' width) (cell ts' width)
  pub freeing : (A : Rows) (c : ℕ → ℕ) → Tracks n A (cell rs width) (cell ts width) → Pivots n (cell rs width) c
      → cell ts width k l ≡ true → Chosen n (cell rs width) (cell ts width) c l k → Freeing n A (cell rs' width) (cell ts' width) c l k (λ i. i < m)

-- row l of the system is replaced by a: whatever the system was, steps of the old one have become steps of the new one
pub record Replaces (n width : ℕ) (rs ts : List ℕ) (c : ℕ → ℕ) (rs' ts' : List ℕ) (c' : ℕ → ℕ) (l : ℕ) (a : Row) : Type 0 where
  pub steps : (A B : Rows) → PutsRow n A B l a → Tracks n A (cell rs width) (cell ts width) → Pivots n (cell rs width) c
      → Tracks n B (cell rs' width) (cell ts' width) × Pivots n (cell rs' width) c'
  pub columns : ((i : ℕ) → i < n → c i ≤ n) → (i : ℕ) → i < n → c' i ≤ n
  pub spare_rows : ((j : ℕ) → n ≤ j → a j ≡ false) → Spare n (cell rs width) → Spare n (cell rs' width)
  pub spare_done : Spare n (cell ts width) → Spare n (cell ts' width)

-- B is the wires but for the marked rows
abbrev pub ButMarked : ℕ → ℕ → List ℕ → List ℕ → Rows → Type 0
ButMarked n width ws ms B = (i : ℕ) → i < n → bit_of ms i ≡ false → Same n (B i) (cell ws width i)

-- steps of a system that is the wires but for the marked rows have become steps of the wires
pub record Refreshes (n width : ℕ) (ws ms rs ts : List ℕ) (c : ℕ → ℕ) (rs' ts' : List ℕ) (c' : ℕ → ℕ) : Type 0 where
  pub steps : (B : Rows) → ButMarked n width ws ms B → Tracks n B (cell rs width) (cell ts width) → Pivots n (cell rs width) c
      → Tracks n (cell ws width) (cell rs' width) (cell ts' width) × Pivots n (cell rs' width) c'
  pub columns : ((i : ℕ) → i < n → c i ≤ n) → (i : ℕ) → i < n → c' i ≤ n
  pub spare_rows : Spare n (cell ws width) → Spare n (cell rs width) → Spare n (cell rs' width)
  pub spare_done : Spare n (cell ts width) → Spare n (cell ts' width)

-- the first m bits are set, and no other
pub record Marked (ms : List ℕ) (m : ℕ) : Type 0 where
  pub set : (i : ℕ) → i < m → bit_of ms i ≡ true
  pub rest : (i : ℕ) → m ≤ i → bit_of ms i ≡ false
