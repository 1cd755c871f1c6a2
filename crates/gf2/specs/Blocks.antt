-- Rows reduced a block at a time. A block is `count` rows from `first` on: it is reduced by itself, and then its pivots are cleared from all other rows at once.
-- Assumes nothing: these are definitions.
use Rattle.std.specs.Prelude.{◌≡◌, ℕ, ◌+◌, ◌<◌, ◌≤◌, true, false, ◌&&◌, ◌≢◌, ◌⊎◌}
use Rattle.gf2.specs.Rows.{differ, Rows, Same, nowhere, dot}

-- the first k rows have their pivots, where none of the n rows but they is on, or are off everywhere
pub record Stepped (n : ℕ) (R : Rows) (c : ℕ → ℕ) (k : ℕ) : Type 0 where
  pub on : (i : ℕ) → i < k → c i < n → R i (c i) ≡ true
  pub alone : (i : ℕ) → i < k → c i < n → (m : ℕ) → m < n → m ≢ i → R m (c i) ≡ false
  pub none : (i : ℕ) → i < k → n ≤ c i → Same n (R i) nowhere

-- and so have those from `first` to t, where no other row up to `end` is on
pub record Stepping (n : ℕ) (R : Rows) (c : ℕ → ℕ) (first t end : ℕ) : Type 0 where
  pub before : Stepped n R c first
  pub on : (i : ℕ) → first ≤ i → i < t → c i < n → R i (c i) ≡ true
  pub alone : (i : ℕ) → first ≤ i → i < t → c i < n → (m : ℕ) → first ≤ m → m < end → m ≢ i → R m (c i) ≡ false
  pub none : (i : ℕ) → first ≤ i → i < t → n ≤ c i → Same n (R i) nowhere

-- S is R with row k added to those rows from `from` to `to` that are on at x
pub record Clears (R S : Rows) (from to k x : ℕ) : Type 0 where
  pub added : (i : ℕ) → from ≤ i → i < to → i ≢ k → (j : ℕ) → S i j ≡ differ (R i j) (R i x && R k j)
  pub outside : (i : ℕ) → (i < from) ⊎ (to ≤ i) → (j : ℕ) → S i j ≡ R i j
  pub same : (j : ℕ) → S k j ≡ R k j

-- S is R with a sum of rows of the block added to each row outside it: to row i those that w i has
pub record Sweeps (n : ℕ) (R S : Rows) (first count : ℕ) (w : Rows) : Type 0 where
  pub block : (b : ℕ) → b < count → (j : ℕ) → S (first + b) j ≡ R (first + b) j
  pub rest : (i : ℕ) → i < n → (i < first) ⊎ (first + count ≤ i) → (j : ℕ) → S i j ≡ differ (R i j) (dot count (w i) (λ b. R (first + b) j))
