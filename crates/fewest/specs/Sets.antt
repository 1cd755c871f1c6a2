-- The quiet sets of a system in reduced steps, and the least among the sums of some of them with a row. Assumes nothing: these are definitions.
use Rattle.std.specs.Prelude.{◌≡◌, ℕ, zero, suc, ◌<◌, ◌≤◌, Bool, true, false, not, Option, None, Some, ◌&&◌, ◌||◌, ◌⊎◌, List, length, ◌==◌}
use Rattle.std.specs.Borrow.{MutBor}
use Rattle.gf2.specs.Rows.{differ, Row, Rows, Same, nowhere, parity, tally, act}
use Rattle.gf2.specs.Reduction.{Tracks, Pivots, Free, Vector, Quiet}
use Rattle.bits.specs.Bits.{bit_of}
use Rattle.solve.specs.Solved.{Within, Shows, zero_row}
use Rattle.matrix.specs.Cells.{cell}
use Rattle.matrix.specs.Said.{ButRow}

-- is j the pivot column of one of the first m rows
abbrev pub taken : ℕ → (ℕ → ℕ) → ℕ → Bool
taken zero c j = false
taken (suc m) c j = c m == j || taken m c j

-- is column j free
abbrev pub free : ℕ → (ℕ → ℕ) → ℕ → Bool
free n c j = not (taken n c j)

-- v is the quiet set of the free column f
pub record QuietSet (n : ℕ) (R : Rows) (c : ℕ → ℕ) (f : ℕ) (v : Row) : Type 0 where
  pub vector : Pivots n R c → Free n c f → Vector n R c f v
  pub within : Within n v

-- v is row i of T
pub record Copied (T : Rows) (i : ℕ) (v : Row) : Type 0 where
  pub same : (j : ℕ) → v j ≡ T i j

-- v is what a call for i leaves of a row of `width` words
pub record Written (width : ℕ) (call : ℕ → MutBor (List ℕ) → MutBor (List ℕ) → Type 0) (i : ℕ) (v : Row) : Type 0 where
  pub before : MutBor (List ℕ)
  pub after : MutBor (List ℕ)
  pub long : length before.now ≡ width
  pub called : call i before after
  pub left : v ≡ bit_of after.now

-- k of the first m pass the test g, and row b of S is what P says of the one that has b such before it, for b below 16
pub record Collected (g : ℕ → Bool) (P : ℕ → Row → Type 0) (m k : ℕ) (S : Rows) : Type 0 where
  pub many : k ≡ tally g m
  pub sets : (f : ℕ) → f < m → g f ≡ true → tally g f < 16 → P f (S (tally g f))

-- row k of the memory is what P says of f, and every other row is as it was
pub record SetPut (P : ℕ → Row → Type 0) (f width : ℕ) (old new : List ℕ) (k : ℕ) : Type 0 where
  pub row : P f (cell new width k)
  pub rest : ButRow old new width k

-- the sum of those of the first k rows of S that e chooses; the same added to p
abbrev pub chosen : ℕ → (ℕ → Bool) → Rows → Row
chosen k e S j = parity (λ b. e b && S b j) k

abbrev pub sum_of : ℕ → (ℕ → Bool) → Rows → Row → Row
sum_of k e S p j = differ (p j) (chosen k e S j)

-- the first k rows of S are quiet for A, and every row that is quiet is the sum of some of them
pub record Spans (n : ℕ) (A : Rows) (k : ℕ) (S : Rows) : Type 0 where
  pub quiet : (b : ℕ) → b < k → Quiet n A (S b)
  pub within : (b : ℕ) → b < k → Within n (S b)
  pub every : (x : Row) → Quiet n A x → (e : ℕ → Bool) × Same n x (chosen k e S)

-- and of one choice alone
abbrev pub OneChoice : ℕ → ℕ → Rows → Type 0
OneChoice n k S = (d e : ℕ → Bool) → Same n (chosen k d S) (chosen k e S) → (b : ℕ) → b < k → d b ≡ e b

-- may q be taken: if there is a test, it has an odd number of bits below m in common with s
abbrev pub accepts : ℕ → Bool → Row → Row → Bool
accepts m test s q = not test || parity (λ j. q j && s j) m

-- may q be taken, where it is to be odd against the bits of `against`, if there are any
abbrev pub may_take : ℕ → Option (List ℕ) → Row → Bool
may_take m None q = accepts m false nowhere q
may_take m (Some against) q = accepts m true (bit_of against) q

-- `new`, of `count` bits below m, is least among `old`, of `bound` bits, and those sums of p with some of the first k rows of S that are accepted
pub record Least (m k : ℕ) (S : Rows) (ok : Row → Bool) (p old new : Row) (bound count : ℕ) : Type 0 where
  pub counted : count ≡ tally new m
  pub below : count ≤ bound
  pub least : (e : ℕ → Bool) → ok (sum_of k e S p) ≡ true → count ≤ tally (sum_of k e S p) m
  pub one_of : ((j : ℕ) → new j ≡ old j) ⊎ ((e : ℕ → Bool) × ((j : ℕ) → new j ≡ sum_of k e S p j) × (ok new ≡ true))

-- p solves the system, and no solution has fewer bits below n
pub record Fewest (n : ℕ) (A : Rows) (s p : Row) : Type 0 where
  pub solves : Same n (act n A p) s
  pub within : Within n p
  pub fewest : (q : Row) → Same n (act n A q) s → tally p n ≤ tally q n

-- q shows that nothing solves the system, and no set that shows it has fewer bits below n
pub record FewestShowing (n : ℕ) (A : Rows) (s q : Row) : Type 0 where
  pub shows : Shows n A s q
  pub within : Within n q
  pub fewest : (r : Row) → Shows n A s r → tally q n ≤ tally r n

-- k columns are free, if the rows are in steps; `old` was a solution and `new` is a fewest one, if k is at most 16, and else the same
pub record FewestWay (n : ℕ) (R : Rows) (c : ℕ → ℕ) (old new : List ℕ) (k : ℕ) : Type 0 where
  pub many : Pivots n R c → k ≡ tally (free n c) n
  pub kept : 16 < k → new ≡ old
  pub fewest : k ≤ 16 → Within n (bit_of old) → (A T : Rows) (s : Row) → Tracks n A R T → Pivots n R c → Same n (act n A (bit_of old)) s → Fewest n A s (bit_of new)

-- k rows are zero; `old` showed that there is no solution and `new` is a fewest set that does, if k is at most 16, and else the same
pub record FewestNever (n : ℕ) (T : Rows) (c : ℕ → ℕ) (s : Row) (old new : List ℕ) (k : ℕ) : Type 0 where
  pub many : k ≡ tally (zero_row n c) n
  pub kept : 16 < k → new ≡ old
  pub fewest : k ≤ 16 → Within n (bit_of old) → (A R : Rows) → Tracks n A R T → Pivots n R c → Shows n A s (bit_of old) → FewestShowing n A s (bit_of new)
