-- Steps stay where they are, and each row is within its memory. Assumes nothing.
use Rattle.std.proofs.Common.{◌≡◌, ℕ, ◌+◌, ◌*◌, ◌<◌, ◌≤◌, List, length, refl, ap, ◌∙◌, subst, arith}
use Rattle.matrix.specs.Cells.{width_of, cell}
use Rattle.matrix.specs.Said.{RowAdded}
use Rattle.matrix.proofs.Memory.{row_within}
use Rattle.echelon.specs.declared.steps.Steps.{Steps}
use Rattle.echelon.specs.Places.{InPlace}

pub in_place : (s : Steps) → InPlace s s
in_place s = record { n = refl; rows = refl; done = refl; pivots = refl }

pub in_place_both : (s s₁ s₂ : Steps) → InPlace s s₁ → InPlace s₁ s₂ → InPlace s s₂
in_place_both s s₁ s₂ p q = record { n = q.n ∙ p.n; rows = q.rows ∙ p.rows; done = q.done ∙ p.done; pivots = q.pivots ∙ p.pivots }

-- of as many rows each is as wide
pub added_at : (n m : ℕ) → n ≡ m → (xs ys : List ℕ) (i j : ℕ) → RowAdded xs ys (width_of n) i j → RowAdded xs ys (width_of m) i j
added_at n m e xs ys i j r = subst (λ x. RowAdded xs ys (width_of x) i j) e r

pub cell_at : (n m : ℕ) → n ≡ m → (xs : List ℕ) (i j : ℕ) → cell xs (width_of n) i j ≡ cell xs (width_of m) i j
cell_at n m e xs i j = ap (λ x. cell xs (width_of x) i j) e

-- row i is within the rows, and within what was done
pub rows_row : (s : Steps) (i : ℕ) → i < s.n → i * width_of s.n + width_of s.n ≤ length s.rows.now
rows_row s i l = let row = row_within (width_of s.n) i s.n l in omega (arith, s.rows_long)

pub done_row : (s : Steps) (i : ℕ) → i < s.n → i * width_of s.n + width_of s.n ≤ length s.done.now
done_row s i l = let row = row_within (width_of s.n) i s.n l in omega (arith, s.done_long)
