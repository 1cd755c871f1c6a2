use Rattle.std.proofs.Common.{◌≡◌, ℕ, ◌<◌, ◌≤◌, false, get_or, None}
use Rattle.matrix.specs.Cells.{width_of, cell}
use Rattle.blocks.proofs.next_row.Given as goal

abbrev pub invariant-rows : goal.invariant-rows
invariant-rows l = (l.found ≡ None) × ((k : ℕ) → l.from ≤ k → k < l.i → (j : ℕ) → cell l.steps.rows.now (width_of l.steps.n) k j ≡ false)

abbrev pub invariant-loop-word : goal.invariant-loop-word
invariant-loop-word l = (l.found ≡ None) × ((p : ℕ) → p < l.word-index → get_or l.word-items p 0 ≡ 0)
