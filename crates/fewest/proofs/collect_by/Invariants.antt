use Rattle.std.proofs.Common.{◌≡◌, ℕ, Bool, ◌<◌, ◌≤◌, length}
use Rattle.matrix.specs.Cells.{width_of, cell}
use Rattle.fewest.specs.Sets.{Written, Collected}
use Rattle.fewest.proofs.collect_by.Given as goal

abbrev pub invariant-loop-i : goal.invariant-loop-i
invariant-loop-i g l =
    ((t : ℕ → Bool) → ((i : ℕ) (b : Bool) → i < l.n → goal.C-post g l.fn.counts i b → b ≡ t i)
    → Collected t (Written (width_of l.n) (λ i row row'. goal.W-post g l.fn.write i row tt row')) l.i l.k (cell l.sets (width_of l.n)))
    × (l.k ≤ l.i) × (length l.sets ≡ length l.initial.sets)
