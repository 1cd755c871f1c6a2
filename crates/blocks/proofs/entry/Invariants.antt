use Rattle.std.proofs.Common.{◌≡◌, ℕ, List, ◌++◌}
use Rattle.blocks.specs.Said.{entry_of}
use Rattle.blocks.proofs.entry.Given as goal

-- the columns at the end have been read
abbrev pub invariant-loop-column : goal.invariant-loop-column
invariant-loop-column l =
    (read : List ℕ) × (l.column-iterator.iter.rest.now ++ read ≡ l.columns) × (l.e ≡ entry_of l.n l.width l.rows read l.i)
