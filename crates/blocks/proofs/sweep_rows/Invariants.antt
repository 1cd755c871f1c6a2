use Rattle.blocks.specs.Said.{entry_of, Swept}
use Rattle.blocks.proofs.sweep_rows.Given as goal

abbrev pub invariant-loop-i : goal.invariant-loop-i
invariant-loop-i l =
    Swept l.width l.initial.rows l.rows l.tables.rows (entry_of l.n l.width l.initial.rows l.columns) l.low l.i
    × Swept l.width l.initial.done l.done l.tables.done (entry_of l.n l.width l.initial.rows l.columns) l.low l.i
