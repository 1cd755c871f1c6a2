use Rattle.std.proofs.Common.{◌≡◌, length}
use Rattle.blocks.specs.Said.{Tabled}
use Rattle.blocks.proofs.tabulate.Given as goal

abbrev pub invariant-loop-b : goal.invariant-loop-b
invariant-loop-b l = Tabled l.table l.memory l.width l.first l.b × (length l.table ≡ length l.initial.table)
