use Rattle.std.proofs.Common.{◌≡◌, length}
use Rattle.update.specs.Said.{Frees}
use Rattle.update.proofs.free.Given as goal

abbrev pub invariant-loop-m : goal.invariant-loop-m
invariant-loop-m l =
    Frees l.n l.width l.initial.rows l.initial.done l.rows l.done l.k l.l l.m
    × (length l.rows ≡ length l.initial.rows) × (length l.done ≡ length l.initial.done)
