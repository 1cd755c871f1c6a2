use Rattle.lamps.specs.Boards.{wires_before}
use Rattle.text.proofs.Grids.{Wired}
use Rattle.text.proofs.wall.Wall.join_all.Given as goal

abbrev pub invariant-loop-i : goal.invariant-loop-i
invariant-loop-i l = Wired l.initial.self l.self (wires_before l.w l.n l.i)
