use Rattle.lamps.specs.Calls.{Board}
use Rattle.desk.specs.Holding.{Holds}
use Rattle.desk.specs.Places.{held, InPlace}
use Rattle.session.specs.Lent.{answer_bytes}
use Rattle.batch.specs.Answered.{AnswersAll}
use Rattle.batch.proofs.answer_each.Given as goal

abbrev pub invariant-loop-k : goal.invariant-loop-k
invariant-loop-k l =
    ((b : Board) → Holds (held l.initial.memory) b → AnswersAll (held l.memory) b l.calls (answer_bytes l.initial.memory.board.lamps) l.answers l.k)
    × InPlace l.initial.memory l.memory
