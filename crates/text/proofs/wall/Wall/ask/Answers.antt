use Rattle.std.proofs.Common.{ap}
use Rattle.calls.specs.Saying.{meant, said}
use Rattle.text.specs.Memory.{lamps_open}
use Rattle.text.specs.Board.{held}
use Rattle.text.proofs.Asked.{asked}
use Rattle.text.proofs.wall.Wall.ask.Goals as goal

pub returns : goal.returns
returns c =
    let new = c.perform.new.self in
    let performed = rw c.in_ok-answer.ensures.ok_part at c.perform.ensures in
    asked (meant c.args.call) (held c.args.self.now) (held new) (said c.in_ok-answer.answer new.row) _ performed.some (ap lamps_open performed.same) performed.performs c.tell.ensures
