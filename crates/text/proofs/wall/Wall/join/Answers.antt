use Rattle.text.specs.Memory.{in_use}
use Rattle.text.specs.Board.{held}
use Rattle.text.proofs.Grids.{joined}
use Rattle.text.proofs.wall.Wall.join.Goals as goal

pub returns-clause-comes : goal.returns-clause-comes
returns-clause-comes c =
    let new = c.perform.new.self in
    joined (in_use (held c.args.self.now)) (in_use (held new)) new.row c.args.i c.args.j c.perform.result c.requires.i c.requires.j c.requires.apart c.perform.ensures.none c.perform.ensures.performs
