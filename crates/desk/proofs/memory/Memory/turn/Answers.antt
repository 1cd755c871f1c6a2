use Rattle.desk.proofs.Taken.{turn_no_lamp}
use Rattle.desk.proofs.Changed.{turn_performs}
use Rattle.desk.proofs.memory.Memory.turn.Goals as goal

pub returns-in_default-clause-performs : goal.returns-in_default-clause-performs
returns-in_default-clause-performs c b h = turn_no_lamp _ b h c.args.i c.in_default.ensures.0

pub returns-clause-performs : goal.returns-clause-performs
returns-clause-performs c b h = let lamp = c.in-Ok.ensures in turn_performs _ _ _ _ _ _ _ _ b h c.in-Ok.one _ lamp.1 lamp.0 c.turn.ensures.holds
