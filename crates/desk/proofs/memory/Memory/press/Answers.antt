use Rattle.desk.proofs.Taken.{press_no_lamp}
use Rattle.desk.proofs.Changed.{press_performs}
use Rattle.desk.proofs.memory.Memory.press.Goals as goal

pub returns-in_default-clause-performs : goal.returns-in_default-clause-performs
returns-in_default-clause-performs c b h = press_no_lamp _ b h c.args.i c.in_default.ensures.0

pub returns-clause-performs : goal.returns-clause-performs
returns-clause-performs c b h = let lamp = c.in-Ok.ensures in press_performs _ _ _ _ _ _ _ _ b h c.in-Ok.one _ lamp.1 lamp.0 c.press.ensures.holds
