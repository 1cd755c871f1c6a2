use Rattle.desk.proofs.Changed.{lit_performs}
use Rattle.desk.proofs.memory.Memory.show.Goals as goal

pub returns-clause-performs : goal.returns-clause-performs
returns-clause-performs c b h = lit_performs _ _ _ _ _ _ _ _ b h c.copy_from_slice.ensures.after
