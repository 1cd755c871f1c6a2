use Rattle.std.proofs.Common.{sym, ◌∙◌, arith}
use Rattle.desk.proofs.Taken.{wire_no_first, wire_no_second, wire_itself}
use Rattle.desk.proofs.Changed.{wire_performs}
use Rattle.desk.proofs.memory.Memory.wire.Goals as goal

pub returns-in_default-clause-performs : goal.returns-in_default-clause-performs
returns-in_default-clause-performs c b h = wire_no_first _ b h c.args.i c.args.j c.in_default.ensures.0

pub returns-in_default-lamp-clause-performs : goal.returns-in_default-lamp-clause-performs
returns-in_default-lamp-clause-performs c b h =
    let one = c.in-Ok.ensures in wire_no_second _ b h c.args.i c.args.j (omega (arith, one.0, one.1)) c.in_default-lamp.ensures.0

pub returns-in_default-other-clause-performs : goal.returns-in_default-other-clause-performs
returns-in_default-other-clause-performs c b h =
    let one = c.in-Ok.ensures in
    let two = c.in-Ok-lamp.ensures in
    wire_itself _ b h c.args.i c.args.j (omega (arith, one.0, one.1)) (omega (arith, two.0, two.1)) (sym one.0 ∙ c.in_default-other.ensures.0 ∙ two.0)

pub returns-clause-performs : goal.returns-clause-performs
returns-clause-performs c b h =
    let one = c.in-Ok.ensures in
    let two = c.in-Ok-lamp.ensures in
    let far = c.in-Ok-other.ensures in
    wire_performs _ _ _ _ _ _ _ _ _ _ b h c.in-Ok.one c.in-Ok-other.far one.1 (omega (arith, two.1, far.0)) far.1 _ _ one.0 (far.0 ∙ two.0)
    c.toggle.ensures.bits c.toggle.ensures.holds c.mark.ensures c.mark-2.ensures
