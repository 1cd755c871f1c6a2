use Rattle.std.proofs.Common.{rules}
use Rattle.bits.proofs.Counts.{tally_le}
use Rattle.echelon.specs.Steps.{column_of}
use Rattle.solve.specs.Solved.{zero_row}
use Rattle.desk.proofs.Told.{tracks, pivots, spare, within, ways_some, ways_none}
use Rattle.desk.proofs.memory.Memory.ways.Goals as goal

pub overflow_add-result : goal.overflow_add-result
overflow_add-result c =
    let m = c.renew.new.self in
    let few = tally_le m.board.lamps (zero_row m.board.lamps (column_of m.pivots.now)) in
    search (rules, few, c.zero_rows.ensures.rows, m.board.small)

pub returns-then-solve-clause-performs : goal.returns-then-solve-clause-performs
returns-then-solve-clause-performs c b h =
    let k = c.renew.ensures.holds b h in
    let clear = c.renew.ensures.cleared in
    let tr = tracks _ _ _ _ _ _ _ _ b h k clear in
    let pv = pivots _ _ _ _ _ _ _ _ b h k clear in
    ways_some _ _ _ _ _ _ _ _ b h k clear _ _
    (c.if-solve.ensures.board b.wires_there b.on _ k.lit.long k.lit.each (spare _ _ _ _ _ _ _ _ b h k clear) tr pv)
    (c.zero_rows.ensures.board b.wires_there _ _ tr pv)

pub returns-else-solve-clause-performs : goal.returns-else-solve-clause-performs
returns-else-solve-clause-performs c b h =
    let k = c.renew.ensures.holds b h in
    let clear = c.renew.ensures.cleared in
    ways_none _ _ _ _ _ _ _ _ b h k clear _
    (c.if-solve.ensures.system (within _ _ _ _ _ _ _ _ b h k clear) (spare _ _ _ _ _ _ _ _ b h k clear))
