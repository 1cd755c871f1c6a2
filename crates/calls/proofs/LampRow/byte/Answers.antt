use Rattle.std.proofs.Common.{arith}
use Rattle.calls.proofs.Packing.{lamps_byte}
use Rattle.calls.proofs.LampRow.byte.Goals as goal

pub returns : goal.returns
returns c = lamps_byte c.args.self.now.row.now c.args.self.now.count c.args.i c.min-left.result (omega arith)
