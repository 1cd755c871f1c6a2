use Rattle.std.proofs.Common.{Err, rules}
use Rattle.calls.specs.Reading.{decoded}
use Rattle.calls.proofs.Readings.{reads_as}
use Rattle.calls.proofs.read_call.Goals as goal

pub returns-in-3-to-5-clause-reads : goal.returns-in-3-to-5-clause-reads
unfolding decoded
returns-in-3-to-5-clause-reads c = reads_as c.args.bytes.now (Err c.ceased.result) c.type_inv.bytes (search rules)

pub returns-in-1-2-clause-reads : goal.returns-in-1-2-clause-reads
unfolding decoded
returns-in-1-2-clause-reads c = reads_as c.args.bytes.now (Err c.ceased-in-1-2.result) c.type_inv.bytes (search rules)

pub returns-in-0-2-clause-reads : goal.returns-in-0-2-clause-reads
unfolding decoded
returns-in-0-2-clause-reads c = reads_as c.args.bytes.now (Err c.ceased-in-0-2.result) c.type_inv.bytes (search rules)
