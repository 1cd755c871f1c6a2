use Rattle.std.proofs.Common.{◌-◌, arith}
use Rattle.blocks.proofs.Table.{table_long}
use Rattle.blocks.proofs.Tables.tabulate.Goals as goal

pub tabulate-requires-clause-table : goal.tabulate-requires-clause-table
tabulate-requires-clause-table c = omega (arith, table_long (c.args.block.end - c.args.block.first) c.width-width.result c.args.block.few (omega arith))

pub tabulate-requires-2-clause-table : goal.tabulate-requires-2-clause-table
tabulate-requires-2-clause-table c = omega (arith, table_long (c.args.block.end - c.args.block.first) c.width-width.result c.args.block.few (omega arith))
