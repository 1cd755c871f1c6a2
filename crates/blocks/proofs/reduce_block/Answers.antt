use Rattle.blocks.proofs.Reduce.{steps_reduced}
use Rattle.blocks.proofs.reduce_block.Goals as goal

pub returns-clause-reduced : goal.returns-clause-reduced
returns-clause-reduced c =
    steps_reduced _ c.settle_block.new.steps c.sweep.new.steps c.sweep-2.new.steps _ _ _ _ c.args.block.order c.requires
    c.settle_block.ensures.place c.sweep.ensures.place c.sweep.ensures.pivots c.sweep-2.ensures.pivots
    c.settle_block.ensures.settled c.tabulate.ensures.rows c.tabulate.ensures.done c.sweep.ensures.rows c.sweep.ensures.done c.sweep-2.ensures.rows c.sweep-2.ensures.done
