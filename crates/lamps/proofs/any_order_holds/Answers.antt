use Rattle.lamps.proofs.AnyOrder.{any_order}
use Rattle.lamps.proofs.any_order_holds.Goals as goal

pub returns : goal.returns
returns c = any_order
