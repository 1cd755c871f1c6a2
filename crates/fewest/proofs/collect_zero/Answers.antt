use Rattle.std.proofs.Common.{rules}
use Rattle.fewest.proofs.Building.{collected_by}
use Rattle.fewest.proofs.collect_zero.Goals as goal

pub returns : goal.returns
returns c = collected_by _ _ _ _ _ _ _ (λ i before after l long said. search rules) (c.collect_by.ensures _ (λ i b l said. search rules))
