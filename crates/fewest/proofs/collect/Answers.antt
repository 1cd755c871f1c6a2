use Rattle.std.proofs.Common.{rules}
use Rattle.matrix.specs.Cells.{width_of, cell}
use Rattle.echelon.specs.Steps.{column_of}
use Rattle.fewest.specs.Sets.{Collected, QuietSet, free}
use Rattle.fewest.proofs.Building.{collected_by}
use Rattle.fewest.proofs.Solutions.{kernel_spans, kernel_one}
use Rattle.fewest.proofs.collect.Goals as goal

pub returns : goal.returns
returns c =
    let n = c.args.n in
    let R = cell c.args.rows.now (width_of n) in
    let cs = column_of c.args.pivots.now in
    let sets : Collected (free n cs) (QuietSet n R cs) n c.collect_by.result (cell c.collect_by.new.sets (width_of n)) =
    collected_by _ _ _ _ _ _ _ (λ f before after l long said. search rules) (c.collect_by.ensures (free n cs) (λ f b l said. search rules)) in
    record { sets = sets; spans = λ small A T tr pv. (kernel_spans n R cs _ _ sets small A T tr pv, kernel_one n R cs _ _ sets small pv) }
