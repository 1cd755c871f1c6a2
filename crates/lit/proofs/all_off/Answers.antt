use Rattle.std.proofs.Common.{sym, ap, ◌∙◌, not}
use Rattle.std.proofs.Math.Bool.{not-not}
use Rattle.lit.proofs.Holding.{first_off}
use Rattle.lit.proofs.all_off.Goals as goal

pub returns : goal.returns
returns c = sym (not-not c.is_none.result) ∙ ap not (sym c.is_none.ensures) ∙ first_off c.args.board.lamps c.args.lit.now _ c.first_set.ensures
