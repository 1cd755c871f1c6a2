use Rattle.std.proofs.Common.{sym, ◌∙◌, arith, add-zero}
use Rattle.lines.specs.Readers.{found}
use Rattle.lines.proofs.Steps.{digit_below, number_next, number_stops, first_is, number_on, number_off, number_whole}
use Rattle.lines.proofs.number.Goals as goal

pub returns-then-is_none : goal.returns-then-is_none
returns-then-is_none c = number_stops _ found _ (first_is c.args.line.now c.args.at _ _ _ c.byte_at.ensures c.extended.ensures c.if-is_none.ensures)

pub loop-i-init : goal.loop-i-init
loop-i-init c = rw (add-zero c.args.at) (number_next _ found _ (first_is c.args.line.now c.args.at _ _ _ c.byte_at.ensures c.extended.ensures c.if-is_none.ensures))

pub loop-i-preserved : goal.loop-i-preserved
loop-i-preserved c = number_on _ _ _ _ c.loop-i-test.true _ (sym c.extended-in-loop-i.ensures ∙ c.in-Some.is) ∙ c.loop-i.invariant

pub returns-in_default : goal.returns-in_default
returns-in_default c = number_off _ _ _ _ c.loop-i-test.true (sym c.extended-in-loop-i.ensures ∙ c.in_default.is) ∙ c.loop-i.invariant

pub returns : goal.returns
returns c =
    let below = digit_below c.args.line.now c.args.at 0 (first_is c.args.line.now c.args.at _ _ _ c.byte_at.ensures c.extended.ensures c.if-is_none.ensures) in
    number_whole _ _ _ _ (omega arith) c.loop-i.auto.i-end c.loop-i-test.false ∙ c.loop-i.invariant
