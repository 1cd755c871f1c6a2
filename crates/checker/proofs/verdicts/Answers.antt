use Rattle.std.proofs.Common.{◌+◌, ◌<◌, [], ◌∙◌, Some, subst, sym, ap, eqb, arith, rules}
use Rattle.std.proofs.lemmas.Iterator.{YieldsList-from_slice}
use Rattle.std.proofs.lemmas.Iterator.Search.{position_from_yields_List}
use Rattle.lines.specs.Texts.{lines_from}
use Rattle.lines.proofs.Cut.{lines_left, size_left, cut_at, less_left}
use Rattle.checker.proofs.Going.{Going, going_from, going_on, going_done}
use Rattle.checker.proofs.verdicts.Goals as goal

pub loop-rest-init : goal.loop-rest-init
unfolding lines_left
loop-rest-init c = subst (Going (lines_from [] c.args.text.now) (lines_left (Some c.args.text)) c.new-checker.result.board) (sym c.new-out.ensures.bytes) (going_from _ _ c.new-checker.ensures)

pub loop-rest-smaller : goal.loop-rest-smaller
loop-rest-smaller c =
    subst (λ rest. size_left c.get-rest.result < size_left rest) (sym c.in-Some.is) (less_left c.in-Some.lines (c.unwrap_or-end.result + 1) c.get-rest.result (omega arith) c.get-rest.ensures.lookup.0)

pub loop-rest-preserved : goal.loop-rest-preserved
unfolding lines_left
loop-rest-preserved c =
    let lines = c.in-Some.lines.now in
    let found = position_from_yields_List (λ b. eqb b 10) _ _ _ c.position.ensures.ran (YieldsList-from_slice lines cc) (λ x b q k. search rules) in
    let cut = ap lines_left c.in-Some.is ∙ cut_at lines _ _ _ found c.unwrap_or-end.ensures c.get-rest.ensures.lookup.0 in
    let g = c.loop-rest.invariant in
    subst (Going (lines_from [] c.args.text.now) (lines_left c.get-rest.result) c.take_line-reply.new.self.board) (sym c.in_ok-write.ensures.bytes)
    (going_on g _ _ _ _ cut (c.take_line-reply.ensures g.model g.held))

pub returns : goal.returns
unfolding lines_left
returns c = going_done c.loop-rest.invariant (ap lines_left c.in_default.is)
