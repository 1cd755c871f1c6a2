use Rattle.std.proofs.Common.{◌≡◌, ◌+◌, ◌<◌, sym, subst, rules, tests, eqb, None, arith, string_bytes}
use Rattle.std.proofs.lemmas.Iterator.{YieldsList-from_slice}
use Rattle.std.proofs.lemmas.Iterator.Search.{position_from_yields_List}
use Rattle.lines.proofs.Cut.{cut_at, less_left, size_left}
use Rattle.text.proofs.Turns.{Before, from_start, line_ahead, all_ahead}
use Rattle.text.proofs.answers.Goals as goal

pub loop-rest-init : goal.loop-rest-init
loop-rest-init c = from_start c.args.text _ _ c.new-wall.ensures c.new-out.ensures.bytes

pub loop-rest-smaller : goal.loop-rest-smaller
loop-rest-smaller c =
    subst (λ rest. size_left c.get-rest.result < size_left rest) (sym c.in-Some.is) (less_left c.in-Some.lines (c.unwrap_or-end.result + 1) c.get-rest.result (omega arith) c.get-rest.ensures.lookup.0)

pub loop-rest-preserved : goal.loop-rest-preserved
loop-rest-preserved c =
    let first = position_from_yields_List (λ b. eqb b 10) _ _ c.position.result c.position.ensures.ran (YieldsList-from_slice c.in-Some.lines.now c.iter.ensures.rest) (λ x b q k. search (rules, tests)) in
    let cut = cut_at c.in-Some.lines.now c.position.result c.unwrap_or-end.result c.get-rest.result first c.unwrap_or-end.ensures c.get-rest.ensures.lookup.0 in
    let old = subst (λ rest. Before c.args.text.now rest c.loop-rest.wall (string_bytes c.loop-rest.out)) c.in-Some.is c.loop-rest.invariant in
    subst (Before c.args.text.now c.get-rest.result c.answer_line-reply.new.self) (sym c.in_ok-write.ensures.bytes) (line_ahead c.in-Some.lines c.unwrap_or-end.result c.get-rest.result c.answer_line-reply.new.self _ old cut c.answer_line-reply.ensures)

pub returns : goal.returns
returns c =
    let none : c.loop-rest.rest ≡ None = search rules in
    all_ahead (subst (λ rest. Before c.args.text.now rest c.loop-rest.wall (string_bytes c.loop-rest.out)) none c.loop-rest.invariant)
