use Rattle.std.proofs.Common.{◌+◌, ◌≡◌, length, Ok, ◌∙◌, sym, ap, arith}
use Rattle.lines.specs.Readers.{here}
use Rattle.lines.proofs.Steps.{has_below, word_next, word_stops, word_done}
use Rattle.lines.proofs.pass.Goals as goal

pub returns-then-not-has : goal.returns-then-not-has
returns-then-not-has c = word_stops _ _ _ _ _ c.loop-i-test.true c.if-not-has.ensures ∙ c.loop-i.invariant.rest

pub loop-i-preserved : goal.loop-i-preserved
loop-i-preserved c =
    let below = has_below c.args.line.now (c.args.at + c.loop-i.i) _ c.if-not-has.ensures in
    let step : c.args.at + (c.loop-i.i + 1) ≡ c.args.at + c.loop-i.i + 1 = omega arith in
    record { within = omega arith; rest = rw step (word_next _ _ here c.loop-i.i (c.args.at + c.loop-i.i) c.loop-i-test.true c.if-not-has.ensures ∙ c.loop-i.invariant.rest) }

pub returns : goal.returns
returns c =
    let whole : c.loop-i.i ≡ length c.args.keyword.now = omega arith in
    ap (λ i. Ok (c.args.at + i)) (sym whole) ∙ word_done _ _ here _ _ c.loop-i-test.false ∙ c.loop-i.invariant.rest
