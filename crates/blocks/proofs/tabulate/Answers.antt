use Rattle.std.proofs.Common.{◌+◌, ◌*◌, ◌%◌, ◌^◌, ◌≤◌, ◌∙◌, mul-le-mul_right, arith, pow_mono, ap, pow-suc, add-one}
use Rattle.blocks.proofs.Table.{tabled_more, shifted}
use Rattle.blocks.proofs.tabulate.Goals as goal

pub double-requires-clause-small : goal.double-requires-clause-small
double-requires-clause-small c =
    let few : 2 ^ c.loop-b.b ≤ 2 ^ 5 = pow_mono {i = c.loop-b.b} {j = 5} (omega arith) in
    omega (arith, shifted c.loop-b.b (omega arith))

pub double-requires-clause-table : goal.double-requires-clause-table
double-requires-clause-table c =
    let b = c.loop-b.b in
    let most : 2 ^ (b + 1) ≤ 2 ^ c.args.count = pow_mono {i = b + 1} {j = c.args.count} (omega arith) in
    let twice : 1 * 2 ^ b % 18446744073709551616 + 1 * 2 ^ b % 18446744073709551616 ≤ 2 ^ c.args.count = omega (arith, shifted b (omega arith), pow-suc 2 b, ap (λ z. 2 ^ z) (add-one b)) in
    let table = mul-le-mul_right c.args.width twice in
    omega arith

pub loop-b-preserved : goal.loop-b-preserved
loop-b-preserved c =
    (tabled_more _ _ _ _ _ _ _ (shifted c.loop-b.b (omega arith)) c.loop-b.invariant.0 c.double.ensures, c.double.auto.table ∙ c.loop-b.invariant.1)
