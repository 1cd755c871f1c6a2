use Rattle.std.proofs.Common.{◌≡◌, ℕ, false, sym, ap, subst, ◌∙◌}
use Rattle.bits.specs.Bits.{bit_of}
use Rattle.matrix.specs.Cells.{width_of}
use Rattle.matrix.specs.Said.{Identity}
use Rattle.update.proofs.Zeros.{zeros_steps}
use Rattle.update.proofs.zero_steps.Goals as goal

pub returns-clause-steps : goal.returns-clause-steps
returns-clause-steps c =
    let s = c.no_pivots.new.self in
    let n = c.args.steps.now.n in
    let rows : (k : ℕ) → bit_of s.rows.now k ≡ false = λ k. ap (λ ws. bit_of ws k) c.no_pivots.ensures.rows ∙ c.zero.ensures k in
    let done : Identity (width_of n) s.done.now n =
    subst (λ ws. Identity (width_of n) ws n) (sym c.no_pivots.ensures.done) (subst (λ w. Identity w c.identity.new.memory n) c.width-width.ensures c.identity.ensures) in
    zeros_steps _ _ _ _ _ rows done c.no_pivots.ensures.pivots
