use Rattle.std.proofs.Common.{◌≡◌, ℕ, ◌+◌, List, length, sym, refl, ◌∙◌, subst, arith}
use Rattle.matrix.specs.Cells.{width_of}
use Rattle.lit.specs.Holds.{Pressing}
use Rattle.lit.proofs.Holding.{pressing_none, pressing_skip, pressing_one, holds_all_pressed}
use Rattle.lit.proofs.press_all.Goals as goal
use Rattle.lit.proofs.press_all.Goals.{then-get, else-get}

pub loop-i-init : goal.loop-i-init
loop-i-init c = (pressing_none _ _ _ _, refl)

pub loop-i-preserved : goal.loop-i-preserved
loop-i-preserved c =
    let Next : List ℕ → Type 0 = λ row.
    Pressing (width_of c.args.board.lamps) c.args.wires.now c.args.presses.now c.args.lit.now row (c.loop-i.i + 1)
    × (length row ≡ length c.args.lit.now) in
    let inv = c.loop-i.invariant in
    elim c.if-get.branch [
      | then-get w ↦ subst Next (sym w.lit-is) (
        pressing_one _ _ _ _ _ _ inv.0 w.if-get.ensures _ w.press.ensures.bits,
        w.press.auto.lit ∙ inv.1,
      )
      | else-get w ↦ subst Next (sym w.lit-is) (pressing_skip _ _ _ _ _ _ inv.0 w.if-get.ensures, inv.1)
    ]

pub returns : goal.returns
returns c =
    let n = c.args.board.lamps in
    let all : c.loop-i.i ≡ n = omega arith in
    let bits = subst (Pressing (width_of n) c.args.wires.now c.args.presses.now c.args.lit.now c.loop-i.lit) all c.loop-i.invariant.0 in
    record { bits = bits; holds = holds_all_pressed n c.args.wires.now _ _ c.args.presses.now bits }
