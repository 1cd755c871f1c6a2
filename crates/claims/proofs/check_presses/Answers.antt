use Rattle.std.proofs.Common.{sym, subst}
use Rattle.lamps.proofs.Listed.{length_listed}
use Rattle.bits.specs.Said.{FirstSet}
use Rattle.lit.specs.Holds.{HoldsLit}
use Rattle.claims.proofs.Checking.{presses_right, presses_lamp}
use Rattle.claims.proofs.check_presses.Goals as goal

pub returns-in-Some : goal.returns-in-Some
returns-in-Some c ws s w h =
    let n = c.args.board.lamps in
    let before = subst (λ row. HoldsLit n row s) (sym c.copy_from_slice.ensures.after) h in
    presses_lamp n _ ws s _ h.long (length_listed n _) (c.press_all.ensures.holds ws s w before) _ (subst (FirstSet n _) c.in-Some.is c.first_set.ensures)

pub returns-in-None : goal.returns-in-None
returns-in-None c ws s w h =
    let n = c.args.board.lamps in
    let before = subst (λ row. HoldsLit n row s) (sym c.copy_from_slice.ensures.after) h in
    presses_right n _ ws s _ h.long (length_listed n _) (c.press_all.ensures.holds ws s w before) (subst (FirstSet n _) c.in-None.is c.first_set.ensures)
