use Rattle.std.proofs.Common.{◌≡◌, ℕ, ◌+◌, List, length, sym, ap, ◌∙◌, subst, arith}
use Rattle.bits.specs.Bits.{bit_of}
use Rattle.matrix.specs.Cells.{width_of, cell}
use Rattle.echelon.specs.Steps.{column_of}
use Rattle.fewest.proofs.Building.{Building, building_on, building_off, building_past, building_end}
use Rattle.fewest.proofs.quiet_set.Goals as goal
use Rattle.fewest.proofs.quiet_set.Goals.{then-column-n+then-has, else-column-n, else-column-n-via-then-column-n+else-has, else-column-n-via-else-column-n}

pub loop-i-preserved : goal.loop-i-preserved
loop-i-preserved c =
    let n = c.args.n in
    let Next : List ℕ → Type 0 = λ out.
    Building n (cell c.args.rows.now (width_of n)) (column_of c.args.pivots.now) c.args.f (bit_of out) (c.loop-i.i + 1)
    × (length out ≡ width_of n) in
    let inv = c.loop-i.invariant in
    let same = ap (λ w. cell c.args.rows.now w c.loop-i.i c.args.f) c.width-width.ensures in
    elim c.if-column-n.branch [
      | then-column-n+then-has w ↦ subst Next (sym w.out-is)
          (building_on _ _ _ _ _ _ inv.0 _ w.if-column-n.true (w.if-has.ensures ∙ same) w.flip-then-has.ensures, w.flip-then-has.auto.row ∙ inv.1)
      | else-column-n w ↦ subst Next (sym w.out-is) (
        elim w.else-column-n.branch [
          | else-column-n-via-then-column-n+else-has v ↦ building_off _ _ _ _ _ _ inv.0 (v.if-has.ensures ∙ same)
          | else-column-n-via-else-column-n v ↦ building_past _ _ _ _ _ _ inv.0 v.if-column-n.false
        ],
        inv.1,
      )
    ]

pub returns : goal.returns
returns c =
    let n = c.args.n in
    let all : c.loop-i.i ≡ n = omega arith in
    building_end _ _ _ _ _ c.requires.column
    (subst (Building n (cell c.args.rows.now (width_of n)) (column_of c.args.pivots.now) c.args.f (bit_of c.loop-i.out)) all c.loop-i.invariant.0)
