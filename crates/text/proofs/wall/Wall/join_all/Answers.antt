use Rattle.std.proofs.Common.{◌+◌, Bool, ltb, List, [], ◌∷◌, ◌++◌, subst, arith}
use Rattle.std.proofs.lemmas.Bool.{lt-ltb, le-ltb, eq-eqb, ne_eqb}
use Rattle.gf2.specs.Rows.{pick}
use Rattle.lamps.specs.Lamps.{Wire}
use Rattle.lamps.specs.Boards.{wire, wires_before}
use Rattle.text.proofs.Grids.{Wired, apart, next_apart, more_wires, no_wires, no_more, more_come, wired_as}
use Rattle.text.proofs.wall.Wall.join_all.Goals as goal
use Rattle.text.proofs.wall.Wall.join_all.Goals.{then-w-n, else-w-n, then-i-w-ne0, else-i-w-ne0}

pub loop-i-init : goal.loop-i-init
loop-i-init c = no_more c.args.self.now _ (no_wires c.args.w c.lamps-n.result)

pub loop-i-preserved : goal.loop-i-preserved
loop-i-preserved c =
    let first = c.args.self.now in
    let n = c.lamps-n.result in
    let w = c.args.w in
    let i = c.loop-i.i in
    let old = c.loop-i.invariant in
    let down : Bool → List Wire = λ t. pick t (wire i (i + w) ∷ []) [] ++ wires_before w n i in
    let right : Bool → List Wire = λ t. pick t [] (wire i (i + 1) ∷ []) ++ down (ltb (i + w) n) in
    let below : Wired first c.if-w-n.self (down (ltb (i + w) n)) = elim c.if-w-n.branch [
      | then-w-n v ↦ wired_as down (lt-ltb (i + w) n (omega arith)) v.self-is
          (more_come old v.join.ensures.same (v.join.ensures.comes (wires_before w n i) (apart w n i i (i + w) (omega arith) (omega arith))))
      | else-w-n v ↦ wired_as down (le-ltb (i + w) n (omega arith)) v.self-is old
    ] in
    subst (λ us. Wired first c.if-i-w-ne0.self us) (more_wires w n i) (elim c.if-i-w-ne0.branch [
      | then-i-w-ne0 v ↦ wired_as right (ne_eqb _ 0 v.if-i-w-ne0.true) v.self-is
          (more_come below v.join-then-i-w-ne0.ensures.same (v.join-then-i-w-ne0.ensures.comes (down (ltb (i + w) n)) (next_apart (ltb (i + w) n) w n i v.if-i-w-ne0.true)))
      | else-i-w-ne0 v ↦ wired_as right (eq-eqb _ 0 v.if-i-w-ne0.false) v.self-is below
    ])
