use Rattle.std.proofs.Common.{◌≡◌, ℕ, ◌+◌, List, sym, subst, arith}
use Rattle.matrix.proofs.Memory.{row_within}
use Rattle.echelon.specs.Steps.{Clearing}
use Rattle.echelon.proofs.Clear.{clear_none, clear_itself, clear_off, clear_from}
use Rattle.echelon.proofs.clear_column.Goals as goal
use Rattle.echelon.proofs.clear_column.Goals.{then-m-k+then-has, else-m-k, else-m-k-via-then-m-k+else-has, else-m-k-via-else-m-k}

pub loop-m-init : goal.loop-m-init
loop-m-init c = clear_none _ _ _ _ _ _

pub has-requires : goal.has-requires
has-requires c =
    let row = row_within c.args.width c.loop-m.m c.args.to c.loop-m-test.true in
    record { fits = omega arith; within = omega arith }

pub add_row-requires : goal.add_row-requires
add_row-requires c =
    let row = row_within c.args.width c.loop-m.m c.args.to c.loop-m-test.true in
    record { rows_to = omega arith; rows_from = omega arith; done_to = omega arith; done_from = omega arith; apart = omega arith }

pub loop-m-preserved : goal.loop-m-preserved
loop-m-preserved c =
    let Next : List ℕ → List ℕ → Type 0 = λ rs ts.
    Clearing c.args.width c.args.rows.now c.args.done.now rs ts c.args.from (c.loop-m.m + 1) c.args.k c.args.j in
    let at : (rs ts : List ℕ) → c.if-m-k.rows ≡ rs → c.if-m-k.done ≡ ts → Next rs ts → Next c.if-m-k.rows c.if-m-k.done =
    λ rs ts p q h. subst (λ x. Next x c.if-m-k.done) (sym p) (subst (λ y. Next rs y) (sym q) h) in
    let from = c.loop-m.auto.m in
    let inv = c.loop-m.invariant in
    elim c.if-m-k.branch [
      | then-m-k+then-has w ↦ at _ _ w.rows-is w.done-is
          (clear_from _ _ _ _ _ _ _ _ _ from inv w.if-m-k.true w.if-has.ensures _ _ w.add_row.ensures.rows w.add_row.ensures.done)
      | else-m-k w ↦ at _ _ w.rows-is w.done-is (
          elim w.else-m-k.branch [
            | else-m-k-via-then-m-k+else-has v ↦ clear_off _ _ _ _ _ _ _ _ _ from inv v.if-has.ensures
            | else-m-k-via-else-m-k v ↦ clear_itself _ _ _ _ _ _ _ _ _ from inv v.if-m-k.false
          ]
          )
    ]

pub returns : goal.returns
returns c =
    let all : c.loop-m.m ≡ c.args.to = omega arith in
    subst (λ to. Clearing c.args.width c.args.rows.now c.args.done.now c.loop-m.rows c.loop-m.done c.args.from to c.args.k c.args.j) all c.loop-m.invariant
