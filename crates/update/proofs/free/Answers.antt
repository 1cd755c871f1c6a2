use Rattle.std.proofs.Common.{◌≡◌, ℕ, ◌+◌, List, length, sym, refl, ◌∙◌, subst}
use Rattle.update.specs.Said.{Frees}
use Rattle.update.proofs.Freed.{frees_none, frees_itself, frees_off, frees_from, frees_end}
use Rattle.update.proofs.free.Goals as goal
use Rattle.update.proofs.free.Goals.{then-m-k+then-has, else-m-k, else-m-k-via-then-m-k+else-has, else-m-k-via-else-m-k}

pub loop-m-init : goal.loop-m-init
loop-m-init c = (frees_none _ _ _ _ _ _ c.requires.within, refl, refl)

pub loop-m-preserved : goal.loop-m-preserved
loop-m-preserved c =
    let Next : List ℕ → List ℕ → Type 0 = λ rs ts.
    Frees c.args.n c.width-width.result c.args.rows.now c.args.done.now rs ts c.args.k c.args.l (c.loop-m.m + 1)
    × (length rs ≡ length c.args.rows.now) × (length ts ≡ length c.args.done.now) in
    let at : (rs ts : List ℕ) → c.if-m-k.rows ≡ rs → c.if-m-k.done ≡ ts → Next rs ts → Next c.if-m-k.rows c.if-m-k.done =
    λ rs ts p q h. subst (λ x. Next x c.if-m-k.done) (sym p) (subst (λ y. Next rs y) (sym q) h) in
    let inv = c.loop-m.invariant in
    elim c.if-m-k.branch [
      | then-m-k+then-has w ↦ at _ _ w.rows-is w.done-is (
        frees_from _ _ _ _ _ _ _ _ _ inv.0 c.requires.within c.loop-m-test.true c.requires.lamp w.if-m-k.true w.if-has.ensures
            _ _ w.add_row.ensures.rows w.add_row.ensures.done,
        w.add_row.auto.rows ∙ inv.1,
        w.add_row.auto.done ∙ inv.2,
      )
      | else-m-k w ↦ at _ _ w.rows-is w.done-is (
        elim w.else-m-k.branch [
          | else-m-k-via-then-m-k+else-has v ↦ frees_off _ _ _ _ _ _ _ _ _ inv.0 v.if-has.ensures
          | else-m-k-via-else-m-k v ↦ frees_itself _ _ _ _ _ _ _ _ _ inv.0 v.if-m-k.false
        ],
        inv.1,
        inv.2,
      )
    ]

pub returns : goal.returns
returns c =
    subst (λ w. Frees c.args.n w c.args.rows.now c.args.done.now c.loop-m.rows c.loop-m.done c.args.k c.args.l c.args.n) c.width-width.ensures
    (frees_end _ _ _ _ _ _ _ _ c.loop-m.m c.loop-m-test.false c.loop-m.invariant.0)
