-- A desk that opens and steps as the contracts say, over every list of calls. Assumes nothing.
use Rattle.std.proofs.Common.{◌≡◌, ℕ, ◌+◌, ◌*◌, ◌≤◌, List, [], ◌∷◌, sym, ap, ◌∙◌, mul_assoc, mul_comm, mul-le-mul_left, mul-add, arith}
use Rattle.lamps.specs.Calls.{Board, Call, after}
use Rattle.lamps.specs.Promise.{Memory, Desk, new_board, AllRight, Right, ran, left_by, RefusalKeeps}
use Rattle.desk.specs.Holding.{Holds}
use Rattle.matrix.specs.Cells.{width_of}
use Rattle.session.specs.Lent.{Steps, StepsRight, InBudget}

module _ (d : Desk) (s : Steps d) where
  runs_right : (m : Memory) (b : Board) (cs : List Call) → Holds m b → AllRight d m b cs
  unfolding AllRight
  runs_right m b [] h = 0
  runs_right m b (c ∷ cs) h = let p = s.performs m b c h in (p.answered, runs_right (d.next m c) (after b c) cs p.holds)

  runs_hold : (m : Memory) (b : Board) (cs : List Call) → Holds m b → Holds (left_by d m cs) (ran b cs)
  unfolding left_by ran
  runs_hold m b [] h = h
  runs_hold m b (c ∷ cs) h = runs_hold (d.next m c) (after b c) cs (s.performs m b c h).holds

pub steps_right : StepsRight
unfolding Right RefusalKeeps
steps_right d s = (
  (λ n cs p q. runs_right d s (d.opened n) (new_board n) cs (s.opens n p q)),
  (λ n cs c p q t. (s.performs _ _ c (runs_hold d s (d.opened n) (new_board n) cs (s.opens n p q))).keeps t),
)

pub in_budget : InBudget
in_budget n =
    let w : ℕ = width_of n in
    let small : 64 * w ≤ n + 63 = omega arith in
    let few : n * (64 * w) ≤ n * (n + 63) = mul-le-mul_left n small in
    let a : n * (64 * w) ≡ 64 * (n * w) = times n 64 w in
    let b : n * (n + 63) ≡ n * n + n * 63 = mul-add n n 63 in
    let c : w ≤ n + 1 = omega arith in
    omega (arith, few, a, b, c)
  where
    times : (x y z : ℕ) → x * (y * z) ≡ y * (x * z)
    times x y z = sym (mul_assoc x y z) ∙ ap (λ t. t * z) (mul_comm x y) ∙ mul_assoc y x z
