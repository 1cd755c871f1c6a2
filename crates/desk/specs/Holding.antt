-- How lent memory holds a board, and what a call does to both. Assumes nothing: these are definitions.
use Rattle.std.specs.Prelude.{◌≡◌, ℕ, ◌<◌, Bool, true, false, List, Ok, Err, Result}
use Rattle.gf2.specs.Rows.{Rows}
use Rattle.gf2.specs.Reduction.{Tracks, Pivots}
use Rattle.lamps.specs.Calls.{Board, Call, Answer, turned, after, IsRight}
use Rattle.lamps.specs.Promise.{Memory}
use Rattle.matrix.specs.Cells.{width_of, cell, Spare}
use Rattle.wires.specs.Holds.{HoldsWires}
use Rattle.lit.specs.Holds.{HoldsLit}
use Rattle.echelon.specs.Steps.{column_of}
use Rattle.update.specs.Said.{ButMarked}
use Rattle.calls.specs.declared.Refusal.{Refusal}
use Rattle.calls.specs.declared.Answer.{Answer as Reply}
use Rattle.calls.specs.declared.Answer.TheVariants.{Refused, Number, Lit, Fewest, SomeWay, Never}

-- a memory of n lamps, by what its slices hold
abbrev pub lent : ℕ → List ℕ → List ℕ → List ℕ → List ℕ → List ℕ → List ℕ → Memory
lent n wires rows done pivots lit marks = record { lamps = n; wires = wires; rows = rows; done = done; pivots = pivots; lit = lit; marks = marks }

-- steps are kept: of a system that is the wires but for the marked rows
pub record KeepsSteps (n : ℕ) (wires rows done pivots marks : List ℕ) : Type 0 where
  pub system : Rows
  pub but_marked : ButMarked n (width_of n) wires marks system
  pub tracks : Tracks n system (cell rows (width_of n)) (cell done (width_of n))
  pub in_steps : Pivots n (cell rows (width_of n)) (column_of pivots)
  pub spare : Spare n (cell done (width_of n))

-- the memory holds the board: its wires, what is lit, and steps
pub record Holds (m : Memory) (b : Board) : Type 0 where
  pub wires : HoldsWires m.lamps m.wires b.wires_there
  pub lit : HoldsLit m.lamps m.lit b.on
  pub steps : KeepsSteps m.lamps m.wires m.rows m.done m.pivots m.marks

-- memory held the board b and is m' now: a is a right answer to the call c, the memory holds the board after the call, and if that is refused nothing has changed
pub record Performs (m m' : Memory) (b : Board) (c : Call) (a : Answer) : Type 0 where
  pub answered : IsRight b c a
  pub holds : Holds m' (after b c)
  pub keeps : 0 < turned b c → m' ≡ m

-- the answer with a number, or the refusal
abbrev pub answer_of : Result ℕ Refusal → Reply
answer_of (Ok k) = Number k
answer_of (Err e) = Refused e

-- is the answer a refusal
abbrev pub refuses : Reply → Bool
refuses (Refused r) = true
refuses (Number k) = false
refuses (Lit n) = false
refuses (Fewest n) = false
refuses (SomeWay n) = false
refuses (Never n) = false
