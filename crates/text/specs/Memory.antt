-- The memory of a board of at most 64 lamps, and a call on it. Assumes nothing: these are definitions.
use Rattle.std.specs.Prelude.{ℕ, take, Some, None, Option}
use Rattle.lamps.specs.Calls.{Board, Call, Answer}
use Rattle.lamps.specs.Promise.{Memory}
use Rattle.wires.specs.declared.board.Board.{Board as Open}
use Rattle.desk.specs.Holding.{lent, Holds, Performs}

-- how many lamps the board that is open has, or 0 where none is
abbrev pub lamps_open : Option Open → ℕ
lamps_open None = 0
lamps_open (Some b) = b.lamps

-- of the slices, for 64 lamps, what is in use for so many as there are
abbrev pub in_use : Memory → Memory
in_use m = lent m.lamps (take m.lamps m.wires) (take m.lamps m.rows) (take m.lamps m.done) (take m.lamps m.pivots) m.lit m.marks

-- memory was m and is m': whatever board was in use, the call is performed on it and answered by a
abbrev pub Performed : Call → Memory → Memory → Answer → Type 0
Performed c m m' a = (b : Board) → Holds (in_use m) b → Performs (in_use m) (in_use m') b c a
