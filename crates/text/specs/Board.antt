-- What is said to a call in text, and how memory holds the board that is open. Assumes nothing: these are definitions.
use Rattle.std.specs.Prelude.{◌≡◌, ℕ, ◌<◌, List, Some, None, Option, MatchOption}
use Rattle.lamps.specs.Lamps.{Wire, none_lit}
use Rattle.lamps.specs.Calls.{Board, Call, Answer, after, IsRight}
use Rattle.lamps.specs.Promise.{Memory}
use Rattle.desk.specs.Holding.{lent, Holds}
use Rattle.lines.specs.Texts.{refusal_line}
use Rattle.text.specs.Memory.{lamps_open, in_use}
use Rattle.text.specs.Lines.{told}
use Rattle.text.specs.declared.wall.Wall.{Wall}

-- there is a board or none. What may be said, and what is there then: s is what is said, b is there before and b' after it

-- a board with these wires and every lamp off
abbrev pub dark : ℕ → List Wire → Board
dark n ws = record { wires_there = ws; on = none_lit n }

-- a call is to be answered
abbrev pub Asks : Call → Option Board → List ℕ → Option Board → Type 0
Asks c None s b' = (s ≡ refusal_line 1 0) × (b' ≡ None)
Asks c (Some b) s b' = (a : Answer) × IsRight b c a × (s ≡ told c a) × (b' ≡ Some (after b c))

-- MEMORY

-- the memory of a wall
abbrev pub held : Wall → Memory
held w = lent (lamps_open w.board) w.wires w.rows w.done w.pivots w.lit w.marks

-- the memory holds the board that there is, or has no lamps if there is none
abbrev pub Stands : Memory → Option Board → Type 0
Stands m b = MatchOption b (m.lamps ≡ 0) (λ w. (0 < m.lamps) × Holds (in_use m) w)

-- memory was m and is m': whatever there was, s is what may be said, and the memory holds what is there then
abbrev pub Step : (Option Board → List ℕ → Option Board → Type 0) → Memory → Memory → List ℕ → Type 0
Step May m m' s = (b : Option Board) → Stands m b → (b' : Option Board) × May b s b' × Stands m' b'

-- the same of a call on a board that there is
abbrev pub Tells : Call → Memory → Memory → List ℕ → Type 0
Tells c m m' s = (b : Board) → Holds m b → (a : Answer) × IsRight b c a × (s ≡ told c a) × Holds m' (after b c)

-- and of wires that come to a dark board
abbrev pub Comes : List Wire → Memory → Memory → List Wire → Type 0
Comes ws m m' ws' = Holds m (dark m.lamps ws) → Holds m' (dark m.lamps ws')
