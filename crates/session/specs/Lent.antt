-- Memory as it is lent, in slices that may be longer than is asked for, and what opening and a call do to it. Assumes nothing: these are definitions.
use Rattle.std.specs.Prelude.{◌≡◌, ℕ, ◌+◌, ◌*◌, ◌/◌, ◌<◌, ◌≤◌, ◌⊎◌, List, length, take, drop}
use Rattle.lamps.specs.Calls.{Board, Call, Answer, refused}
use Rattle.lamps.specs.Promise.{Memory, Desk, new_board, Right, RefusalKeeps}
use Rattle.matrix.specs.Cells.{width_of}
use Rattle.calls.specs.declared.Refusal.{Refusal}
use Rattle.calls.specs.declared.Refusal.TheVariants.{BadSize, ShortMemory}
use Rattle.calls.specs.Bytes.{Put}
use Rattle.calls.specs.Saying.{called, written}
use Rattle.desk.specs.Holding.{lent, Holds, Performs}

-- how many words each of the three tables has: a row for each lamp
abbrev pub table_words : ℕ → ℕ
table_words n = n * width_of n

-- the memory is as long as is asked for
pub record Long (m : Memory) : Type 0 where
  pub wires : table_words m.lamps ≤ length m.wires
  pub rows : table_words m.lamps ≤ length m.rows
  pub done : table_words m.lamps ≤ length m.done
  pub pivots : m.lamps ≤ length m.pivots
  pub lit : width_of m.lamps ≤ length m.lit
  pub marks : width_of m.lamps ≤ length m.marks

-- what is asked for, of each slice; what is past it
abbrev pub asked_of : Memory → Memory
asked_of m = lent m.lamps
    (take (table_words m.lamps) m.wires) (take (table_words m.lamps) m.rows) (take (table_words m.lamps) m.done)
    (take m.lamps m.pivots) (take (width_of m.lamps) m.lit) (take (width_of m.lamps) m.marks)

abbrev pub past : Memory → Memory
past m = lent m.lamps
    (drop (table_words m.lamps) m.wires) (drop (table_words m.lamps) m.rows) (drop (table_words m.lamps) m.done)
    (drop m.lamps m.pivots) (drop (width_of m.lamps) m.lit) (drop (width_of m.lamps) m.marks)

-- how many bytes that is in all; and those for an answer, which are lent beside
abbrev pub bytes_asked : ℕ → ℕ
bytes_asked n = 3 * (8 * table_words n) + 2 * n + 2 * (8 * width_of n)

abbrev pub answer_bytes : ℕ → ℕ
answer_bytes n = (n + 7) / 8 + 16

-- the memory is a new board of n lamps now, and as it was past what is asked for
pub record Opened (m m' : Memory) : Type 0 where
  pub long : Long m
  pub holds : Holds (asked_of m') (new_board m.lamps)
  pub past : past m' ≡ past m

-- nothing was written: there are no lamps or more than 1,024, or else the memory is shorter than is asked for
abbrev pub Unopened : Memory → Memory → Refusal → Type 0
Unopened m m' e =
    (m' ≡ m) × (((e ≡ BadSize) × ((m.lamps ≡ 0) ⊎ (1024 < m.lamps))) ⊎ ((e ≡ ShortMemory) × (0 < m.lamps) × (m.lamps ≤ 1024) × (Long m → ⊥)))

-- the bytes of a call were answered: what is said stands in the first k bytes of the answer, and those past them are as they were. Whatever board the memory
-- held, what is said is right for it, and the memory holds the board after the call; if the call is refused, nothing of the memory has changed
pub record Answered (m m' : Memory) (bytes old new : List ℕ) (k : ℕ) : Type 0 where
  pub says : Answer
  pub put : Put (written says) old new k
  pub performs : (b : Board) → Holds m b → Performs m m' b (called bytes) says
  pub kept : (number place : ℕ) → says ≡ refused number place → m' ≡ m

-- the same where more memory is lent than is asked for: what is past that is as it was
pub record Called (m m' : Memory) (bytes old new : List ℕ) (k : ℕ) : Type 0 where
  pub answered : Answered (asked_of m) (asked_of m') bytes old new k
  pub past : past m' ≡ past m
  pub kept : (number place : ℕ) → answered.says ≡ refused number place → m' ≡ m

-- nothing was written: the memory, or what is lent for the answer, is shorter than is asked for
abbrev pub Uncalled : Memory → Memory → List ℕ → List ℕ → Refusal → Type 0
Uncalled m m' old new e = (m' ≡ m) × (new ≡ old) × (e ≡ ShortMemory) × (Long m → answer_bytes m.lamps ≤ length old → ⊥)

-- THE MAIN PROMISE of the desk that opens and steps as the contracts of `open` and `call` say: every such desk is right for every list of calls, and keeps its memory
-- at a refusal
pub record Steps (d : Desk) : Type 0 where
  pub opens : (n : ℕ) → 0 < n → n ≤ 1024 → Holds (d.opened n) (new_board n)
  pub performs : (m : Memory) (b : Board) (c : Call) → Holds m b → Performs m (d.next m c) b c (d.says m c)

abbrev pub StepsRight : Type 0
StepsRight = (d : Desk) → Steps d → Right d × RefusalKeeps d

-- the memory that is asked for is within its budget: half a byte for each pair of lamps, rounded up, 64 bytes for each lamp, and 8,192 more
abbrev pub InBudget : Type 0
InBudget = (n : ℕ) → bytes_asked n ≤ (n * n + 1) / 2 + 64 * n + 8192
