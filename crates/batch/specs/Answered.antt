-- A list of calls, answered one after the other. Assumes nothing: these are definitions.
use Rattle.std.specs.Prelude.{◌≡◌, ℕ, ◌*◌, ◌<◌, ◌≤◌, List, map, length, take, drop, slice_index_or}
use Rattle.lamps.specs.Calls.{Board, Answer, IsRight}
use Rattle.lamps.specs.Promise.{Memory, ran}
use Rattle.calls.specs.declared.Call.{Call}
use Rattle.calls.specs.declared.Call.TheVariants.{Wire}
use Rattle.calls.specs.Saying.{meant, written}
use Rattle.desk.specs.Holding.{Holds}

-- the bytes of an answer stand at a place
abbrev pub Stands : Answer → List ℕ → ℕ → Type 0
Stands a bytes place = take (length (written a)) (drop place bytes) ≡ written a

-- the board after the first k of the calls
abbrev pub left_by : Board → List Call → ℕ → Board
left_by b cs k = ran b (map meant (take k cs))

-- a right answer to call k, for the board that those before it left, stands at its place: `size` bytes are for each
pub record AnswersCall (b : Board) (cs : List Call) (size : ℕ) (bytes : List ℕ) (k : ℕ) : Type 0 where
  pub answer : Answer
  pub is_right : IsRight (left_by b cs k) (meant (slice_index_or cs k (Wire 0 0))) answer
  pub fits : length (written answer) ≤ size
  pub stands : Stands answer bytes (k * size)

-- the memory held b; the first k calls are answered, and it holds the board that they left
pub record AnswersAll (m' : Memory) (b : Board) (cs : List Call) (size : ℕ) (bytes : List ℕ) (k : ℕ) : Type 0 where
  pub holds : Holds m' (left_by b cs k)
  pub each : (i : ℕ) → i < k → AnswersCall b cs size bytes i
