-- What the cases of calls, refusals and answers stand for, and the bytes of an answer. Assumes nothing: these are definitions.
use Rattle.std.specs.Prelude.{ℕ, cond, List, ◌∷◌, ◌++◌, length, drop, Ok, Err, Result, ◌==◌, slice_index}
use Rattle.lamps.specs.Lamps.{Lamps, listed}
use Rattle.lamps.specs.Calls.{Call as Asked, wires, turns, presses, lit, out, ways, garbled}
use Rattle.lamps.specs.Calls.{Answer as Said, refused, number, lamps, fewest, some_way, never}
use Rattle.bits.specs.Bits.{bit_of}
use Rattle.calls.specs.declared.Call.{Call}
use Rattle.calls.specs.declared.Call.TheVariants.{Wire, Turn, Press, Lit, Out, Ways}
use Rattle.calls.specs.declared.Refusal.{Refusal}
use Rattle.calls.specs.declared.Refusal.TheVariants.{Unreadable, Itself, BadSize, ShortMemory, NoLamp}
use Rattle.calls.specs.declared.Answer.{Answer}
use Rattle.calls.specs.declared.Answer.TheVariants as answer
use Rattle.calls.specs.Bytes.{two_bytes, two, packed, unpacked}
use Rattle.calls.specs.Reading.{decoded}

-- a refusal's number and its place
abbrev pub number_of : Refusal → ℕ
number_of (Unreadable p) = 1
number_of Itself = 2
number_of BadSize = 3
number_of ShortMemory = 3
number_of NoLamp = 4

abbrev pub place_of : Refusal → ℕ
place_of (Unreadable p) = p
place_of Itself = 0
place_of BadSize = 0
place_of ShortMemory = 1
place_of NoLamp = 0

-- what is asked of a board: by a call, and by bytes
abbrev pub meant : Call → Asked
meant (Wire i j) = wires i j
meant (Turn i) = turns i
meant (Press i) = presses i
meant Lit = lit
meant Out = out
meant Ways = ways

abbrev pub asked : Result Call Refusal → Asked
asked (Ok c) = meant c
asked (Err r) = garbled (place_of r)

abbrev pub called : List ℕ → Asked
called bs = asked (decoded bs)

-- what is said by an answer whose lamps are the first bits of a row
abbrev pub said : Answer → List ℕ → Said
said (answer.Refused r) row = refused (number_of r) (place_of r)
said (answer.Number k) row = number k
said (answer.Lit n) row = lamps (listed n (bit_of row))
said (answer.Fewest n) row = fewest (listed n (bit_of row))
said (answer.SomeWay n) row = some_way (listed n (bit_of row))
said (answer.Never n) row = never (listed n (bit_of row))

-- how many lamps an answer has
abbrev pub lamps_of : Answer → ℕ
lamps_of (answer.Refused r) = 0
lamps_of (answer.Number k) = 0
lamps_of (answer.Lit n) = n
lamps_of (answer.Fewest n) = n
lamps_of (answer.SomeWay n) = n
lamps_of (answer.Never n) = n

-- the bytes of an answer
abbrev pub with_lamps : ℕ → Lamps → List ℕ
with_lamps t ls = t ∷ (two_bytes (length ls) ++ packed ls)

abbrev pub written : Said → List ℕ
written (refused k p) = 0 ∷ k ∷ two_bytes p
written (number k) = 1 ∷ two_bytes k
written (lamps ls) = with_lamps 2 ls
written (fewest ls) = with_lamps 3 ls
written (some_way ls) = with_lamps 4 ls
written (never ls) = with_lamps 5 ls

-- the answer that some bytes begin with; where they begin none, some answer
abbrev pub lamps_in : List ℕ → Lamps
lamps_in bs = unpacked (two bs 1) (drop 3 bs)

unfoldable pub answer_of : List ℕ → Said
answer_of bs =
    cond (slice_index bs 0 == 0) (refused (slice_index bs 1) (two bs 2))
    (cond (slice_index bs 0 == 1) (number (two bs 1))
    (cond (slice_index bs 0 == 2) (lamps (lamps_in bs))
    (cond (slice_index bs 0 == 3) (fewest (lamps_in bs))
    (cond (slice_index bs 0 == 4) (some_way (lamps_in bs)) (never (lamps_in bs))))))
