-- The lines that answer. Assumes nothing: these are definitions.
use Rattle.std.specs.Prelude.{ℕ, zero, suc, List, [], ◌++◌, Ok, Err, Result, codes, decimal}
use Rattle.lamps.specs.Lamps.{Lamps, listed}
use Rattle.lamps.specs.Calls.{Call, wires, turns, presses, lit, out, ways, garbled}
use Rattle.lamps.specs.Calls.{Answer, refused, number, lamps, fewest, some_way, never}
use Rattle.bits.specs.Bits.{bit_of}
use Rattle.lines.specs.Printed.{shown}
use Rattle.lines.specs.declared.refusal.Refusal.{Refusal}
use Rattle.lines.specs.Refusals.{number_of, place_of}
use Rattle.lines.specs.Texts.{refusal_line}
use Rattle.text.specs.declared.lamp_set.LampSet.{LampSet}
use Rattle.text.specs.declared.reply.Reply.{Reply}
use Rattle.text.specs.declared.reply.Reply.TheVariants as reply

-- a board of n lamps is open
abbrev pub opened : ℕ → List ℕ
opened n = codes "lamps " ++ (decimal n ++ codes "\n")

-- a number: of ways, k + 1 if there are 2^k, or 0 if there is none; else the lamp of a call
abbrev pub lamp : ℕ → List ℕ
lamp k = codes "lamp " ++ (decimal k ++ codes "\n")

abbrev pub so_many : ℕ → List ℕ
so_many zero = codes "no way\n"
so_many (suc k) = codes "2^" ++ (decimal k ++ codes " ways\n")

abbrev pub numbered : Call → ℕ → List ℕ
numbered (wires i j) k = lamp k
numbered (turns i) k = lamp k
numbered (presses i) k = lamp k
numbered lit k = lamp k
numbered out k = lamp k
numbered ways k = so_many k
numbered (garbled n) k = lamp k

-- lamps, after what they are
abbrev pub set : List ℕ → Lamps → List ℕ
set name ls = name ++ (shown ls ++ codes "\n")

-- an answer to a call
abbrev pub told : Call → Answer → List ℕ
told c (refused k p) = refusal_line k p
told c (number k) = numbered c k
told c (lamps ls) = set (codes "lit ") ls
told c (fewest ls) = set (codes "press ") ls
told c (some_way ls) = set (codes "some way, press ") ls
told c (never ls) = set (codes "never, by ") ls

-- the lamps of a set
abbrev pub lamps_in : LampSet → Lamps
lamps_in s = listed s.count (bit_of s.row)

-- a reply as a line, or as nothing
abbrev pub line_for : Reply → List ℕ
line_for reply.Nothing = []
line_for (reply.Refused why) = refusal_line (number_of why) (place_of why)
line_for (reply.Opened n) = opened n
line_for (reply.Lamp k) = lamp k
line_for reply.NoWay = so_many 0
line_for (reply.TwoToThe k) = so_many (suc k)
line_for (reply.Lit s) = set (codes "lit ") (lamps_in s)
line_for (reply.Fewest s) = set (codes "press ") (lamps_in s)
line_for (reply.SomeWay s) = set (codes "some way, press ") (lamps_in s)
line_for (reply.Never s) = set (codes "never, by ") (lamps_in s)

-- the reply that a part of the program gives, or a refusal
abbrev pub reply_or : Result Reply Refusal → Reply
reply_or (Ok r) = r
reply_or (Err why) = reply.Refused why
