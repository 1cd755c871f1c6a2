-- How a line is answered, and the board that it leaves. Assumes nothing: these are definitions.
use Rattle.std.specs.Prelude.{◌≡◌, ℕ, zero, suc, cond, List, length, take, Some, None, Ok, Err, Option, Result, ◌==◌}
use Rattle.gf2.specs.Rows.{pick}
use Rattle.lamps.specs.Calls.{Board as Wall, Call as Asked, wires, turns, turned, after}
use Rattle.lamps.specs.Promise.{new_board}
use Rattle.wires.specs.Holds.{HoldsWires}
use Rattle.lit.specs.Holds.{HoldsLit}
use Rattle.claims.specs.declared.Verdict.{Verdict}
use Rattle.claims.specs.Checked.{PressesChecked, NeverChecked}
use Rattle.calls.specs.declared.Refusal.{Refusal}
use Rattle.calls.specs.declared.Refusal.TheVariants.{Itself, BadSize, NoLamp}
use Rattle.lines.specs.declared.refusal.Refusal.TheVariants.{Unreadable, Call}
use Rattle.lines.specs.declared.Claim.{Claim}
use Rattle.lines.specs.declared.Claim.TheVariants as claim
use Rattle.lines.specs.Lines.{claim_of, serves}
use Rattle.lines.specs.Printed.{set_in}
use Rattle.checker.specs.declared.reply.Reply.{Reply}
use Rattle.checker.specs.declared.reply.Reply.TheVariants.{Nothing, Refused, Found}

-- THE REPLY

-- how many lamps there are, 0 where there is no board yet
abbrev pub lamps_in : Option Wall → ℕ
lamps_in None = 0
lamps_in (Some b) = length b.on

-- what a line says here, or the place where it can't be read on
abbrev pub said : Option Wall → List ℕ → Result Claim ℕ
said b line = claim_of (lamps_in b) line

-- the refusal of number k that a call has on a board: 2, it would wire a lamp to itself; 4, a lamp is not there
abbrev pub numbered : ℕ → Refusal
numbered k = cond (k == 2) Itself (cond (k == 3) BadSize NoLamp)

-- a call that is refused by number k is answered so; one that is not, by nothing
abbrev pub refusal : ℕ → Reply
refusal zero = Nothing
refusal (suc k) = Refused (Call (numbered (suc k)))

-- and so what a part of the program says of a call
abbrev pub reply_to : Result (Unit {0}) Refusal → Reply
reply_to (Ok u) = Nothing
reply_to (Err why) = Refused (Call why)

-- on no board, and on a board, a line that says this is rightly answered by r
abbrev pub FirstReply : Claim → Reply → Type 0
FirstReply (claim.Lamps n) r = r ≡ pick (serves n) Nothing (Refused (Call BadSize))
FirstReply (claim.Wire i j) r = r ≡ Refused (Unreadable 0)
FirstReply (claim.Turn i) r = r ≡ Refused (Unreadable 0)
FirstReply (claim.Press p) r = r ≡ Refused (Unreadable 0)
FirstReply (claim.Never q) r = r ≡ Refused (Unreadable 0)
FirstReply claim.Nothing r = r ≡ Nothing

abbrev pub BoardReply : Wall → Claim → Reply → Type 0
BoardReply b (claim.Lamps n) r = r ≡ pick (serves n) Nothing (Refused (Call BadSize))
BoardReply b (claim.Wire i j) r = r ≡ refusal (turned b (wires i j))
BoardReply b (claim.Turn i) r = r ≡ refusal (turned b (turns i))
BoardReply b (claim.Press p) r = (v : Verdict) × (r ≡ Found v) × PressesChecked b.wires_there b.on (set_in (length b.on) p) v
BoardReply b (claim.Never q) r = (v : Verdict) × (r ≡ Found v) × NeverChecked b.wires_there b.on (set_in (length b.on) q) v
BoardReply b claim.Nothing r = r ≡ Nothing

abbrev pub Replies : Option Wall → Result Claim ℕ → Reply → Type 0
Replies b (Err p) r = r ≡ Refused (Unreadable p)
Replies None (Ok c) r = FirstReply c r
Replies (Some b) (Ok c) r = BoardReply b c r

-- THE BOARD AFTER

-- a line that opens a board puts it in the place of any before; a call changes the board; any other line leaves it
abbrev pub next : Option Wall → Result Claim ℕ → Option Wall
next b (Err p) = b
next b (Ok (claim.Lamps n)) = pick (serves n) (Some (new_board n)) b
next None (Ok (claim.Wire i j)) = None
next None (Ok (claim.Turn i)) = None
next (Some b) (Ok (claim.Wire i j)) = Some (after b (wires i j))
next (Some b) (Ok (claim.Turn i)) = Some (after b (turns i))
next b (Ok (claim.Press p)) = b
next b (Ok (claim.Never q)) = b
next b (Ok claim.Nothing) = b

-- IN MEMORY

-- memory holds a board of n lamps: a word of wires for each lamp, and a word of what is lit
pub record Holding (n : ℕ) (ws ls : List ℕ) (b : Wall) : Type 0 where
  pub wires : HoldsWires n (take n ws) b.wires_there
  pub lit : HoldsLit n ls b.on

-- a call on the board b, which is refused or taken
pub record Called (n : ℕ) (ws ls : List ℕ) (b : Wall) (c : Asked) (r : Reply) : Type 0 where
  pub right : r ≡ refusal (turned b c)
  pub holds : Holding n ws ls (after b c)
