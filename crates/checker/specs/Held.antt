-- What there is in memory, and a line answered there. Assumes nothing: these are definitions.
use Rattle.std.specs.Prelude.{ℕ, Some, None, Ok, Err, Option, Result}
use Rattle.lamps.specs.Calls.{Board as Wall}
use Rattle.claims.specs.declared.Verdict.{Verdict}
use Rattle.lines.specs.declared.refusal.Refusal.{Refusal}
use Rattle.lines.specs.declared.Claim.{Claim}
use Rattle.checker.specs.declared.reply.Reply.{Reply}
use Rattle.checker.specs.declared.reply.Reply.TheVariants.{Nothing, Refused, Found}
use Rattle.checker.specs.declared.small.SmallBoard.{SmallBoard}
use Rattle.checker.specs.Replies.{Replies, next, Holding}

-- how many lamps there are
abbrev pub lamps_held : Option SmallBoard → ℕ
lamps_held None = 0
lamps_held (Some c) = c.board.lamps

-- memory holds the board that there is, if there is one
abbrev pub Held : Option SmallBoard → Option Wall → Type 0
Held None None = Unit {0}
Held None (Some b) = ⊥
Held (Some c) None = ⊥
Held (Some c) (Some b) = Holding c.board.lamps c.wires c.lit b

-- what is said on the board b is rightly answered by r, and memory holds the board after it
pub record Answered (b : Option Wall) (s : Result Claim ℕ) (r : Reply) (c : Option SmallBoard) : Type 0 where
  pub right : Replies b s r
  pub holds : Held c (next b s)

-- the reply that a part of the program gives: what a claim is found to be, nothing, or a refusal
abbrev pub found_or : Result (Option Verdict) Refusal → Reply
found_or (Ok None) = Nothing
found_or (Ok (Some v)) = Found v
found_or (Err why) = Refused why
