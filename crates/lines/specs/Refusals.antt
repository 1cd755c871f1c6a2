-- The number of a refusal and its place. Assumes nothing: these are definitions.
use Rattle.std.specs.Prelude.{ℕ}
use Rattle.calls.specs.Saying as calls
use Rattle.lines.specs.declared.refusal.Refusal.{Refusal}
use Rattle.lines.specs.declared.refusal.Refusal.TheVariants.{Unreadable, Call}

abbrev pub number_of : Refusal → ℕ
number_of (Unreadable p) = 1
number_of (Call r) = calls.number_of r

abbrev pub place_of : Refusal → ℕ
place_of (Unreadable p) = p
place_of (Call r) = calls.place_of r
