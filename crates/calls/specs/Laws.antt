-- What is promised of calls and answers as bytes. Assumes nothing: these are definitions, and statements whose proof is owed.
use Rattle.std.specs.Prelude.{◌≡◌, ℕ, ◌+◌, ◌<◌, ◌≤◌, List, ◌++◌, length, take, Ok, Result, MatchResult, ◌≢◌, slice_index}
use Rattle.lamps.specs.Calls.{Answer as Said}
use Rattle.calls.specs.declared.Call.{Call}
use Rattle.calls.specs.declared.Call.TheVariants.{Wire, Turn, Press, Lit, Out, Ways}
use Rattle.calls.specs.declared.Refusal.{Refusal}
use Rattle.calls.specs.declared.Refusal.TheVariants.{Unreadable}
use Rattle.calls.specs.Reading.{encoded, decoded}
use Rattle.calls.specs.Saying.{written, answer_of}

-- numbers that are bytes; a call whose lamps are numbers of two bytes
abbrev pub AllBytes : List ℕ → Type 0
AllBytes bs = (k : ℕ) → slice_index bs k < 256

abbrev pub Small : Call → Type 0
Small (Wire i j) = (i < 65536) × (j < 65536)
Small (Turn i) = i < 65536
Small (Press i) = i < 65536
Small Lit = Unit {0}
Small Out = Unit {0}
Small Ways = Unit {0}

-- the bytes of some call begin with these
abbrev pub Beginning : List ℕ → Type 0
Beginning bs = (c : Call) × (rest : List ℕ) × Small c × (encoded c ≡ bs ++ rest)

-- the bytes are no call's, and p is how many of them at most are the beginning of one
pub record Ceases (bs : List ℕ) (p : ℕ) : Type 0 where
  pub none : (c : Call) → encoded c ≢ bs
  pub within : p ≤ length bs
  pub before : Beginning (take p bs)
  pub beyond : p < length bs → Beginning (take (p + 1) bs) → ⊥

-- what is read: the call whose bytes they are, or where they cease to be one
abbrev pub Reads : List ℕ → Result Call Refusal → Type 0
Reads bs r = MatchResult r (λ c. bs ≡ encoded c) (λ e. (p : ℕ) × (e ≡ Unreadable p) × Ceases bs p)

pub record OfCalls : Type 0 where
  -- reading what was written gives the same call, so that no two calls have the same bytes
  pub back : (c : Call) → decoded (encoded c) ≡ Ok c
  -- what is read was written, so that no two rows of bytes are the same call
  pub reads : (bs : List ℕ) → AllBytes bs → Reads bs (decoded bs)

pub record OfAnswers : Type 0 where
  -- an answer is read back from its bytes, whatever stands past them
  pub back : (a : Said) (rest : List ℕ) → answer_of (written a ++ rest) ≡ a
