-- What the exported functions return, as one signed number, and what it says. Assumes nothing: these are definitions.
use Rattle.std.specs.Prelude.{◌≡◌, ℕ, ◌+◌, ◌*◌, ◌^◌, ◌<◌, ◌≤◌, ◌⊎◌, List, ℤ, pos, neg_ℤ}
use Rattle.lamps.specs.Promise.{Memory}
use Rattle.calls.specs.declared.Refusal.{Refusal}
use Rattle.calls.specs.declared.Refusal.TheVariants.{BadSize}
use Rattle.calls.specs.Saying.{number_of, place_of}
use Rattle.session.specs.Lent.{table_words, Opened, Unopened, Called, Uncalled}

-- a refusal is below zero: its number times 2^32, and its place
abbrev pub code : Refusal → ℤ
code e = neg_ℤ (pos (number_of e * 2 ^ 32 + place_of e))

-- there is a board of n lamps; there is none
abbrev pub SomeBoard : ℕ → Type 0
SomeBoard n = (0 < n) × (n ≤ 1024)

abbrev pub NoBoard : ℕ → Type 0
NoBoard n = (n ≡ 0) ⊎ (1024 < n)

-- how many words each table must have, for n lamps
abbrev pub Words : ℕ → ℤ → Type 0
Words n r = (SomeBoard n × (r ≡ pos (table_words n))) ⊎ (NoBoard n × (r ≡ code BadSize))

-- the memory was opened, and the number of lamps is returned; or it was not, and why
abbrev pub Opens : Memory → Memory → ℤ → Type 0
Opens m m' r = ((r ≡ pos m.lamps) × Opened m m') ⊎ ((e : Refusal) × (r ≡ code e) × Unopened m m' e)

-- nothing was written: there is no board of so many lamps, or else the memory or what is lent for the answer is shorter than is asked for
abbrev pub Unanswered : Memory → Memory → List ℕ → List ℕ → Refusal → Type 0
Unanswered m m' old new e = (NoBoard m.lamps × (e ≡ BadSize) × (m' ≡ m) × (new ≡ old)) ⊎ (SomeBoard m.lamps × Uncalled m m' old new e)

-- the bytes of a call were answered, and the number of bytes of the answer is returned; or they were not, and why
abbrev pub Answers : Memory → Memory → List ℕ → List ℕ → List ℕ → ℤ → Type 0
Answers m m' bytes old new r = ((k : ℕ) × (r ≡ pos k) × Called m m' bytes old new k) ⊎ ((e : Refusal) × (r ≡ code e) × Unanswered m m' old new e)
