-- How a line is read, byte by byte. Assumes nothing: these are definitions.
use Rattle.std.specs.Prelude.{ℕ, zero, suc, ◌+◌, ◌-◌, ◌*◌, max, Bool, cond, ◌&&◌, ◌||◌, List, [], ◌∷◌, length, Some, None, Option, Ok, Err, codes, Result, ◌==◌, nat_lt, slice_index}

-- a reader takes the rest of a line, with the place where the rest begins: it gives what it reads, or the place of the first byte that doesn't fit.
-- Most hand what follows on to another reader, K
abbrev pub Reader : Type 0 → Type 0
Reader X = ℕ → List ℕ → Result X ℕ

-- nothing follows
unfoldable pub ends : {X : Type 0} → X → Reader X
ends x p [] = Ok x
ends x p (b ∷ bs) = Err p

-- a word
unfoldable pub word : {X : Type 0} → List ℕ → Reader X → Reader X
word [] K p bs = K p bs
word (w ∷ ws) K p [] = Err p
word (w ∷ ws) K p (b ∷ bs) = cond (b == w) (word ws K (suc p) bs) (Err p)

-- a byte is a decimal digit; the number v with the digit b put behind it; whether that is at most 65,535, and that where it is
abbrev pub digit : ℕ → Bool
digit b = nat_lt 47 b && nat_lt b 58

abbrev pub longer : ℕ → ℕ → ℕ
longer v b = 10 * v + (b - 48)

abbrev pub goes_on : ℕ → ℕ → Bool
goes_on v b = digit b && nat_lt (longer v b) 65536

abbrev pub next : ℕ → ℕ → Option ℕ
next v b = cond (goes_on v b) (Some (longer v b)) None

-- the digits that stand here, as far as the number, which is v so far, goes on within 65,535
unfoldable pub digits : {X : Type 0} → (ℕ → Reader X) → ℕ → Reader X
digits K v p [] = K v p []
digits K v p (b ∷ bs) = cond (goes_on v b) (digits K (longer v b) (suc p) bs) (K v p (b ∷ bs))

-- a number: one or more digits
unfoldable pub number : {X : Type 0} → (ℕ → Reader X) → Reader X
number K p bs = cond (digit (slice_index bs 0)) (digits K 0 p bs) (Err p)

-- two numbers, one space between them
abbrev pub pair : ℕ → ℕ → ℕ × ℕ
pair i j = (i, j)

abbrev pub numbers : {X : Type 0} → (ℕ × ℕ → Reader X) → Reader X
numbers K = number (λ i. word (codes " ") (number (λ j. K (pair i j))))

-- a set of n lamps, as a number: a digit 0 or 1 for each, lamp 0 first and in the lowest bit
abbrev pub binary : ℕ → Bool
binary b = b == 48 || b == 49

unfoldable pub bits : {X : Type 0} → ℕ → (ℕ → Reader X) → Reader X
bits zero K p bs = K 0 p bs
bits (suc n) K p [] = Err p
bits (suc n) K p (b ∷ bs) = cond (binary b) (bits n (λ v. K ((b - 48) + 2 * v)) (suc p) bs) (Err p)

-- of two readings the one that succeeds, or the one that comes further
unfoldable pub further : {X : Type 0} → Result X ℕ → Result X ℕ → Result X ℕ
further (Ok x) s = Ok x
further (Err p) (Ok y) = Ok y
further (Err p) (Err q) = Err (max p q)

infixl 20 ◌or◌
abbrev pub ◌or◌ : {X : Type 0} → Reader X → Reader X → Reader X
◌or◌ F G p bs = further (F p bs) (G p bs)

-- what the parts of the program say: where reading has come to, and what was read before
abbrev pub here : Reader ℕ
here p bs = Ok p

abbrev pub found : {X : Type 0} → X → Reader (X × ℕ)
found v p bs = Ok (v, p)

-- reading goes on with what was read, or stops
abbrev pub then : {A B : Type 0} → Result A ℕ → (A → Result B ℕ) → Result B ℕ
then (Ok x) k = k x
then (Err p) k = Err p

-- byte b stands at place p
abbrev pub has : List ℕ → ℕ → ℕ → Bool
has bs p b = nat_lt p (length bs) && slice_index bs p == b
