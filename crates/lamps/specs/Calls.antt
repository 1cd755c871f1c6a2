-- A board of lamps, the calls on it, how each changes it, and what may be answered. Assumes nothing: these are definitions.
use Rattle.std.specs.Prelude.{◌≡◌, ℕ, zero, suc, ◌+◌, ◌*◌, ◌<◌, ◌≤◌, Bool, true, false, not, ◌&&◌, List, [], ◌∷◌, ◌++◌, length, ◌==◌, nat_lt, slice_set}
use Rattle.gf2.specs.Rows.{pick}
use Rattle.lamps.specs.Lamps.{Lamps, at, Wire, wired, pressed, how_many, puts_out, quiet, odd_of, none_lit}

-- which wires are there, and which lamps are on
pub record Board : Type 0 where
  pub wires_there : List Wire
  pub on : Lamps

-- CALLS AND ANSWERS

pub data Call : Type 0 where
  wires : ℕ → ℕ → Call  -- the wire between two lamps comes, or goes if it is there
  turns : ℕ → Call  -- a lamp alone is turned on or off
  presses : ℕ → Call  -- a button is pressed
  lit : Call  -- which lamps are on?
  out : Call  -- which presses put all out?
  ways : Call  -- how many sets of presses do?
  garbled : ℕ → Call  -- what can't be read, from this place on

pub data Answer : Type 0 where
  refused : ℕ → ℕ → Answer  -- by which number, and the place
  number : ℕ → Answer
  lamps : Lamps → Answer  -- the lamps that are on
  fewest : Lamps → Answer  -- presses that put all out, and no fewer do
  some_way : Lamps → Answer  -- presses that put all out
  never : Lamps → Answer  -- a quiet set of which an odd number is on: nothing puts all out

-- REFUSALS

abbrev pub there : Board → ℕ → Bool
there b i = nat_lt i (length b.on)

-- the number by which a call is refused, or 0: 1 it can't be read, 4 a lamp is not there, 2 a wire would go from a lamp to itself
unfoldable pub turned : Board → Call → ℕ
turned b (wires i j) = pick (there b i && there b j) (pick (i == j) 2 0) 4
turned b (turns i) = pick (there b i) 0 4
turned b (presses i) = pick (there b i) 0 4
turned b lit = 0
turned b out = 0
turned b ways = 0
turned b (garbled n) = 1

-- the place that a refusal names, whatever its number
unfoldable pub place : Call → ℕ → ℕ
place (garbled n) k = n
place (wires i j) k = 0
place (turns i) k = 0
place (presses i) k = 0
place lit k = 0
place out k = 0
place ways k = 0

-- CHANGES

-- the wires that don't join i and j
unfoldable pub dropped : List Wire → ℕ → ℕ → List Wire
dropped [] i j = []
dropped (w ∷ ws) i j = pick (wired (w ∷ []) i j) (dropped ws i j) (w ∷ dropped ws i j)

-- the wire between i and j comes, or goes if it is there
abbrev pub rewired : List Wire → ℕ → ℕ → List Wire
rewired ws i j = pick (wired ws i j) (dropped ws i j) (record { one = i; other = j } ∷ ws)

-- the board after a call that is not refused; after any call
unfoldable pub changed : Board → Call → Board
changed b (wires i j) = record { wires_there = rewired b.wires_there i j; on = b.on }
changed b (turns i) = record { wires_there = b.wires_there; on = slice_set b.on i (not (at b.on i)) }
changed b (presses i) = record { wires_there = b.wires_there; on = pressed b.wires_there b.on (slice_set (none_lit (length b.on)) i true) }
changed b lit = b
changed b out = b
changed b ways = b
changed b (garbled n) = b

abbrev pub after : Board → Call → Board
after b c = pick (turned b c == 0) (changed b c) b

-- WHAT MAY BE ANSWERED

-- how many of the sets of lamps that begin with p and go on with n more pass a test
unfoldable pub count_on : ℕ → Lamps → (Lamps → Bool) → ℕ
count_on zero p f = pick (f p) 1 0
count_on (suc n) p f = count_on n (p ++ (false ∷ [])) f + count_on n (p ++ (true ∷ [])) f

-- two to the n
unfoldable pub power : ℕ → ℕ
power zero = 1
power (suc n) = 2 * power n

-- A call that changes the board is answered by its first lamp. `out`: presses that put all out, of which none has fewer; or just some, but only where there are
-- more than 65,536 quiet sets, hence as many ways; or a quiet set of which an odd number is lit, and none that shows as much has fewer lamps, unless there are
-- more than 65,536 quiet sets. `ways`: one more than k if there are two to the k ways, 0 if there is none.
unfoldable pub MaySay : Board → Call → Answer → Type 0
MaySay b (wires i j) a = a ≡ number i
MaySay b (turns i) a = a ≡ number i
MaySay b (presses i) a = a ≡ number i
MaySay b lit a = a ≡ lamps b.on
MaySay b out (fewest p) =
    (puts_out b.wires_there b.on p ≡ true) × ((q : Lamps) → puts_out b.wires_there b.on q ≡ true → how_many p ≤ how_many q)
MaySay b out (some_way p) =
    (puts_out b.wires_there b.on p ≡ true) × (65536 < count_on (length b.on) [] (quiet b.wires_there (length b.on)))
MaySay b out (never q) =
    (quiet b.wires_there (length b.on) q ≡ true)
    × (odd_of q b.on ≡ true)
    × (count_on (length b.on) [] (quiet b.wires_there (length b.on)) ≤ 65536 → (r : Lamps) → quiet b.wires_there (length b.on) r ≡ true → odd_of r b.on ≡ true → how_many q ≤ how_many r)
MaySay b out (refused k p) = ⊥
MaySay b out (number n) = ⊥
MaySay b out (lamps s) = ⊥
MaySay b ways (number zero) = (p : Lamps) → puts_out b.wires_there b.on p ≡ false
MaySay b ways (number (suc k)) = count_on (length b.on) [] (puts_out b.wires_there b.on) ≡ power k
MaySay b ways (refused k p) = ⊥
MaySay b ways (lamps s) = ⊥
MaySay b ways (fewest p) = ⊥
MaySay b ways (some_way p) = ⊥
MaySay b ways (never q) = ⊥
MaySay b (garbled n) a = ⊥

-- the right answer: what may be said, or the refusal if there is one
unfoldable pub IsRightIf : Bool → Board → Call → Answer → Type 0
IsRightIf true b c a = MaySay b c a
IsRightIf false b c a = a ≡ refused (turned b c) (place c (turned b c))

abbrev pub IsRight : Board → Call → Answer → Type 0
IsRight b c a = IsRightIf (turned b c == 0) b c a
