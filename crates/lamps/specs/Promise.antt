-- What is promised: first of a desk that answers calls, then of every board of lamps. Each is a statement, a type whose proof is owed. Assumes nothing.
use Rattle.std.specs.Prelude.{◌≡◌, ℕ, ◌+◌, ◌<◌, ◌≤◌, Bool, true, false, not, ◌&&◌, ◌⊎◌, List, [], ◌∷◌, ◌++◌, length, ◌≢◌, nat_lt}
use Rattle.gf2.specs.Rows.{pick}
use Rattle.lamps.specs.Lamps.{Lamps, Wire, both, pressed, puts_out, quiet, odd_of, none_lit, all_lit}
use Rattle.lamps.specs.Calls.{Call, Answer, Board, turned, after, count_on, power, IsRight}

-- THE DESK

-- what a desk keeps: how many lamps there are, and what the slices that it is lent hold
pub record Memory : Type 0 where
  pub lamps : ℕ
  pub wires : List ℕ
  pub rows : List ℕ
  pub done : List ℕ
  pub pivots : List ℕ
  pub lit : List ℕ
  pub marks : List ℕ

-- opening makes it a new board of n lamps; each call leaves it changed, and is answered
pub record Desk : Type 0 where
  pub opened : ℕ → Memory
  pub next : Memory → Call → Memory
  pub says : Memory → Call → Answer

-- each of the calls is answered rightly, for the board that those before it left
unfoldable pub AllRight : Desk → Memory → Board → List Call → Type 0
AllRight d m b [] = ℕ
AllRight d m b (c ∷ cs) = IsRight b c (d.says m c) × AllRight d (d.next m c) (after b c) cs

-- no wires, and all lamps off
abbrev pub new_board : ℕ → Board
new_board n = record { wires_there = []; on = none_lit n }

-- THE MAIN PROMISE: whatever calls are made on a board of 1 to 1,024 lamps, each answer is right
unfoldable pub Right : Desk → Type 0
Right d = (n : ℕ) (cs : List Call) → 0 < n → n ≤ 1024 → AllRight d (d.opened n) (new_board n) cs

-- the board, and the memory, after some calls
unfoldable pub ran : Board → List Call → Board
ran b [] = b
ran b (c ∷ cs) = ran (after b c) cs

unfoldable pub left_by : Desk → Memory → List Call → Memory
left_by d m [] = m
left_by d m (c ∷ cs) = left_by d (d.next m c) cs

-- a call that is refused leaves the memory as it was
unfoldable pub RefusalKeeps : Desk → Type 0
RefusalKeeps d = (n : ℕ) (cs : List Call) (c : Call) → 0 < n → n ≤ 1024 → 0 < turned (ran (new_board n) cs) c → d.next (left_by d (d.opened n) cs) c ≡ left_by d (d.opened n) cs

-- EVERY BOARD, of any size and wired in any way

-- 1. if all lamps are lit, some presses put all out
unfoldable pub AllOn : Type 0
AllOn = (ws : List Wire) (n : ℕ) → (p : Lamps) × (puts_out ws (all_lit n) p ≡ true)

-- 2. there are presses that put all out, or a quiet set of which an odd number is lit, and never both
unfoldable pub OneOrOther : Type 0
OneOrOther =
    (ws : List Wire) (s : Lamps) →
    (((p : Lamps) × (puts_out ws s p ≡ true)) ⊎ ((q : Lamps) × (quiet ws (length s) q ≡ true) × (odd_of q s ≡ true)))
    × ((p q : Lamps) → puts_out ws s p ≡ true → quiet ws (length s) q ≡ true → odd_of q s ≢ true)

-- 3. presses in another order do the same, the same presses twice do nothing, and two sets of presses do what those in one of them alone do
unfoldable pub AnyOrder : Type 0
AnyOrder =
    (ws : List Wire) (s p q : Lamps) → length p ≡ length s → length q ≡ length s →
    (pressed ws (pressed ws s p) q ≡ pressed ws (pressed ws s q) p) × (pressed ws (pressed ws s p) p ≡ s) × (pressed ws (pressed ws s p) q ≡ pressed ws s (both p q))

-- 4. the quiet sets are a power of two, and there is no way to put all out or there are as many
unfoldable pub AsMany : Type 0
AsMany =
    (ws : List Wire) (s : Lamps) →
    (k : ℕ) × (count_on (length s) [] (quiet ws (length s)) ≡ power k)
    × (((p : Lamps) → puts_out ws s p ≡ false) ⊎ (count_on (length s) [] (puts_out ws s) ≡ power k))

-- 5. every quiet set has an even number of lamps
unfoldable pub even_many : Lamps → Bool
even_many [] = true
even_many (l ∷ ls) = pick l (not (even_many ls)) (even_many ls)

unfoldable pub EvenQuiet : Type 0
EvenQuiet = (ws : List Wire) (n : ℕ) (q : Lamps) → quiet ws n q ≡ true → even_many q ≡ true

-- 6. two boards side by side, with no wire between them, are put out each by itself

-- the wires of a board that comes after n lamps; do all wires stay among the first n lamps
unfoldable pub shifted : ℕ → List Wire → List Wire
shifted n [] = []
shifted n (w ∷ ws) = record { one = n + w.one; other = n + w.other } ∷ shifted n ws

unfoldable pub all_in : ℕ → List Wire → Bool
all_in n [] = true
all_in n (w ∷ ws) = (nat_lt w.one n && nat_lt w.other n) && all_in n ws

unfoldable pub SideBySide : Type 0
SideBySide =
    (vs ws : List Wire) (s t p q : Lamps) → all_in (length s) vs ≡ true → all_in (length t) ws ≡ true → length p ≡ length s →
    puts_out (vs ++ shifted (length s) ws) (s ++ t) (p ++ q) ≡ (puts_out vs s p && puts_out ws t q)
