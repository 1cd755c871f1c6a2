-- Which lamps wires join, and what is joined after a wire came or went. Assumes nothing.
use Rattle.std.proofs.Common.{◌≡◌, ℕ, Bool, true, false, not, ◌&&◌, ◌||◌, eqb, ◌≢◌, List, [], ◌∷◌, refl, ap, ◌∙◌, ap₂, arith}
use Rattle.std.proofs.Math.Bool.{or_comm}
use Rattle.std.proofs.lemmas.Bool.{eq-eqb}
use Rattle.std.proofs.lemmas.Bool.Decides.{nat_tests}
use Rattle.gf2.specs.Rows.{pick, differ}
use Rattle.lamps.specs.Lamps.{Wire, joins, wired, changes, table}
use Rattle.lamps.specs.Calls.{dropped, rewired}

-- either way round
pub eqb_sym : (i j : ℕ) → eqb i j ≡ eqb j i
eqb_sym i j = grind (arith, nat_tests)

pub joins_sym : (a b i j : ℕ) → joins a b i j ≡ joins a b j i
joins_sym a b i j = or_comm (eqb a i && eqb b j) (eqb a j && eqb b i)

pub wired_sym : (ws : List Wire) (i j : ℕ) → wired ws i j ≡ wired ws j i
unfolding wired
wired_sym [] i j = refl
wired_sym (w ∷ ws) i j = ap₂ ◌||◌ (joins_sym w.one w.other i j) (wired_sym ws i j)

pub changes_sym : (ws : List Wire) (i j : ℕ) → changes ws i j ≡ changes ws j i
changes_sym ws i j = ap₂ ◌||◌ (eqb_sym i j) (wired_sym ws i j)

pub changes_self : (ws : List Wire) (i : ℕ) → changes ws i i ≡ true
changes_self ws i = ap (λ (b : Bool). b || wired ws i i) (eq-eqb i i refl)

-- the same two lamps are joined by the same wires
pub joins_same : (a b i j x y : ℕ) → joins i j x y ≡ true → joins a b x y ≡ joins a b i j
joins_same a b i j x y h = grind (arith, nat_tests)

pub wired_same : (ws : List Wire) (i j x y : ℕ) → joins i j x y ≡ true → wired ws x y ≡ wired ws i j
unfolding wired
wired_same [] i j x y h = refl
wired_same (w ∷ ws) i j x y h = ap₂ ◌||◌ (joins_same w.one w.other i j x y h) (wired_same ws i j x y h)

-- without the wires that join i and j
pub wired_dropped : (ws : List Wire) (i j x y : ℕ) → wired (dropped ws i j) x y ≡ (wired ws x y && not (joins i j x y))
unfolding wired dropped
wired_dropped [] i j x y = refl
wired_dropped (w ∷ ws) i j x y = go (joins w.one w.other i j) refl (wired_dropped ws i j x y)
  where
    others : List Wire
    others = dropped ws i j

    gone : (a b c d : Bool) → a ≡ (c && not d) → (b ≡ true → d ≡ true) → a ≡ ((b || c) && not d)
    gone a b c d h k = grind arith

    stays : (a b c d : Bool) → a ≡ (c && not d) → (d ≡ true → b ≡ false) → (b || a) ≡ ((b || c) && not d)
    stays a b c d h k = grind arith

    here : (e : joins w.one w.other i j ≡ true) → joins w.one w.other x y ≡ true → joins i j x y ≡ true
    here e f = grind (arith, nat_tests)

    go : (t : Bool) → joins w.one w.other i j ≡ t → wired others x y ≡ (wired ws x y && not (joins i j x y))
        → wired (pick (t || false) others (w ∷ others)) x y ≡ ((joins w.one w.other x y || wired ws x y) && not (joins i j x y))
    go true e ih = gone (wired others x y) (joins w.one w.other x y) (wired ws x y) (joins i j x y) ih (here e)
    go false e ih = stays (wired others x y) (joins w.one w.other x y) (wired ws x y) (joins i j x y) ih (λ d. joins_same w.one w.other i j x y d ∙ e)

-- A WIRE COMES OR GOES: i and j are joined if they were not, and all else is as it was
pub wired_rewired : (ws : List Wire) (i j x y : ℕ) → wired (rewired ws i j) x y ≡ differ (wired ws x y) (joins i j x y)
unfolding wired
wired_rewired ws i j x y = go (wired ws i j) refl
  where
    goes : (a b : Bool) → (b ≡ true → a ≡ true) → (a && not b) ≡ differ a b
    goes a b h = grind arith

    comes : (a b : Bool) → (b ≡ true → a ≡ false) → (b || a) ≡ differ a b
    comes a b h = grind arith

    go : (t : Bool) → wired ws i j ≡ t → wired (pick t (dropped ws i j) (record { one = i; other = j } ∷ ws)) x y ≡ differ (wired ws x y) (joins i j x y)
    go true e = wired_dropped ws i j x y ∙ goes (wired ws x y) (joins i j x y) (λ h. wired_same ws i j x y h ∙ e)
    go false e = comes (wired ws x y) (joins i j x y) (λ h. wired_same ws i j x y h ∙ e)

pub changes_rewired : (ws : List Wire) (i j x y : ℕ) → i ≢ j → changes (rewired ws i j) x y ≡ differ (changes ws x y) (joins i j x y)
changes_rewired ws i j x y ne = ap (◌||◌ (eqb x y)) (wired_rewired ws i j x y) ∙ apart (eqb x y) (wired ws x y) (joins i j x y) two
  where
    two : eqb x y ≡ true → joins i j x y ≡ false
    two e = grind (arith, nat_tests)

    apart : (e a b : Bool) → (e ≡ true → b ≡ false) → (e || differ a b) ≡ differ (e || a) b
    apart e a b h = grind arith

pub table_rewired : (ws : List Wire) (i j x y : ℕ) → i ≢ j → table (rewired ws i j) x y ≡ differ (table ws x y) (joins i j x y)
table_rewired ws i j x y ne = changes_rewired ws i j y x ne ∙ ap (differ (changes ws y x)) (joins_sym i j y x)
