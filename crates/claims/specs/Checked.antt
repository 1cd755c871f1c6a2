-- When a claim is right, and which lamp is named where it is not. Assumes nothing: these are definitions.
use Rattle.std.specs.Prelude.{◌≡◌, ℕ, Bool, true, false, List, length}
use Rattle.gf2.specs.Rows.{dot}
use Rattle.lamps.specs.Lamps.{Lamps, at, odd_of, Wire, changes, pressed, puts_out, quiet}
use Rattle.bits.specs.Said.{First}
use Rattle.claims.specs.declared.Verdict.{Verdict}
use Rattle.claims.specs.declared.Verdict.TheVariants.{Right, Lamp, Even}

-- the claim that the presses p put out s: right, or lamp k is the first that they leave lit
abbrev pub PressesChecked : List Wire → Lamps → Lamps → Verdict → Type 0
PressesChecked ws s p Right = puts_out ws s p ≡ true
PressesChecked ws s p (Lamp k) = (puts_out ws s p ≡ false) × First (length s) (at (pressed ws s p)) k
PressesChecked ws s p Even = ⊥

-- does button k change an odd number of the set q, of n lamps
abbrev pub odd_by : List Wire → ℕ → Lamps → ℕ → Bool
odd_by ws n q k = dot n (changes ws k) (at q)

-- the claim that the set q shows that nothing puts out s: right, or button k is the first that changes an odd number of it, or it is quiet and an even number of it is lit
abbrev pub NeverChecked : List Wire → Lamps → Lamps → Verdict → Type 0
NeverChecked ws s q Right = (quiet ws (length s) q ≡ true) × (odd_of q s ≡ true)
NeverChecked ws s q (Lamp k) = (quiet ws (length s) q ≡ false) × First (length s) (odd_by ws (length s) q) k
NeverChecked ws s q Even = (quiet ws (length s) q ≡ true) × (odd_of q s ≡ false)
