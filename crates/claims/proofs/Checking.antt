-- What a verdict says of the lamps. Assumes nothing.
use Rattle.std.proofs.Common.{◌≡◌, ℕ, ◌*◌, ◌<◌, ◌≤◌, true, false, ◌&&◌, not, eqb, Option, Some, None, is_some, List, length, sym, ap, ◌∙◌, subst, ap₂, inl, inr, arith}
use mathlib.Core.Bool.{false≢true}
use Rattle.std.proofs.lemmas.Bool.{cases_Bool, eq-eqb, and_from, and_right}
use Rattle.gf2.specs.Rows.{dot, act}
use Rattle.gf2.proofs.Parity.{parity_cong, and_false}
use Rattle.lamps.specs.Lamps.{Lamps, at, odd_of, all_off, Wire, changes, table, pressed, quiet}
use Rattle.lamps.proofs.Listed.{at_listed}
use Rattle.lamps.proofs.Tables.{quiet_listed, odd_of_row}
use Rattle.lamps.proofs.Wires.{changes_sym}
use Rattle.bits.specs.Bits.{bit_of}
use Rattle.bits.specs.Said.{First, FirstSet}
use Rattle.bits.proofs.Counts.{parity_short}
use Rattle.matrix.specs.Cells.{width_of, cell}
use Rattle.wires.specs.Holds.{HoldsWires}
use Rattle.lit.specs.Holds.{HoldsLit, lamps_of}
use Rattle.lit.proofs.Holding.{held_lamps, held_past, first_off}
use Rattle.claims.specs.Checked.{PressesChecked, odd_by, NeverChecked}
use Rattle.claims.specs.declared.Verdict.TheVariants.{Right, Lamp, Even}

-- ---- presses: the row `after` holds what is lit after them

module _ (n : ℕ) (after : List ℕ) (ws : List Wire) (s p : Lamps) (long : length s ≡ n) (count : length p ≡ n)
    (held : HoldsLit n after (pressed ws s p)) where
  off : (o : Option ℕ) → FirstSet n (bit_of after) o → not (is_some o) ≡ all_off (pressed ws s p)
  off o first = first_off n after o first ∙ ap all_off (held_lamps n after (pressed ws s p) held)

  pub presses_right : FirstSet n (bit_of after) None → PressesChecked ws s p Right
  presses_right none =
      and_from (eqb (length p) (length s)) (all_off (pressed ws s p)) (eq-eqb (length p) (length s) (count ∙ sym long)) (sym (off None none))

  pub presses_lamp : (r : ℕ) → First n (bit_of after) r → PressesChecked ws s p (Lamp r)
  presses_lamp r first = (
    and_right (eqb (length p) (length s)) (all_off (pressed ws s p)) (sym (off (Some r) first)),
    record { within = rw long first.within; here = sym (held.each r) ∙ first.here; before = λ j b. sym (held.each j) ∙ first.before j b },
  )

-- ---- a set: a button changes an odd number of it if its row and the set have an odd number of bits in common

abbrev pub EvenBelow : ℕ → List ℕ → List ℕ → ℕ → Type 0
EvenBelow width wires set k = (j : ℕ) → j < k → dot (64 * width) (cell wires width j) (bit_of set) ≡ false

module _ (n width : ℕ) (e : width ≡ width_of n) (wires lit set : List ℕ) (ws : List Wire) (s : Lamps) (w : HoldsWires n wires ws) (h : HoldsLit n lit s) where
  abbrev q : Lamps
  q = lamps_of n set

  -- no row has a bit past n
  row_odd : (k : ℕ) → k < n → dot (64 * width) (cell wires width k) (bit_of set) ≡ odd_by ws n q k
  row_odd k l =
      ap (λ x. dot (64 * width) (cell wires x k) (bit_of set)) e
      ∙ parity_short (λ j. cell wires (width_of n) k j && bit_of set j) n (64 * width) (omega arith) (λ j past. ap (λ x. x && bit_of set j) (w.spare k l j past))
      ∙ parity_cong (λ j. cell wires (width_of n) k j && bit_of set j) (λ j. changes ws k j && at q j) n
      (λ j b. ap₂ (λ x y. x && y) (w.each k j l b) (sym (at_listed n (bit_of set) j b)))

  lit_odd : (m : ℕ) → n ≤ m → dot m (bit_of set) (bit_of lit) ≡ odd_of q s
  lit_odd m g =
      parity_short (λ j. bit_of set j && bit_of lit j) n m g (λ j past. ap (λ x. bit_of set j && x) (held_past n lit s h j past) ∙ and_false (bit_of set j))
      ∙ parity_cong (λ j. bit_of set j && bit_of lit j) (λ j. bit_of set j && at s j) n (λ j b. ap (λ x. bit_of set j && x) (h.each j))
      ∙ sym (odd_of_row n (bit_of set) s h.long)

  -- `quiet` is about presses: pressed all together, the set's lamps change nothing. It is the same only since wires have no direction, which nothing else here uses
  by_presses : (k : ℕ) → k < n → odd_by ws n q k ≡ act n (table ws) (bit_of set) k
  by_presses k l = parity_cong (λ j. changes ws k j && at q j) (λ j. table ws k j && bit_of set j) n
      (λ j b. ap₂ (λ x y. x && y) (changes_sym ws k j) (at_listed n (bit_of set) j b))

  is_quiet : ((k : ℕ) → k < n → odd_by ws n q k ≡ false) → quiet ws (length s) q ≡ true
  is_quiet even = subst (λ m. quiet ws m q ≡ true) (sym h.long) ((quiet_listed ws n (bit_of set)).1 (λ k l. sym (by_presses k l) ∙ even k l))

  not_quiet : (k : ℕ) → k < n → odd_by ws n q k ≡ true → quiet ws (length s) q ≡ false
  not_quiet k l odd = elim (cases_Bool (quiet ws (length s) q)) [
    | inl t ↦ absurd (false≢true (sym (evenly (subst (λ m. quiet ws m q ≡ true) h.long t)) ∙ odd))
    | inr e ↦ e
  ]
    where
      evenly : quiet ws n q ≡ true → odd_by ws n q k ≡ false
      evenly e = by_presses k l ∙ (quiet_listed ws n (bit_of set)).0 e k l

  -- the verdict where all buttons before k change an even number of the set
  pub never_lamp : (k : ℕ) → k < n → EvenBelow width wires set k → true ≡ dot (64 * width) (cell wires width k) (bit_of set) → NeverChecked ws s q (Lamp k)
  never_lamp k l even odd = (
    not_quiet k l here,
    subst (λ c. First c (odd_by ws c q) k) (sym h.long) (record { within = l; here = here; before = λ j b. sym (row_odd j (omega arith)) ∙ even j b }),
  )
    where
      here : odd_by ws n q k ≡ true
      here = sym (row_odd k l) ∙ sym odd

  module _ (k m : ℕ) (all : n ≤ k) (even : EvenBelow width wires set k) (long : n ≤ m) where
    still : quiet ws (length s) q ≡ true
    still = is_quiet (λ j l. sym (row_odd j l) ∙ even j (omega arith))

    pub never_right : true ≡ dot m (bit_of set) (bit_of lit) → NeverChecked ws s q Right
    never_right odd = (still, sym (lit_odd m long) ∙ sym odd)

    pub never_even : false ≡ dot m (bit_of set) (bit_of lit) → NeverChecked ws s q Even
    never_even odd = (still, sym (lit_odd m long) ∙ sym odd)
