-- The memory after a call that changes the board. Assumes nothing.
use Rattle.std.proofs.Common.{◌≡◌, ℕ, ◌<◌, Bool, true, false, not, ◌&&◌, ◌||◌, eqb, ◌≢◌, List, length, set, sym, refl, ap, ◌∙◌, subst, ap₂, true≢false, arith}
use Rattle.gf2.specs.Rows.{differ}
use Rattle.gf2.proofs.Parity.{differ_false}
use Rattle.lamps.specs.Lamps.{Lamps, Wire, at, listed, none_lit, pressed}
use Rattle.lamps.proofs.Listed.{listed_is}
use Rattle.lamps.specs.Calls.{Board, wires, turns, presses, lit, number, lamps, rewired, turned, changed, MaySay}
use Rattle.lamps.proofs.Wires.{eqb_sym}
use Rattle.bits.specs.Bits.{bit_of}
use Rattle.matrix.specs.Cells.{width_of, cell}
use Rattle.wires.specs.Holds.{HoldsWires, Toggled}
use Rattle.lit.specs.Holds.{HoldsLit}
use Rattle.update.specs.Said.{ButMarked}
use Rattle.desk.specs.Holding.{lent, Holds, Performs}
use Rattle.desk.proofs.Taken.{performs_taken, wire_taken, turn_taken, press_taken}

or_off : (a b : Bool) → (a || b) ≡ false → (a ≡ false) × (b ≡ false)
or_off true b e = (e, absurd (true≢false e))
or_off false b e = (refl, e)

-- a wire: two rows have changed, and both are marked
module _ (n : ℕ) (ws ws' rs ts cs ls ms ms₁ ms₂ : List ℕ) (b : Board) (h : Holds (lent n ws rs ts cs ls ms) b) (i j : ℕ) (l : i < n) (k : j < n) (ne : i ≢ j) where
  taken : Toggled ws ws' (width_of n) i j → ((vs : List Wire) → HoldsWires n ws vs → HoldsWires n ws' (rewired vs i j))
      → ((x : ℕ) → bit_of ms₁ x ≡ (bit_of ms x || eqb x i)) → ((x : ℕ) → bit_of ms₂ x ≡ (bit_of ms₁ x || eqb x j))
      → Performs (lent n ws rs ts cs ls ms) (lent n ws' rs ts cs ls ms₂) b (wires i j) (number i)
  unfolding changed MaySay
  taken toggled rewires one two =
      performs_taken _ b (wires i j) h _ (number i) (wire_taken _ b h i j l k ne) refl (record {
        wires = rewires b.wires_there h.wires;
        lit = h.lit;
        steps = record { system = h.steps.system; but_marked = rest; tracks = h.steps.tracks; in_steps = h.steps.in_steps; spare = h.steps.spare };
      })
    where
      apart : (a c d e : Bool) → a ≡ false → c ≡ false → ((a && d) || (e && c)) ≡ false
      apart a c d e f g = grind arith

      rest : ButMarked n (width_of n) ws' ms₂ h.steps.system
      rest x m off y d =
          let w = or_off (bit_of ms₁ x) (eqb x j) (sym (two x) ∙ off) in
          let v = or_off (bit_of ms x) (eqb x i) (sym (one x) ∙ w.0) in
          h.steps.but_marked x m v.0 y d
          ∙ sym (toggled x y
          ∙ ap (differ (cell ws (width_of n) x y)) (apart (eqb i x) (eqb j x) (eqb j y) (eqb i y) (eqb_sym i x ∙ v.1) (eqb_sym j x ∙ w.1))
          ∙ differ_false (cell ws (width_of n) x y))

  pub wire_performs : (i' j' : ℕ) → i ≡ i' → j ≡ j' → Toggled ws ws' (width_of n) i j → ((vs : List Wire) → HoldsWires n ws vs → HoldsWires n ws' (rewired vs i j))
      → ((x : ℕ) → bit_of ms₁ x ≡ (bit_of ms x || eqb x i)) → ((x : ℕ) → bit_of ms₂ x ≡ (bit_of ms₁ x || eqb x j))
      → Performs (lent n ws rs ts cs ls ms) (lent n ws' rs ts cs ls ms₂) b (wires i' j') (number i)
  wire_performs i' j' p q toggled rewires one two =
      subst (λ x. Performs (lent n ws rs ts cs ls ms) (lent n ws' rs ts cs ls ms₂) b x (number i)) (ap₂ wires p q) (taken toggled rewires one two)

-- a lamp is turned; a button is pressed
module _ (n : ℕ) (ws rs ts cs ls ls' ms : List ℕ) (b : Board) (h : Holds (lent n ws rs ts cs ls ms) b) (i i' : ℕ) (l : i < n) (p : i ≡ i') where
  pub turn_performs : ((s : Lamps) → HoldsLit n ls s → HoldsLit n ls' (set s i (not (at s i))))
      → Performs (lent n ws rs ts cs ls ms) (lent n ws rs ts cs ls' ms) b (turns i') (number i)
  unfolding changed MaySay
  turn_performs turns_it =
      subst (λ x. Performs (lent n ws rs ts cs ls ms) (lent n ws rs ts cs ls' ms) b (turns x) (number i)) p
      (performs_taken _ b (turns i) h _ (number i) (turn_taken _ b h i l) refl (record { wires = h.wires; lit = turns_it b.on h.lit; steps = h.steps }))

  pub press_performs : ((vs : List Wire) (s : Lamps) → HoldsWires n ws vs → HoldsLit n ls s → HoldsLit n ls' (pressed vs s (set (none_lit (length s)) i true)))
      → Performs (lent n ws rs ts cs ls ms) (lent n ws rs ts cs ls' ms) b (presses i') (number i)
  unfolding changed MaySay
  press_performs presses_it =
      subst (λ x. Performs (lent n ws rs ts cs ls ms) (lent n ws rs ts cs ls' ms) b (presses x) (number i)) p
      (performs_taken _ b (presses i) h _ (number i) (press_taken _ b h i l) refl
      (record { wires = h.wires; lit = presses_it b.wires_there b.on h.wires h.lit; steps = h.steps }))

-- what is lit is told
pub lit_performs : (n : ℕ) (ws rs ts cs ls row ms : List ℕ) (b : Board) → Holds (lent n ws rs ts cs ls ms) b → row ≡ ls
    → Performs (lent n ws rs ts cs ls ms) (lent n ws rs ts cs ls ms) b lit (lamps (listed n (bit_of row)))
unfolding turned changed MaySay
lit_performs n ws rs ts cs ls row ms b h e =
    performs_taken _ b lit h _ (lamps (listed n (bit_of row))) refl
    (ap lamps (sym (listed_is n b.on (bit_of row) h.lit.long (λ k _. sym (h.lit.each k) ∙ ap (λ r. bit_of r k) (sym e))))) h
