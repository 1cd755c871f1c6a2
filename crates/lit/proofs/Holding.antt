-- What is lit after a lamp is turned or buttons are pressed. Assumes nothing.
use Rattle.std.proofs.Common.{◌≡◌, ℕ, suc, ◌+◌, ◌<◌, ◌≤◌, Bool, true, false, ◌&&◌, not, Option, Some, None, is_some, List, length, set, sym, refl, ap, ◌∙◌, ap₂, inl, inr, ⊎_elim, add-one, arith}
use mathlib.Core.Bool.{false≢true}
use Rattle.std.proofs.lemmas.List.{get_or_past}
use Rattle.std.proofs.lemmas.Bool.{cases_lt, cases_Bool}
use Rattle.gf2.specs.Rows.{differ, dot, act}
use Rattle.gf2.proofs.Parity.{parity_cong, parity_none, and_false}
use Rattle.gf2.proofs.Rows.{and_comm, sum_off}
use Rattle.lamps.specs.Lamps.{Lamps, at, none_lit, all_off, Wire, table, pressed}
use Rattle.lamps.proofs.Listed.{length_listed, at_listed, listed_is}
use Rattle.lamps.proofs.Pressed.{all_off_at, all_off_from, length_none_lit, at_none_lit, length_pressed, at_pressed_act, at_pressed_one}
use Rattle.bits.specs.Bits.{bit_of}
use Rattle.bits.specs.Said.{FirstSet}
use Rattle.matrix.specs.Cells.{width_of, cell}
use Rattle.wires.specs.Holds.{HoldsWires}
use Rattle.lit.specs.Holds.{HoldsLit, lamps_of, Pressing}

-- a row that holds a set of lamps has it in its first n bits
pub held_lamps : (n : ℕ) (row : List ℕ) (s : Lamps) → HoldsLit n row s → lamps_of n row ≡ s
held_lamps n row s h = sym (listed_is n s (bit_of row) h.long (λ k l. sym (h.each k)))

pub held_past : (n : ℕ) (row : List ℕ) (s : Lamps) → HoldsLit n row s → (k : ℕ) → n ≤ k → bit_of row k ≡ false
held_past n row s h k g = let long = h.long in h.each k ∙ get_or_past s k false (omega arith)

-- below n bit by bit, and past n none
holds_from : (n : ℕ) (row : List ℕ) (s : Lamps) → length s ≡ n → ((k : ℕ) → k < n → bit_of row k ≡ at s k) → ((k : ℕ) → n ≤ k → bit_of row k ≡ false) → HoldsLit n row s
holds_from n row s long below past = record { long = long; each = λ k. ⊎_elim (below k) (λ g. past k g ∙ sym (get_or_past s k false (omega arith))) (cases_lt k n) }

pub holds_none : (n : ℕ) (row : List ℕ) → ((k : ℕ) → bit_of row k ≡ false) → HoldsLit n row (none_lit n)
holds_none n row clear = record { long = length_none_lit n; each = λ k. clear k ∙ sym (at_none_lit n k) }

module _ (n : ℕ) (wires old new : List ℕ) where
  pub holds_pressed : (i : ℕ) → i < n → ((k : ℕ) → bit_of new k ≡ differ (bit_of old k) (cell wires (width_of n) i k))
      → (ws : List Wire) (s : Lamps) → HoldsWires n wires ws → HoldsLit n old s → HoldsLit n new (pressed ws s (set (none_lit (length s)) i true))
  holds_pressed i l bits ws s w h = holds_from n new _ (length_pressed ws s _ ∙ h.long) below past
    where
      below : (k : ℕ) → k < n → bit_of new k ≡ at (pressed ws s (set (none_lit (length s)) i true)) k
      below k b = let long = h.long in bits k ∙ ap₂ (λ x y. differ x y) (h.each k) (w.each i k l b) ∙ sym (at_pressed_one ws s i k (omega arith) (omega arith))

      past : (k : ℕ) → n ≤ k → bit_of new k ≡ false
      past k g = bits k ∙ ap₂ (λ x y. differ x y) (held_past n old s h k g) (w.spare i l k g)

  pub holds_all_pressed : (presses : List ℕ) → Pressing (width_of n) wires presses old new n
      → (ws : List Wire) (s : Lamps) → HoldsWires n wires ws → HoldsLit n old s → HoldsLit n new (pressed ws s (lamps_of n presses))
  holds_all_pressed presses p ws s w h = holds_from n new _ (length_pressed ws s _ ∙ h.long) below past
    where
      below : (k : ℕ) → k < n → bit_of new k ≡ at (pressed ws s (lamps_of n presses)) k
      below k b =
          let long = h.long in
          p.each k ∙ ap₂ (λ x y. differ x y) (h.each k) (changed k b)
          ∙ ap (λ m. differ (at s k) (act m (table ws) (at (lamps_of n presses)) k)) (sym long)
          ∙ sym (at_pressed_act ws s (lamps_of n presses) k (omega arith))
        where
          changed : (k : ℕ) → k < n → dot n (bit_of presses) (λ i. cell wires (width_of n) i k) ≡ act n (table ws) (at (lamps_of n presses)) k
          changed k b = parity_cong (λ i. bit_of presses i && cell wires (width_of n) i k) (λ i. table ws k i && at (lamps_of n presses) i) n
              (λ i l. ap₂ (λ x y. x && y) (sym (at_listed n (bit_of presses) i l)) (w.each i k l b) ∙ and_comm (at (lamps_of n presses) i) (table ws k i))

      past : (k : ℕ) → n ≤ k → bit_of new k ≡ false
      past k g = p.each k ∙ ap₂ (λ x y. differ x y) (held_past n old s h k g)
          (parity_none (λ i. bit_of presses i && cell wires (width_of n) i k) n (λ i l. ap (λ x. bit_of presses i && x) (w.spare i l k g) ∙ and_false (bit_of presses i)))

-- ---- the presses one after the other

pub pressing_none : (width : ℕ) (wires presses row : List ℕ) → Pressing width wires presses row row 0
pressing_none width wires presses row = record { each = λ k. sym (sum_off (bit_of row k) false refl) }

module _ (width : ℕ) (wires presses old new : List ℕ) (i : ℕ) (so_far : Pressing width wires presses old new i) where
  more : (k : ℕ) → differ (bit_of old k) (dot (suc i) (bit_of presses) (λ m. cell wires width m k)) ≡ differ (bit_of old k) (dot (i + 1) (bit_of presses) (λ m. cell wires width m k))
  more k = ap (λ m. differ (bit_of old k) (dot m (bit_of presses) (λ m. cell wires width m k))) (sym (add-one i))

  pub pressing_skip : false ≡ bit_of presses i → Pressing width wires presses old new (i + 1)
  pressing_skip off = record {
    each = λ k.
        so_far.each k ∙ same (bit_of old k) (bit_of presses i) (cell wires width i k) (dot i (bit_of presses) (λ m. cell wires width m k)) off ∙ more k;
  }
    where
      same : (a p c d : Bool) → false ≡ p → differ a d ≡ differ a (differ (p && c) d)
      same a p c d e = grind arith

  pub pressing_one : true ≡ bit_of presses i → (after : List ℕ) → ((k : ℕ) → bit_of after k ≡ differ (bit_of new k) (cell wires width i k)) → Pressing width wires presses old after (i + 1)
  pressing_one on after bits = record {
    each = λ k.
        bits k ∙ ap (λ x. differ x (cell wires width i k)) (so_far.each k)
        ∙ added (bit_of old k) (bit_of presses i) (cell wires width i k) (dot i (bit_of presses) (λ m. cell wires width m k)) on ∙ more k;
  }
    where
      added : (a p c d : Bool) → true ≡ p → differ (differ a d) c ≡ differ a (differ (p && c) d)
      added a p c d e = grind arith

-- ---- whether all is off

pub first_off : (n : ℕ) (row : List ℕ) (first : Option ℕ) → FirstSet n (bit_of row) first → not (is_some first) ≡ all_off (lamps_of n row)
first_off n row (Some r) first = sym (elim (cases_Bool (all_off (lamps_of n row))) [
  | inl off ↦ absurd (false≢true (sym (all_off_at (lamps_of n row) off r) ∙ at_listed n (bit_of row) r first.within ∙ first.here))
  | inr on ↦ on
])
first_off n row None none = sym (all_off_from (lamps_of n row) (λ k l. let h : k < n = rw length_listed at l in at_listed n (bit_of row) k h ∙ none k h))
