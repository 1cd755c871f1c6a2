-- A wire comes or goes in the rows of its two lamps. Assumes nothing.
use Rattle.std.proofs.Common.{◌≡◌, ℕ, ◌<◌, ◌≤◌, Bool, false, ◌||◌, eqb, ◌≢◌, List, [], sym, ap, ◌∙◌, subst, ap₂, inl, inr, arith}
use Rattle.std.proofs.lemmas.Bool.{cases_eq, ne_eqb}
use Rattle.std.proofs.lemmas.Bool.Decides.{nat_tests}
use Rattle.gf2.specs.Rows.{differ}
use Rattle.gf2.proofs.Rows.{sum_off}
use Rattle.lamps.specs.Lamps.{Wire, joins, wired}
use Rattle.lamps.specs.Calls.{rewired}
use Rattle.lamps.proofs.Wires.{eqb_sym, changes_rewired}
use Rattle.matrix.specs.Cells.{width_of, cell}
use Rattle.matrix.specs.Said.{Flipped, Identity}
use Rattle.matrix.proofs.Memory.{other_cells}
use Rattle.wires.specs.Holds.{HoldsWires, Toggled}

-- without wires each lamp changes itself alone
pub holds_none : (n : ℕ) (rows : List ℕ) → Identity (width_of n) rows n → HoldsWires n rows []
unfolding wired
holds_none n rows id = record {
  each = λ i j l h. id.unit i l j ∙ eqb_sym j i ∙ alone (eqb i j);
  spare = λ i l j g. id.unit i l j ∙ ne_eqb j i (omega arith);
}
  where
    alone : (b : Bool) → b ≡ (b || false)
    alone b = grind arith

module _ (width i j : ℕ) (old mid new : List ℕ) (ne : i ≢ j) (first : Flipped old mid width i j) (second : Flipped mid new width j i) where
  pub toggled : Toggled old new width i j
  toggled a b = elim (cases_eq a j) [
    | inl e ↦ subst (λ z. cell new width z b ≡ differ (cell old width z b) (joins i j z b)) (sym e) at_other
    | inr nj ↦ other_cells second.rest a nj b ∙ (elim (cases_eq a i) [
      | inl e ↦ subst (λ z. cell mid width z b ≡ differ (cell old width z b) (joins i j z b)) (sym e) at_one
      | inr ni ↦ other_cells first.rest a ni b ∙ sym (sum_off (cell old width a b) (joins i j a b) (elsewhere ni nj))
    ])
  ]
    where
      at_one : cell mid width i b ≡ differ (cell old width i b) (joins i j i b)
      at_one = first.here b ∙ ap (differ (cell old width i b)) (grind (arith, nat_tests))

      at_other : cell new width j b ≡ differ (cell old width j b) (joins i j j b)
      at_other = second.here b ∙ ap₂ (λ x y. differ x y) (other_cells first.rest j (λ e. ne (sym e)) b) (grind (arith, nat_tests))

      elsewhere : a ≢ i → a ≢ j → joins i j a b ≡ false
      elsewhere ni nj = grind (arith, nat_tests)

module _ (n i j : ℕ) (old new : List ℕ) (li : i < n) (lj : j < n) (ne : i ≢ j) (t : Toggled old new (width_of n) i j) where
  pub holds_rewired : (ws : List Wire) → HoldsWires n old ws → HoldsWires n new (rewired ws i j)
  holds_rewired ws h = record {
    each = λ a b la lb. t a b ∙ ap (λ x. differ x (joins i j a b)) (h.each a b la lb) ∙ sym (changes_rewired ws i j a b ne);
    spare = λ a la b g. t a b ∙ ap₂ (λ x y. differ x y) (h.spare a la b g) (past a b g);
  }
    where
      past : (a b : ℕ) → n ≤ b → joins i j a b ≡ false
      past a b g = grind (arith, nat_tests)

pub held_wire : (n : ℕ) (rows : List ℕ) (i j : ℕ) → i < n → j < n → i ≢ j → (ws : List Wire) → HoldsWires n rows ws → cell rows (width_of n) i j ≡ wired ws i j
held_wire n rows i j li lj ne ws h = h.each i j li lj ∙ ap (λ b. b || wired ws i j) (ne_eqb i j ne)
