-- The search for a row with a bit set, word by word. Assumes nothing.
use Rattle.std.proofs.Common.{◌≡◌, ℕ, ◌+◌, ◌*◌, ◌^◌, ◌<◌, ◌≢◌, true, false, List, length, get_or, ap, ◌∙◌, subst, arith}
use Rattle.bits.specs.Bits.{bit_of}
use Rattle.bits.proofs.Words.{some_bit}
use Rattle.bits.proofs.Rows.{bit_of_word, zero_words}
use Rattle.matrix.specs.Cells.{width_of, row_of, cell}

-- the words of row i
module _ (words ws : List ℕ) (n width i : ℕ) (is : words ≡ row_of ws width i) (wide : width ≡ width_of n) where
  same : (j : ℕ) → bit_of words j ≡ cell ws (width_of n) i j
  same j = ap (λ r. bit_of r j) is ∙ ap (λ w. cell ws w i j) wide

  pub zero_row : (k : ℕ) → k ≡ length words → ((p : ℕ) → p < k → get_or words p 0 ≡ 0) → (j : ℕ) → cell ws (width_of n) i j ≡ false
  zero_row k all zeros j = subst (λ x. x ≡ false) (same j) (zero_words words (λ p l. zeros p (omega arith)) j)

  pub some_cell : (q : ℕ) → get_or words q 0 < 2 ^ 64 → get_or words q 0 ≢ 0 → (j : ℕ) × (cell ws (width_of n) i j ≡ true)
  some_cell q fits ne =
      let found = some_bit 64 _ fits ne in
      let j = 64 * q + found.0 in
      (j, subst (λ x. x ≡ true) (same j) (bit_of_word words q found.0 found.1 ∙ found.2))
