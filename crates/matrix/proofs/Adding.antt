-- Row j is added to row i, word by word. Assumes nothing.
use Rattle.std.proofs.Common.{◌≡◌, ℕ, ◌+◌, ◌*◌, ◌<◌, ◌≤◌, ◌⊎◌, List, length, get_or, take, drop, set, sym, ◌∙◌, ap₂, inl, inr, ⊎_elim, arith, length-drop, length-take, get_or-drop, get_or-set_other, get_or-take, get_or-set_same, below_more}
use lib.Bits.{bit_xor}
use Rattle.std.proofs.lemmas.List.{ext_get_or}
use Rattle.bits.proofs.Rows.{bit_of_xor}
use Rattle.matrix.specs.Cells.{row_of}
use Rattle.matrix.specs.Said.{RowAdded}
use Rattle.matrix.proofs.Memory.{length_row, getD_row}

-- the first n words from `to` on have those from `from` on added to them, and every other is as it was
abbrev pub AddedTo : List ℕ → List ℕ → ℕ → ℕ → ℕ → Type 0
AddedTo old new to from n =
    ((k : ℕ) → k < n → get_or new (to + k) 0 ≡ bit_xor (get_or old (to + k) 0) (get_or old (from + k) 0))
    × ((k : ℕ) → (k < to) ⊎ (to + n ≤ k) → get_or new k 0 ≡ get_or old k 0)

module _ (old new : List ℕ) (to from n : ℕ) (so_far : AddedTo old new to from n) (within : to + n < length new)
    (apart : (from + n < to) ⊎ (to + n ≤ from + n)) where
  pub added_more : AddedTo old (set new (to + n) (bit_xor (get_or new (to + n) 0) (get_or new (from + n) 0))) to from (n + 1)
  added_more = (
    below_more _ _ (λ k h. get_or-set_other new (to + n) (to + k) _ 0 (omega arith) ∙ so_far.0 k h) here,
    λ k h. get_or-set_other new (to + n) k _ 0 (omega arith) ∙ so_far.1 k (⊎_elim inl (λ l. inr (omega arith)) h),
  )
    where
      here : get_or (set new (to + n) (bit_xor (get_or new (to + n) 0) (get_or new (from + n) 0))) (to + n) 0 ≡ bit_xor (get_or old (to + n) 0) (get_or old (from + n) 0)
      here = get_or-set_same new (to + n) _ 0 within ∙ ap₂ bit_xor (so_far.1 (to + n) (inr (omega arith))) (so_far.1 (from + n) apart)

module _ (old new : List ℕ) (width i j : ℕ) (done : AddedTo old new (i * width) (j * width) width) (long : length new ≡ length old) where
  pub added_row : i * width + width ≤ length old → j * width + width ≤ length old → RowAdded old new width i j
  added_row to from =
      let n = length_row new width i (omega arith) in
      let o = length_row old width i to in
      let f = length_row old width j from in
      record {
        here = bit_of_xor (row_of new width i) (row_of old width i) (row_of old width j) (omega arith) (omega arith) (λ k h. each k (omega arith));
        rest = record { before = before; after = after };
      }
    where
      each : (k : ℕ) → k < width → get_or (row_of new width i) k 0 ≡ bit_xor (get_or (row_of old width i) k 0) (get_or (row_of old width j) k 0)
      each k l = getD_row new width i k l ∙ done.0 k l ∙ sym (ap₂ bit_xor (getD_row old width i k l) (getD_row old width j k l))

      before : take (i * width) new ≡ take (i * width) old
      before = ext_get_or 0 (take (i * width) new) (take (i * width) old) (simp length-take (omega arith)) (λ k h. word k (omega (arith, simp length-take at h)))
        where
          word : (k : ℕ) → k < i * width → get_or (take (i * width) new) k 0 ≡ get_or (take (i * width) old) k 0
          word k h = get_or-take (i * width) new k 0 h ∙ done.1 k (inl h) ∙ sym (get_or-take (i * width) old k 0 h)

      after : drop (i * width + width) new ≡ drop (i * width + width) old
      after = ext_get_or 0 (drop (i * width + width) new) (drop (i * width + width) old) (simp length-drop (omega arith)) (λ k h. word k)
        where
          word : (k : ℕ) → get_or (drop (i * width + width) new) k 0 ≡ get_or (drop (i * width + width) old) k 0
          word k = get_or-drop (i * width + width) new k 0 ∙ done.1 _ (inr (omega arith)) ∙ sym (get_or-drop (i * width + width) old k 0)
