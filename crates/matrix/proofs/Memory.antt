-- Rows in one memory: row i of `width` words starts at word `i * width`. Assumes nothing.
use Rattle.std.proofs.Common.{◌≡◌, ℕ, ◌+◌, ◌-◌, ◌*◌, ◌/◌, ◌%◌, ◌<◌, ◌≤◌, false, ◌≢◌, ◌⊎◌, List, length, get_or, take, drop, sym, ap, ◌∙◌, subst, ap₂, inl, inr, ⊎_elim, mul-le-mul_right, suc-mul, arith, length-drop, length-take, get_or-drop, get_or-take}
use borrow.Rule.Slice.PartMut.{put_mid}
use Rattle.std.proofs.lemmas.List.{drop-take, take-take, drop-drop}
use Rattle.std.proofs.lemmas.Slice.{between-put_mid, take-put_mid_below, drop-put_mid}
use Rattle.std.proofs.lemmas.Bool.{cases_order, cases_lt}
use Rattle.gf2.specs.Rows.{Row}
use Rattle.bits.specs.Bits.{bit, bit_of}
use Rattle.bits.proofs.Rows.{bit_past}
use Rattle.matrix.specs.Cells.{width_of, row_of, cell}
use Rattle.matrix.specs.Said.{ButRow, RowPut}

-- ---- one row

pub length_row : (ws : List ℕ) (width i : ℕ) → i * width + width ≤ length ws → length (row_of ws width i) ≡ width
length_row ws width i fits = simp (length-take, length-drop) (omega arith)

pub getD_row : (ws : List ℕ) (width i k : ℕ) → k < width → get_or (row_of ws width i) k 0 ≡ get_or ws (i * width + k) 0
getD_row ws width i k h = get_or-take width (drop (i * width) ws) k 0 h ∙ get_or-drop (i * width) ws k 0

-- `&memory[i * width..i * width + width]` is row i
pub part_row : (ws : List ℕ) (width i : ℕ) → take (i * width + width - i * width) (drop (i * width) ws) ≡ row_of ws width i
part_row ws width i = ap (λ n. take n (drop (i * width) ws)) (omega arith)

pub row_within : (width i count : ℕ) → i < count → i * width + width ≤ count * width
row_within width i count h = omega (arith, suc-mul i width, mul-le-mul_right width h)

-- row i of n, where the memory has n rows of n bits
pub row_in : (n width i long : ℕ) → width ≡ width_of n → long ≡ n * width_of n → i < n → i * width + width ≤ long
row_in n width i long e l h = subst (λ w. i * w + w ≤ long) (sym e) (let row = row_within (width_of n) i n h in omega arith)

-- two rows have no word in common
pub rows_apart : (width i m : ℕ) → (m ≡ i → ⊥) → (m * width + width ≤ i * width) ⊎ (i * width + width ≤ m * width)
rows_apart width i m ne =
    ⊎_elim (λ e. absurd (ne e)) (⊎_elim (λ h. inl (row_within width m i h)) (λ h. inr (row_within width i m h))) (cases_order m i)

bit_of_drop : (ws : List ℕ) (a k : ℕ) → bit_of (drop a ws) k ≡ bit_of ws (64 * a + k)
bit_of_drop ws a k =
    ap (λ x. bit x (k % 64)) (get_or-drop a ws (k / 64) 0)
    ∙ ap₂ (λ x y. bit (get_or ws x 0) y) (omega arith) (omega arith)

pub bit_of_row : (ws : List ℕ) (width i k : ℕ) → k < 64 * width → bit_of (row_of ws width i) k ≡ bit_of ws (64 * (i * width) + k)
bit_of_row ws width i k h =
    ap (λ x. bit x (k % 64)) (get_or-take width (drop (i * width) ws) (k / 64) 0 (omega arith)) ∙ bit_of_drop ws (i * width) k

-- if no bit of the memory is set, no bit of a row is
pub cell_clear : (ws : List ℕ) (width i j : ℕ) → ((k : ℕ) → bit_of ws k ≡ false) → cell ws width i j ≡ false
cell_clear ws width i j clear = ⊎_elim (λ h. bit_of_row ws width i j h ∙ clear _) past (cases_lt j (64 * width))
  where
    past : 64 * width ≤ j → cell ws width i j ≡ false
    past h = bit_past (row_of ws width i) j (simp length-take (omega arith))

-- ---- all but row i is as it was

module _ {old new : List ℕ} {width i : ℕ} (rest : ButRow old new width i) where
  pub other_rows : (m : ℕ) → m ≢ i → row_of new width m ≡ row_of old width m
  other_rows m ne = ⊎_elim below above (rows_apart width i m ne)
    where
      below : m * width + width ≤ i * width → row_of new width m ≡ row_of old width m
      below h = front new ∙ ap (λ ws. drop (m * width) (take (m * width + width) ws)) rest.before ∙ sym (front old)
        where
          front : (ws : List ℕ) → row_of ws width m ≡ drop (m * width) (take (m * width + width) (take (i * width) ws))
          front ws = sym (drop-take (m * width) width ws) ∙ ap (drop (m * width)) (sym (take-take (m * width + width) (i * width) ws h))

      above : i * width + width ≤ m * width → row_of new width m ≡ row_of old width m
      above h = back new ∙ ap (λ ws. take width (drop (m * width - (i * width + width)) ws)) rest.after ∙ sym (back old)
        where
          back : (ws : List ℕ) → row_of ws width m ≡ take width (drop (m * width - (i * width + width)) (drop (i * width + width) ws))
          back ws = ap (λ n. take width (drop n ws)) (omega arith) ∙ ap (take width) (sym (drop-drop (m * width - (i * width + width)) (i * width + width) ws))

  pub other_cells : (m : ℕ) → m ≢ i → (j : ℕ) → cell new width m j ≡ cell old width m j
  other_cells m ne j = ap (λ ws. bit_of ws j) (other_rows m ne)

-- ---- row i was lent, as `&mut memory[i * width..i * width + width]`, and holds ys now

module _ (ws ys : List ℕ) (width i : ℕ) (fits : i * width + width ≤ length ws) (long : length ys ≡ width) where
  pub row_written : row_of (put_mid (i * width) (i * width + width - i * width) ws ys) width i ≡ ys
  row_written =
      ap (λ n. take n (drop (i * width) (put_mid (i * width) (i * width + width - i * width) ws ys))) (omega arith)
      ∙ between-put_mid (i * width) (i * width + width - i * width) ws ys (i * width + width) (omega arith) (omega arith)

  pub row_around : ButRow ws (put_mid (i * width) (i * width + width - i * width) ws ys) width i
  row_around = record {
    before = take-put_mid_below (i * width) _ ws ys (i * width) (omega arith) (omega arith);
    after = drop-put_mid (i * width) _ ws ys (i * width + width) (omega arith) (omega arith) (omega arith);
  }

  pub row_put : (row : Row) → ((j : ℕ) → bit_of ys j ≡ row j) → RowPut ws (put_mid (i * width) (i * width + width - i * width) ws ys) width i row
  row_put row bits = record { here = λ j. ap (λ r. bit_of r j) row_written ∙ bits j; rest = row_around }
