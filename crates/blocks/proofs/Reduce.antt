-- A block's rows take their pivots among themselves, and then the pivots are cleared from the other rows. Assumes nothing.
use Rattle.std.proofs.Common.{◌≡◌, ℕ, ◌+◌, ◌-◌, ◌<◌, ◌≤◌, ◌&&◌, ltb, ◌⊎◌, List, length, drop, sym, refl, ap, ◌∙◌, subst, ap₂, inl, inr, arith, length-drop, length-take, get_or-drop, get_or-take}
use Rattle.std.proofs.lemmas.Bool.{cases_eq}
use Rattle.gf2.specs.Rows.{Same, nowhere}
use Rattle.gf2.specs.Blocks.{Sweeps}
use Rattle.gf2.proofs.Blocks.{stepping_none, stepping_pivot, stepped_sweep}
use Rattle.bits.specs.Said.{First}
use Rattle.matrix.specs.Cells.{width_of, cell}
use Rattle.echelon.specs.declared.steps.Steps.{Steps}
use Rattle.echelon.specs.Steps.{column_of, Clearing, TakesPivot}
use Rattle.echelon.specs.Places.{InPlace}
use Rattle.echelon.proofs.Kept.{kept_both}
use Rattle.blocks.specs.Said.{block_of, number, hits, entry_of, asked, Tabled, Swept, BlockSettles, BlockReduces}
use Rattle.blocks.proofs.Swept.{same_entry, swept_sweeps, kept_sweep}

-- ---- one turn of the loop over the block's rows

module _ (n width : ℕ) (rs ts : List ℕ) (c : ℕ → ℕ) (rs₁ ts₁ rs₂ ts₂ : List ℕ) (c₁ c₂ : ℕ → ℕ) (first t end : ℕ) (ft : first ≤ t) (te : t < end) (en : end ≤ n)
    (so_far : BlockSettles n width rs ts c rs₁ ts₁ c₁ first t end) (takes : TakesPivot n width rs₁ ts₁ c₁ rs₂ ts₂ c₂ first end t) where
  column : c₂ t ≤ n → (i : ℕ) → first ≤ i → i < t + 1 → c₂ i ≤ n
  column xn i g l = elim (cases_eq i t) [
    | inl e ↦ subst (λ z. c₂ z ≤ n) (sym e) xn
    | inr ne ↦ subst (λ z. z ≤ n) (sym (takes.columns i ne)) (so_far.column i g (omega arith))
  ]

  columns : (i : ℕ) → (i < first) ⊎ (t + 1 ≤ i) → c₂ i ≡ c i
  columns i o = elim o [
    | inl l ↦ takes.columns i (omega arith) ∙ so_far.columns i (inl l)
    | inr h ↦ takes.columns i (omega arith) ∙ so_far.columns i (inr (omega arith))
  ]

  -- row t is zero,
  zero_row : Same n (cell rs₁ width t) nowhere → c₂ t ≡ n → BlockSettles n width rs ts c rs₁ ts₁ c₂ first (t + 1) end
  zero_row off here = record {
    kept = so_far.kept;
    column = column (omega (arith, here));
    columns = columns;
    others = so_far.others;
    steps = λ s. stepping_none n (cell rs₁ width) c₁ c₂ first t end n ft te en here takes.columns (so_far.steps s) (omega arith) off;
  }

  -- or has a pivot, which is cleared from the block
  pivot : First n (cell rs₁ width t) (c₂ t) → Clearing width rs₁ ts₁ rs₂ ts₂ first end t (c₂ t) → BlockSettles n width rs ts c rs₂ ts₂ c₂ first (t + 1) end
  pivot bit clear = record {
    kept = kept_both n _ _ _ _ _ _ so_far.kept (clear.kept n en (omega arith));
    column = column (omega (arith, bit.within));
    columns = columns;
    others = λ i o j. clear.clears.outside i o j ∙ so_far.others i o j;
    steps = λ s. stepping_pivot n (cell rs₁ width) c₁ c₂ first t end (c₂ t) ft te en refl takes.columns (so_far.steps s) (cell rs₂ width) bit.within bit.here clear.clears;
  }

  pub settles_row : BlockSettles n width rs ts c rs₂ ts₂ c₂ first (t + 1) end
  settles_row = elim takes.taken [
    | inl z ↦ subst (λ xs. BlockSettles n width rs ts c xs ts₂ c₂ first (t + 1) end) (sym z.2)
        (subst (λ ys. BlockSettles n width rs ts c rs₁ ys c₂ first (t + 1) end) (sym z.3) (zero_row z.0 z.1))
    | inr p ↦ pivot p.0 p.1
  ]

-- ---- the whole block

-- the block's columns
pub block_long : (cs : List ℕ) (first end : ℕ) → end ≤ length cs → length (block_of cs first end) ≡ end - first
block_long cs first end fits = simp (length-take, length-drop) (omega arith)

pub block_at : (cs : List ℕ) (first end b : ℕ) → b < end - first → column_of (block_of cs first end) b ≡ column_of cs (first + b)
block_at cs first end b l = get_or-take (end - first) (drop first cs) b 0 l ∙ get_or-drop first cs b 0

module _ (n width : ℕ) (rs ts : List ℕ) (c : ℕ → ℕ) (rs₁ ts₁ cs columns rs₂ ts₂ rs₃ ts₃ row_sums done_sums : List ℕ) (first count : ℕ) (fits : first + count ≤ n)
    (long : length columns ≡ count) (at : (b : ℕ) → b < count → column_of columns b ≡ column_of cs (first + b))
    (e₁ e₂ : ℕ → ℕ) (is₁ : (i : ℕ) → e₁ i ≡ entry_of n width rs₁ columns i) (is₂ : (i : ℕ) → e₂ i ≡ entry_of n width rs₂ columns i) where
  reduces_block : BlockSettles n width rs ts c rs₁ ts₁ (column_of cs) first (first + count) (first + count)
      → Tabled row_sums rs₁ width first count → Tabled done_sums ts₁ width first count
      → Swept width rs₁ rs₂ row_sums e₁ 0 first → Swept width ts₁ ts₂ done_sums e₁ 0 first
      → Swept width rs₂ rs₃ row_sums e₂ (first + count) n → Swept width ts₂ ts₃ done_sums e₂ (first + count) n
      → BlockReduces n width rs ts c rs₃ ts₃ (column_of cs) first (first + count)
  reduces_block settles row_table done_table low low' high high' = record {
    kept = kept_both n _ _ _ _ _ _ settles.kept (kept_sweep n _ _ _ _ first count (hits n width rs₁ columns) fits rows done);
    column = settles.column;
    columns = settles.columns;
    steps = λ s. stepped_sweep n (cell rs₁ width) (cell rs₃ width) (column_of cs) first count (hits n width rs₁ columns) fits (settles.steps s) rows
        (λ i b l k. ap (λ z. ltb z n && cell rs₁ width i z) (at b k));
  }
    where
      early : (i : ℕ) → i < first → e₁ i ≡ number (hits n width rs₁ columns i) count
      early i l = is₁ i ∙ ap (λ z. number (hits n width rs₁ columns i) z) long

      -- the rows after the block were as they are
      later : (i : ℕ) → first + count ≤ i → e₂ i ≡ number (hits n width rs₁ columns i) count
      later i g = is₂ i ∙ same_entry n width rs₁ rs₂ columns i (low.others i (inr (omega arith))) ∙ ap (λ z. number (hits n width rs₁ columns i) z) long

      rows : Sweeps n (cell rs₁ width) (cell rs₃ width) first count (hits n width rs₁ columns)
      rows = swept_sweeps n width rs₁ rs₂ rs₃ row_sums e₁ e₂ first count (hits n width rs₁ columns) row_table low high early later

      done : Sweeps n (cell ts₁ width) (cell ts₃ width) first count (hits n width rs₁ columns)
      done = swept_sweeps n width ts₁ ts₂ ts₃ done_sums e₁ e₂ first count (hits n width rs₁ columns) done_table low' high' early later

-- the steps before, with the block settled, with the rows before it swept, and with those after it
module _ (s s₁ s₂ s₃ : Steps) (row_sums done_sums : List ℕ) (first end : ℕ) (order : first ≤ end) (within : end ≤ s.n)
    (p₁ : InPlace s s₁) (p₂ : InPlace s₁ s₂) (c₂ : s₂.pivots.now ≡ s₁.pivots.now) (c₃ : s₃.pivots.now ≡ s₂.pivots.now) where
  n₂ : s₂.n ≡ s.n
  n₂ = p₂.n ∙ p₁.n

  asked₁ : (i : ℕ) → asked s₁ first end i ≡ entry_of s.n (width_of s.n) s₁.rows.now (block_of s₁.pivots.now first end) i
  asked₁ i = ap (λ m. entry_of m (width_of m) s₁.rows.now (block_of s₁.pivots.now first end) i) p₁.n

  asked₂ : (i : ℕ) → asked s₂ first end i ≡ entry_of s.n (width_of s.n) s₂.rows.now (block_of s₁.pivots.now first end) i
  asked₂ i = ap₂ (λ m cs. entry_of m (width_of m) s₂.rows.now (block_of cs first end) i) n₂ c₂

  pub steps_reduced : BlockSettles s.n (width_of s.n) s.rows.now s.done.now (column_of s.pivots.now) s₁.rows.now s₁.done.now (column_of s₁.pivots.now) first end end
      → Tabled row_sums s₁.rows.now (width_of s₁.n) first (end - first) → Tabled done_sums s₁.done.now (width_of s₁.n) first (end - first)
      → Swept (width_of s₁.n) s₁.rows.now s₂.rows.now row_sums (asked s₁ first end) 0 first
      → Swept (width_of s₁.n) s₁.done.now s₂.done.now done_sums (asked s₁ first end) 0 first
      → Swept (width_of s₂.n) s₂.rows.now s₃.rows.now row_sums (asked s₂ first end) end s₂.n
      → Swept (width_of s₂.n) s₂.done.now s₃.done.now done_sums (asked s₂ first end) end s₂.n
      → BlockReduces s.n (width_of s.n) s.rows.now s.done.now (column_of s.pivots.now) s₃.rows.now s₃.done.now (column_of s₃.pivots.now) first end
  steps_reduced settles row_table done_table low low' high high' =
      subst (λ cs. BlockReduces s.n (width_of s.n) s.rows.now s.done.now (column_of s.pivots.now) s₃.rows.now s₃.done.now (column_of cs) first end) (sym (c₃ ∙ c₂)) (
      subst Reduces all (
      reduces_block s.n (width_of s.n) s.rows.now s.done.now (column_of s.pivots.now) s₁.rows.now s₁.done.now s₁.pivots.now (block_of s₁.pivots.now first end)
      s₂.rows.now s₂.done.now s₃.rows.now s₃.done.now row_sums done_sums first (end - first) (omega arith)
      (block_long s₁.pivots.now first end (omega (arith, s₁.pivots_long, p₁.n))) (block_at s₁.pivots.now first end) (asked s₁ first end) (asked s₂ first end) asked₁ asked₂)
      settles
      (subst (λ m. Tabled row_sums s₁.rows.now (width_of m) first (end - first)) p₁.n row_table)
      (subst (λ m. Tabled done_sums s₁.done.now (width_of m) first (end - first)) p₁.n done_table)
      (subst (λ m. Swept (width_of m) s₁.rows.now s₂.rows.now row_sums (asked s₁ first end) 0 first) p₁.n low)
      (subst (λ m. Swept (width_of m) s₁.done.now s₂.done.now done_sums (asked s₁ first end) 0 first) p₁.n low')
      (subst (λ m. Swept (width_of m) s₂.rows.now s₃.rows.now row_sums (asked s₂ first end) end m) n₂ high)
      (subst (λ m. Swept (width_of m) s₂.done.now s₃.done.now done_sums (asked s₂ first end) end m) n₂ high'))
    where
      all : first + (end - first) ≡ end
      all = omega arith

      Reduces : ℕ → Type 0
      Reduces z = BlockSettles s.n (width_of s.n) s.rows.now s.done.now (column_of s.pivots.now) s₁.rows.now s₁.done.now (column_of s₁.pivots.now) first z z
          → Tabled row_sums s₁.rows.now (width_of s.n) first (end - first) → Tabled done_sums s₁.done.now (width_of s.n) first (end - first)
          → Swept (width_of s.n) s₁.rows.now s₂.rows.now row_sums (asked s₁ first end) 0 first
          → Swept (width_of s.n) s₁.done.now s₂.done.now done_sums (asked s₁ first end) 0 first
          → Swept (width_of s.n) s₂.rows.now s₃.rows.now row_sums (asked s₂ first end) z s.n
          → Swept (width_of s.n) s₂.done.now s₃.done.now done_sums (asked s₂ first end) z s.n
          → BlockReduces s.n (width_of s.n) s.rows.now s.done.now (column_of s.pivots.now) s₃.rows.now s₃.done.now (column_of s₁.pivots.now) first z
