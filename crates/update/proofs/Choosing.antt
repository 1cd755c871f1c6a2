-- The row to take for row l. Assumes nothing.
use Rattle.std.proofs.Common.{◌≡◌, ℕ, ◌+◌, ◌<◌, ◌≤◌, true, false, Option, Some, None, List, sym, ap, ◌∙◌, inl, inr, arith}
use mathlib.Core.Bool.{false≢true}
use Rattle.std.proofs.lemmas.Bool.{cases_eq}
use Rattle.gf2.specs.Rows.{Rows}
use Rattle.gf2.specs.Reduction.{Tracks, Pivots, Chosen}
use Rattle.gf2.proofs.Update.{some_row}
use Rattle.matrix.specs.Cells.{cell}
use Rattle.update.specs.Said.{Taken, Taking}

-- as far as the first i rows say, where none of them is a zero row made with row l
pub record SoFar (n width : ℕ) (ts : List ℕ) (c : ℕ → ℕ) (l i : ℕ) (chosen : Option ℕ) : Type 0 where
  pub taking : Taking n width ts c l i chosen
  pub never : (z : ℕ) → z < i → n ≤ c z → cell ts width z l ≡ true → ⊥

pub so_far_none : (n width : ℕ) (ts : List ℕ) (c : ℕ → ℕ) (l : ℕ) → SoFar n width ts c l 0 None
so_far_none n width ts c l = record { taking = λ z b. absurd (omega arith); never = λ z b. absurd (omega arith) }

module _ (n width : ℕ) (ts : List ℕ) (c : ℕ → ℕ) (l i : ℕ) where
  skipped : false ≡ cell ts width i l → (o : Option ℕ) → Taking n width ts c l i o → Taking n width ts c l (i + 1) o
  skipped off (Some k) t = record {
    within = t.within;
    made = t.made;
    zero_row = λ z b g lit. elim (cases_eq z i) [
      | inl q ↦ absurd (false≢true (off ∙ ap (λ y. cell ts width y l) (sym q) ∙ lit))
      | inr d ↦ t.zero_row z (omega arith) g lit
    ];
  }
  skipped off None t = λ z b. elim (cases_eq z i) [ inl q ↦ ap (λ y. cell ts width y l) q ∙ sym off | inr d ↦ t z (omega arith) ]

  whole : n ≤ i → (o : Option ℕ) → Taking n width ts c l i o → Taking n width ts c l n o
  whole ni (Some k) t = record { within = t.within; made = t.made; zero_row = λ z b g lit. t.zero_row z (omega arith) g lit }
  whole ni None t = λ z b. t z (omega arith)

  module _ (o : Option ℕ) (h : SoFar n width ts c l i o) where
    pub so_far_skip : false ≡ cell ts width i l → SoFar n width ts c l (i + 1) o
    so_far_skip off = record {
      taking = skipped off o h.taking;
      never = λ z b g lit. elim (cases_eq z i) [
        | inl q ↦ false≢true (off ∙ ap (λ y. cell ts width y l) (sym q) ∙ lit)
        | inr d ↦ h.never z (omega arith) g lit
      ];
    }

    pub so_far_take : i < n → true ≡ cell ts width i l → c i < n → SoFar n width ts c l (i + 1) (Some i)
    so_far_take il on ci = record {
      taking = record { within = il; made = sym on; zero_row = λ z b g lit. absurd (never z b g lit) };
      never = never;
    }
      where
        never : (z : ℕ) → z < i + 1 → n ≤ c z → cell ts width z l ≡ true → ⊥
        never z b g lit = elim (cases_eq z i) [
          | inl q ↦ let a : c z ≡ c i = ap c q in omega arith
          | inr d ↦ h.never z (omega arith) g lit
        ]

    pub taking_end : n ≤ i → Taking n width ts c l n o
    taking_end ni = whole ni o h.taking

  pub taking_zero : i < n → true ≡ cell ts width i l → n ≤ c i → Taking n width ts c l n (Some i)
  taking_zero il on ci = record { within = il; made = sym on; zero_row = λ z b g lit. ci }

-- what was taken
pub taking_some : (n width : ℕ) (A R : Rows) (ts : List ℕ) (c : ℕ → ℕ) (l : ℕ) → l < n → Tracks n A R (cell ts width) → Taking n width ts c l n None → ⊥
taking_some n width A R ts c l ln h none =
    let s = some_row n A R (cell ts width) l ln h in
    false≢true (sym (none s.0 s.1) ∙ s.2)

pub taking_chosen : (n width : ℕ) (R : Rows) (ts : List ℕ) (c : ℕ → ℕ) (l k : ℕ) → Pivots n R c → Taken n width ts c l n k → Chosen n R (cell ts width) c l k
taking_chosen n width R ts c l k v w z zn g lit = v.none k w.within (w.zero_row z zn g lit)
