-- A system has a solution, or some of its rows sum to nothing and are odd for its right side; and never both. Assumes nothing.
use Rattle.std.proofs.Common.{◌≡◌, ℕ, true, ◌⊎◌, sym, ◌∙◌, inl, inr}
use mathlib.Core.Bool.{false≢true}
use Rattle.gf2.specs.Rows.{Row, Rows, Same, dot, act}
use Rattle.gf2.specs.Reduction.{LeftQuiet, placed, ReducedSystem}
use Rattle.gf2.proofs.Rows.{dot_right, dot_act, none_dot}
use Rattle.gf2.proofs.Tracks.{blocks}
use Rattle.gf2.proofs.Pivots.{solves, odd_row, placed_owns, owners, owners_own}
use Rattle.gf2.proofs.Whole.{every_system}

-- p solves the system A for s; q shows that nothing does
abbrev pub Solves : ℕ → Rows → Row → Row → Type 0
Solves n A s p = Same n (act n A p) s

abbrev pub Blocks : ℕ → Rows → Row → Row → Type 0
Blocks n A s q = LeftQuiet n A q × (dot n q s ≡ true)

abbrev pub Either : ℕ → Rows → Row → Type 0
Either n A s = ((p : Row) × Solves n A s p) ⊎ ((q : Row) × Blocks n A s q)

pub never_both : (n : ℕ) (A : Rows) (s p q : Row) → Solves n A s p → Blocks n A s q → ⊥
never_both n A s p q h k =
    false≢true (sym (none_dot n (λ j. dot n q (λ i. A i j)) p k.0) ∙ sym (dot_act n q A p) ∙ dot_right n q (act n A p) s h ∙ k.1)

pub alternative : (n : ℕ) (A : Rows) (s : Row) → Either n A s
alternative n A s = go (every_system n A)
  where
    go : ReducedSystem n A → Either n A s
    go r =
        let u = act n r.T s in
        let o = owners n r.c in
        elim (odd_row n r.c u) [
          | inl even ↦ inl (placed n o u, solves n r.R r.c r.pivots A r.T s (placed n o u) r.tracks (placed_owns n r.c o u (owners_own n r.R r.c r.pivots)) even)
          | inr w ↦ inr (r.T w.0, (blocks n A r.R r.T r.tracks w.0 w.1 (r.pivots.none w.0 w.1 w.2), w.3))
        ]
