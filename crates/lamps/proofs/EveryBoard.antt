-- One or the other, as many, and all on: every board's table can be reduced, and what its reduced rows say holds of its lamps. Assumes nothing.
use Rattle.std.proofs.Common.{◌≡◌, ℕ, true, false, ◌⊎◌, [], length, sym, refl, ◌∙◌, inl, inr}
use Rattle.gf2.specs.Rows.{tally, act}
use Rattle.gf2.specs.Reduction.{ReducedSystem, placed, unowned}
use Rattle.gf2.proofs.Pivots.{odd_row, owners, owners_own, placed_owns}
use Rattle.gf2.proofs.Kernel.{marks_owns}
use Rattle.gf2.proofs.Whole.{every_system}
use Rattle.gf2.proofs.Alternative.{never_both}
use Rattle.lamps.specs.Lamps.{Lamps, at, listed, odd_of, table, puts_out, quiet}
use Rattle.lamps.specs.Calls.{count_on, power}
use Rattle.lamps.specs.Promise.{OneOrOther, AsMany, AllOn}
use Rattle.lamps.proofs.Tables.{puts_table, quiet_table, quiet_left, odd_of_at}
use Rattle.lamps.proofs.Answered.{row_quiet, row_odd, never_put, put_out, quiet_counted, ways_counted}
use Rattle.lamps.proofs.EvenQuiet.{all_on_from}

pub one_or_other : OneOrOther
unfolding OneOrOther
one_or_other ws s = (go (every_system (length s) (table ws)), never)
  where
    go : ReducedSystem (length s) (table ws) → ((p : Lamps) × (puts_out ws s p ≡ true)) ⊎ ((q : Lamps) × (quiet ws (length s) q ≡ true) × (odd_of q s ≡ true))
    go r =
        let n = length s in
        let o = owners n r.c in
        let u = act n r.T (at s) in
        elim (odd_row n r.c u) [
          | inl even ↦ inl (
            listed n (placed n o u),
            put_out ws n r.R r.T r.c r.tracks r.pivots s refl even (placed n o u) (placed_owns n r.c o u (owners_own n r.R r.c r.pivots)),
          )
          | inr w ↦ inr (
            listed n (r.T w.0),
            row_quiet ws n r.R r.T r.c r.tracks r.pivots w.0 w.1 w.2 (r.T w.0) (λ _ _. refl),
            row_odd ws n r.R r.T r.c r.tracks r.pivots s refl w.0 (r.T w.0) (λ _ _. refl) ∙ w.3,
          )
        ]

    never : (p q : Lamps) → puts_out ws s p ≡ true → quiet ws (length s) q ≡ true → odd_of q s ≡ true → ⊥
    never p q h k odd =
        let (long, still) = quiet_table ws (length s) q k in
        never_both (length s) (table ws) (at s) (at p) (at q) (puts_table ws (length s) s p refl h).1
        (quiet_left ws (length s) (at q) still, sym (odd_of_at (length s) q s long refl) ∙ odd)

pub as_many : AsMany
unfolding AsMany
as_many ws s = go (every_system (length s) (table ws))
  where
    go : ReducedSystem (length s) (table ws) → (k : ℕ) × (count_on (length s) [] (quiet ws (length s)) ≡ power k)
        × (((p : Lamps) → puts_out ws s p ≡ false) ⊎ (count_on (length s) [] (puts_out ws s) ≡ power k))
    go r =
        let n = length s in
        let free = unowned n (owners n r.c) in
        let marks = marks_owns n r.c (owners n r.c) (owners_own n r.R r.c r.pivots) in (
          tally free n,
          quiet_counted ws n r.R r.T r.c r.tracks r.pivots free marks,
          elim (odd_row n r.c (act n r.T (at s))) [
            | inl even ↦ inr (ways_counted ws n r.R r.T r.c r.tracks r.pivots s refl even free marks)
            | inr w ↦ inl (never_put ws n r.R r.T r.c r.tracks r.pivots s refl w.0 w.1 w.2 w.3)
          ],
        )

pub all_on : AllOn
all_on = all_on_from one_or_other
