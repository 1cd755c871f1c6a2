-- The bits of a row as a list of lamps. Assumes nothing.
use Rattle.std.proofs.Common.{◌≡◌, ℕ, zero, suc, ◌+◌, ◌<◌, Bool, true, false, ◌&&◌, [], ◌∷◌, length, sym, refl, ap, ◌∙◌, ap₂, arith}
use Rattle.gf2.specs.Rows.{pick, differ, one, tally, parity}
use Rattle.lamps.specs.Lamps.{Lamps, at, listed, how_many, odd_of, both}
use Rattle.gf2.proofs.Parity.{parity_first}
use Rattle.gf2.proofs.Tally.{tally_first}

pub length_listed : (n : ℕ) (f : ℕ → Bool) → length (listed n f) ≡ n
unfolding listed
length_listed zero f = refl
length_listed (suc n) f = ap suc (length_listed n (λ k. f (suc k)))

pub at_listed : (n : ℕ) (f : ℕ → Bool) (k : ℕ) → k < n → at (listed n f) k ≡ f k
unfolding listed
at_listed zero f k h = absurd (omega arith)
at_listed (suc n) f zero h = refl
at_listed (suc n) f (suc k) h = at_listed n (λ k. f (suc k)) k (omega arith)

pub listed_same : (n : ℕ) (f g : ℕ → Bool) → ((k : ℕ) → k < n → f k ≡ g k) → listed n f ≡ listed n g
unfolding listed
listed_same zero f g same = refl
listed_same (suc n) f g same = ap₂ (λ b bs. b ∷ bs) (same 0 (omega arith)) (listed_same n _ _ (λ k h. same (suc k) (omega arith)))

-- every list is so listed
pub listed_at : (ls : Lamps) → listed (length ls) (at ls) ≡ ls
unfolding listed
listed_at [] = refl
listed_at (l ∷ ls) = ap (λ bs. l ∷ bs) (listed_at ls)

pub listed_is : (n : ℕ) (ls : Lamps) (f : ℕ → Bool) → length ls ≡ n → ((k : ℕ) → k < n → at ls k ≡ f k) → ls ≡ listed n f
listed_is n ls f e same = sym (listed_at ls) ∙ ap (λ m. listed m (at ls)) e ∙ listed_same n (at ls) f same

pub how_many_listed : (n : ℕ) (f : ℕ → Bool) → how_many (listed n f) ≡ tally f n
unfolding listed how_many
how_many_listed zero f = refl
how_many_listed (suc n) f = ap₂ ◌+◌ (as_picked (f 0)) (how_many_listed n (λ k. f (suc k))) ∙ sym (tally_first f n)
  where
    as_picked : (b : Bool) → pick b 1 0 ≡ one b
    as_picked true = refl
    as_picked false = refl

pub odd_of_listed : (n : ℕ) (f g : ℕ → Bool) → odd_of (listed n f) (listed n g) ≡ parity (λ k. f k && g k) n
unfolding listed odd_of
odd_of_listed zero f g = refl
odd_of_listed (suc n) f g =
    ap (differ (f 0 && g 0)) (odd_of_listed n (λ k. f (suc k)) (λ k. g (suc k))) ∙ sym (parity_first (λ k. f k && g k) n)

pub both_listed : (n : ℕ) (f g : ℕ → Bool) → both (listed n f) (listed n g) ≡ listed n (λ k. differ (f k) (g k))
unfolding listed both
both_listed zero f g = refl
both_listed (suc n) f g = ap (λ bs. differ (f 0) (g 0) ∷ bs) (both_listed n (λ k. f (suc k)) (λ k. g (suc k)))
