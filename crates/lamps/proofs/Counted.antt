-- How many sets of lamps pass a test, and powers of two. Assumes nothing.
use Rattle.std.proofs.Common.{◌≡◌, ℕ, zero, suc, ◌+◌, ◌^◌, ◌<◌, Bool, true, false, [], ◌∷◌, ◌++◌, sym, refl, ap, ◌∙◌, ap₂, append_assoc, append-nil, arith}
use lib.Pow.{pow-lt}
use Rattle.std.proofs.lemmas.Nat.{pow-add}
use Rattle.gf2.specs.Rows.{one}
use Rattle.gf2.proofs.Count.{count, count_same}
use Rattle.lamps.specs.Lamps.{Lamps, listed}
use Rattle.lamps.specs.Calls.{count_on, power}

-- sets of lamps counted as rows
count_on_after : (n : ℕ) (p : Lamps) (f : Lamps → Bool) → count_on n p f ≡ count n (λ r. f (p ++ listed n r))
unfolding count_on listed
count_on_after zero p f = ap (λ q. one (f q)) (sym (append-nil p))
count_on_after (suc n) p f = ap₂ ◌+◌ (half false (count_on_after n (p ++ (false ∷ [])) f)) (half true (count_on_after n (p ++ (true ∷ [])) f))
  where
    half : (x : Bool) → count_on n (p ++ (x ∷ [])) f ≡ count n (λ r. f ((p ++ (x ∷ [])) ++ listed n r)) → count_on n (p ++ (x ∷ [])) f ≡ count n (λ r. f (p ++ (x ∷ listed n r)))
    half x ih = ih ∙ count_same n (λ r. f ((p ++ (x ∷ [])) ++ listed n r)) (λ r. f (p ++ (x ∷ listed n r))) (λ r. ap f (append_assoc p (x ∷ []) (listed n r)))

pub count_on_rows : (n : ℕ) (f : Lamps → Bool) → count_on n [] f ≡ count n (λ r. f (listed n r))
count_on_rows n f = count_on_after n [] f

pub power_is : (k : ℕ) → power k ≡ 2 ^ k
unfolding power
power_is zero = refl
power_is (suc k) = omega (arith, power_is k, pow-add 2 1 k)

-- more than 65,536
pub power_above : (k : ℕ) → 16 < k → 65536 < power k
power_above k h = omega (arith, power_is k, pow-lt {i = 16} {j = k} h)
