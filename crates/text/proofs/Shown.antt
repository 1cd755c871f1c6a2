-- The digits of a set of lamps, one by one. Assumes nothing.
use Rattle.std.proofs.Common.{◌≡◌, ℕ, zero, suc, ◌+◌, ◌<◌, Bool, true, false, List, [], ◌∷◌, ◌++◌, length, take, set, sym, refl, ap, ap₂, subst, ◌∙◌, arith}
use Rattle.std.specs.Int.{from_bool}
use Rattle.std.specs.Str.{IsAscii, IsUtf8}
use Rattle.std.proofs.lemmas.List.{take_more_set}
use Rattle.std.proofs.lemmas.Str.{IsUtf8-from_ascii}
use Rattle.std.proofs.lemmas.Str.Ascii.{IsAscii-nil, IsAscii-cons}
use Rattle.gf2.specs.Rows.{pick}
use Rattle.lamps.specs.Lamps.{Lamps, listed}
use Rattle.lines.specs.Printed.{shown}

shown_last : (n : ℕ) (f : ℕ → Bool) → shown (listed (suc n) f) ≡ shown (listed n f) ++ (pick (f n) 49 48 ∷ [])
unfolding shown listed
shown_last zero f = refl
shown_last (suc n) f = ap (λ l. pick (f 0) 49 48 ∷ l) (shown_last n (λ k. f (suc k)))

pub shown_none : (f : ℕ → Bool) → [] ≡ shown (listed 0 f)
unfolding shown listed
shown_none f = refl

digit : (b : Bool) → 48 + from_bool b ≡ pick b 49 48
digit true = refl
digit false = refl

pub shown_more : (n : ℕ) (f : ℕ → Bool) (digits : List ℕ) (b : Bool) (d : ℕ) → n < length digits → take n digits ≡ shown (listed n f) → b ≡ f n → d ≡ from_bool b → take (n + 1) (set digits n (48 + d)) ≡ shown (listed (n + 1) f)
shown_more n f digits b d inside before e is =
    let next : suc n ≡ n + 1 = omega arith in
    take_more_set digits n (48 + d) inside
    ∙ ap₂ (λ l x. l ++ (x ∷ [])) before (ap (λ x. 48 + x) (is ∙ ap from_bool e) ∙ digit (f n))
    ∙ sym (shown_last n f)
    ∙ ap (λ x. shown (listed x f)) next

is_digit : (b : Bool) → pick b 49 48 < 128
is_digit true = omega arith
is_digit false = omega arith

shown_ascii : (ls : Lamps) → IsAscii (shown ls)
unfolding shown
shown_ascii [] = IsAscii-nil
shown_ascii (l ∷ ls) = IsAscii-cons _ _ (is_digit l) (shown_ascii ls)

-- the digits of all n lamps are a text
pub shown_text : (i n : ℕ) (f : ℕ → Bool) (digits : List ℕ) → i ≡ n → take i digits ≡ shown (listed i f) → (take n digits ≡ shown (listed n f)) × IsUtf8 (take n digits)
shown_text i n f digits all are =
    let whole : take n digits ≡ shown (listed n f) = subst (λ k. take k digits ≡ shown (listed k f)) all are in
    (whole, subst IsUtf8 (sym whole) (IsUtf8-from_ascii _ (shown_ascii (listed n f))))
