-- A text is cut into its lines, byte by byte. Assumes nothing.
use Rattle.std.proofs.Common.{◌≡◌, ℕ, ◌+◌, ◌-◌, ◌<◌, ◌≤◌, Bool, true, false, cond, eqb, ltb, ◌≢◌, List, [], ◌∷◌, ◌++◌, length, get_or, take, drop, suc, Option, None, Some, MatchOption, Bor, ◌⊎◌, inl, inr, refl, sym, ap, ap₂, append_assoc, ◌∙◌, arith, length-drop}
use Rattle.std.proofs.lemmas.List.{append-nil, drop_more, drop_all, take_all}
use Rattle.std.proofs.lemmas.List.Quantifiers.{position-Some}
use Rattle.std.proofs.lemmas.List.Splits.{slice_split_first, slice_split_none}
use Rattle.std.proofs.lemmas.List.Sums.{position_or_len_is, fails_before_first}
use Rattle.std.proofs.lemmas.Bool.{eq-eqb, ne_eqb}
use Rattle.std.proofs.lemmas.List.Edits.{between_none, between_more}
use Rattle.std.specs.List.{slice_split, onto_first, position, position_or_len, slice_range}
use Rattle.std.specs.Option.{unwrap_or}
use Rattle.lines.specs.Texts.{lines_from}

-- the bytes of a text from one place to another
abbrev pub part : List ℕ → ℕ → ℕ → List ℕ
part text start end = take (end - start) (drop start text)

module _ (text : List ℕ) (start end : ℕ) where
  module _ (inside : end < length text) where
    split : (line : List ℕ)
        → lines_from line (drop end text) ≡ cond (eqb (get_or text end 0) 10) (line ∷ lines_from [] (drop (end + 1) text)) (lines_from (line ++ (get_or text end 0 ∷ [])) (drop (end + 1) text))
    unfolding lines_from
    split line = ap (lines_from line) (drop_more text end 0 inside)

    -- the byte at `end` goes on with the line that begins at `start`
    pub line_on : start ≤ end → get_or text end 0 ≢ 10 → lines_from (part text start end) (drop end text) ≡ lines_from (part text start (end + 1)) (drop (end + 1) text)
    line_on begun ne =
        let line = part text start end in
        split line
        ∙ ap (λ t. cond t (line ∷ lines_from [] (drop (end + 1) text)) (lines_from (line ++ (get_or text end 0 ∷ [])) (drop (end + 1) text))) (ne_eqb (get_or text end 0) 10 ne)
        ∙ ap (λ l. lines_from l (drop (end + 1) text)) (sym (between_more text start end 0 begun inside))

    -- or ends it, and the next begins
    pub line_ends : get_or text end 0 ≡ 10 → lines_from (part text start end) (drop end text) ≡ part text start end ∷ lines_from (part text (end + 1) (end + 1)) (drop (end + 1) text)
    line_ends e =
        let line = part text start end in
        split line
        ∙ ap (λ t. cond t (line ∷ lines_from [] (drop (end + 1) text)) (lines_from (line ++ (get_or text end 0 ∷ [])) (drop (end + 1) text))) (eq-eqb (get_or text end 0) 10 e)
        ∙ ap (λ l. line ∷ lines_from l (drop (end + 1) text)) (sym (between_none text (end + 1)))

  -- the last line
  pub line_last : length text ≤ end → lines_from (part text start end) (drop end text) ≡ part text start end ∷ []
  unfolding lines_from
  line_last all = ap (lines_from (part text start end)) (drop_all end text all)

-- the same as the parts between the bytes 10
abbrev pub cut : List ℕ → List (List ℕ)
cut = slice_split (λ b. eqb b 10)

front : List ℕ → List (List ℕ) → List (List ℕ)
front line [] = line ∷ []
front line (part ∷ parts) = (line ++ part) ∷ parts

front_none : (bs : List ℕ) → front [] (cut bs) ≡ cut bs
unfolding front
front_none [] = refl
front_none (b ∷ bs) = go (eqb b 10) (cut bs)
  where
    go : (t : Bool) (ls : List (List ℕ)) → front [] (cond t ([] ∷ ls) (onto_first b ls)) ≡ cond t ([] ∷ ls) (onto_first b ls)
    go true ls = refl
    go false [] = refl
    go false (l ∷ ls) = refl

front_more : (line : List ℕ) (b : ℕ) (ls : List (List ℕ)) → front (line ++ (b ∷ [])) ls ≡ front line (onto_first b ls)
unfolding front
front_more line b [] = refl
front_more line b (l ∷ ls) = ap (λ x. x ∷ ls) (append_assoc line (b ∷ []) l)

front_lines : (line bs : List ℕ) → lines_from line bs ≡ front line (cut bs)
unfolding lines_from front
front_lines line [] = ap (λ l. l ∷ []) (sym (append-nil line))
front_lines line (b ∷ bs) = go (eqb b 10) (front_lines [] bs) (front_lines (line ++ (b ∷ [])) bs)
  where
    go : (t : Bool) → lines_from [] bs ≡ front [] (cut bs) → lines_from (line ++ (b ∷ [])) bs ≡ front (line ++ (b ∷ [])) (cut bs)
        → cond t (line ∷ lines_from [] bs) (lines_from (line ++ (b ∷ [])) bs) ≡ front line (cond t ([] ∷ cut bs) (onto_first b (cut bs)))
    go true ended on = ap₂ (λ l ls. l ∷ ls) (sym (append-nil line)) (ended ∙ front_none bs)
    go false ended on = on ∙ front_more line b (cut bs)

pub lines_split : (text : List ℕ) → lines_from [] text ≡ cut text
lines_split text = front_lines [] text ∙ front_none text

-- where a text has a byte 10, its first line ends before the first of them, and the others are those of what stands behind that
pub first_line : (text : List ℕ) (end : ℕ) → position (λ b. eqb b 10) text ≡ Some end → lines_from [] text ≡ take end text ∷ lines_from [] (drop (end + 1) text)
first_line text end e =
    let at = position-Some (λ b. eqb b 10) text end 0 e in
    let same : position_or_len (λ b. eqb b 10) text ≡ end = position_or_len_is (λ b. eqb b 10) text end 0 (omega (arith, at.0)) at.2 (λ _. at.1) in
    lines_split text
    ∙ slice_split_first (λ b. eqb b 10) text 0 (omega (arith, at.0, same))
    ∙ ap (λ n. take n text ∷ cut (drop (n + 1) text)) same
    ∙ ap (λ ls. take end text ∷ ls) (sym (lines_split (drop (end + 1) text)))

-- where it has none, it is one line
pub one_line : (text : List ℕ) → position (λ b. eqb b 10) text ≡ None → lines_from [] text ≡ text ∷ []
one_line text e =
    let none : length text ≤ position_or_len (λ b. eqb b 10) text = past (position_or_len (λ b. eqb b 10) text) (length text) e in
    lines_split text ∙ slice_split_none (λ b. eqb b 10) text (λ k d inside. fails_before_first (λ b. eqb b 10) text k d (omega (arith, none, inside)))
  where
    past : (n m : ℕ) → cond (ltb n m) (Some n) None ≡ None → m ≤ n
    past n m h = grind arith

-- what `text.get(from..)` gives
abbrev pub Behind : List ℕ → ℕ → Option (Bor (List ℕ)) → Type 0
Behind text from rest =
    MatchOption rest ((length text < from) ⊎ (length text < length text))
    (λ x. (from ≤ length text) × (length text ≤ length text) × (x.now ≡ slice_range text from (length text)) × (length x.now + from ≡ length text))

-- the lines of a rest, none where there is none; and how long it is
unfoldable pub lines_left : Option (Bor (List ℕ)) → List (List ℕ)
lines_left None = []
lines_left (Some rest) = lines_from [] rest.now

unfoldable pub size_left : Option (Bor (List ℕ)) → ℕ
size_left None = 0
size_left (Some rest) = suc (length rest.now)

-- the first line of a text ends at `end`, where its first byte 10 is or where the text ends, and the others are those of the rest behind that
pub cut_at : (text : List ℕ) (found : Option ℕ) (end : ℕ) (rest : Option (Bor (List ℕ))) → found ≡ position (λ b. eqb b 10) text → end ≡ unwrap_or found (length text)
    → Behind text (end + 1) rest → lines_from [] text ≡ take end text ∷ lines_left rest
unfolding lines_left
cut_at text None end None none is behind = one_line text (sym none) ∙ ap (λ l. l ∷ []) (sym (take_all end text (omega (arith, is))))
cut_at text None end (Some rest) none is behind = absurd (omega (arith, is, behind.0))
cut_at text (Some k) end None found is behind =
    let inside : k < length text = (position-Some (λ b. eqb b 10) text k 0 (sym found)).0 in
    absurd (past inside behind)
  where
    past : k < length text → (length text < end + 1) ⊎ (length text < length text) → ⊥
    past inside (inl h) = omega (arith, is, inside, h)
    past inside (inr h) = omega (arith, h)
cut_at text (Some k) end (Some rest) found is behind =
    first_line text end (sym found ∙ ap Some (sym is))
    ∙ ap (λ bs. take end text ∷ lines_from [] bs) (sym (behind.2 ∙ take_all (length text - (end + 1)) (drop (end + 1) text) (omega (arith, length-drop (end + 1) text))))

pub less_left : (text : Bor (List ℕ)) (from : ℕ) (rest : Option (Bor (List ℕ))) → 0 < from → Behind text.now from rest → size_left rest < size_left (Some text)
unfolding size_left
less_left text from None p behind = omega arith
less_left text from (Some rest) p behind = omega (arith, p, behind.3)
