-- An answer is read back from its bytes. Assumes nothing.
use Rattle.std.proofs.Common.{◌≡◌, ℕ, ◌+◌, ◌*◌, ◌/◌, ◌%◌, List, ◌++◌, length, drop, Err, ap, ◌∙◌, subst}
use Rattle.lamps.specs.Lamps.{Lamps}
use Rattle.lamps.specs.Calls.{Answer as Said, refused, number, lamps, fewest, some_way, never, Board, turned, place, IsRightIf, IsRight}
use Rattle.calls.specs.declared.Refusal.{Refusal}
use Rattle.calls.specs.Bytes.{unpacked, packed, Put}
use Rattle.calls.specs.Reading.{decoded}
use Rattle.calls.specs.Saying.{number_of, place_of, asked, called, written, answer_of}
use Rattle.calls.specs.Laws.{Reads, OfAnswers}
use Rattle.calls.proofs.Readings.{low_high}
use Rattle.calls.proofs.Packing.{unpacked_packed}

lamps_back : (ls : Lamps) (rest : List ℕ) → unpacked (length ls % 256 + 256 * (length ls / 256)) (packed ls ++ rest) ≡ ls
lamps_back ls rest = ap (λ n. unpacked n (packed ls ++ rest)) (low_high (length ls)) ∙ unpacked_packed ls rest

pub answer_back : (a : Said) (rest : List ℕ) → answer_of (written a ++ rest) ≡ a
unfolding answer_of
answer_back (refused k p) rest = ap (refused k) (low_high p)
answer_back (number k) rest = ap number (low_high k)
answer_back (lamps ls) rest = ap lamps (lamps_back ls rest)
answer_back (fewest ls) rest = ap fewest (lamps_back ls rest)
answer_back (some_way ls) rest = ap some_way (lamps_back ls rest)
answer_back (never ls) rest = ap never (lamps_back ls rest)

-- from the memory that it was put into
pub answer_put : (a : Said) (old new : List ℕ) (k : ℕ) → Put (written a) old new k → answer_of new ≡ a
answer_put a old new k put = ap answer_of put.holds ∙ answer_back a (drop k old)

-- bytes that can't be read are rightly answered by the refusal that comes of them
pub unread_right : (bs : List ℕ) (r : Refusal) (b : Board) → Err r ≡ decoded bs → Reads bs (Err r) → IsRight b (called bs) (refused (number_of r) (place_of r))
unfolding turned place IsRightIf
unread_right bs r b is (p, e, ceases) = subst (λ d. IsRight b (asked d) (refused (number_of r) (place_of r))) is (ap (λ q. refused (number_of q) (place_of r)) e)

pub of_answers : OfAnswers
of_answers = record { back = answer_back }
