-- Words that are followed along a text, piece by piece.
use Rattle.std.proofs.Common.{◌≡◌, ℕ, ◌+◌, ◌/◌, ◌%◌, ◌<◌, ◌==◌, List, [], ◌∷◌, ◌++◌, length, get_or, drop, slice_index, refl, ap, sym, arith}
use Rattle.std.proofs.lemmas.Bool.Decides.{nat_tests}
use Rattle.std.proofs.lemmas.List.{at_drop_more}
use Rattle.hex.proofs.Pairs.{encode_with-drop}
use Rattle.hex.specs.Hex.{encode_lower, lower_digits}
use Rattle.ulfm_job.specs.Begins.{begins}
use Rattle.ulfm_answer.specs.declared.follow.Words.{Words}
use Rattle.ulfm_answer.specs.inside.Follow.{goes_on}

-- one byte of what is left of a text
pub byte-on : (words : Words) (text : List ℕ) (i d : ℕ) (more : List ℕ) → i < length text → goes_on words (get_or text i d ∷ (drop (i + 1) text ++ more)) ≡ goes_on words (drop i text ++ more)
byte-on words text i d more low = sym (at_drop_more (λ (xs : List ℕ). goes_on words (xs ++ more)) text i d low)

-- the two digits of one of the bytes that are left
pub digits-on : (words : Words) (bytes : List ℕ) (i : ℕ) (more : List ℕ) → i < length bytes → goes_on words (slice_index lower_digits (slice_index bytes i / 16) ∷ slice_index lower_digits (slice_index bytes i % 16) ∷ (encode_lower (drop (i + 1) bytes) ++ more)) ≡ goes_on words (encode_lower (drop i bytes) ++ more)
digits-on words bytes i more low = ap (λ (xs : List ℕ). goes_on words (xs ++ more)) (sym (encode_with-drop lower_digits bytes i low))

-- a text that ends begins with no words alone
pub none-left : (words : List ℕ) → (length words == 0) ≡ begins [] words
none-left [] = refl
none-left (w ∷ words) = grind (arith, nat_tests)
