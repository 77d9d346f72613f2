-- Numbers as they are written.
use Rattle.std.proofs.Common.{◌≡◌, ℕ, ◌+◌, ◌<◌, ◌==◌, ◌^◌, List, [], ◌∷◌, length, get_or, ltb, leb, Bool, true, false, ◌&&◌, ◌||◌, not, Option, Some, None, zero, suc, if◌then◌else◌, refl, sym, ap, ◌∙◌, arith}
use Rattle.std.proofs.lemmas.Bool.{and_parts, leb-true}
use Rattle.std.proofs.lemmas.Bool.Decides.{Decides-eqb, nat_tests}
use Rattle.std.proofs.lemmas.Fmt.{decimal-digits_value, decimal_digit, decimal_nonempty, digits_decimal, first_decimal}
use Rattle.std.proofs.lemmas.Slice.Eq.{bytes_eq-Decides}
use Rattle.std.specs.Char.{is_ascii_digit}
use Rattle.std.specs.Fmt.{decimal}
use Rattle.std.proofs.lemmas.List.{drop_all}
use Rattle.std.specs.List.{after_first, before_first, list_all, position_or_len}
use Rattle.std.specs.Str.{bytes_eq}
use Rattle.std.specs.Str.Parse.{digits_value}
use Rattle.ulfm_job.proofs.ReadNumbers.{AreDigits, own}
use Rattle.ulfm_job.specs.Digits.{is_number, number_in}
use Rattle.ulfm_job.specs.Text.{is_starred, number_of_text, stop_by, stop_of_text, unstarred}
use Rattle.ulfm_job.specs.inside.Shortest.{is_shortest}

-- what a number is made of
digits_in : (text : List ℕ) → is_shortest text ≡ true → AreDigits text
digits_in [] is = absurd cc
digits_in (c ∷ text) is = (and_parts (is_ascii_digit c && list_all is_ascii_digit text) (not (c == 48) || length text == 0) is).0

some_in : (text : List ℕ) → is_shortest text ≡ true → 0 < length text
some_in [] is = absurd cc
some_in (c ∷ text) is = omega arith

lead_in : (text : List ℕ) → is_shortest text ≡ true → get_or text 0 0 ≡ 48 → length text ≡ 1
lead_in [] is e = absurd cc
lead_in (c ∷ text) is e = by (c == 48) (length text == 0) ((Decides-eqb c 48).1 e) refl (and_parts (is_ascii_digit c && list_all is_ascii_digit text) (not (c == 48) || length text == 0) is).1
  where
    by : (a b : Bool) → a ≡ true → length text == 0 ≡ b → (not a || b) ≡ true → length (c ∷ text) ≡ 1
    by true true is_zero e h = let none : length text ≡ 0 = (Decides-eqb (length text) 0).0 e in omega (arith, none)
    by true false is_zero e h = absurd cc
    by false b is_zero e h = absurd cc

-- digits without a zero before others are a number
number-digits : (text : List ℕ) → AreDigits text → 0 < length text → (get_or text 0 0 ≡ 48 → length text ≡ 1) → is_shortest text ≡ true
number-digits [] all some lead = absurd (omega (arith, some))
number-digits (c ∷ text) all some lead = by (list_all is_ascii_digit (c ∷ text)) (c == 48) all refl
  where
    by : (a b : Bool) → a ≡ true → c == 48 ≡ b → (a && (not b || length text == 0)) ≡ true
    by true false all e = refl
    by true true all e = let one = lead ((Decides-eqb c 48).0 e) in let none : length text ≡ 0 = omega (arith, one) in (Decides-eqb (length text) 0).1 none
    by false b all e = absurd cc

number-decimal : (n : ℕ) → n < 2 ^ 64 → is_shortest (decimal n) ≡ true
number-decimal n small = number-digits (decimal n) (digits_decimal own n small) (decimal_nonempty n small) (lead n small)
  where
    lead : (n : ℕ) → n < 2 ^ 64 → get_or (decimal n) 0 0 ≡ 48 → length (decimal n) ≡ 1
    lead zero small e = ap length (decimal_digit 0 (omega arith))
    lead (suc n) small e = let high = first_decimal (suc n) (omega arith) small in absurd (omega (arith, high, e))

decimal-number : (text : List ℕ) → is_shortest text ≡ true → digits_value 10 text < 2 ^ 64 → decimal (digits_value 10 text) ≡ text
decimal-number text is small = decimal-digits_value own text (digits_in text is) (some_in text is) (lead_in text is) small

-- a text that isn't one gives none
pub not_number : (most : ℕ) (text : List ℕ) → most < 2 ^ 64 → is_shortest text ≡ false → None ≡ number_of_text most text
not_number most text small not_one = by (leb (digits_value 10 text) most) (bytes_eq text (decimal (digits_value 10 text))) refl refl
  where
    by : (a b : Bool) → leb (digits_value 10 text) most ≡ a → bytes_eq text (decimal (digits_value 10 text)) ≡ b → None ≡ (if a && b then Some (digits_value 10 text) else None)
    by true true fits same =
        let is : text ≡ decimal (digits_value 10 text) = (bytes_eq-Decides text (decimal (digits_value 10 text))).0 same in
        let le = leb-true _ _ fits in
        let one : is_shortest text ≡ true = ap is_shortest is ∙ number-decimal (digits_value 10 text) (omega (arith, le, small)) in
        absurd cc
    by true false fits differs = refl
    by false b large e = refl

-- such a text is digits alone, and its number is written in these digits
pub number_shortest : (most : ℕ) (text : List ℕ) → most < 2 ^ 64 → is_shortest text ≡ true → number_in most text ≡ number_of_text most text
number_shortest most text small is = by (leb (digits_value 10 text) most) refl
  where
    any : is_number text ≡ true
    any = let some : ltb 0 (length text) ≡ true = let s = some_in text is in grind (arith, nat_tests) in rw (some, digits_in text is) refl

    by : (b : Bool) → leb (digits_value 10 text) most ≡ b → number_in most text ≡ number_of_text most text
    by true fits =
        let le = leb-true _ _ fits in
        let same : bytes_eq text (decimal (digits_value 10 text)) ≡ true = (bytes_eq-Decides text (decimal (digits_value 10 text))).1 (sym (decimal-number text is (omega (arith, le, small)))) in
        rw (any, fits, same) refl
    by false large = rw (any, large) refl

-- a text without a dot is no stop
pub no_dot : (text : List ℕ) → position_or_len (λ c. c == 46) text ≡ length text → None ≡ stop_of_text text
no_dot text none = by (number_of_text 255 (before_first (λ c. c == 46) text)) (number_of_text 65535 (unstarred (after_first (λ c. c == 46) text))) (is_starred (after_first (λ c. c == 46) text)) missing
  where
    nothing : number_of_text 65535 (unstarred []) ≡ None
    nothing = rw (decimal_digit 0 (omega arith)) refl

    missing : number_of_text 65535 (unstarred (after_first (λ c. c == 46) text)) ≡ None
    missing = ap (λ (step : List ℕ). number_of_text 65535 (unstarred step)) (drop_all (position_or_len (λ c. c == 46) text + 1) text (omega (arith, none))) ∙ nothing

    by : (rank at : Option ℕ) (dies : Bool) → at ≡ None → None ≡ stop_by rank at dies
    by None at dies e = refl
    by (Some rank) None dies e = refl
    by (Some rank) (Some at) dies e = absurd cc
