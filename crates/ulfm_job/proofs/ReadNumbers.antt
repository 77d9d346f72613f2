-- Numbers as they are read: what `parse` reads of digits alone.
use Rattle.std.proofs.Common.{rules, ◌≡◌, ℕ, ◌<◌, ◌≤◌, ◌^◌, List, length, ltb, leb, Bool, true, false, Some, None, Ok, Err, refl, arith}
use Rattle.std.proofs.lemmas.Bool.{and_parts, leb-true, ltb-true}
use Rattle.std.proofs.lemmas.Bool.Decides.{nat_tests}
use Rattle.std.proofs.lemmas.Str.Parse.{IsNumeralModel, numerals_by_value, parse_digits}
use Rattle.std.specs.Char.{is_ascii_digit}
use Rattle.std.specs.List.{list_all}
use Rattle.std.specs.Str.Parse.{IsNumeral, digits_value, without_leading_plus}
use Rattle.ulfm_job.specs.Digits.{is_number, number_in}

abbrev pub AreDigits : List ℕ → Type 0
AreDigits ds = list_all is_ascii_digit ds ≡ true

pub own : IsNumeralModel AreDigits (digits_value 10)
own = numerals_by_value AreDigits (search rules)

-- what a number is made of
digits_in : (text : List ℕ) → is_number text ≡ true → (ltb 0 (length text) ≡ true) × AreDigits text
digits_in text is = and_parts (ltb 0 (length text)) (list_all is_ascii_digit text) is

-- what `parse` reads as a number of 32 bits
abbrev pub IsWord : List ℕ → Type 0
IsWord text = IsNumeral 10 (without_leading_plus text) × (digits_value 10 (without_leading_plus text) < 2 ^ 32)

-- a number that is read
pub number_read : (most n : ℕ) (text : List ℕ) → is_number text ≡ true → IsWord text × (n ≡ digits_value 10 (without_leading_plus text)) → n ≤ most → Some n ≡ number_in most text
number_read most n text is h le =
    let read = parse_digits own {E = Unit {0}} 32 text (Ok n) h (digits_in text is).1 in
    let fits : leb (digits_value 10 text) most ≡ true = let e = read.1 in grind (arith, nat_tests) in
    rw (is, fits, read.1) refl

-- one that is read, and is more than the most
pub number_above : (most n : ℕ) (text : List ℕ) → is_number text ≡ true → IsWord text × (n ≡ digits_value 10 (without_leading_plus text)) → most < n → None ≡ number_in most text
number_above most n text is h lt =
    let read = parse_digits own {E = Unit {0}} 32 text (Ok n) h (digits_in text is).1 in
    let large : leb (digits_value 10 text) most ≡ false = let e = read.1 in grind (arith, nat_tests) in
    rw (is, large) refl

-- one past 32 bits
pub number_long : (most : ℕ) (text : List ℕ) → most < 2 ^ 32 → is_number text ≡ true → (IsWord text → ⊥) → None ≡ number_in most text
number_long most text small is h =
    let digits = digits_in text is in
    by (leb (digits_value 10 text) most) refl (parse_digits own {E = Unit {0}} 32 text (Err tt) h digits.1)
  where
    by : (b : Bool) → leb (digits_value 10 text) most ≡ b → ((0 < length text) × (digits_value 10 text < 2 ^ 32) → ⊥) → None ≡ number_in most text
    by true fits read = absurd (read (ltb-true _ _ (digits_in text is).0, omega (arith, leb-true _ _ fits, small)))
    by false large read = rw (is, large) refl
