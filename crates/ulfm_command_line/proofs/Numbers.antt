-- The number that an option was given, as it is read.
use Rattle.std.proofs.Common.{◌≡◌, ◌<◌, ◌≤◌, ◌^◌, ℕ, Bool, true, false, List, Some, None, arith, sym, ap, refl, ◌∙◌, if◌then◌else◌}
use Rattle.std.specs.Str.Parse.{digits_value, without_leading_plus}
use Rattle.clap.specs.ValueTests.{accepts}
use Rattle.clap.specs.declared.builder.value_parser.ValueParser.TheVariants.{Unsigned}
use Rattle.clap.proofs.ValueTestLemmas.{Accepts-accepts, accepts-Accepts}
use Rattle.ulfm_job.proofs.ReadNumbers.{IsWord}
use Rattle.ulfm_command_line.specs.CommandLine.{number_given}

-- a number in the range is what was given
pub in_range : (most n : ℕ) (text : List ℕ) → IsWord text × (n ≡ digits_value 10 (without_leading_plus text)) → 0 < n → n ≤ most → Some n ≡ number_given most (Some text)
in_range most n text h low high =
    let fits = Accepts-accepts false (Unsigned 1 most) text (h.0.0, omega (arith, h.0.1), omega (arith, h.1, low), omega (arith, h.1, high)) in
    ap Some h.1 ∙ sym (ap (λ b. if b then Some (digits_value 10 (without_leading_plus text)) else None) fits)

-- a text that is no number gives none
pub no_number : (most : ℕ) (text : List ℕ) → most < 2 ^ 32 → (IsWord text → ⊥) → None ≡ number_given most (Some text)
no_number most text small h = none (accepts false (Unsigned 1 most) text) refl
  where
    none : (b : Bool) → accepts false (Unsigned 1 most) text ≡ b → None ≡ number_given most (Some text)
    none true fits = let a = accepts-Accepts false (Unsigned 1 most) text fits in absurd (h (a.0, omega (arith, a.3, small)))
    none false fails = sym (ap (λ b. if b then Some (digits_value 10 (without_leading_plus text)) else None) fails)
