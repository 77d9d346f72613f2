-- Which check refuses first.
use Rattle.std.proofs.Common.{◌≡◌, Bool, true, false, cond, List, [], ◌∷◌, refl, ap, sym, ◌∙◌, Option, Some}
use Rattle.std.specs.Prelude.{⊤}
use Rattle.ulfm_rank.proofs.Common.{none-some, CallError}
use Rattle.ulfm_rank.specs.Checks.{Check, first_refusal, Passes}

-- a check that doesn't
pub goes_on : (b : Bool) (e : CallError) (more : List Check) (o : Option CallError) → b ≡ false → first_refusal more ≡ o → first_refusal ((b, e) ∷ more) ≡ o
goes_on b e more o h rest = ap (λ b. cond b (Some e) (first_refusal more)) h ∙ rest

-- two checks that pass, and then more
pub passes_two : (a b : Bool) (e f : CallError) (more : List Check) (o : Option CallError) → Passes ((a, e) ∷ (b, f) ∷ []) → first_refusal more ≡ o → first_refusal ((a, e) ∷ (b, f) ∷ more) ≡ o
passes_two true b e f more o p rest = cc
passes_two false true e f more o p rest = cc
passes_two false false e f more o p rest = rest

-- none of these checks refuses
abbrev pub AllPass : List Check → Type 0
AllPass [] = ⊤
AllPass (check ∷ checks) = (check.0 ≡ false) × AllPass checks

pub all_pass : (checks : List Check) → Passes checks → AllPass checks
all_pass [] h = tt
all_pass ((true, e) ∷ checks) h = absurd (none-some e (sym h))
all_pass ((false, e) ∷ checks) h = (refl, all_pass checks h)
