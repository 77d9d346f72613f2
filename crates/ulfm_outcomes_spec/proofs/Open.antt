-- A list of open steps in which one stands.
use Rattle.std.proofs.Common.{◌≡◌, true, List, [], ◌∷◌, Contains, refl, arith}
use Rattle.ulfm_outcomes_spec.specs.Goals.{is_some_open}
use Rattle.ulfm_outcomes_list.specs.declared.open_step.OpenStep.{OpenStep}

pub some_there : (os : List OpenStep) (o : OpenStep) → Contains os o → is_some_open os ≡ true
some_there [] o there = let low = there.1 in absurd (omega (arith, low))
some_there (x ∷ os) o there = refl
