-- The members of a group that a shrink made.
use Rattle.std.specs.Prelude.{ℕ, List, []}
use Rattle.ulfm_answer.specs.declared.answer.StepAnswer.{StepAnswer}
use Rattle.ulfm_answer.specs.declared.answer.StepAnswer.TheVariants.{Shrunk}

-- of any other answer none
abbrev pub members_of : StepAnswer → List ℕ
members_of (Shrunk child group me) = group
members_of _ = []
