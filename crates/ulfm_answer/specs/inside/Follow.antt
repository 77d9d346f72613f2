-- Words that are followed along a text.
use Rattle.std.specs.Prelude.{ℕ, Bool, List}
use Rattle.ulfm_job.specs.Begins.{begins}
use Rattle.ulfm_answer.specs.declared.follow.Words.{Words}
use Rattle.ulfm_answer.specs.declared.follow.Words.TheVariants.{Left, Known}

-- whether the whole text begins with the words, where this comes next
abbrev pub goes_on : Words → List ℕ → Bool
goes_on (Left words) text = begins text words.now
goes_on (Known answer) text = answer
