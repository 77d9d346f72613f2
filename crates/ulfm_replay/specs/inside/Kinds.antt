-- The kinds of answers, as they are counted.
use Rattle.std.specs.Prelude.{Bool}
use Rattle.ulfm_answer.specs.declared.answer.StepAnswer.{StepAnswer}
use Rattle.ulfm_answer.specs.Report.{is_unfinished}
use Rattle.ulfm_replay.specs.declared.kind.Kind.{Kind}
use Rattle.ulfm_replay.specs.declared.kind.Kind.TheVariants.{Done, Over, Pending, Unfinished, Refused}
use Rattle.ulfm_replay.specs.Sweep.{is_done, is_over, is_pending, is_refused}

-- the answers of a kind
abbrev pub kind_of : Kind → StepAnswer → Bool
kind_of Done = is_done
kind_of Over = is_over
kind_of Pending = is_pending
kind_of Unfinished = is_unfinished
kind_of Refused = is_refused
