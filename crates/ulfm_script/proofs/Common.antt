-- The names that most proofs of scripts cite, passed on from one place. Declares nothing.
pub use Rattle.std.proofs.lemmas.List.Elements.{All-cons, All-nil, All-push, All-append, All-head, All-tail, filter_map-append}
pub use Rattle.std.proofs.lemmas.Option.{none-some, same_Some, slice_get-get_or, slice_get_within}
pub use Rattle.ulfm_base.specs.Group.{rank_in}
pub use Rattle.ulfm_base.specs.Topic.{agreement_topic, is_topic, shrink_topic}
pub use Rattle.ulfm_base.specs.declared.topic.Topic.{Topic}
pub use Rattle.ulfm_base.specs.declared.contribution.Contribution.{Contribution}
pub use Rattle.ulfm_base.specs.declared.entrance.Entrance.{Entrance}
pub use Rattle.ulfm_base.specs.declared.context.Context.{Context}
pub use Rattle.ulfm_base.specs.declared.decision.Decision.{Decision}
pub use Rattle.ulfm_board.specs.Known.{known_at}
pub use Rattle.ulfm_job.specs.Job.{is_stop_step}
pub use Rattle.ulfm_job.specs.declared.step.Step.{Step}
pub use Rattle.ulfm_job.specs.declared.step.Step.TheVariants.{Shrink, Agree, Wait, Probe}
pub use Rattle.ulfm_rank.proofs.Refusals.{all_pass}
pub use Rattle.ulfm_rank.specs.Checks.{adopt_checks, agree_checks, Passes, shrink_checks}
pub use Rattle.ulfm_log.specs.Facts.{is_stop, is_stopped, IsSigned, Knows, acknowledged_of, is_revoked, took_by}
pub use Rattle.ulfm_log.specs.State.{logged, State}
pub use Rattle.ulfm_log.specs.declared.message.MessageId.{MessageId}
pub use Rattle.ulfm_log.specs.declared.entry.Entry.{Entry}
pub use Rattle.ulfm_log.specs.declared.entry.Entry.TheVariants.{Adopted, Entered, Took}
pub use Rattle.ulfm_script.specs.Answered.{AnswersFollow, EntersBetween, IsTook, OnlyTook, StoodAt}
pub use Rattle.ulfm_script.specs.Deciding.{AnswersAdoption, Known, topic_of}
pub use Rattle.ulfm_script.specs.Calls.{AnswersProbe, Cancels, Receives, AnswersStep, LeavesOpen, Tests, AnswersRecv, AnswersWait, AnswersCancel, AnswersMrecv, comm_of, entered_by, entry_checks, EntersBy, request_at, tested}
pub use Rattle.ulfm_script.specs.Player.{Player, step_report, GivesUpStep, IsCalled, IsFree, PollAnswers, PollOpens, SkipsStep, StaysOpen, PlayerView, answered, awaits_decision, is_joint, polled, start_player, with_rank}
pub use Rattle.ulfm_answer.specs.Report.{Report}
pub use Rattle.ulfm_answer.specs.declared.answer.StepAnswer.{StepAnswer}
pub use Rattle.ulfm_answer.specs.declared.answer.StepAnswer.TheVariants.{Refused, Skipped, Unfinished}
pub use Rattle.ulfm_answer.specs.declared.answer.StepReport.{StepReport}
pub use Rattle.ulfm_script.specs.inside.SoFar.{AnswersFollowSoFar, Learns, Since, Stands, StandsOpen}
pub use Rattle.std.proofs.lemmas.Bool.{cases_eq, eq-eqb, false≢true, not-false}
pub use Rattle.std.specs.Prelude.{Some, nat_lt, ⊤, ◌||◌}
pub use Rattle.ulfm_base.specs.declared.error.CallError.TheVariants.{OutOfMemory}
pub use Rattle.ulfm_base.specs.declared.rank_set.RankSet.{RankSet}
pub use Rattle.ulfm_base.specs.declared.request_id.RequestId.{RequestId}
pub use Rattle.ulfm_log.specs.Proposal.{agreements, contradicts, enters_agreement, enters_round, entry_of, has_entered, is_foreign, last_agreement, last_shrink, next_agreement, next_round, next_shrink, rounds_of}
pub use Rattle.ulfm_answer.specs.Trace.{spaced, step_lines, trace_of}
pub use Rattle.ulfm_script.specs.inside.Underway.{FollowsSoFar, GoesThrough, answer_of, has_stop, polls_left}
pub use Rattle.ulfm_log.proofs.Entering.{Fits, RoundsCounted}
pub use Rattle.ulfm_log.proofs.Logs.{stopped-push}
pub use Rattle.ulfm_rank.specs.Calls.{Enters, Sends}
pub use Rattle.ulfm_rank.specs.inside.Quiet.{Quiet}
