-- The names that most proofs of runs cite, passed on from one place. Declares nothing.
pub use Rattle.std.proofs.lemmas.List.{length-map}
pub use Rattle.std.proofs.lemmas.Option.{slice_get_within, get_or_from_slice_get, none-some, same_Some, slice_get-get_or, slice_get_read}
pub use Rattle.std.specs.List.{list_any}
pub use Rattle.std.specs.declared.alloc.Global.{Global}
pub use Rattle.std.specs.declared.vec.Vec.{Vec}
pub use Rattle.ulfm_base.proofs.Places.{at_view, get_or-blank, there}
pub use Rattle.ulfm_base.specs.Lists.{at, InPlace}
pub use Rattle.ulfm_base.specs.declared.item.Item.{Item}
pub use Rattle.ulfm_base.specs.declared.rank.WorldRank.{WorldRank}
pub use Rattle.ulfm_carrier.specs.Family.{IsFresh, IsGathered, Keeps}
pub use Rattle.ulfm_job.specs.Job.{script_at, JobView, IsJob}
pub use Rattle.ulfm_report_laws.specs.Answers.{AgreeAt, AllAgree}
pub use Rattle.ulfm_log.specs.Facts.{is_stopped, IsSigned}
pub use Rattle.ulfm_log.specs.State.{IsState, State, GoesOut, logged, no_mark, outbox, returned, start_state, went_out}
pub use Rattle.ulfm_log.specs.declared.entry.Entry.{Entry}
pub use Rattle.ulfm_log.specs.declared.entry.Entry.TheVariants.{Took}
pub use Rattle.ulfm_script.specs.Deciding.{Known}
pub use Rattle.ulfm_script.specs.Player.{Player, PlayerView, with_rank}
pub use Rattle.ulfm_answer.specs.Report.{Report}
pub use Rattle.ulfm_script.specs.inside.Underway.{GoesThrough, polls_left}
pub use Rattle.ulfm_run.specs.Flow.{contents}
pub use Rattle.ulfm_run.specs.inside.Played.{IsPlayed}
pub use Rattle.ulfm_run.specs.inside.Threads.{NameOneBoard, EachFresh, GaveAnswers, IsOfJob, WerePlayed, begun_decider, begun_deciders, begun_end, begun_ends, decider_in, end_in, report_in}
pub use Rattle.ulfm_run.specs.inside.Turns.{WentOn}
pub use Rattle.std.proofs.lemmas.Bool.{cases_eq, cases_lt, eq-eqb, eqb-true, false≢true, ne_eqb, or_cases, or_left, or_right}
pub use Rattle.std.proofs.lemmas.List.Elements.{All-get_or, All-nil, All-push}
pub use Rattle.ulfm_base.specs.Items.{ComesFrom, items_from}
pub use Rattle.ulfm_report_laws.specs.Flow.{Flows, inbox_of}
pub use Rattle.ulfm_report_laws.specs.Decisions.{AdoptsTruly, AreTrue, EnteredWith, StoppedAt}
pub use Rattle.ulfm_rank.specs.Joined.{IsJoined}
pub use Rattle.ulfm_run.specs.inside.Joined.{IsAtWork, Moves, Polls, SkipsOn}
pub use Rattle.ulfm_script.proofs.Honestly.{honest-answers, honest-left, honest-moved, honest-start}
pub use Rattle.std.specs.Vec.Iter.{into_iter_items, into_iter_len}
pub use Rattle.ulfm_job.specs.declared.step.Step.{Step}
pub use Rattle.ulfm_report_laws.specs.Reports.{IsRunning}
pub use Rattle.ulfm_report_laws.specs.Rest.{IsServed}
pub use Rattle.ulfm_run.specs.declared.worker.Ran.{Ran}
pub use Rattle.ulfm_script.proofs.Progress.{next-free}
pub use Rattle.ulfm_script.specs.inside.SoFar.{AnswersFollowSoFar}
