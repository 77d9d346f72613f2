-- The names that most proofs of worlds cite, passed on from one place. Declares nothing.
pub use Rattle.ulfm_base.specs.Group.{is_member}
pub use Rattle.ulfm_base.specs.Items.{items_from}
pub use Rattle.ulfm_base.specs.Lists.{at}
pub use Rattle.ulfm_base.specs.declared.context.Context.{Context}
pub use Rattle.ulfm_base.specs.declared.decision.Decision.{Decision}
pub use Rattle.ulfm_base.specs.declared.item.Item.{Item}
pub use Rattle.ulfm_base.specs.declared.rank.WorldRank.{WorldRank}
pub use Rattle.ulfm_base.specs.declared.contribution.Contribution.{Contribution}
pub use Rattle.ulfm_base.specs.declared.entrance.Entrance.{Entrance}
pub use Rattle.ulfm_base.specs.declared.topic.Topic.{Topic}
pub use Rattle.ulfm_base.specs.Topic.{shrink_topic}
pub use Rattle.ulfm_log.specs.Facts.{is_stopped, IsSigned, is_gone, is_revoked, is_stop, revokes, took, took_by}
pub use Rattle.ulfm_log.specs.Proposal.{deciders, has_adopted}
pub use Rattle.ulfm_log.specs.State.{State, logged, outbox, GoesOut, IsState, mark_at, marked, no_mark, owes, start_state, went_out}
pub use Rattle.ulfm_log.specs.declared.entry.Entry.{Entry}
pub use Rattle.ulfm_log.specs.declared.entry.Entry.TheVariants.{Took, Adopted}
pub use Rattle.ulfm_board.specs.Known.{known_at}
pub use Rattle.ulfm_job.specs.Job.{JobView, script_at, IsJob}
pub use Rattle.ulfm_script.specs.Calls.{EntersBy, LeavesOpen}
pub use Rattle.ulfm_script.specs.Deciding.{topic_of}
pub use Rattle.ulfm_script.specs.Player.{Player, with_rank, GivesUpStep, IsCalled, IsFree, PollAnswers, PollOpens, SkipsStep, StaysOpen, PlayerView, answered, awaits_decision, polled, start_player, step_report}
pub use Rattle.ulfm_answer.specs.Report.{Report}
pub use Rattle.ulfm_job.specs.declared.step.Step.{Step}
pub use Rattle.ulfm_job.specs.declared.step.Step.TheVariants.{Shrink, Agree}
pub use Rattle.ulfm_world.specs.Parts.{players_of, the_player, parts}
pub use Rattle.ulfm_world.specs.Flow.{IsWorld, IsPosted, arrived}
pub use Rattle.ulfm_world.specs.Rest.{IsAtRest}
pub use Rattle.ulfm_world.specs.World.{World, TakesFrom, rank_at, player_at, player_in, inbox_at, reports_in, start_world, report_of, with_player, IsReached, Pushes, Reaches, Takes, with_inbox, Happens, IsRunning, no_player, Applied, Calls, DecidesStep, GivesUp, Skips, HasStopped, IsRefused, Run, outcome_of, start_players, with_decided, with_players}
pub use Rattle.ulfm_world.specs.declared.event.Event.{Event}
pub use Rattle.ulfm_world.specs.declared.event.Event.TheVariants.{Call, Leave, Decide, Push, Skip, Take, TakeFrom}
pub use Rattle.ulfm_world.specs.declared.room.Room.{Room}
pub use Rattle.ulfm_world.specs.declared.room.Room.TheVariants.{PerInbox, PerPair}
pub use Rattle.ulfm_world.specs.Room.{HasRoom, IsFull, places, taken_places}
pub use Rattle.std.proofs.lemmas.Bool.{and_parts, cases_Bool, cases_eq, cases_lt, cond-true, eq-eqb, false_from_ne_true, false≢true, le-ltb, lt-leb, ne_eqb, or_cases, or_from, or_left, or_right}
pub use Rattle.std.proofs.lemmas.List.{drop-append-le, drop_all, get_or-map, get_or-replicate, get_or_append_left, get_or_at, get_or_default, get_or_past, get_or_push, length-map, length-replicate, map-id, map-set, map_push, nil_from_length, set-get_or, take_more}
pub use Rattle.std.proofs.lemmas.List.Elements.{All-head, All-nil, All-push, All-rest, All-weaker}
pub use Rattle.std.proofs.lemmas.Option.{get_or_from_slice_get, none-some, same_Some, slice_get-get_or, slice_get_within}
pub use Rattle.std.specs.List.{flat_map, list_any, range_with_len, sum_by}
pub use Rattle.ulfm_base.specs.RankSet.{has}
pub use Rattle.ulfm_base.specs.declared.error.CallError.{CallError}
pub use Rattle.ulfm_base.specs.declared.error.CallError.TheVariants.{OutOfMemory}
pub use Rattle.ulfm_report_laws.proofs.AtRest.{agrees-revoked, knows-stopped}
pub use Rattle.ulfm_report_laws.specs.Lawful.{AreProduced, KnowAtRest}
pub use Rattle.ulfm_report_laws.specs.Reader.{AllHasCome, ComeAsSent, DoneIsGiven, DonesDiffer, FoundIsGiven, GivesOnce, HasOnePairing, IsFaithful, LettersKeepOrder, NoneIsMissed, OverIsTrue, ReceivesKeepOrder}
pub use Rattle.ulfm_report_laws.specs.Decisions.{AdoptOne, AdoptsTruly, EntersEachOnce, HasOneGroup, IsTrueOf, ProposesEach}
pub use Rattle.ulfm_log.proofs.Belonging.{IsOwn, Keeps, keeps-push, keeps-start, not_foreign}
pub use Rattle.ulfm_log.proofs.Entering.{AdoptsEntered, Fits, RoundsCounted, own_set, own_stays}
pub use Rattle.ulfm_log.proofs.Gather.{any-push}
pub use Rattle.ulfm_log.specs.Communicators.{group_of, is_made, members_of}
pub use Rattle.ulfm_script.proofs.Polls.{Adds, adoption_adds, answers_add, opens_add, quiet-called, quiet-left, stopped-adds}
pub use Rattle.ulfm_script.specs.Deciding.{AnswersAdoption, IsDecided, Known}
pub use Rattle.ulfm_answer.specs.declared.answer.StepAnswer.{StepAnswer}
pub use Rattle.ulfm_answer.specs.declared.answer.StepReport.{StepReport}
pub use Rattle.ulfm_answer.specs.Reacting.{is_played}
pub use Rattle.ulfm_script.specs.inside.Underway.{FollowsSoFar, GoesThrough}
pub use Rattle.ulfm_world.specs.Replay.{AllHaveFinished, IsReplayed, MadeAtRest}
pub use Rattle.ulfm_world.specs.inside.Rounds.{AllAnswersFollowSoFar, Follows, IsStuck, IsStuckAt, IsUnderway, Moves, fresh_at, inbox_weight, known_for, measure, out_at, sum_below, weight_of}
pub use Rattle.std.proofs.Math.Bool.{or-false}
pub use Rattle.std.proofs.lemmas.Result.{IfOk-weaker, on_err_weaker, on_ok_weaker}
pub use Rattle.ulfm_base.proofs.Places.{get_or-blank}
pub use Rattle.ulfm_base.specs.Decision.{entry_at, in_entry, is_listed}
pub use Rattle.ulfm_report_laws.proofs.Flowing.{AreFlowing, gone_stopped, listed_own}
pub use Rattle.ulfm_report_laws.proofs.Given.{done_given, dones_differ, found_given, gives_once, over_true}
pub use Rattle.ulfm_report_laws.specs.Causes.{GoneHaveStopped, RevokedByARank, is_call_to_revoke}
pub use Rattle.ulfm_report_laws.specs.Flow.{Flow, Flows}
pub use Rattle.ulfm_log.proofs.Firsts.{some_from}
pub use Rattle.ulfm_log.proofs.Logs.{owed_by_few, owes-logged, stopped-push, took-push}
pub use Rattle.ulfm_rank.proofs.Quiet.{Own, calm-same, calm-took, out_other, quiet-same}
pub use Rattle.ulfm_script.proofs.Decisions.{advance-decided, decision_adds, quiet-decided, ready-decided}
pub use Rattle.ulfm_script.proofs.Progress.{next-free, next_open}
pub use Rattle.ulfm_answer.specs.declared.answer.StepAnswer.TheVariants.{Refused, Skipped, Unfinished}
pub use Rattle.ulfm_script.specs.inside.SoFar.{AnswersFollowSoFar, IsUndecided}
pub use Rattle.ulfm_world.specs.declared.event.Outcome.TheVariants.{Answered, NotYet}
