-- The names that most proofs of laws cite, passed on from one place. Declares nothing.
pub use Rattle.ulfm_base.specs.Items.{items_from}
pub use Rattle.ulfm_base.specs.Lists.{at}
pub use Rattle.ulfm_base.specs.declared.context.Context.{Context}
pub use Rattle.ulfm_base.specs.declared.decision.Decision.{Decision}
pub use Rattle.ulfm_base.specs.declared.envelope.Letter.{Letter}
pub use Rattle.ulfm_base.specs.declared.item.Item.{Item}
pub use Rattle.ulfm_base.specs.declared.item.Item.TheVariants.{Gone}
pub use Rattle.ulfm_base.specs.declared.pattern.Pattern.{Pattern}
pub use Rattle.ulfm_base.specs.declared.rank.WorldRank.{WorldRank}
pub use Rattle.ulfm_base.specs.declared.tag.Tag.{Tag}
pub use Rattle.ulfm_match.specs.History.{MatchEvent, count_before, History, Post, PostAt, Clear, Come, ComeAt, End, IsWellFormed}
pub use Rattle.ulfm_base.specs.declared.request_id.RequestId.{RequestId}
pub use Rattle.ulfm_rank.specs.Checks.{group_at}
pub use Rattle.ulfm_log.specs.Communicators.{members_of, group_of}
pub use Rattle.ulfm_log.specs.Facts.{is_revoked, is_stopped, IsSigned, is_gone, is_gone_item, is_released, item_revokes, releases, revokes, took, took_by}
pub use Rattle.ulfm_rank.specs.History.{history_of, events_by, end_at, ends_from, names_gone}
pub use Rattle.ulfm_log.specs.State.{State, logged, outbox, owes}
pub use Rattle.ulfm_log.specs.declared.entry.Entry.{Entry}
pub use Rattle.ulfm_log.specs.declared.entry.TestAnswer.{TestAnswer}
pub use Rattle.ulfm_log.specs.declared.entry.Status.{Status}
pub use Rattle.ulfm_log.specs.declared.message.MessageId.{MessageId}
pub use Rattle.ulfm_script.specs.Calls.{AnswersProbe, AnswersStep, Cancels, LeavesOpen, Receives, Tests, comm_of, message_at, message_in, message_of, request_at, request_in, request_of}
pub use Rattle.ulfm_script.specs.Player.{step_report, Player, StaysOpen}
pub use Rattle.ulfm_answer.specs.Report.{Report}
pub use Rattle.ulfm_answer.specs.declared.answer.StepAnswer.{StepAnswer}
pub use Rattle.ulfm_answer.specs.declared.answer.StepAnswer.TheVariants.{Sent, Done, Over, Posted, Found, Cancelled, Refused, Shrunk, Agreed, Unfinished, Skipped}
pub use Rattle.ulfm_answer.specs.declared.answer.StepReport.{StepReport}
pub use Rattle.ulfm_job.specs.declared.step.Step.{Step}
pub use Rattle.ulfm_job.specs.declared.step.Step.TheVariants.{Send, Recv, Wait, Probe, Mrecv, Cancel, Shrink, Agree}
pub use Rattle.ulfm_report_laws.specs.Flow.{Inboxes, Flow, Flows, IsBeginning, inbox_of}
pub use Rattle.ulfm_report_laws.specs.Reports.{report_at, HasStopped, IsRunning, no_report}
pub use Rattle.ulfm_report_laws.specs.Rest.{IsAtRest}
pub use Rattle.std.proofs.lemmas.Bool.{cases_Bool, cases_eq, cond-false, cond-true, eq-eqb, eqb-true, false≢true, ne_eqb, not-false, or_cases, or_left, or_parts, or_right}
pub use Rattle.std.proofs.lemmas.List.Elements.{All-cons, All-get_or, All-head, All-nil, All-push, All-tail, All-take, All-weaker}
pub use Rattle.std.proofs.lemmas.List.Folds.{list_any-append}
pub use Rattle.std.proofs.lemmas.Option.{get_or_from_slice_get, none-some, same_Some, slice_get-get_or, slice_get_within}
pub use Rattle.std.specs.List.{flat_map, list_any}
pub use Rattle.ulfm_base.proofs.Places.{there}
pub use Rattle.ulfm_base.specs.Group.{is_member}
pub use Rattle.ulfm_base.specs.Pattern.{Admits, names}
pub use Rattle.ulfm_base.specs.declared.error.CallError.TheVariants.{OutOfMemory, ProcFailed, Revoked, Truncated}
pub use Rattle.ulfm_report_laws.specs.Contents.{Content, come_in, content, is_rank, letters_come, letters_sent, sent_by, sent_in}
pub use Rattle.ulfm_report_laws.specs.Reader.{AllHasCome, AsksRightly, ComeAsSent, DoneIsGiven, DonesDiffer, FoundIsGiven, GivesOnce, HasOnePairing, IsFaithful, IsCut, IsGiven, IsNamed, IsPostedBy, IsSentBy, IsStep, IsTold, MayAskFor, PostsAs, asks_of, room_of, LettersKeepOrder, NoneIsMissed, OverIsTrue, ReceivesKeepOrder, closes, history_at}
pub use Rattle.ulfm_match.proofs.Decide.{compared, lt_or_ge}
pub use Rattle.ulfm_match.proofs.Histories.{count_below, count_front, count_rises, same_number}
pub use Rattle.ulfm_base.proofs.Longer.{get_cases, get_here}
pub use Rattle.ulfm_match.proofs.Unique.{one_pairing, same_letter, same_pattern}
pub use Rattle.ulfm_log.proofs.Gather.{any-push, gathered_all}
pub use Rattle.ulfm_rank.proofs.Histories.{history-push}
pub use Rattle.ulfm_log.proofs.Grouped.{group_stays, members_found}
pub use Rattle.ulfm_rank.proofs.Signed.{all_front, all_last, from_signed, owed_signed}
pub use Rattle.ulfm_rank.specs.Calls.{IsFrom, IsSourceOf, Posts, Sends}
pub use Rattle.ulfm_log.specs.Owed.{is_addressed, owed, owed_by, passed_on}
pub use Rattle.ulfm_script.specs.Deciding.{AnswersAdoption, AnswersDecision, IsDecided, Known}
pub use Rattle.std.proofs.lemmas.Grind.{flat_map-append}
pub use Rattle.std.specs.Prelude.{All, if◌then◌else◌, nat_eq, not, slice_get, ⊤, ◌&&◌, ◌==◌}
pub use Rattle.ulfm_base.proofs.Numbers.{same_context, same_rank}
pub use Rattle.ulfm_base.specs.declared.contribution.Contribution.{Contribution}
pub use Rattle.ulfm_base.specs.declared.entrance.Entrance.{Entrance}
pub use Rattle.ulfm_base.specs.declared.topic.Topic.{Topic}
pub use Rattle.ulfm_base.specs.Topic.{is_topic, shrink_topic}
pub use Rattle.ulfm_base.proofs.Topics.{topics_equal}
pub use Rattle.ulfm_report_laws.specs.Decisions.{AdoptOne, AdoptOwn, AllEntered, EnterOnce, EntersEachOnce, HasOneGroup, IsOwn, ProposesEach}
pub use Rattle.ulfm_match.proofs.Cut.{get_front, get_in_front}
pub use Rattle.ulfm_match.proofs.Exists.{some_pairing}
pub use Rattle.ulfm_log.proofs.Belonging.{EntersOnce, Keeps, keeps-push, keeps-start, same_numbers}
pub use Rattle.ulfm_log.proofs.Entering.{Fits, own_set}
pub use Rattle.ulfm_log.proofs.Firsts.{first_set, heard-took, or_else_first, or_none, set-append, some_from}
pub use Rattle.ulfm_rank.proofs.Formed.{HasNoPost, PostsNone, formed-logged, formed-posted, formed-probed, none-events, none-nil, none-one}
pub use Rattle.ulfm_rank.proofs.Refusals.{all_pass}
pub use Rattle.ulfm_log.specs.Log.{first_given}
pub use Rattle.ulfm_script.proofs.Kept.{IsGranted, each_logged, keeps_of, signed_of}
pub use Rattle.ulfm_script.specs.Answered.{AnswersFollow, IsTook, StoodAt}
