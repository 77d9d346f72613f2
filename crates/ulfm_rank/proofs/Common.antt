-- The names that most proofs of ranks cite, passed on from one place. Declares nothing.
pub use Rattle.ulfm_base.specs.Context.{nth_dup, nth_shrink}
pub use Rattle.ulfm_base.specs.Topic.{agreement_topic, is_agreement, is_round_on, is_topic, round_of, shrink_topic, topic_on}
pub use Rattle.ulfm_base.specs.declared.topic.Topic.{Topic}
pub use Rattle.ulfm_base.specs.declared.topic.Purpose.{Purpose}
pub use Rattle.ulfm_base.specs.declared.topic.Purpose.TheVariants.{Shrink, Agree}
pub use Rattle.ulfm_base.specs.declared.contribution.Contribution.{Contribution}
pub use Rattle.ulfm_base.specs.declared.entrance.Entrance.{Entrance}
pub use Rattle.ulfm_base.specs.Group.{is_member, numbers_from, including, intersection, one_further, rank_in}
pub use Rattle.ulfm_base.specs.RankSet.{has}
pub use Rattle.ulfm_base.specs.declared.context.Context.{Context}
pub use Rattle.ulfm_base.specs.declared.decision.Decision.{Decision}
pub use Rattle.ulfm_base.specs.declared.envelope.Letter.{Letter}
pub use Rattle.ulfm_base.specs.declared.item.Item.{Item}
pub use Rattle.ulfm_base.specs.declared.item.Item.TheVariants.{Gone}
pub use Rattle.ulfm_base.specs.declared.pattern.Pattern.{Pattern}
pub use Rattle.ulfm_base.specs.declared.rank.WorldRank.{WorldRank}
pub use Rattle.ulfm_match.specs.History.{MatchEvent, Clear, count_before, Come, Post, PostAt, End, IsWellFormed, StandsBetween, counts_as}
pub use Rattle.ulfm_match.specs.Pairing.{Pairing, LawfulPairing, IsKept, IsWaiting, Pairs, pairs_below}
pub use Rattle.ulfm_rank.specs.Answer.{IsRequest, IsNoRequest, Got, IsAnswerBy, IsOpenReceive, IsOver, IsReceived, IsTestAnswer, IsUnpaired, StandsFirst, is_release, pends}
pub use Rattle.ulfm_rank.specs.Checks.{group_at}
pub use Rattle.ulfm_log.specs.Communicators.{decided_comm, find_group, group_of, members_of, or_empty, comms_of, copy_of, made_by}
pub use Rattle.ulfm_log.specs.Facts.{is_stopped, is_revoked, is_gone, is_stop, is_released, is_probed, probes, took, took_by}
pub use Rattle.ulfm_rank.specs.inside.Fields.{HasFaults, names_known, pends_by, was_revoked_in}
pub use Rattle.ulfm_log.specs.Communicators.{CommunicatorsView, HasCommunicators, HasSame, dups_by, dups_of}
pub use Rattle.ulfm_log.specs.Entrances.{HasEntries}
pub use Rattle.ulfm_rank.specs.History.{history_of, events_by, end_at, end_numbered, ends_from, ends_of, item_events, names_gone, post_events}
pub use Rattle.ulfm_rank.specs.inside.Rank.{state_of, Follows, Holds, stop_places}
pub use Rattle.ulfm_log.specs.Log.{or_else, first_given}
pub use Rattle.ulfm_log.specs.Outboxes.{Box, for_each, AllGrow, Boxes, HasOutboxes, box_at, empty_box, mark_of, with_first_out, with_item_back, with_notice_out}
pub use Rattle.ulfm_log.specs.Facts.{Knows, IsSigned, acknowledged_by, acknowledged_from, acknowledged_of, is_gone, is_released, is_revoked, is_stop, is_stopped, item_revokes, known_of, newly_known, releases, revoked_before, revokes, tells_gone, took, took_by}
pub use Rattle.ulfm_log.specs.Owed.{owed, owed_by, passed_on, announced, is_addressed, owed_by_item}
pub use Rattle.ulfm_log.specs.Proposal.{brought_to, has_entered, is_foreign, adopts, agreements, deciders, enters_agreement, enters_round, entry_of, has_adopted, heard_of, listed_of, rounds_of, shrinks}
pub use Rattle.ulfm_log.specs.State.{RankView, GoesOut, has_way_back, IsState, MayReturn, Mark, State, logged, mark_at, marked, no_mark, notice, outbox, owes, returned, taken_out, unmarked, went_out, with_marks}
pub use Rattle.ulfm_rank.specs.Standing.{IsOfGroup, Became, IsInStep, IsSourceIn, IsStanding, IsTable, is_found}
pub use Rattle.ulfm_rank.specs.inside.Answers.{GivesAnswer, HasSender, IsDelivered}
pub use Rattle.ulfm_log.specs.declared.entry.Entry.{Entry}
pub use Rattle.ulfm_log.specs.declared.entry.Entry.TheVariants.{Took, Revoked, Entered, Adopted, Duplicated, Posted, Probed, Received, Cancelled, Sent, Released, Acknowledged, Stopped}
pub use Rattle.ulfm_log.specs.declared.entry.TestAnswer.{TestAnswer}
pub use Rattle.ulfm_rank.specs.declared.request.Fate.{Fate}
pub use Rattle.ulfm_rank.specs.declared.request.Fate.TheVariants.{Paired, Found, Cleared, Failed, Waiting}
pub use Rattle.ulfm_rank.specs.declared.request.Request.{Request}
pub use Rattle.indexmap.specs.IndexMap.{get, index_map_len, set_value_at}
pub use Rattle.std.proofs.Math.Bool.{or-false}
pub use Rattle.std.proofs.lemmas.Bool.{and_parts, cases_eq, cases_lt, eq-eqb, eqb-false, eqb-true, false_from_ne_true, false≢true, ne_eqb, not-false, or_left, or_parts, or_right}
pub use Rattle.std.proofs.lemmas.Bool.Decides.{nat_tests}
pub use Rattle.std.proofs.lemmas.List.Elements.{All-append, All-drop, All-filter, All-head, All-nil, All-push, Contains-append_cases, Contains-append_left, Contains-append_right, Contains-push}
pub use Rattle.std.proofs.lemmas.List.Folds.{list_any-append}
pub use Rattle.std.proofs.lemmas.Option.{IfSome_then, get_or_from_slice_get, none-some, same_Some, slice_get_within}
pub use Rattle.std.specs.List.{list_any}
pub use Rattle.std.specs.Map.{lookup}
pub use Rattle.std.specs.Option.{is_some, option_map}
pub use Rattle.ulfm_base.specs.Pattern.{AdmitsSource, is_any, names}
pub use Rattle.ulfm_match.proofs.Extend.{letter_within, receive_within}
pub use Rattle.ulfm_match.proofs.Histories.{count_below, count_front, count_old, count_rises, same_number, stands_back}
pub use Rattle.ulfm_base.proofs.Longer.{get_cases, get_here, get_new, get_old, length_more}
pub use Rattle.ulfm_match.proofs.Unique.{one_pairing, same_letter, same_pattern}
pub use Rattle.ulfm_match.specs.State.{IsUncleared, Lists, Matching, Tracks, is_cleared}
pub use Rattle.ulfm_rank.specs.Fates.{fate_of, is_waiting, over_context, over_named}
pub use Rattle.ulfm_rank.specs.inside.Requests.{Adds, Changes, Removes, TracksAdmit, TracksItem, TracksRevocation, changed}
pub use Rattle.std.proofs.Math.ListN.{get_or-map}
pub use Rattle.ulfm_base.specs.declared.error.CallError.{CallError}
pub use Rattle.ulfm_base.specs.declared.pattern.Source.{Source}
pub use Rattle.ulfm_base.specs.declared.pattern.Source.TheVariants.{Any, One}
pub use Rattle.ulfm_fault.specs.Facts.{FaultState, KnowsSame, acknowledged_in, has_unacked, is_revoked_in}
pub use Rattle.ulfm_match.proofs.Cut.{cut, get_front, get_in_front, inside_back, inside_to}
pub use Rattle.ulfm_match.specs.Calls.{EndsNamed, TracksEnd}
pub use Rattle.ulfm_base.specs.declared.request_id.RequestId.{RequestId}
pub use Rattle.ulfm_log.specs.declared.message.MessageId.{MessageId}
pub use Rattle.ulfm_rank.specs.Messages.{FindsNone, IsMessage, IsMessageAnswer, IsNoMessage, TellsOf, WouldGet, WouldWait, is_receipt, with_room}
pub use Rattle.ulfm_rank.specs.Calls.{IsFrom, IsReceive}
pub use Rattle.ulfm_rank.specs.Paired.{IsPaired}
pub use Rattle.ulfm_log.specs.declared.entry.TestAnswer.TheVariants.{Done, NotYet, Over, Pending}
