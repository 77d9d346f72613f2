-- The names that most proofs of logs cite, passed on from one place. Declares nothing.
pub use Rattle.ulfm_base.specs.Context.{child_of, nth_dup, nth_shrink}
pub use Rattle.ulfm_base.proofs.Children.{dups_alone, shrinks_alone, dup_not_shrink, child_not_world}
pub use Rattle.ulfm_base.specs.Topic.{HasShrink, agreement_topic, is_agreement, is_contribution, is_of_kind, is_round_on, is_topic, round_of, topic_on}
pub use Rattle.ulfm_base.specs.declared.topic.Topic.{Topic}
pub use Rattle.ulfm_base.specs.declared.topic.Purpose.{Purpose}
pub use Rattle.ulfm_base.specs.declared.topic.Purpose.TheVariants.{Agree, Shrink}
pub use Rattle.ulfm_base.specs.declared.contribution.Contribution.{Contribution}
pub use Rattle.ulfm_base.specs.declared.entrance.Entrance.{Entrance}
pub use Rattle.ulfm_base.proofs.Topics.{topic_passes, topics_equal}
pub use Rattle.ulfm_base.specs.Decision.{entry_at, in_entry, is_listed}
pub use Rattle.ulfm_base.specs.Group.{excluding, is_member, numbers_from}
pub use Rattle.ulfm_base.specs.RankSet.{IsSubset, has}
pub use Rattle.ulfm_base.specs.declared.context.Context.{Context}
pub use Rattle.ulfm_base.specs.declared.decision.Decision.{Decision}
pub use Rattle.ulfm_base.specs.declared.envelope.Letter.{Letter}
pub use Rattle.ulfm_base.specs.declared.item.Item.{Item}
pub use Rattle.ulfm_base.specs.declared.item.Item.TheVariants.{Gone}
pub use Rattle.ulfm_base.specs.declared.rank.WorldRank.{WorldRank}
pub use Rattle.ulfm_base.specs.declared.rank_set.RankSet.{RankSet}
pub use Rattle.ulfm_log.specs.Communicators.{comms_of, copy_of, decided_comm, find_group, group_of, is_made, made_by, members_of, or_empty}
pub use Rattle.ulfm_log.specs.Facts.{Knows, is_gone, is_gone_item, is_revoked, is_stop, is_stopped, item_revokes, revokes, tells_gone, took, took_by}
pub use Rattle.ulfm_log.specs.inside.Made.{by_number}
pub use Rattle.ulfm_log.specs.Communicators.{AreOfWorld, HasCommunicators}
pub use Rattle.ulfm_log.specs.Entrances.{HasEntries, given_by, told_of}
pub use Rattle.ulfm_log.specs.Log.{first_given, or_else}
pub use Rattle.ulfm_log.specs.Outboxes.{AllGrow, Box, Boxes, Grows, HasOutboxes, Slot, box_at, contents_of, empty_box, for_each, has_room, is_lent, item_of_word, mark_of, with_first_out, with_item, with_item_back, with_notice_out}
pub use Rattle.ulfm_log.specs.Owed.{announced, is_addressed, owed, owed_by, passed_on}
pub use Rattle.ulfm_log.specs.Proposal.{IsOwnAffair, IsProposal, adopts, agreements, brought_to, contradicts, deciders, differ, enters_agreement, enters_round, entry_of, has_adopted, has_entered, has_proposal, heard_of, is_foreign, is_out, item_entry, listed_of, rounds_of, shrinks}
pub use Rattle.ulfm_log.specs.State.{GoesOut, IsState, Mark, State, logged, mark_at, marked, no_mark, outbox, owes, returned, taken_out, went_out, with_marks}
pub use Rattle.ulfm_log.specs.declared.entry.Entry.{Entry}
pub use Rattle.ulfm_log.specs.declared.entry.Entry.TheVariants.{Adopted, Duplicated, Entered, Revoked, Sent, Took}
pub use Rattle.std.proofs.Math.Bool.{or-false}
pub use Rattle.std.proofs.lemmas.Bool.{cases_Bool, cases_eq, cases_lt, cond-true, eq-eqb, eqb-false, eqb-true, false_from_ne_true, false≢true, ne_eqb, not-false, not_from_true, or_cases, or_from, or_left, or_parts, or_right}
pub use Rattle.std.proofs.lemmas.Bool.Decides.{nat_tests}
pub use Rattle.std.proofs.lemmas.List.Elements.{All-append, All-pop}
pub use Rattle.std.proofs.lemmas.List.Folds.{list_all-map, list_all_at, list_any-append, list_any_at}
pub use Rattle.std.proofs.lemmas.Option.{IfSome_then, cond_some, get_or_from_slice_get, none-some, same_Some, slice_get-get_or, slice_get_within}
pub use Rattle.std.specs.List.{list_all, list_any}
pub use Rattle.std.specs.Option.{is_some}
pub use Rattle.ulfm_base.proofs.Longer.{get_cases}
pub use Rattle.std.proofs.Math.ListN.{get_or-map}
