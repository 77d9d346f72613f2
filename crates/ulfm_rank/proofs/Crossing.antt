-- A rank may go to another thread.
use denote.Param.Send.{IsSend, sendable}
use Rattle.std.proofs.Crossing.{crosses}
use Rattle.ulfm_fault.proofs.faults.Faults.TheSendSync as faults
use Rattle.ulfm_log.proofs.communicators.Communicators.TheSendSync as communicators
use Rattle.ulfm_log.proofs.outboxes.Outboxes.TheSendSync as outboxes
use Rattle.ulfm_log.proofs.rounds.Rounds.TheSendSync as rounds
use Rattle.ulfm_match.proofs.matcher.Matcher.TheSendSync as matcher
use Rattle.ulfm_log.specs.contracts.held_decision.Block as block
use Rattle.ulfm_log.specs.contracts.held_decision.HeldDecision as held
use Rattle.ulfm_log.specs.contracts.entry.Entry as entry
use Rattle.ulfm_rank.specs.contracts.rank.Rank as rank
use Rattle.ulfm_rank.specs.contracts.request.Request as request
use Rattle.ulfm_log.specs.contracts.row.Row as row

held_send : IsSend held.the_row
held_send = search (sendable, crosses) depth 60 fits 20000

block_send : IsSend block.the_row
block_send = search (sendable, crosses) depth 60 fits 20000

row_send : IsSend row.the_row
row_send = search (sendable, crosses) depth 60 fits 20000

entry_send : IsSend entry.the_row
entry_send = search (held_send, sendable, crosses) depth 60 fits 20000

request_send : IsSend request.the_row
request_send = search (sendable, crosses) depth 60 fits 20000

pub rank_send : IsSend rank.the_row
rank_send = search (entry_send, row_send, block_send, request_send, matcher.the_send, faults.the_send, communicators.the_send, outboxes.the_send, rounds.the_send, sendable, crosses) depth 100 fits 20000
