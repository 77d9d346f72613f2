-- What holds of the fields of a rank, and what contracts see of them.
use Rattle.std.specs.Prelude.{◌≡◌, MatchOption, ℕ, Bool, ◌≤◌, ◌<◌, ◌^◌, ◌+◌, List, map, Option, nat_eq, nat_lt, ◌&&◌, if◌then◌else◌, length, vec_len, vec_capacity}
use Rattle.ulfm_log.specs.Decisive.{IsTold}
use Rattle.ulfm_base.specs.declared.context.Context.{Context}
use Rattle.ulfm_base.specs.declared.context.TheConstants.{PAST_CONTEXTS}
use Rattle.indexmap.specs.IndexMap.{get, index_map_len, spare}
use Rattle.ulfm_fault.specs.Facts.{FaultState}
use Rattle.ulfm_match.specs.State.{Matching}
use Rattle.ulfm_log.specs.declared.entry.Entry.{Entry}
use Rattle.ulfm_rank.specs.declared.request.Request.{Request}
use Rattle.ulfm_rank.specs.declared.rank.Rank.TheInside.{Inside}
use Rattle.ulfm_rank.specs.inside.Fields.{HasFaults}
use Rattle.ulfm_log.specs.Communicators.{CommunicatorsView, HasCommunicators}
use Rattle.ulfm_log.specs.Facts.{is_stopped}
use Rattle.ulfm_log.specs.Outboxes.{Box, mark_of, HasOutboxes}
use Rattle.ulfm_log.specs.State.{State, RankView}
use Rattle.ulfm_rank.specs.Standing.{IsInStep}

-- the context is that of this number, or there is none since the number is past the last one
abbrev pub HasNumber : Option Context → ℕ → Type 0
HasNumber child number = MatchOption child (PAST_CONTEXTS ≤ number) (λ (context : Context). context.number ≡ number)

-- how many places of the log are kept for the stop
abbrev pub stop_places : Bool → ℕ
stop_places stopped = if stopped then 0 else 1

-- the parts of the rank `me` of n are what its log tells
pub record Follows (n me : ℕ) (log : List Entry) (stopped : Bool) (matcher : Matching) (find : ℕ → Option Request) (facts : FaultState) (comms : CommunicatorsView) (boxes : List Box) : Type 0 where
  pub small : n ≤ 8
  pub halted : stopped ≡ is_stopped log
  pub in_step : IsInStep n log matcher find
  pub faults : HasFaults log facts
  pub communicators : HasCommunicators n log comms
  pub outboxes : HasOutboxes n me log boxes

-- besides, the log has a place for the release of each request, and one
-- for the stop
pub record Holds (a : Inside) : Type 0 where
  pub follows : Follows a.ranks a.me.number a.log.items a.stopped a.matcher (get nat_eq a.requests) a.faults a.communicators a.outboxes.boxes
  pub tells : IsTold a.log.items a.told.items a.rounds
  pub countable : a.log.capacity < 2 ^ 63
  pub places : length a.log.items + (index_map_len a.requests + stop_places a.stopped) ≤ a.log.capacity

-- the state that the fields of a rank are seen as
abbrev pub state_of : Inside → State
state_of a = record { me = a.me.number; ranks = a.ranks; log = a.log.items; marks = map mark_of a.outboxes.boxes; keeps = a.log.keeps }

-- there is room for a post, an arrival or a clear, for one more entry and the release of one more request, in each outbox,
-- for one more row, for a decision, for an acknowledgement or a revocation, for an entrance, and for a communicator
abbrev pub is_prepared : Inside → Bool
is_prepared a = a.matcher.prepared && (nat_lt (length a.log.items + (index_map_len a.requests + stop_places a.stopped) + 1) (a.log.capacity) && (a.outboxes.room && (nat_lt (vec_len a.told) (vec_capacity a.told) && (a.block && (a.faults.room && (a.rounds.room && a.communicators.room))))))

-- the table of requests has a place for one more
abbrev pub has_place : Inside → Bool
has_place a = nat_lt (index_map_len a.requests) (index_map_len a.requests + spare a.requests)

-- what contracts see of the fields of a rank
abbrev pub view_of : Inside → RankView
view_of a = record { state = state_of a; prepared = is_prepared a; has_place = has_place a; lent = a.outboxes.lent }
