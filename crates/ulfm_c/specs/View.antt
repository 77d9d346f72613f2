-- What contracts see of a process.
use Rattle.std.specs.Prelude.{ℕ, Bool, List, Option, vec_len}
use Rattle.ulfm_board.specs.Known.{Known}
use Rattle.ulfm_carrier.specs.declared.lane_ends.LaneEnds.{LaneEnds}
use Rattle.ulfm_carrier.specs.Lanes.{IsReady, lane_pushed, lane_taken}
use Rattle.ulfm_rank.specs.Joined.{IsJoined}
use Rattle.ulfm_log.specs.State.{State}

-- The state of its rank, its end of the carrier, the names of the cells of its board, and the decisions that its seat knows.
pub record ProcessView : Type 0 where
  pub rank : State
  pub end : LaneEnds
  pub board : Option (List ℕ)
  pub known : Known

-- A process, and whether its rank has room for one item or one call, of which 'unchanged' doesn't speak.
pub record ReadyView : Type 0 where
  pub view : ProcessView
  pub ready : Bool

-- The end pushed what left the outboxes of the rank, and took what the rank took.
abbrev pub IsAtEnd : State → LaneEnds → Type 0
IsAtEnd rank end = IsJoined (λ (e : LaneEnds). e.me.number) (λ (e : LaneEnds). vec_len e.outs) lane_pushed lane_taken IsReady rank end

-- the process with another state of its rank
abbrev pub with_rank : ProcessView → State → ProcessView
with_rank p rank = record { rank = rank; end = p.end; board = p.board; known = p.known }
