-- The processes of a world.
use Rattle.std.specs.Prelude.{◌≡◌, ◌<◌, ℕ, false, List, Option, All, length, map}
use Rattle.ulfm_base.specs.Lists.{at}
use Rattle.ulfm_board.specs.Known.{Known, OneBoard, nothing_known}
use Rattle.ulfm_carrier.specs.declared.lane_ends.LaneEnds.{LaneEnds}
use Rattle.ulfm_carrier.specs.Lanes.{OneCall, known_room, lane_name}
use Rattle.ulfm_log.specs.State.{start_state_with}
use Rattle.ulfm_c.specs.View.{ReadyView}

-- the process's end
abbrev pub end_of : ReadyView → LaneEnds
end_of p = p.view.end

-- what its seat is of, and what it knows
abbrev pub seat_of : ReadyView → Option (List ℕ) × Known
seat_of p = (p.view.board, p.view.known)

-- its rank starts, with the number of its end, and keeps no log
abbrev pub StartsAtEnd : ℕ → ReadyView → Type 0
StartsAtEnd n p = p.view.rank ≡ start_state_with false p.view.end.me.number n

-- The n processes of a new world: each starts, with the number of its place. The ring from one to another is one ring at both ends, with so
-- many free places. Each looks first at rank 0. Their seats are those of one board, which know nothing yet.
pub record IsWorld (n capacity : ℕ) (all : List ReadyView) : Type 0 where
  pub count : length all ≡ n
  pub start : (k : ℕ) (p : ReadyView) → at all k p → p.view.rank ≡ start_state_with false k n
  pub one_call : OneCall (map lane_name (map end_of all))
  pub room : (k d : ℕ) (p : ReadyView) → at all k p → d < n → known_room p.view.end d ≡ capacity
  pub first : (k : ℕ) (p : ReadyView) → at all k p → p.view.end.next ≡ 0
  pub one_board : OneBoard (λ (p : ReadyView). p.view.board) all
  pub none_known : All (λ (p : ReadyView). p.view.known ≡ nothing_known) all
