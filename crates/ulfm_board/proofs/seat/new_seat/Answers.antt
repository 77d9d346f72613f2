use Rattle.std.proofs.Common.{◌∙◌, ap}
use Rattle.ulfm_board.specs.inside.Trail.{known_of, names_of}
use Rattle.ulfm_board.proofs.Listed.{none_known}
use Rattle.ulfm_board.proofs.seat.new_seat.Goals as goal

pub returns-clause-nothing_known : goal.returns-clause-nothing_known
returns-clause-nothing_known c = ap known_of c.in_ok-trail.ensures ∙ none_known (names_of c.as_slice.result.now)
