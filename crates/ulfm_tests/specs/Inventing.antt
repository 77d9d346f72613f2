-- What is known of the decision on one topic.
use Rattle.std.specs.Prelude.{ℕ, [], ◌∷◌, Option, None, Some}
use Rattle.ulfm_base.specs.declared.decision.Decision.{Decision}
use Rattle.ulfm_board.specs.Known.{Known}

-- the decision on the topic of this number, if it is known
abbrev pub known_by : ℕ → Option Decision → Known
known_by number None = []
known_by number (Some d) = (number, d) ∷ []
