use Rattle.std.proofs.Common.{◌∙◌, refl, sym}
use Rattle.ulfm_tests.proofs.Lone.{lone}
use Rattle.ulfm_tests.proofs.board.lone_verdict.Goals as goal

pub returns-in-Some : goal.returns-in-Some
returns-in-Some c =
    rw c.in-Some.is at (lone _ _ refl (λ round is. absurd (cc)) refl c.new-2.result c.new-2.ensures c.proposed.result (λ r knows entries group entered. c.proposed.ensures r knows entries (group ∙ sym c.in_ok-world.ensures.ok.2) entered))
