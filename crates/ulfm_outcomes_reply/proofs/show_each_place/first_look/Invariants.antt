use Rattle.std.proofs.Common.{All, take}
use Rattle.ulfm_outcomes_reply.specs.ShowEach.{IsNowhereAt}
use Rattle.ulfm_outcomes_reply.proofs.show_each_place.first_look.Given as goal

abbrev pub invariant-loop-place : goal.invariant-loop-place
invariant-loop-place g l = All (IsNowhereAt l.job l.answers) (take l.place-index l.places)
