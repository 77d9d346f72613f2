use Rattle.std.proofs.Common.{◌≡◌, ◌<◌, ℕ, map}
use Rattle.ulfm_run.proofs.Common.{AgreeAt}
use Rattle.ulfm_run.proofs.comparing.compare_all.Given as goal

abbrev pub invariant-loop-second : goal.invariant-loop-second
invariant-loop-second g l = record {
  boards : map g.D.Decider.board l.deciders ≡ map g.D.Decider.board l.initial.deciders;
  known : map g.D.Decider.known l.deciders ≡ map g.D.Decider.known l.initial.deciders;
  agree : (i j : ℕ) → i < j → j < l.second → AgreeAt (map g.D.Decider.known l.initial.deciders) i j;
}
