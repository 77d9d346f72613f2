use Rattle.std.proofs.Common.{◌≡◌, ◌<◌, ℕ, map}
use Rattle.ulfm_run.proofs.Common.{AgreeAt}
use Rattle.ulfm_run.proofs.comparing.compare_earlier.Given as goal

abbrev pub invariant-loop-first : goal.invariant-loop-first
invariant-loop-first g l = record {
  boards : map g.D.Decider.board l.deciders ≡ map g.D.Decider.board l.initial.deciders;
  known : map g.D.Decider.known l.deciders ≡ map g.D.Decider.known l.initial.deciders;
  agree : (i : ℕ) → i < l.first → AgreeAt (map g.D.Decider.known l.initial.deciders) i l.fn.second;
}
