use Rattle.std.proofs.Common.{◌≡◌, ℕ, map, vec_len}
use Rattle.ulfm_base.specs.Lists.{at}
use Rattle.ulfm_tests.proofs.carrier.acts.first_other.Given as goal

abbrev pub invariant-loop-place : goal.invariant-loop-place
invariant-loop-place g l = record {
  family : g.E.Ends.one_call (map g.E.Ends.name l.ends.items);
  ready : (k : ℕ) (e : _) → at l.ends.items k e → g.E.Ends.ready e × (g.E.Ends.count e ≡ vec_len l.ends);
}
