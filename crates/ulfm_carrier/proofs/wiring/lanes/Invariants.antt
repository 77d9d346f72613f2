use Rattle.std.proofs.Common.{◌≡◌, vec_len}
use Rattle.ulfm_carrier.proofs.Common.{AreWired}
use Rattle.ulfm_carrier.proofs.wiring.lanes.Given as goal

abbrev pub invariant-loop-source : goal.invariant-loop-source
invariant-loop-source l = record {
  len : vec_len l.ends ≡ l.n;
  wired : AreWired l.n l.capacity l.source 0 l.ends.items;
}
