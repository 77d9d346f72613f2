use Rattle.std.proofs.Common.{◌≡◌, vec_len}
use Rattle.ulfm_carrier.proofs.Common.{AreWired}
use Rattle.ulfm_carrier.proofs.wiring.connect.Given as goal

abbrev pub invariant-loop-dest : goal.invariant-loop-dest
invariant-loop-dest l = record {
  len : vec_len l.ends ≡ vec_len l.fn.ends;
  wired : AreWired (vec_len l.fn.ends) l.capacity l.source.number l.dest l.ends.items;
}
