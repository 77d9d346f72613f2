use Rattle.std.proofs.Common.{◌≡◌, length}
use Rattle.ulfm_carrier.proofs.Heard.{AllHear}
use Rattle.ulfm_carrier.proofs.emptying.gather_one.Given as goal

abbrev pub invariant-loop-from : goal.invariant-loop-from
invariant-loop-from g l = record {
  many : length l.ends.items ≡ length l.fn.ends.items;
  heard : AllHear l.fn.ends.items l.place l.from l.from l.ends.items;
}
