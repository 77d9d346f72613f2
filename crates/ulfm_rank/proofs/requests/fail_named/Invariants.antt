use Rattle.std.proofs.Common.{◌≡◌}
use Rattle.ulfm_rank.proofs.Common.{over_named}
use Rattle.ulfm_rank.proofs.Mapped.{changed_below}
use Rattle.ulfm_rank.proofs.requests.fail_named.Given as goal

abbrev pub invariant-loop-i : goal.invariant-loop-i
invariant-loop-i l = l.requests.entries ≡ changed_below (over_named l.rank.number) l.i l.fn.requests.entries
