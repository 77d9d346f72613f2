use Rattle.std.proofs.Common.{◌≡◌}
use Rattle.ulfm_rank.proofs.Common.{over_context}
use Rattle.ulfm_rank.proofs.Mapped.{changed_below}
use Rattle.ulfm_rank.proofs.requests.fail_context.Given as goal

abbrev pub invariant-loop-i : goal.invariant-loop-i
invariant-loop-i l = l.requests.entries ≡ changed_below (over_context l.context.number) l.i l.fn.requests.entries
