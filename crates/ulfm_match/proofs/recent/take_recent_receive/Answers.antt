use Rattle.std.proofs.Common.{ℕ, arith}
use Rattle.std.specs.VecDeque.{deque_len}
use Rattle.ulfm_match.proofs.Common.{Pattern, Admits}
use Rattle.ulfm_match.proofs.First.{taken, removed_shorter}
use Rattle.ulfm_match.proofs.recent.take_recent_receive.Goals as goal

pub returns-in-Some-clause-taken : goal.returns-in-Some-clause-taken
returns-in-Some-clause-taken c =
    taken (λ (y : ℕ × Pattern). Admits y.1 c.args.envelope.now) c.args.recent.now.items c.remove.new.self.items c.in-Some.k c.remove.result c.in-Some.ensures
    (c.remove.ensures.variant.1 (let l = c.in-Some.ensures.within in omega (arith, l, c.args.recent.now.ok.0))) c.remove.ensures.value c.remove.ensures.items

pub returns-in-Some-clause-shorter : goal.returns-in-Some-clause-shorter
returns-in-Some-clause-shorter c = removed_shorter c.remove.result (λ v. deque_len v) _ _ c.remove.ensures.len c.remove.ensures.unchanged
