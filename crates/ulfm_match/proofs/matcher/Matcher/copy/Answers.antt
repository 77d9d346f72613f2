use Rattle.ulfm_match.proofs.Pooled.{copied_pool}
use Rattle.ulfm_match.proofs.matcher.Matcher.copy.Goals as goal

pub invariant_of-result : goal.invariant_of-result
invariant_of-result c = record {
  of_waiting = copied_pool c.self.invariant.of_waiting _ c.in_ok-copy_pool.ensures;
  of_kept = copied_pool c.self.invariant.of_kept _ c.in_ok-copy_pool-2.ensures;
  room = λ r. cc;
}
