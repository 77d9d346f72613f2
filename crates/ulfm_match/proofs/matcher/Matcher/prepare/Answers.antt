use Rattle.ulfm_match.proofs.matcher.Matcher.prepare.Goals as goal

pub invariant_of-self-in_err-prepare_receive : goal.invariant_of-self-in_err-prepare_receive
invariant_of-self-in_err-prepare_receive c = record {
  of_waiting = c.prepare_receive.ensures.pool _ c.self.invariant.of_waiting;
  of_kept = c.self.invariant.of_kept;
  room = λ r. absurd (let f = c.if-self.false in cc);
}
