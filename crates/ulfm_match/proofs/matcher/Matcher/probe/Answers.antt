use Rattle.std.proofs.Common.{refl, subst, sym}
use Rattle.ulfm_match.proofs.Common.{Tracks, all_of}
use Rattle.ulfm_match.proofs.Probed.{probe_takes, probe_misses}
use Rattle.ulfm_match.proofs.Pooled.{higher_pool}
use Rattle.ulfm_match.proofs.matcher.Matcher.probe.Goals as goal

pub invariant_of-self-2 : goal.invariant_of-self-2
invariant_of-self-2 c = record {
  of_waiting = higher_pool c.self.invariant.of_waiting;
  of_kept = higher_pool (c.take_letter.ensures.pool _ c.self.invariant.of_kept);
  room = λ r. let m = c.self.invariant.room r in (m.0, c.take_letter.ensures.place m.1);
}

pub returns-clause-tracks : goal.returns-clause-tracks
returns-clause-tracks c h r t =
    let x = c.in_ok-letter.ensures.taken in
    probe_takes h r _ c.args.pattern.now (subst (Tracks h r) (sym c.self.view_is) t) ((t.remains.cleared _).0 c.requires.open) (all_of c.take_letter.new.pool) (x.0, c.in_ok-letter.letter) x.1
    _ refl refl refl refl

pub returns-in_err-letter-clause-tracks : goal.returns-in_err-letter-clause-tracks
returns-in_err-letter-clause-tracks c h r t =
    rw c.from_residual.ensures
    (probe_misses h r _ c.args.pattern.now (subst (Tracks h r) (sym c.self.view_is) t) c.in_err-letter.ensures.taken)
