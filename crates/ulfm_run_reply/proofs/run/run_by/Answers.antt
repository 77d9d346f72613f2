use Rattle.std.proofs.Common.{map, sym}
use Rattle.ulfm_board.specs.declared.seat.Seat.{Seat}
use Rattle.ulfm_board.specs.inside.Trail.{known_of}
use Rattle.ulfm_run_reply.proofs.Failing.{shown}
use Rattle.ulfm_run_reply.proofs.Left.{own_left}
use Rattle.ulfm_run_reply.proofs.run.run_by.Goals as goal

pub fitting-requires : goal.fitting-requires
fitting-requires g c = record {
  lawful = (map (λ (s : Seat). known_of s.trail) c.in-Ok-run_job.report.deciders.items, c.in-Ok-run_job.ensures.lawful);
  own = own_left c.in-Ok-run_job.ensures.sizes.0 c.in-Ok-run_job.ensures.sizes.1 c.in-Ok-run_job.ensures.residue;
}

pub returns-in-Some-clause-shown : goal.returns-in-Some-clause-shown
returns-in-Some-clause-shown g c = shown c.args.job.now c.in-Err-run_job.fault c.in-Some.failure c.in-Err-run_job.ensures.untrue (sym c.in-Some.ensures)
