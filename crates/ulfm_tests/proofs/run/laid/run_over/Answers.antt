use Rattle.std.proofs.Common.{ap, ◌∙◌, sym, map, subst}
use Rattle.ulfm_tests.specs.declared.run.laid.Laid.{Laid}
use Rattle.ulfm_run.proofs.Mapped.{map_of_map, fresh_over}
use Rattle.ulfm_tests.proofs.run.laid.run_over.Goals as goal

pub run_job-requires-clause-one_call : goal.run_job-requires-clause-one_call
run_job-requires-clause-one_call g c κs within =
    let inner = λ (e : Laid g.row.E.Denot g.row.H.Denot). e.inner in
    λ placed. subst g.E.Ends.one_call (ap (map g.E.Ends.name) (sym c.in-Some.ensures) ∙ map_of_map g.E.Ends.name inner c.in-Some.ends.items) c.requires.one_call

pub run_job-requires-clause-fresh : goal.run_job-requires-clause-fresh
run_job-requires-clause-fresh g c κs within =
    let inner = λ (e : Laid g.row.E.Denot g.row.H.Denot). e.inner in
    fresh_over inner g.E.Ends.count g.E.Ends.pushed g.E.Ends.taken g.E.Ends.ready c.in-Some.ends.items c.in-Some.ensures c.requires.fresh
