use Rattle.std.proofs.Common.{◌≡◌, ◌+◌, ◌≤◌, ◌++◌, vec_len, vec_capacity, All}
use Rattle.ulfm_run.proofs.Common.{begun_ends, begun_deciders, IsOfJob, EachFresh, into_iter_items, into_iter_len}
use Rattle.ulfm_run.proofs.threads.start_all.Given as goal

abbrev pub invariant-loop-end : goal.invariant-loop-end
invariant-loop-end g l = record {
  room : vec_len l.handles + into_iter_len l.end-iterator ≤ vec_capacity l.handles;
  enough : into_iter_len l.end-iterator ≤ into_iter_len l.deciders;
  ends : begun_ends l.handles.items ++ into_iter_items l.end-iterator ≡ l.fn.ends.items;
  deciders : begun_deciders l.handles.items ++ into_iter_items l.deciders ≡ l.fn.deciders.items;
  fresh : EachFresh g.E.Ends.count g.E.Ends.pushed g.E.Ends.taken g.E.Ends.ready l.shared.job.now.ranks (into_iter_items l.end-iterator);
  jobs : All (IsOfJob l.shared.job.now) l.handles.items;
}
