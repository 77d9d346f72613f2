use Rattle.std.proofs.Common.{◌≡◌, ◌+◌, ◌≤◌, ◌++◌, vec_len, vec_capacity, map}
use Rattle.ulfm_run.proofs.Common.{report_in, end_in, decider_in, into_iter_items, into_iter_len}
use Rattle.ulfm_run.proofs.job.parted.Given as goal

abbrev pub invariant-loop-one : goal.invariant-loop-one
invariant-loop-one g l = record {
  room : vec_len l.reports + into_iter_len l.one-iterator ≤ vec_capacity l.reports;
  room_ends : vec_len l.ends + into_iter_len l.one-iterator ≤ vec_capacity l.ends;
  room_deciders : vec_len l.deciders + into_iter_len l.one-iterator ≤ vec_capacity l.deciders;
  reports : l.reports.items ++ map report_in (into_iter_items l.one-iterator) ≡ map report_in l.fn.ran.items;
  ends : l.ends.items ++ map end_in (into_iter_items l.one-iterator) ≡ map end_in l.fn.ran.items;
  deciders : l.deciders.items ++ map decider_in (into_iter_items l.one-iterator) ≡ map decider_in l.fn.ran.items;
}
