use Rattle.std.proofs.Common.{List, Vec, refl, subst}
use Rattle.std.specs.declared.alloc.Global.{Global}
use Rattle.ulfm_job.specs.declared.clause.Clause.{Clause}
use Rattle.ulfm_reader.specs.JobText.{rows_of}
use Rattle.ulfm_command_line.specs.Stopped.{Asked}
use Rattle.ulfm_outcomes_spec.specs.Outcomes.{IsList}
use Rattle.ulfm_reach.specs.declared.reach.Reach.TheVariants.{All, More}
use Rattle.ulfm_outcomes_reply.specs.Wanted.{AreRuledOut}
use Rattle.ulfm_outcomes_reply.proofs.place_lists.list_place.Goals as goal

pub returns-in-All : goal.returns-in-All
returns-in-All g c = record {
  reached = c.in-All.reached;
  whole = subst (λ (a : Asked). IsList a.job c.args.search.now.options.limit (All c.in-All.reached)) c.in_ok-made.ensures (subst (IsList c.in_ok-made.made.job c.args.search.now.options.limit) c.in-All.is c.in_ok-reach.ensures.list);
  at = refl;
  states = c.len.ensures.count;
  found = refl;
  out = λ is. subst (λ (a : Asked). AreRuledOut a.job a.rows) c.in_ok-made.ensures (subst (λ (rows : List (Vec Clause Global)). AreRuledOut c.in_ok-made.made.job (rows_of rows)) c.as_slice.ensures.value (c.in_ok-reach.ensures.out is));
}

pub returns : goal.returns
returns g c = subst (λ (a : Asked). IsList a.job c.args.search.now.options.limit More) c.in_ok-made.ensures (subst (IsList c.in_ok-made.made.job c.args.search.now.options.limit) c.in-More.is c.in_ok-reach.ensures.list)
