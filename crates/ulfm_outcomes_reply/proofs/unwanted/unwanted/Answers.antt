use Rattle.std.proofs.Common.{None, Some, List, Vec, subst, sym, ◌∙◌}
use Rattle.std.specs.declared.alloc.Global.{Global}
use Rattle.ulfm_job.specs.declared.clause.Clause.{Clause}
use Rattle.ulfm_reader.specs.JobText.{rows_of}
use Rattle.ulfm_outcomes_spec.specs.Unmet.{Judges}
use Rattle.ulfm_command_line.specs.Stopped.{asked_view}
use Rattle.ulfm_outcomes_reply.specs.Wanted.{AreRuledOut}
use Rattle.ulfm_outcomes_reply.specs.inside.Looking.{IsFirstRow}
use Rattle.ulfm_outcomes_reply.proofs.EachPlace.{row_told_as}
use Rattle.ulfm_outcomes_reply.proofs.unwanted.unwanted.Goals as goal

pub unmet_told-requires : goal.unmet_told-requires
unmet_told-requires g c = subst (Judges c.args.asked.now.job) c.in-Some.is (c.first_unmet.ensures.judges _ c.args.search.now.options.limit _ c.requires.list.1)

pub first_row-requires-clause-out : goal.first_row-requires-clause-out
first_row-requires-clause-out g c = λ is. subst (λ (rows : List (Vec Clause Global)). AreRuledOut c.args.asked.now.job (rows_of rows)) (sym c.as_slice-rows.ensures.value) (c.requires.out is)

pub returns-in-Some : goal.returns-in-Some
returns-in-Some g c = c.in_ok-told.ensures c.args.found.now (sym c.first_unmet.ensures.exact ∙ c.in-Some.is)

pub returns-in-Some-2 : goal.returns-in-Some-2
returns-in-Some-2 g c =
    let job = c.args.asked.now.job in
    let options = c.args.search.now.options in
    let meets = subst (Judges job) c.in_default.is (c.first_unmet.ensures.judges _ options.limit _ c.requires.list.1) in
    let of_slice = subst (IsFirstRow job (rows_of c.as_slice-rows.result.now) options.is_brief options.limit) c.in-Some-2.is c.in_ok-first.ensures in
    let first = subst (λ (rows : List (Vec Clause Global)). IsFirstRow job (rows_of rows) options.is_brief options.limit (Some c.in-Some-2.first)) c.as_slice-rows.ensures.value of_slice in
    rw (c.in_ok-told-2.ensures.0, c.in_ok-told-2.ensures.1, c.in_ok-told-2.ensures.2) (row_told_as c.args.search.now.form options c.args.at (asked_view c.args.asked.now) c.args.found.now c.in-Some-2.first meets first)

pub returns : goal.returns
returns g c =
    let job = c.args.asked.now.job in
    let options = c.args.search.now.options in
    let of_slice = subst (IsFirstRow job (rows_of c.as_slice-rows.result.now) options.is_brief options.limit) c.in_default-2.is c.in_ok-first.ensures in
    record {
      meets = subst (Judges job) c.in_default.is (c.first_unmet.ensures.judges _ options.limit _ c.requires.list.1);
      none = subst (λ (rows : List (Vec Clause Global)). IsFirstRow job (rows_of rows) options.is_brief options.limit None) c.as_slice-rows.ensures.value of_slice;
    }
