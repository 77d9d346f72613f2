use Rattle.std.proofs.Common.{Vec, subst, sym, ◌<◌, ◌+◌, ◌∙◌, ap, length, arith}
use Rattle.std.proofs.lemmas.List.{length-map}
use Rattle.std.specs.declared.alloc.Global.{Global}
use Rattle.ulfm_job.specs.declared.clause.Clause.{Clause}
use Rattle.ulfm_reader.specs.JobText.{rows_of}
use Rattle.ulfm_outcomes_reply.specs.inside.Looking.{IsFirstRow, IsUnfoundOf, is_row_found}
use Rattle.std.specs.Option.{option_or}
use Rattle.ulfm_outcomes_reply.proofs.Judged.{row_here}
use Rattle.ulfm_outcomes_reply.proofs.Looked.{ruled_at}
use Rattle.ulfm_outcomes_reply.proofs.RowsFound.{row-found, row-passed, rows-end}
use Rattle.ulfm_outcomes_reply.proofs.never_rows.first_row.Goals as goal

pub look_for_row-requires-clause-out : goal.look_for_row-requires-clause-out
look_for_row-requires-clause-out g c = λ is.
    let row = c.as_slice.result.now in
    let here = row_here c.args.rows.now c.loop-number.number c.index-rows-number.result row c.loop-number-test.true c.index-rows-number.is c.as_slice.ensures.value in
    ruled_at c.args.job.now (rows_of c.args.rows.now) c.loop-number.number row here (c.requires.out is)

pub returns-then-is_found : goal.returns-then-is_found
returns-then-is_found g c =
    let row = c.as_slice.result.now in
    let rows = rows_of c.args.rows.now in
    let options = c.args.search.now.options in
    let here = row_here c.args.rows.now c.loop-number.number c.index-rows-number.result row c.loop-number-test.true c.index-rows-number.is c.as_slice.ensures.value in
    let inside : c.loop-number.number < length rows = omega (arith, c.loop-number-test.true, length-map c.args.rows.now (λ (r : Vec Clause Global). r.items)) in
    subst (IsFirstRow c.args.job.now rows options.is_brief options.limit) (sym c.numbered-told.ensures)
    (row-found c.args.job.now rows options.is_brief options.limit c.loop-number.number row inside here c.loop-number.unknown c.in_ok-look.look c.loop-number.invariant c.in_ok-look.ensures
    (ap is_row_found (sym c.numbered-told.ensures) ∙ sym c.is_found.ensures ∙ c.if-is_found.true))

pub loop-number-preserved : goal.loop-number-preserved
loop-number-preserved g c =
    let row = c.as_slice.result.now in
    let rows = rows_of c.args.rows.now in
    let options = c.args.search.now.options in
    let here = row_here c.args.rows.now c.loop-number.number c.index-rows-number.result row c.loop-number-test.true c.index-rows-number.is c.as_slice.ensures.value in
    let inside : c.loop-number.number < length rows = omega (arith, c.loop-number-test.true, length-map c.args.rows.now (λ (r : Vec Clause Global). r.items)) in
    subst (IsUnfoundOf c.args.job.now rows options.is_brief options.limit (c.loop-number.number + 1)) (sym (c.earlier-unknown.ensures ∙ ap (option_or c.loop-number.unknown) c.numbered-told.ensures))
    (row-passed c.args.job.now rows options.is_brief options.limit c.loop-number.number row inside here c.loop-number.unknown c.in_ok-look.look c.loop-number.invariant c.in_ok-look.ensures
    (ap is_row_found (sym c.numbered-told.ensures) ∙ sym c.is_found.ensures ∙ c.if-is_found.false))

pub returns : goal.returns
returns g c =
    let options = c.args.search.now.options in
    rows-end c.args.job.now (rows_of c.args.rows.now) options.is_brief options.limit c.loop-number.number c.loop-number.unknown (omega (arith, c.loop-number-test.false, length-map c.args.rows.now (λ (r : Vec Clause Global). r.items))) c.loop-number.invariant
