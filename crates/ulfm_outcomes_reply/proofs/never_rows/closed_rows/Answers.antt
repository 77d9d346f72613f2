use Rattle.std.proofs.Common.{rules, ◌≡◌, ◌+◌, ◌<◌, List, [], ◌∷◌, ◌++◌, Vec, length, take, subst, sym, arith, take_all}
use Rattle.std.proofs.lemmas.List.{length-map}
use Rattle.std.specs.declared.alloc.Global.{Global}
use Rattle.ulfm_job.specs.declared.clause.Clause.{Clause}
use Rattle.ulfm_reader.specs.JobText.{rows_of}
use Rattle.ulfm_outcomes_reply.specs.inside.Looking.{AreAmong, IsClosedRow}
use Rattle.ulfm_outcomes_reply.proofs.Judged.{row_here}
use Rattle.ulfm_outcomes_reply.proofs.Looked.{passed_over, put_behind}
use Rattle.ulfm_outcomes_reply.proofs.never_rows.closed_rows.Goals as goal
use Rattle.ulfm_outcomes_reply.proofs.never_rows.closed_rows.Goals.{in-Some+in_ok-push, in_default}

pub loop-row-preserved : goal.loop-row-preserved
loop-row-preserved g c =
    let job = c.args.job.now in
    let rows = rows_of c.args.rows.now in
    let i = c.loop-row.row-index in
    let row = c.as_slice.result.now in
    let before = c.loop-row.closed.items in
    let inside : i < length rows = omega (arith, c.loop-row-test.true, length-map c.args.rows.now (λ (r : Vec Clause Global). r.items)) in
    let here = row_here c.args.rows.now i c.row-item.result row c.loop-row-test.true c.row-item.is c.as_slice.ensures.value in
    elim c.match-branch-2.branch [
      | in-Some+in_ok-push w ↦
          let goals = w.in-Some.goals in
          let are = subst (IsClosedRow job row) w.in-Some.is c.in_ok-goals.ensures in
          let pushed : c.match-branch-2.closed.items ≡ before ++ goals ∷ [] = search rules in
          subst (AreAmong job (take (i + 1) rows)) (sym pushed) (put_behind job rows i row inside here before c.loop-row.invariant goals are)
      | in_default w ↦
          let none = subst (IsClosedRow job row) w.in_default.is c.in_ok-goals.ensures in
          let same : c.match-branch-2.closed.items ≡ before = search rules in
          subst (AreAmong job (take (i + 1) rows)) (sym same) (passed_over job rows i row inside here before c.loop-row.invariant none)
    ]

pub returns : goal.returns
returns g c =
    subst (λ (rows : List (List Clause)). AreAmong c.args.job.now rows c.loop-row.closed.items)
    (take_all c.loop-row.row-index (rows_of c.args.rows.now) (omega (arith, c.loop-row-test.false, length-map c.args.rows.now (λ (r : Vec Clause Global). r.items)))) c.loop-row.invariant
