use Rattle.std.proofs.Common.{◌-◌, ◌<◌, map, arith}
use Rattle.std.proofs.lemmas.List.{length-map}
use Rattle.std.proofs.lemmas.Result.{err_from_is_err_and}
use Rattle.ulfm_reader.proofs.WrittenOut.{line_view, view}
use Rattle.ulfm_reader.proofs.Iterations.{iterations-done, iterations-longer, iterations-on, same_lengths}
use Rattle.ulfm_reader.specs.Iterations.{iterations}
use Rattle.ulfm_reader.proofs.steps_written_out.push_iterations.Goals as goal

pub loop-i-preserved : goal.loop-i-preserved
loop-i-preserved c =
    let lines = c.loop-i.lines.items in
    let block = map view c.args.block.now in (
      iterations-on c.args.place c.loop-i.i c.args.times block (map line_view lines) _ _ c.loop-i-test.true c.in_ok-push_iteration.ensures.exact c.loop-i.invariant.0,
      c.in_ok-push_iteration.ensures.few,
      omega (arith, c.in_ok-push_iteration.ensures.more, c.loop-i.invariant.2),
      λ _. omega (arith, c.in_ok-push_iteration.ensures.more, c.loop-i.invariant.2),
    )

pub returns-clause-exact : goal.returns-clause-exact
returns-clause-exact c = iterations-done c.args.place c.loop-i.i c.args.times (map view c.args.block.now) (map line_view c.loop-i.lines.items) _ c.loop-i-test.false c.loop-i.invariant.0

pub returns-in_err-push_iteration-clause-many : goal.returns-in_err-push_iteration-clause-many
returns-in_err-push_iteration-clause-many c =
    let p = err_from_is_err_and c.from_residual.result c.from_residual.ensures.1 in
    let block = map view c.args.block.now in
    let left : 0 < c.args.times - c.loop-i.i = omega (arith, c.loop-i-test.true) in
    rw (p.1, p.2) (λ is. omega (
      arith,
      c.in_err-push_iteration.ensures.many is,
      same_lengths c.args.place c.loop-i.lines.items c.args.lines.now.items (iterations block c.loop-i.i (c.args.times - c.loop-i.i)) (iterations block 0 c.args.times) c.loop-i.invariant.0,
      iterations-longer block c.loop-i.i (c.args.times - c.loop-i.i) left,
      length-map c.args.block.now view,
    ))
