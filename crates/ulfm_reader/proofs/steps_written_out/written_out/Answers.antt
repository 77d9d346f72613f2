use Rattle.std.proofs.Common.{map, arith}
use Rattle.std.proofs.lemmas.Result.{err_from_is_err_and}
use Rattle.ulfm_reader.proofs.WrittenOut.{view}
use Rattle.ulfm_reader.proofs.Items.{length-guarded_from}
use Rattle.ulfm_reader.specs.Lines.{lines_of}
use Rattle.ulfm_reader.proofs.steps_written_out.written_out.Goals as goal

pub returns-in_err-lines-clause-many : goal.returns-in_err-lines-clause-many
returns-in_err-lines-clause-many c =
    let p = err_from_is_err_and c.from_residual.result c.from_residual.ensures.1 in
    let items = map view c.args.items.now in
    let lines = lines_of c.args.ranks items in
    rw (p.1, p.2) (λ is. omega (arith, c.in_err-lines.ensures.many is, length-guarded_from items lines 0 lines))
