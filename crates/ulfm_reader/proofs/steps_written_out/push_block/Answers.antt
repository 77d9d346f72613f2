use Rattle.std.proofs.Common.{◌≤◌, length, map, arith}
use Rattle.std.proofs.lemmas.Result.{err_from_is_err_and}
use Rattle.ulfm_reader.proofs.WrittenOut.{view}
use Rattle.ulfm_reader.proofs.Iterations.{block-longer}
use Rattle.ulfm_reader.specs.Blocks.{block_view, lines_of_block}
use Rattle.ulfm_reader.specs.Shared.{shared_out}
use Rattle.ulfm_reader.proofs.steps_written_out.push_block.Goals as goal

pub returns-in_err-shared-clause-many : goal.returns-in_err-shared-clause-many
returns-in_err-shared-clause-many c =
    let p = err_from_is_err_and c.from_residual.result c.from_residual.ensures.1 in
    let longer : length (shared_out c.args.ranks (map view c.args.block.steps.now)) ≤ length (lines_of_block c.args.ranks c.args.place (block_view c.args.block)) = block-longer c.args.ranks c.args.place (block_view c.args.block) c.requires.times in
    rw (p.1, p.2) (λ is. omega (arith, c.in_err-shared.ensures.many is, longer))
