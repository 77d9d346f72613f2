use Rattle.std.proofs.Common.{◌+◌, ap, ◌∙◌}
use Rattle.std.proofs.lemmas.Result.{err_from_is_err_and}
use Rattle.ulfm_reader.proofs.Steps.{goes_on, ends, is_done}
use Rattle.ulfm_reader.specs.inside.Reading.{draft_view}
use Rattle.ulfm_reader.proofs.reading.draft_of.Goals as goal

pub returns-in_err-read-clause-exact : goal.returns-in_err-read-clause-exact
returns-in_err-read-clause-exact c =
    let p = err_from_is_err_and c.from_residual-in_err-read.result c.from_residual-in_err-read.ensures.1 in
    rw (p.1, p.2) (λ no_memory. ends c.args.ranks c.loop-line.line-index (draft_view c.loop-line.draft) c.args.lines.now _ _ c.loop-line-test.true c.line-item.is _ (c.in_err-read.ensures.exact no_memory) c.loop-line.invariant.0)

pub loop-line-preserved : goal.loop-line-preserved
loop-line-preserved c = (
  goes_on c.args.ranks c.loop-line.line-index (draft_view c.loop-line.draft) c.args.lines.now _ _ c.loop-line-test.true c.line-item.is _ c.in_ok-read.ensures.exact c.loop-line.invariant.0,
  c.in_ok-read.ensures.each,
  c.in_ok-read.ensures.counted ∙ ap (λ n. n + 1) c.loop-line.invariant.2,
)

pub returns-clause-exact : goal.returns-clause-exact
returns-clause-exact c = is_done c.args.ranks c.loop-line.line-index (draft_view c.loop-line.draft) c.args.lines.now _ c.loop-line-test.false c.loop-line.invariant.0
