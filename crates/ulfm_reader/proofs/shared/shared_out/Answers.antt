use Rattle.std.proofs.Common.{◌≡◌, ◌+◌, ◌++◌, length, map, drop, sym, ap, ◌∙◌, arith, length-append}
use Rattle.std.proofs.lemmas.List.{length-map}
use Rattle.std.proofs.lemmas.Result.{err_from_is_err_and}
use Rattle.ulfm_reader.proofs.Behind.{behind-one, longer}
use Rattle.ulfm_reader.proofs.WrittenOut.{line_view, view}
use Rattle.ulfm_reader.specs.Shared.{step_lines, shared_behind, shared_out}
use Rattle.ulfm_reader.proofs.shared.shared_out.Goals as goal

pub returns-in_err-push_step-clause-many : goal.returns-in_err-push_step-clause-many
returns-in_err-push_step-clause-many c =
    let p = err_from_is_err_and c.from_residual.result c.from_residual.ensures.1 in
    let ranks = c.args.ranks in
    let i = c.loop-place.place in
    let lines = c.loop-place.lines.items in
    let steps = c.args.steps.now in
    let v = c.index-steps-place.result in
    let all : shared_behind ranks (i + 1) (map line_view lines ++ step_lines ranks i (view v)) (map view (drop (i + 1) steps)) ≡ shared_out ranks (map view steps) =
    sym (behind-one ranks i (map line_view lines) steps v c.loop-place-test.true c.index-steps-place.is) ∙ c.loop-place.invariant.0 in
    rw (p.1, p.2) (λ is. omega (
      arith,
      c.in_err-push_step.ensures.many is,
      ap length all,
      longer ranks (i + 1) (map line_view lines ++ step_lines ranks i (view v)) (map view (drop (i + 1) steps)),
      length-append (map line_view lines) (step_lines ranks i (view v)),
      length-map lines line_view,
    ))
