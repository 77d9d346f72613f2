use Rattle.std.proofs.Common.{◌≤◌, Ok, Err, length, map, refl, ap, sym, ◌∙◌, arith}
use Rattle.std.proofs.lemmas.List.{length-map}
use Rattle.std.proofs.lemmas.Result.{err_from_is_err_and}
use Rattle.ulfm_reader.proofs.Values.{listed-view}
use Rattle.ulfm_reader.specs.Lines.{line_view, written_out}
use Rattle.ulfm_reader.proofs.Common.{head_view}
use Rattle.ulfm_reader.specs.JobText.{blank, lines_of, steps_of}
use Rattle.ulfm_reader.specs.inside.Reading.{draft_view}
use Rattle.ulfm_reader.proofs.Steps.{lines-view}
use Rattle.ulfm_reader.proofs.Jobs.{too_many, steps_read}
use Rattle.ulfm_reader.proofs.reading.reading_of.Goals as goal

pub returns-in-Err-TooMany : goal.returns-in-Err-TooMany
returns-in-Err-TooMany c =
    let h = head_view c.in-Ok.head in
    let same = ap (written_out h.ranks) (listed-view c.in-Ok.head.steps.now) in
    λ _. too_many _ h c.in-Ok.ensures.exact (omega (arith, ap length same, c.in-Err-TooMany.ensures.many c.in-Err-TooMany.field-0-is))

pub returns-in_err-draft : goal.returns-in_err-draft
returns-in_err-draft c =
    let p = err_from_is_err_and c.from_residual.result c.from_residual.ensures.1 in
    let h = head_view c.in-Ok.head in
    let lines = lines-view h c.in-Ok.head.steps.now c.in-Ok-written_out.lines.items refl c.in-Ok-written_out.ensures.exact in
    let few : length (lines_of h) ≤ 256 = omega (arith, ap length lines, length-map c.in-Ok-written_out.lines.items line_view, c.in-Ok-written_out.ensures.few) in
    let here = lines ∙ sym (ap (map line_view) c.as_slice.ensures.value) in
    rw (p.1, p.2) (λ no_memory. steps_read _ h (Err _) c.in-Ok.ensures.exact few (ap (steps_of h.ranks (blank h.ranks)) here ∙ c.in_err-draft.ensures.exact no_memory))

pub returns : goal.returns
returns c =
    let h = head_view c.in-Ok.head in
    let lines = lines-view h c.in-Ok.head.steps.now c.in-Ok-written_out.lines.items refl c.in-Ok-written_out.ensures.exact in
    let few : length (lines_of h) ≤ 256 = omega (arith, ap length lines, length-map c.in-Ok-written_out.lines.items line_view, c.in-Ok-written_out.ensures.few) in
    let here = lines ∙ sym (ap (map line_view) c.as_slice.ensures.value) in
    rw (steps_read _ h (Ok (draft_view c.in_ok-draft.draft)) c.in-Ok.ensures.exact few (ap (steps_of h.ranks (blank h.ranks)) here ∙ c.in_ok-draft.ensures.exact)) c.rest_of.ensures

pub rest_of-requires-clause-lines : goal.rest_of-requires-clause-lines
rest_of-requires-clause-lines c =
    let h = head_view c.in-Ok.head in
    ap (map line_view) c.as_slice-2.ensures.value ∙ sym (lines-view h c.in-Ok.head.steps.now c.in-Ok-written_out.lines.items refl c.in-Ok-written_out.ensures.exact)
