use Rattle.std.proofs.Common.{Ok, Err, option_map, ap, sym, ◌∙◌}
use Rattle.ulfm_reader.proofs.Common.{head_view, items_view}
use Rattle.ulfm_reader.specs.JobText.{in_job}
use Rattle.ulfm_reader.specs.Never.{never_out}
use Rattle.ulfm_reader.specs.inside.Reading.{draft_view}
use Rattle.ulfm_reader.proofs.Jobs.{written_read}
use Rattle.ulfm_reader.proofs.reading.rest_of.Goals as goal

pub returns-in-Err : goal.returns-in-Err
returns-in-Err c =
    let h = head_view c.args.head.now in
    λ no_memory. written_read h (draft_view c.args.draft) (Err c.in-Err.fault) (ap (λ lines. in_job (never_out lines h.ranks h.never)) (sym c.requires.lines) ∙ c.in-Err.ensures no_memory)

pub returns : goal.returns
returns c =
    let h = head_view c.args.head.now in
    let written = written_read h (draft_view c.args.draft) (Ok (option_map (λ rows. items_view rows.items) c.in-Ok.never)) (ap (λ lines. in_job (never_out lines h.ranks h.never)) (sym c.requires.lines) ∙ c.in-Ok.ensures) in
    rw (written, ← c.values_of.ensures) c.with_rows.ensures
