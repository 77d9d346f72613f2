use Rattle.std.proofs.Common.{◌≡◌, List, Ok, Err, option_map, subst}
use Rattle.ulfm_reader.proofs.Common.{Name, head_view, items_view}
use Rattle.ulfm_reader.specs.JobText.{in_job, rows_of}
use Rattle.ulfm_reader.specs.Provisos.{provisos_in}
use Rattle.ulfm_reader.specs.inside.Reading.{draft_view}
use Rattle.ulfm_reader.proofs.Jobs.{provisos_fault, rows_read}
use Rattle.ulfm_reader.proofs.reading.with_rows.Goals as goal

pub returns-in-Err : goal.returns-in-Err
returns-in-Err c =
    let never = option_map (λ s. items_view s.now) c.args.values in
    λ no_memory. provisos_fault (head_view c.args.head.now) never (draft_view c.args.draft) c.in-Err.fault
    (subst (λ (names : List Name). in_job (provisos_in names c.args.draft.provisos.items never) ≡ Err c.in-Err.fault) c.as_slice.ensures.value (c.in-Err.ensures no_memory))

pub returns-in-Err-rows_in : goal.returns-in-Err-rows_in
returns-in-Err-rows_in c =
    let never = option_map (λ s. items_view s.now) c.args.values in
    let provisos = c.push_provisos.new.provisos.items in
    let read = subst (λ (names : List Name). in_job (provisos_in names c.args.draft.provisos.items never) ≡ Ok provisos) c.as_slice.ensures.value c.in-Ok.ensures in
    λ no_memory. rows_read (head_view c.args.head.now) never (draft_view c.args.draft) provisos (Err c.in-Err-rows_in.fault) read (c.in-Err-rows_in.ensures no_memory)

pub returns : goal.returns
returns c =
    let never = option_map (λ s. items_view s.now) c.args.values in
    let provisos = c.push_provisos.new.provisos.items in
    let read = subst (λ (names : List Name). in_job (provisos_in names c.args.draft.provisos.items never) ≡ Ok provisos) c.as_slice.ensures.value c.in-Ok.ensures in
    rw (c.naming-job.ensures, c.new-plain.ensures, c.requires.each) (rows_read (head_view c.args.head.now) never (draft_view c.args.draft) provisos (Ok (rows_of c.in-Ok-rows_in.never.items)) read c.in-Ok-rows_in.ensures)
