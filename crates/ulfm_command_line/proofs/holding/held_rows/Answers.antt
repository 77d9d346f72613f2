use Rattle.std.proofs.Common.{◌≡◌, Vec, Global, ap, arith, length, map, sym, ◌∙◌}
use Rattle.std.proofs.lemmas.List.{length-map}
use Rattle.std.proofs.lemmas.List.FromFn.{map-range_with_len_more}
use Rattle.std.specs.List.{range_with_len}
use Rattle.ulfm_job.specs.declared.clause.Clause.{Clause}
use Rattle.ulfm_reader.proofs.Claims.{rows_of-push}
use Rattle.ulfm_reader.specs.JobText.{rows_of}
use Rattle.ulfm_command_line.specs.Holding.{held_row}
use Rattle.ulfm_command_line.specs.Stopped.{asked_view}
use Rattle.ulfm_command_line.proofs.holding.held_rows.Goals as goal

pub loop-number-preserved : goal.loop-number-preserved
loop-number-preserved c =
    let row = held_row (asked_view c.args.read.now) c.args.stops.now in
    let n = c.loop-number.number in
    ap rows_of c.in_ok-push.ensures.items ∙ rows_of-push c.loop-number.rows.items _ ∙ rw (c.in_ok-held_row.ensures, c.loop-number.invariant) (sym (map-range_with_len_more row 0 n n (omega arith)))

pub returns : goal.returns
returns c =
    let row = held_row (asked_view c.args.read.now) c.args.stops.now in
    let end : c.loop-number.number ≡ length (rows_of c.args.read.now.never.items) = omega (arith, c.loop-number.auto.number-end, c.len-number-end.ensures, length-map c.args.read.now.never.items (λ (r : Vec Clause Global). r.items)) in
    c.loop-number.invariant ∙ ap (λ n. map row (range_with_len 0 n)) end
