use Rattle.std.proofs.Common.{◌≡◌, [], drop}
use Rattle.ulfm_reader.proofs.Common.{items_view}
use Rattle.ulfm_reader.specs.Never.{rows_onto}
use Rattle.ulfm_reader.specs.JobText.{rows_of}
use Rattle.ulfm_reader.specs.inside.Reading.{draft_view}
use Rattle.ulfm_reader.proofs.rows.rows_of.Given as goal

abbrev pub invariant-loop-value : goal.invariant-loop-value
invariant-loop-value l =
    rows_onto (draft_view l.draft).scripts l.draft.names.items (rows_of l.rows.items) (items_view (drop l.value-index l.values))
    ≡ rows_onto (draft_view l.draft).scripts l.draft.names.items [] (items_view l.values)
