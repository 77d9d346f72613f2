use Rattle.std.proofs.Common.{◌≡◌, [], drop}
use Rattle.ulfm_reader.proofs.Common.{items_view}
use Rattle.ulfm_reader.specs.Never.{claims_onto}
use Rattle.ulfm_reader.specs.inside.Reading.{draft_view}
use Rattle.ulfm_reader.proofs.rows.claims_of.Given as goal

abbrev pub invariant-loop-value : goal.invariant-loop-value
invariant-loop-value l =
    claims_onto (draft_view l.draft).scripts l.draft.names.items l.row.items (items_view (drop l.value-index l.values))
    ≡ claims_onto (draft_view l.draft).scripts l.draft.names.items [] (items_view l.values)
