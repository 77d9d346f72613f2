-- What is left of a run is of its job's ranks.
use Rattle.std.proofs.Common.{◌∙◌, ℕ, List, length, ap, arith, inl, inr, Vec, Global}
use Rattle.std.proofs.lemmas.Bool.{cases_lt}
use Rattle.std.proofs.lemmas.List.{length-map}
use Rattle.ulfm_base.specs.declared.item.Item.{Item}
use Rattle.ulfm_base.specs.declared.rank.WorldRank.{WorldRank}
use Rattle.ulfm_base.specs.Items.{items_from}
use Rattle.ulfm_base.proofs.Places.{there}
use Rattle.ulfm_job.specs.Job.{JobView}
use Rattle.ulfm_carrier.specs.Family.{IsGathered}
use Rattle.ulfm_report_laws.specs.Reports.{IsEach}
use Rattle.ulfm_run.specs.Flow.{contents}
use Rattle.ulfm_run.proofs.Handed.{inbox_there}
use Rattle.ulfm_run.proofs.Served.{no_inbox}
use Rattle.ulfm_run_reply.specs.Played.{AreOfRanks}

-- where each rank's end was gathered
pub own_left : {E : Type 0} {pushed taken : E → ℕ → List Item} {job : JobView} {ends : List E} {inboxes : List (Vec (WorldRank × Item) Global)} → IsEach job inboxes → IsEach job ends → IsGathered pushed taken ends inboxes → AreOfRanks job (contents inboxes)
own_left {inboxes} each end_each gathered = record {
  each = length-map inboxes (λ (v : Vec (WorldRank × Item) Global). v.items) ∙ each;
  no_others = λ s d past. elim (cases_lt d (length inboxes)) [
    | inl inside ↦
        let inbox = there inboxes d inside in
        ap (items_from s) (inbox_there inboxes d inbox.1) ∙ gathered.no_others s d inbox.0 inbox.1 (omega (arith, end_each, past))
    | inr outside ↦ ap (items_from s) (no_inbox inboxes d outside)
  ];
}
