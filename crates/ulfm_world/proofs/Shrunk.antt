-- What every world keeps of decisions.
use Rattle.std.proofs.Common.{◌≡◌, ℕ, ◌∙◌}
use Rattle.ulfm_report_laws.proofs.OneGroup.{one_group}
use Rattle.ulfm_report_laws.proofs.Proposing.{proposes_each}
use Rattle.ulfm_world.proofs.Common.{World, IsReached, reports_in, IsWorld, IsAtRest, HasOneGroup, ProposesEach}
use Rattle.ulfm_world.specs.Safe.{KeepsDecisions}
use Rattle.ulfm_world.proofs.Agreed.{Settled, adopt-one, all_keep}
use Rattle.ulfm_world.proofs.Decided.{settles-safely, starves-alone}
use Rattle.ulfm_world.proofs.Kept.{world_of}
use Rattle.ulfm_world.proofs.Read.{each_report, flowing-world, rest-world}
use Rattle.ulfm_world.proofs.Safe.{settled-reached, enters-once, decides-safely, adopts-held}

pub has-one_group : {n : ℕ} (w : World) → Settled n w → IsWorld w → HasOneGroup (reports_in w)
has-one_group {n} w settled h = one_group (reports_in w) (adopt-one settled) (each_report (λ r told. told.rank.ranks ≡ n) w (λ r i. h.counted r i ∙ settled.size))

pub proposes-each : {n : ℕ} (w : World) → IsWorld w → Settled n w → IsAtRest w → ProposesEach (reports_in w)
proposes-each {n} w h settled rest = proposes_each w.inboxes (reports_in w) (flowing-world h) (adopt-one settled) (all_keep n w settled) (rest-world rest)

settled_of : {w : World} (h : IsReached w) → Settled h.ranks w
settled_of {w} h = settled-reached h.ranks h.room w h.few h.schedule

pub keeps-decisions : {w : World} → IsReached w → KeepsDecisions w
keeps-decisions {w} h = record {
  entered = enters-once h.ranks w (settled_of h);
  decided = decides-safely h.ranks w (settled_of h);
  settled = settles-safely w (world_of h) (settled_of h);
  adopted = adopts-held h.ranks w (settled_of h);
  starved = starves-alone w (world_of h) (settled_of h);
  one_decision = adopt-one (settled_of h);
  one_group = has-one_group w (settled_of h) (world_of h);
}

pub all-proposed : {w : World} → IsReached w → IsAtRest w → ProposesEach (reports_in w)
all-proposed {w} h = proposes-each w (world_of h) (settled_of h)
