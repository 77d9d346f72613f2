-- The reports of each world that a schedule leads to are true of its ranks' logs.
use Rattle.std.proofs.Common.{ℕ, ◌≤◌, List, sym, subst}
use Rattle.ulfm_world.proofs.Common.{Report, at, World, start_world, Reaches, reports_in, IsAtRest, AllHasCome, gone_stopped, GoneHaveStopped, Room, PerInbox}
use Rattle.ulfm_report_laws.proofs.Arrivals.{all_come}
use Rattle.ulfm_report_laws.proofs.Finding.{AreHonest}
use Rattle.ulfm_report_laws.proofs.Honest.{IsHonest}
use Rattle.ulfm_report_laws.proofs.Lawful.{honest_reports}
use Rattle.ulfm_world.specs.Each.{InEachWorld, InEachReplay}
use Rattle.ulfm_world.proofs.Honesty.{true-reached}
use Rattle.ulfm_world.proofs.Read.{each_report, flowing-world, rest-world, world-reached}

module _ (n : ℕ) (room : Room) (w : World) (small : n ≤ 8) (h : Reaches (start_world n room) w) where
  honest : (r : ℕ) (told : Report) → at (reports_in w) r told → IsHonest told.rank.ranks told.rank.log told.steps
  honest = each_report (λ r told. IsHonest told.rank.ranks told.rank.log told.steps) w (true-reached n room w small h)

  are_honest : AreHonest (reports_in w)
  are_honest = honest_reports (flowing-world (world-reached n room w small h)) honest

  -- at rest all has come
  pub rest_come : IsAtRest w → AllHasCome (reports_in w)
  rest_come rest = all_come w.inboxes (reports_in w) (flowing-world (world-reached n room w small h)) honest (rest-world rest)

-- what holds of all reports that are true of their logs holds of those of each world that a schedule leads to
pub in_world : (P : List Report → Type 0) → ((reports : List Report) → AreHonest reports → P reports) → InEachWorld P
in_world P law n room w small h = law (reports_in w) (are_honest n room w small h)

-- what holds of the reports of each world that a schedule leads to holds of those of each replay
pub of_replay : (P : List Report → Type 0) → InEachWorld P → InEachReplay P
of_replay P law j reports job h = subst P (sym h.reported) (law j.ranks (PerInbox j.capacity) h.world job.few_ranks h.reaches)

pub in_replay : (P : List Report → Type 0) → ((reports : List Report) → AreHonest reports → P reports) → InEachReplay P
in_replay P law = of_replay P (in_world P law)

-- who is known to have failed has stopped
pub gone_has_stopped : InEachWorld GoneHaveStopped
gone_has_stopped n room w small h = gone_stopped (flowing-world (world-reached n room w small h))

pub rest_world : (n : ℕ) (room : Room) (w : World) → n ≤ 8 → Reaches (start_world n room) w → IsAtRest w → AllHasCome (reports_in w)
rest_world n room w small h rest = rest_come n room w small h rest

pub rest_replay : InEachReplay AllHasCome
rest_replay j reports job h = subst (λ (rs : List Report). AllHasCome rs) (sym h.reported) (rest_world j.ranks (PerInbox j.capacity) h.world job.few_ranks h.reaches h.rests)
