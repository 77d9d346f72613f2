-- The reports of the ranks of a world, and the flow between them.
use Rattle.std.proofs.Common.{◌≡◌, ℕ, ◌<◌, ◌≤◌, ◌++◌, length, sym, ap, ◌∙◌, subst, arith, Some}
use Rattle.ulfm_world.proofs.Common.{items_from, at, outbox, Report, World, player_at, rank_at, inbox_at, no_player, report_of, reports_in, start_world, Reaches, IsWorld, IsAtRest, get_or_from_slice_get, slice_get-get_or, slice_get_within, took, get_or-map, length-map, AreFlowing, Flow, Flows, Room}
use Rattle.ulfm_report_laws.specs.Reports.{report_at, no_report}
use Rattle.ulfm_report_laws.specs.Rest.{IsAtRest as IsRest}
use Rattle.ulfm_report_laws.proofs.Outgoing.{flow_of}
use Rattle.ulfm_world.proofs.Runs.{keeps-reaches}
use Rattle.ulfm_world.proofs.Starts.{world-start}

pub many_reports : (w : World) → length (reports_in w) ≡ length w.players
many_reports w = length-map w.players report_of

pub report-read : (w : World) (r : ℕ) → r < length w.players → report_at (reports_in w) r ≡ report_of (player_at w r)
report-read w r inside = get_or-map report_of w.players r no_player no_report inside

-- the report of each rank stands in its place
pub report_there : (w : World) (r : ℕ) → r < length w.players → at (reports_in w) r (report_of (player_at w r))
report_there w r inside = slice_get-get_or (reports_in w) r no_report (omega (arith, inside, many_reports w)) ∙ ap Some (report-read w r inside)

pub report_inside : (w : World) (r : ℕ) {told : Report} → at (reports_in w) r told → r < length w.players
report_inside w r {told} here = omega (arith, slice_get_within (reports_in w) r told here, many_reports w)

-- and no other stands there
pub report_is : (w : World) (r : ℕ) {told : Report} → at (reports_in w) r told → told ≡ report_of (player_at w r)
report_is w r {told} here = sym (get_or_from_slice_get (reports_in w) r told no_report here) ∙ report-read w r (report_inside w r here)

-- what holds of each rank's report holds of each report
pub each_report : (P : ℕ → Report → Type 0) (w : World) → ((r : ℕ) → r < length w.players → P r (report_of (player_at w r))) → (r : ℕ) (told : Report) → at (reports_in w) r told → P r told
each_report P w h r told here = subst (P r) (sym (report_is w r here)) (h r (report_inside w r here))

pub flowing-world : {w : World} → IsWorld w → AreFlowing w.inboxes (reports_in w)
flowing-world {w} h = record {
  order = each_report (λ r told. told.rank.me ≡ r) w h.named;
  counted = each_report (λ r told. told.rank.ranks ≡ length (reports_in w)) w (λ r i. h.counted r i ∙ sym (many_reports w));
  flow = λ s d sender receiver p q.
      let i = report_inside w s p in
      let j = report_inside w d q in
      let out : Flow (rank_at w s) s d (took (rank_at w d).log s ++ items_from s (inbox_at w d)) =
      flow_of s d (h.sound s i) (h.named s i) (omega (arith, h.counted s i, j)) (h.passed_on s d i j) in
      rw (report_is w s p, report_is w d q) out;
}

pub flows-world : (w : World) → IsWorld w → Flows w.inboxes (reports_in w)
flows-world w h = (flowing-world h).flow

-- every world that a schedule leads to is one
pub world-reached : (n : ℕ) (room : Room) (w : World) → n ≤ 8 → Reaches (start_world n room) w → IsWorld w
world-reached n room w small h = keeps-reaches w (world-start n room small) h

-- the reports of a world at rest are at rest
pub rest-world : {w : World} → IsAtRest w → IsRest w.inboxes (reports_in w)
rest-world {w} rest d told here running =
    let j = report_inside w d here in
    let served = rest.served d j (rw (report_is w d here) at running) in
    record {
      inbox = served.inbox;
      outboxes = λ s sender p low. ap (λ (r : Report). outbox r.rank d) (report_is w s p) ∙ served.outboxes s (report_inside w s p);
    }
