-- What the ranks know at the rest that a replay ends at.
use Rattle.std.proofs.Common.{◌≡◌, ◌<◌, ℕ, List, length, Some, sym, subst}
use Rattle.ulfm_report_laws.specs.Lawful.{LawfulReport}
use Rattle.ulfm_world.proofs.Common.{Report, Decision, Topic, Known, known_at, known_for, IsReached, reports_in, JobView, IsJob, IsReplayed, MadeAtRest, KnowAtRest, knows-stopped, agrees-revoked, PerInbox}
use Rattle.ulfm_world.proofs.Kept.{world_of}
use Rattle.ulfm_world.proofs.Made.{made-safely}
use Rattle.ulfm_world.proofs.Read.{flowing-world, rest-world}
use Rattle.ulfm_world.proofs.Reported.{rest_world}
use Rattle.ulfm_world.proofs.Shrunk.{keeps-decisions, all-proposed}

pub settled_with : {j : JobView} {reports : List Report} → IsJob j → (h : IsReplayed j reports) (knows : List Known)
    → ((r : ℕ) (topic : Topic) (d : Decision) → r < length h.world.players → known_at (known_for knows r) topic ≡ Some d → known_at h.world.decided topic ≡ Some d)
    → LawfulReport j h.world.inboxes knows reports → MadeAtRest j reports
settled_with {j} job h knows held lawful =
    let reached : IsReached h.world = record { ranks = j.ranks; room = PerInbox j.capacity; few = job.few_ranks; schedule = h.reaches } in
    let flowing = flowing-world (world_of reached) in
    record {
      replayed = h;
      knows = knows;
      held = held;
      lawful = lawful;
      known = subst (λ (rs : List Report). KnowAtRest rs) (sym h.reported) (record {
        known = knows-stopped h.world.inboxes (reports_in h.world) flowing (rest-world h.rests);
        agreed = agrees-revoked h.world.inboxes (reports_in h.world) flowing (rest-world h.rests);
        proposed = all-proposed reached h.rests;
        come = rest_world j.ranks (PerInbox j.capacity) h.world job.few_ranks h.reaches h.rests;
      });
      safe = keeps-decisions reached;
      made = made-safely j.ranks (PerInbox j.capacity) h.reaches.0 h.world job.few_ranks h.reaches.1;
    }
