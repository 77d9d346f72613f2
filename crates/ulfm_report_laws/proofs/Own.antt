-- Each decision that a rank adopted is its own, where its answers are right.
use Rattle.std.proofs.Common.{◌≡◌, ℕ, ap, sym, ◌∙◌, Some}
use lib.Pointwise.{pointwise}
use Rattle.ulfm_report_laws.proofs.Common.{Topic, is_topic, topics_equal, Decision, at, Entry, State, Report, or_parts, not-false, slice_get_within, get_or_from_slice_get, Known, All-nil, All-push, All-get_or, is_member, StoodAt, AnswersFollow, IsGranted, each_logged, IsOwn, ⊤, All, not, nat_eq, same_numbers, all_pass}
use Rattle.ulfm_board.specs.Known.{known_at}
use Rattle.ulfm_log.specs.declared.entry.Entry.TheVariants.{Adopted, Stopped}
use Rattle.ulfm_rank.specs.Checks.{Passes, adopt_checks, group_at}

-- the decision that an entry adopts, if it adopts one, is the rank's own
abbrev pub AdoptsOwn : Known → State → Entry → Type 0
AdoptsOwn known rank (Adopted d) = IsOwn known rank d
AdoptsOwn known rank _ = ⊤

module _ (known : Known) (r : State) where
  -- a decision that no check refuses is the rank's own
  own_adopted : {n : ℕ} (old : State) (topic : Topic) (held : Decision) → StoodAt r n old → known_at known topic ≡ Some held → Passes (adopt_checks old topic held) → IsOwn known r held
  own_adopted {n} old topic held stood knows passes =
      let group = group_at old topic.context.number in
      let first = or_parts (not (is_topic held.topic topic)) _ ((all_pass (adopt_checks old topic held) passes).1.1.1.1.0) in
      let second = or_parts (not (pointwise nat_eq held.old group)) _ first.1 in
      let about = topics_equal held.topic topic (not-false _ first.0) in
      record {
        held = ap (known_at known) about ∙ knows;
        place = n;
        then = old;
        stood = stood;
        group = (same_numbers held.old group).0 (not-false _ second.0) ∙ ap (λ (t : Topic). group_at old t.context.number) (sym about);
        member = ap (is_member held.fresh) (sym stood.me) ∙ not-false _ (or_parts (not (is_member held.fresh old.me)) _ second.1).0;
      }

  granted_own : (e : Entry) → IsGranted known r e → AdoptsOwn known r e
  granted_own (Adopted held) h = own_adopted h.old h.topic held h.stood h.knows h.passes
  granted_own _ h = tt

-- each decision that the rank adopted is its own
adopts_own : (known : Known) (told : Report) → AnswersFollow known told → All (AdoptsOwn known told.rank) told.rank.log
adopts_own known told h = each_logged known told (All (AdoptsOwn known told.rank)) (λ log e may own. All-push (AdoptsOwn known told.rank) log e own (granted_own known told.rank e may.granted)) (All-nil (AdoptsOwn known told.rank)) h

pub own_at : (known : Known) (told : Report) (k : ℕ) (d : Decision) → AnswersFollow known told → at told.rank.log k (Adopted d) → IsOwn known told.rank d
own_at known told k d h here = rw (get_or_from_slice_get told.rank.log k (Adopted d) Stopped here) at (All-get_or (AdoptsOwn known told.rank) told.rank.log k Stopped (slice_get_within told.rank.log k (Adopted d) here) (adopts_own known told h))
