-- Who has a proposal where reports are at rest.
use Rattle.std.proofs.Common.{◌≡◌, ◌≢◌, ℕ, true, eqb, List, length, ap, sym, ◌∙◌, inl, inr, Some, is_some, ◌||◌}
use Rattle.ulfm_report_laws.proofs.Common.{at, Topic, Entry, group_at, Report, Inboxes, IsAtRest, cases_Bool, cases_eq, or_left, or_right, ne_eqb, eq-eqb, cond-true, cond-false, took, is_stopped, is_gone, IsRunning, there, owed, is_member, members_found, first_given, some_from, first_set, heard-took, AdoptOne, AllEntered, ProposesEach, Keeps}
use Rattle.ulfm_base.proofs.Among.{all_members}
use Rattle.ulfm_log.specs.Communicators.{group_of, is_made, members_of}
use Rattle.ulfm_log.specs.Proposal.{entry_of, heard_of, has_entered, listed_of, is_out, has_proposal}
use Rattle.ulfm_report_laws.proofs.AtRest.{took_owed, knows-stopped}
use Rattle.ulfm_report_laws.proofs.Flowing.{AreFlowing, same_report, running-not_gone}
use Rattle.ulfm_report_laws.proofs.OneGroup.{same_group}

listed_other : (me : ℕ) (log : List Entry) (c : Topic) (m : ℕ) → m ≢ me → listed_of me log c m ≡ first_given (heard_of c m) log
listed_other me log c m other = cond-false (eqb m me) (first_given (entry_of c) log) (first_given (heard_of c m) log) (ne_eqb m me other)

listed_self : (me : ℕ) (log : List Entry) (c : Topic) (m : ℕ) → m ≡ me → listed_of me log c m ≡ first_given (entry_of c) log
listed_self me log c m same = cond-true (eqb m me) (first_given (entry_of c) log) (first_given (heard_of c m) log) (eq-eqb m me same)

-- what the logs of these ranks keep of topics
abbrev pub AllKeep : List Report → Type 0
AllKeep reports = (r : ℕ) (told : Report) → at reports r told → Keeps (length reports) r told.rank.log

module _ (inboxes : Inboxes) (reports : List Report) (h : AreFlowing inboxes reports) (one : AdoptOne reports) (keeps : AllKeep reports) (rest : IsAtRest inboxes reports) where
  -- what a running rank took from another one is all that this one owes to it
  took_whole : (s d : ℕ) (sender receiver : Report) → at reports s sender → at reports d receiver → IsRunning sender → IsRunning receiver → took receiver.rank.log s ≡ owed (length reports) s sender.rank.log d
  took_whole s d sender receiver p q runs running =
      sym (took_owed inboxes reports h rest s d p q runs running)
      ∙ ap (λ k. owed k sender.rank.me sender.rank.log d) (h.counted s sender p)
      ∙ ap (λ k. owed (length reports) k sender.rank.log d) (h.order s sender p)

  module _ (r : ℕ) (c : Topic) (told : Report) (here : at reports r told) (running : IsRunning told) (group : List ℕ) (made : group_of (length reports) told.rank.log c.context.number ≡ Some group) where
    -- a running member that entered was heard
    heard : (m : ℕ) {member : Report} → at reports m member → is_member group m ≡ true → IsRunning member → has_entered member.rank.log c ≡ true → is_some (listed_of r told.rank.log c m) ≡ true
    heard m {member} at_m inside runs entered = elim (cases_eq m r) [
      | inl same ↦ ap is_some (listed_self r told.rank.log c m same) ∙ ap (λ x. has_entered x.rank.log c) (sym (same_report reports at_m here same)) ∙ entered
      | inr other ↦
          let theirs = some_from (group_of (length reports) member.rank.log c.context.number) ((keeps m member at_m).enters_made c entered) in
          let alike = same_group reports one (length reports) m r c.context.number at_m here theirs.1 made in
          let mine =
          ap (λ g. is_member g r) (members_found (length reports) member.rank.log c.context.number theirs.0 theirs.1 ∙ alike) ∙ ((keeps r told here).belongs c.context.number group made).member in
          ap is_some (listed_other r told.rank.log c m other ∙ heard-took told.rank.log c m ∙ ap (first_set c) (took_whole m r member told at_m here runs running))
          ∙ (keeps m member at_m).owes_each r c entered mine other (running-not_gone h r m here at_m running)
    ]

    -- each member is listed or out
    accounted : AllEntered reports group c → (m : ℕ) → is_member group m ≡ true → (is_some (listed_of r told.rank.log c m) || is_out r group told.rank.log c m) ≡ true
    accounted entered m inside =
        let member = there reports m (((keeps r told here).belongs c.context.number group made).below m inside) in
        elim (cases_Bool (is_stopped member.0.rank.log)) [
          | inl stopped ↦
              let gone = knows-stopped inboxes reports h rest m r member.0 told member.1 here stopped running in
              or_right (is_some (listed_of r told.rank.log c m)) (is_out r group told.rank.log c m) (or_left (is_gone told.rank.log m) _ gone)
          | inr runs ↦ or_left (is_some (listed_of r told.rank.log c m)) (is_out r group told.rank.log c m) (heard m member.1 inside runs (entered m member.0 member.1 inside runs))
        ]

    has_one : AllEntered reports group c → has_proposal r group told.rank.log c ≡ true
    has_one entered = all_members group (λ m. is_some (listed_of r told.rank.log c m) || is_out r group told.rank.log c m) (accounted entered)

  pub proposes_each : ProposesEach reports
  proposes_each r c told here running made entered =
      let log = told.rank.log in let n = length reports in let i = c.context.number in
      let many = h.counted r told here in
      let mine = some_from (group_of n log i) (ap (λ k. is_made k log i) (sym many) ∙ made) in
      let same = ap (λ k. members_of k log i) many ∙ members_found n log i mine.0 mine.1 in
      ap (λ me. has_proposal me (group_at told.rank i) log c) (h.order r told here)
      ∙ ap (λ g. has_proposal r g log c) same
      ∙ has_one r c told here running mine.0 mine.1 (rw same at entered)
