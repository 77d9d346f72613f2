-- What running ranks know where reports are at rest.
use Rattle.std.proofs.Common.{◌≡◌, ◌≢◌, ℕ, true, List, [], ◌∷◌, ◌++◌, arith, ap, sym, ◌∙◌, inl, inr, append-nil, refl}
use Rattle.ulfm_report_laws.proofs.Common.{Gone, items_from, at, owes, outbox, Report, false≢true, cases_eq, or_right, slice_get_within, took, is_gone_item, is_revoked, item_revokes, is_stopped, Inboxes, Flow, IsRunning, list_any, list_any-append}
use Rattle.ulfm_log.proofs.Told.{gone-took, revoked-took, revoked_told}
use Rattle.ulfm_report_laws.specs.Rest.{IsAtRest, KnowsStopped, AgreesOnRevoked}
use Rattle.ulfm_report_laws.proofs.Flowing.{AreFlowing, same_report, running-not_gone}

module _ (inboxes : Inboxes) (reports : List Report) (h : AreFlowing inboxes reports) (rest : IsAtRest inboxes reports) where
  -- nothing waits to go to a running rank
  nothing_out : (s d : ℕ) {sender receiver : Report} → at reports s sender → at reports d receiver → IsRunning receiver → outbox sender.rank d ≡ []
  nothing_out s d {sender} {receiver} p q running = (rest d receiver q running).outboxes s sender p (let inside = slice_get_within reports d receiver q in omega (arith, inside, h.counted s sender p))

  -- whatever came towards a running rank was taken
  took_all : (s d : ℕ) {sender receiver : Report} → at reports s sender → at reports d receiver → IsRunning receiver → Flow sender.rank s d (took receiver.rank.log s)
  took_all s d {sender} {receiver} p q running = rw (ap (λ xs. took receiver.rank.log s ++ items_from s xs) (rest d receiver q running).inbox ∙ append-nil (took receiver.rank.log s)) at (h.flow s d sender receiver p q)

  -- all that a running rank owes to another one was taken
  pub took_owed : (s d : ℕ) {sender receiver : Report} → at reports s sender → at reports d receiver → IsRunning sender → IsRunning receiver → owes sender.rank d ≡ took receiver.rank.log s
  took_owed s d {sender} {receiver} p q runs running =
      (took_all s d p q running).running runs
      ∙ ap (λ xs. took receiver.rank.log s ++ xs) (nothing_out s d p q running)
      ∙ append-nil (took receiver.rank.log s)

  pub knows-stopped : KnowsStopped reports
  knows-stopped s d sender receiver p q stopped running =
      let other : s ≢ d = λ e. false≢true (sym running ∙ ap (λ r. is_stopped r.rank.log) (sym (same_report reports p q e)) ∙ stopped) in
      let last = (took_all s d p q running).stopped stopped other in
      let all =
      last.all ∙ ap (λ xs. took receiver.rank.log s ++ xs) (nothing_out s d p q running) ∙ append-nil (took receiver.rank.log s) in
      gone-took receiver.rank.log s
      ∙ ap (list_any is_gone_item) (sym all)
      ∙ list_any-append is_gone_item last.sent (Gone ∷ [])
      ∙ or_right (list_any is_gone_item last.sent) true refl

  pub agrees-revoked : AgreesOnRevoked reports
  agrees-revoked s d c sender receiver p q runs running revoked = elim (cases_eq s d) [
    | inl same ↦ ap (λ r. is_revoked r.rank.log c) (sym (same_report reports p q same)) ∙ revoked
    | inr other ↦
        let told =
        revoked_told sender.rank.ranks sender.rank.me d c sender.rank.log (λ e. other (sym (h.order s sender p) ∙ e)) revoked (running-not_gone h d s q p running) in
        revoked-took receiver.rank.log s c (ap (list_any (item_revokes c)) (sym (took_owed s d p q runs running)) ∙ told)
  ]
