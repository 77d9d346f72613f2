-- The letters that came to a rank are a beginning of those that the steps of their senders sent to it.
use Rattle.std.proofs.Common.{◌≡◌, ℕ, List, [], ◌∷◌, ◌++◌, ap, sym, ◌∙◌, inl, inr, append-nil, append_assoc}
use Rattle.ulfm_report_laws.proofs.Common.{Item, Gone, items_from, at, history_of, State, owes, outbox, Report, IsAtRest, Content, letters_come, letters_sent, ComeAsSent, AllHasCome, cases_Bool, cases_eq, get_or_from_slice_get, took, is_stopped, is_revoked, Inboxes, inbox_of, IsBeginning, Flow, report_at, no_report, there, flat_map-append}
use Rattle.ulfm_report_laws.proofs.AtRest.{took_owed}
use Rattle.ulfm_report_laws.proofs.Comes.{all_taken}
use Rattle.ulfm_report_laws.proofs.Flowing.{AreFlowing}
use Rattle.ulfm_report_laws.proofs.Honest.{IsHonest}
use Rattle.ulfm_report_laws.proofs.Mail.{mail_on, mail, mail_sent, mail_owed}

-- the report that is read is the one that stands there
pub read_at : (reports : List Report) (k : ℕ) {told : Report} → at reports k told → report_at reports k ≡ told
read_at reports k {told} here = get_or_from_slice_get reports k told no_report here

-- letters of a beginning are a beginning of the letters
mail_front : (c : ℕ) (xs ys : List Item) → IsBeginning xs ys → (rest : List Content) × (mail c xs ++ rest ≡ mail c ys)
mail_front c xs ys b = (mail c b.0, sym (flat_map-append (mail_on c) xs b.0) ∙ ap (mail c) b.1)

-- a notice is no letter
mail_arrived : (c : ℕ) (sender : State) (s d : ℕ) {xs : List Item} → Flow sender s d xs → (rest : List Content) × (mail c xs ++ rest ≡ mail c (owes sender d))
mail_arrived c sender s d {xs} h = elim (cases_Bool (is_stopped sender.log)) [
  | inr running ↦ mail_front c xs (owes sender d) (outbox sender d, sym (h.running running))
  | inl stopped ↦ elim (cases_eq s d) [
    | inl same ↦ mail_front c xs (owes sender d) (h.stopped_self stopped same).0
    | inr other ↦
        let n = h.stopped stopped other in
        let sent = mail_front c n.sent (owes sender d) n.beginning in
        let whole =
        sym (flat_map-append (mail_on c) xs (outbox sender d)) ∙ ap (mail c) (sym n.all) ∙ flat_map-append (mail_on c) n.sent (Gone ∷ []) ∙ append-nil (mail c n.sent) in
        (mail c (outbox sender d) ++ sent.0, sym (append_assoc (mail c xs) (mail c (outbox sender d)) sent.0) ∙ ap (λ ys. ys ++ sent.0) whole ∙ sent.1)
  ]
]

module _ (inboxes : Inboxes) (reports : List Report) (h : AreFlowing inboxes reports) (honest : (k : ℕ) (told : Report) → at reports k told → IsHonest told.rank.ranks told.rank.log told.steps) where
  -- what came to d from s is a beginning of what the log of s sent to it
  come_log : (s d c : ℕ) {sender receiver : Report} → at reports s sender → at reports d receiver → (rest : List Content) × (letters_come s c (history_of receiver.rank.log) ++ rest ≡ mail_sent c d sender.rank.log)
  come_log s d c {sender} {receiver} p q =
      let r = sender.rank in
      let t = all_taken receiver.rank.ranks s c receiver.rank.log (honest d receiver q).taken in
      let came = letters_come s c (history_of receiver.rank.log) in
      let left = items_from s (inbox_of inboxes d) in
      let a = mail_arrived c r s d (h.flow s d sender receiver p q) in
      let arrived =
      sym (append_assoc (mail c (took receiver.rank.log s)) (mail c left) a.0)
      ∙ ap (λ ys. ys ++ a.0) (sym (flat_map-append (mail_on c) (took receiver.rank.log s) left))
      ∙ a.1 ∙ mail_owed r.ranks r.me c d r.log in
      (t.rest ++ (mail c left ++ a.0), sym (append_assoc came t.rest (mail c left ++ a.0)) ∙ ap (λ ys. ys ++ (mail c left ++ a.0)) t.all ∙ arrived)

  pub come_as_sent : ComeAsSent reports
  come_as_sent s d c i j =
      let sender = there reports s i in
      let receiver = there reports d j in
      let f = come_log s d c sender.1 receiver.1 in
      rw (read_at reports d receiver.1) (rw (read_at reports s sender.1) (f.0, f.1 ∙ sym ((honest s sender.0 sender.1).sends c d)))

  -- at rest, where the communicator isn't revoked, all has come
  pub all_come : IsAtRest inboxes reports → AllHasCome reports
  all_come rest s d c i j runs_s runs_d fresh =
      let sender = there reports s i in
      let receiver = there reports d j in
      let from = read_at reports s sender.1 in
      let to = read_at reports d receiver.1 in
      let r = sender.0.rank in let log = receiver.0.rank.log in
      let t = all_taken receiver.0.rank.ranks s c log (honest d receiver.0 receiver.1).taken in
      let came = letters_come s c (history_of log) in
      let all = took_owed inboxes reports h rest s d sender.1 receiver.1 (rw from at runs_s) (rw to at runs_d) in
      let come =
      sym (append-nil came)
      ∙ ap (λ ys. came ++ ys) (sym (t.none (sym (ap (λ b. is_revoked b.rank.log c) to) ∙ fresh)))
      ∙ t.all ∙ ap (mail c) (sym all) ∙ mail_owed r.ranks r.me c d r.log
      ∙ sym ((honest s sender.0 sender.1).sends c d) in
      ap (λ b. letters_come s c (history_of b.rank.log)) to ∙ come ∙ ap (λ a. letters_sent a.rank c d a.steps) (sym from)
