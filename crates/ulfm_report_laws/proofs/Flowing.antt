-- Reports in rank order between which items flow, and what one of them heard of another.
use Rattle.std.proofs.Common.{◌≡◌, ℕ, Bool, true, false, cond, eqb, List, [], ◌∷◌, ◌++◌, length, refl, ap, sym, ◌∙◌, inl, inr, append_assoc, Some, slice_get}
use Rattle.ulfm_report_laws.proofs.Common.{Item, Gone, items_from, State, owes, outbox, Report, false≢true, cases_Bool, cases_eq, eqb-true, or_left, same_Some, took, is_gone, is_gone_item, is_stopped, Inboxes, inbox_of, IsBeginning, Flow, Flows, HasStopped, list_any, list_any-append, owed, Topic, Contribution, first_given, own_set, or_none, or_else_first, first_set, set-append, heard-took}
use Rattle.ulfm_base.specs.Lists.{at, InPlace}
use Rattle.ulfm_log.specs.Proposal.{entry_of, heard_of, listed_of}
use Rattle.ulfm_log.proofs.Owing.{OwesOwn}
use Rattle.ulfm_log.proofs.Told.{owed_not_gone, gone-took}

-- the reports of ranks, in their order, between which items flow
pub record AreFlowing (inboxes : Inboxes) (reports : List Report) : Type 0 where
  pub order : InPlace (λ told. told.rank.me) reports
  pub counted : (k : ℕ) (told : Report) → at reports k told → told.rank.ranks ≡ length reports
  pub flow : Flows inboxes reports

pub same_report : (reports : List Report) {s d : ℕ} {one other : Report} → at reports s one → at reports d other → s ≡ d → one ≡ other
same_report reports {one} {other} p q same = same_Some one other (sym p ∙ ap (slice_get reports) same ∙ q)

-- what arrived from a rank that didn't stop, or at that rank itself, is a beginning of what it owes
pub arrived_owed : {sender : State} {s : ℕ} (d : ℕ) {xs : List Item} → Flow sender s d xs → (is_stopped sender.log ≡ true → s ≡ d) → IsBeginning xs (owes sender d)
arrived_owed {sender} d h self = elim (cases_Bool (is_stopped sender.log)) [
  | inl stopped ↦ (h.stopped_self stopped (self stopped)).0
  | inr running ↦ (outbox sender d, sym (h.running running))
]

-- a test that an item of a beginning passes, an item of the whole passes
pub any_begun : (test : Item → Bool) (xs ys : List Item) → IsBeginning xs ys → list_any test xs ≡ true → list_any test ys ≡ true
any_begun test xs ys b some = ap (list_any test) (sym b.1) ∙ list_any-append test xs b.0 ∙ or_left (list_any test xs) (list_any test b.0) some

-- a test that nothing owed passes says nothing of a rank that didn't stop
pub none_begun : (test : Item → Bool) (xs ys : List Item) → IsBeginning xs ys → list_any test ys ≡ false → list_any test xs ≡ false
none_begun test xs ys b none = pick (list_any test xs) refl
  where
    pick : (x : Bool) → list_any test xs ≡ x → list_any test xs ≡ false
    pick false e = e
    pick true e = absurd (false≢true (sym none ∙ any_begun test xs ys b e))

-- a rank that didn't stop isn't known as gone
pub running-not_gone : {inboxes : Inboxes} {reports : List Report} → AreFlowing inboxes reports → (s d : ℕ) {sender receiver : Report} → at reports s sender → at reports d receiver → is_stopped sender.rank.log ≡ false → is_gone receiver.rank.log s ≡ false
running-not_gone {inboxes} h s d {sender} {receiver} p q running =
    let b = arrived_owed d (h.flow s d sender receiver p q) (λ stopped. absurd (false≢true (sym running ∙ stopped))) in
    gone-took receiver.rank.log s
    ∙ none_begun is_gone_item (took receiver.rank.log s) (owes sender.rank d)
    (items_from s (inbox_of inboxes d) ++ b.0, sym (append_assoc (took receiver.rank.log s) (items_from s (inbox_of inboxes d)) b.0) ∙ b.1)
    (owed_not_gone sender.rank.ranks sender.rank.me d sender.rank.log)

-- who is known as gone has stopped (ULFM: a failure is never suspected wrongly)
pub gone_stopped : {inboxes : Inboxes} {reports : List Report} → AreFlowing inboxes reports → (s d : ℕ) (sender receiver : Report) → at reports s sender → at reports d receiver → is_gone receiver.rank.log s ≡ true → HasStopped sender
gone_stopped {inboxes} {reports} h s d sender receiver p q gone = elim (cases_Bool (is_stopped sender.rank.log)) [
  | inl stopped ↦ stopped
  | inr running ↦ absurd (false≢true (sym (running-not_gone h s d p q running) ∙ gone))
]

set_begun : (c : Topic) (xs ys : List Item) {set : Contribution} → IsBeginning xs ys → first_set c xs ≡ Some set → first_set c ys ≡ Some set
set_begun c xs ys {set} b h = ap (first_set c) (sym b.1) ∙ set-append c xs b.0 ∙ or_else_first (first_set c xs) (first_set c b.0) set h

-- the first entry that arrived is the first that is owed, also before a notice
set_arrived : {sender : State} (s d : ℕ) (c : Topic) {xs : List Item} (set : Contribution) → Flow sender s d xs → first_set c xs ≡ Some set → first_set c (owes sender d) ≡ Some set
set_arrived {sender} s d c {xs} set h heard = elim (cases_eq s d) [
  | inl same ↦ set_begun c xs (owes sender d) (arrived_owed d h (λ stopped. same)) heard
  | inr other ↦ elim (cases_Bool (is_stopped sender.log)) [
    | inr running ↦ set_begun c xs (owes sender d) (outbox sender d, sym (h.running running)) heard
    | inl stopped ↦
        let n = h.stopped stopped other in
        let whole = set-append c xs (outbox sender d) ∙ or_else_first (first_set c xs) (first_set c (outbox sender d)) set heard in
        set_begun c n.sent (owes sender d) n.beginning (before_notice c n.sent set (ap (first_set c) n.all ∙ whole))
  ]
]
  where
    before_notice : (c : Topic) (xs : List Item) (set : Contribution) → first_set c (xs ++ Gone ∷ []) ≡ Some set → first_set c xs ≡ Some set
    before_notice c xs set h = sym (or_none (first_set c xs)) ∙ sym (set-append c xs (Gone ∷ [])) ∙ h

-- what a rank lists another with is what the other's own entrance brings
pub listed_own : {inboxes : Inboxes} {reports : List Report} → AreFlowing inboxes reports → (r s : ℕ) (c : Topic) {lister member : Report} (set : Contribution) → at reports r lister → at reports s member → OwesOwn (length reports) s member.rank.log
    → listed_of r lister.rank.log c s ≡ Some set → own_set member.rank.log c ≡ Some set
listed_own {inboxes} {reports} h r s c {lister} {member} set p q owns listed = pick (eqb s r) refl listed
  where
    owed_here : owes member.rank r ≡ owed (length reports) s member.rank.log r
    owed_here = ap (λ n. owed n member.rank.me member.rank.log r) (h.counted s member q) ∙ ap (λ me. owed (length reports) me member.rank.log r) (h.order s member q)

    heard : first_given (heard_of c s) lister.rank.log ≡ Some set → own_set member.rank.log c ≡ Some set
    heard l =
        let took_first = sym (heard-took lister.rank.log c s) ∙ l in
        let arrived =
        set-append c (took lister.rank.log s) (items_from s (inbox_of inboxes r)) ∙ or_else_first (first_set c (took lister.rank.log s)) (first_set c (items_from s (inbox_of inboxes r))) set took_first in
        owns r c set (ap (first_set c) (sym owed_here) ∙ set_arrived s r c set (h.flow s r member lister q p) arrived)

    pick : (b : Bool) → eqb s r ≡ b → cond b (first_given (entry_of c) lister.rank.log) (first_given (heard_of c s) lister.rank.log) ≡ Some set → own_set member.rank.log c ≡ Some set
    pick true same l = ap (λ told. own_set told.rank.log c) (same_report reports q p (eqb-true s r same)) ∙ l
    pick false other l = heard l
