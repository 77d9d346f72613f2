-- What a rank took came from the rank that is named with it, where items flow.
use Rattle.std.proofs.Common.{◌≡◌, ℕ, ◌<◌, ◌≤◌, Bool, true, false, cond, eqb, List, [], ◌∷◌, ◌++◌, length, take, refl, ap, sym, subst, ◌∙◌, arith, inl, inr, All}
use Rattle.std.proofs.Math.Seq.{take-append_seam}
use Rattle.ulfm_report_laws.proofs.Common.{Item, Gone, at, Entry, State, owes, outbox, Report, cases_Bool, cases_eq, eq-eqb, ne_eqb, took, took_by, is_stopped, IsSigned, Inboxes, inbox_of, IsBeginning, Flow, there, owed_signed, from_signed, All-nil, All-cons, All-head, All-tail, All-push, All-take, All-weaker, lt_or_ge}
use Rattle.ulfm_base.specs.Items.{ComesFrom, items_from}
use Rattle.ulfm_log.specs.declared.entry.Entry.TheVariants.{Took}
use Rattle.ulfm_report_laws.proofs.Flowing.{AreFlowing}
use Rattle.ulfm_report_laws.proofs.Mail.{IsTakenFrom}

-- an item came from the rank s, which is one of n
abbrev FromOf : ℕ → ℕ → Item → Type 0
FromOf n s item = (s < n) × ComesFrom s item

rest_of : (P : Item → Type 0) (b : Bool) (item : Item) (rest : List Item) → All P (cond b (item ∷ []) [] ++ rest) → All P rest
rest_of P true item rest h = All-tail P item rest h
rest_of P false item rest h = h

entry_of : (n : ℕ) (e : Entry) (log : List Entry) → ((s : ℕ) → All (FromOf n s) (took_by s e ++ took log s)) → IsTakenFrom n e
entry_of n (Took source item) log h =
    let s = source.number in
    let one = subst (λ b. All (FromOf n s) (cond b (item ∷ []) [] ++ took log s)) (eq-eqb s s refl) (h s) in
    let p = All-head (FromOf n s) item (took log s) one in
    (p.0, from_signed source item p.1)
entry_of n _ log h = tt

later_of : (n s : ℕ) (e : Entry) (log : List Entry) → All (FromOf n s) (took_by s e ++ took log s) → All (FromOf n s) (took log s)
later_of n s (Took source item) log h = rest_of (FromOf n s) (eqb source.number s) item (took log s) h
later_of n s _ log h = h

taken_all : (n : ℕ) (log : List Entry) → ((s : ℕ) → All (FromOf n s) (took log s)) → All (IsTakenFrom n) log
taken_all n [] h = All-nil (IsTakenFrom n)
taken_all n (e ∷ log) h = All-cons (IsTakenFrom n) e log (entry_of n e log h) (taken_all n log (λ s. later_of n s e log (h s)))

-- what holds of a list holds of a beginning of it
begun_all : (P : Item → Type 0) (xs ys : List Item) → IsBeginning xs ys → All P ys → All P xs
begun_all P xs ys b all = subst (λ zs. All P zs) (ap (take (length xs)) (sym b.1) ∙ take-append_seam xs b.0) (All-take P (length xs) ys all)

arrived_from : (sender : State) (s d : ℕ) {xs : List Item} → Flow sender s d xs → All (ComesFrom s) (owes sender d) → All (ComesFrom s) xs
arrived_from sender s d {xs} h all = elim (cases_Bool (is_stopped sender.log)) [
  | inr running ↦ begun_all (ComesFrom s) xs (owes sender d) (outbox sender d, sym (h.running running)) all
  | inl stopped ↦ elim (cases_eq s d) [
    | inl same ↦ begun_all (ComesFrom s) xs (owes sender d) (h.stopped_self stopped same).0 all
    | inr other ↦
        let n = h.stopped stopped other in
        begun_all (ComesFrom s) xs (n.sent ++ Gone ∷ []) (outbox sender d, sym n.all) (All-push (ComesFrom s) n.sent Gone (begun_all (ComesFrom s) n.sent (owes sender d) n.beginning all) tt)
  ]
]

module _ (inboxes : Inboxes) (reports : List Report) (h : AreFlowing inboxes reports) (signed : (k : ℕ) (told : Report) → at reports k told → All (IsSigned told.rank.me) told.rank.log)
    (within : (k : ℕ) (told : Report) → at reports k told → (s : ℕ) → length reports ≤ s → took told.rank.log s ≡ []) where
  from_rank : (d s : ℕ) {receiver : Report} → at reports d receiver → s < length reports → All (FromOf (length reports) s) (took receiver.rank.log s)
  from_rank d s {receiver} q inside =
      let sender = there reports s inside in
      let r = sender.0.rank in
      let owed_from = subst (λ m. All (ComesFrom m) (owes r d)) (h.order s sender.0 sender.1) (owed_signed r.ranks r.me d r.log (signed s sender.0 sender.1)) in
      let came = arrived_from r s d (h.flow s d sender.0 receiver sender.1 q) owed_from in
      All-weaker (ComesFrom s) (FromOf (length reports) s) (λ item from. (inside, from)) (took receiver.rank.log s) (begun_all (ComesFrom s) (took receiver.rank.log s) (took receiver.rank.log s ++ items_from s (inbox_of inboxes d)) (items_from s (inbox_of inboxes d), refl) came)

  from_each : (d s : ℕ) {receiver : Report} → at reports d receiver → All (FromOf (length reports) s) (took receiver.rank.log s)
  from_each d s {receiver} q = elim (lt_or_ge s (length reports)) [
    | inl inside ↦ from_rank d s q inside
    | inr far ↦ subst (λ xs. All (FromOf (length reports) s) xs) (sym (within d receiver q s far)) (All-nil (FromOf (length reports) s))
  ]

  -- each item that a rank took came from a rank of these
  pub taken_of : (d : ℕ) (receiver : Report) → at reports d receiver → All (IsTakenFrom (length reports)) receiver.rank.log
  taken_of d receiver q = taken_all (length reports) receiver.rank.log (λ s. from_each d s q)

-- nothing came from a number that is no rank
pub took_none : (n s : ℕ) (log : List Entry) → All (IsTakenFrom n) log → n ≤ s → took log s ≡ []
took_none n s [] all far = refl
took_none n s (e ∷ log) all far = ap (λ xs. xs ++ took log s) (one e (All-head (IsTakenFrom n) e log all)) ∙ took_none n s log (All-tail (IsTakenFrom n) e log all) far
  where
    one : (e : Entry) → IsTakenFrom n e → took_by s e ≡ []
    one (Took source item) own = ap (λ b. cond b (item ∷ []) []) (ne_eqb source.number s (λ same. let low = subst (λ k. k < n) same own.0 in omega (arith, low, far)))
    one _ own = refl
