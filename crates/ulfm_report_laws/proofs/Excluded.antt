-- Where logs have one order, whom a decision excludes had stopped before any rank adopted it.
use Rattle.std.proofs.Common.{◌≡◌, ◌<◌, ℕ, Bool, true, false, cond, eqb, List, take, get_or, refl, ap, sym, subst, ◌∙◌, inl, inr, arith, Option, Some, None}
use Rattle.ulfm_base.proofs.Among.{place_test}
use Rattle.ulfm_base.proofs.Places.{only_at}
use Rattle.ulfm_base.specs.Decision.{entry_at, in_entry}
use Rattle.ulfm_base.specs.RankSet.{has}
use Rattle.ulfm_base.specs.declared.item.Item.TheVariants.{Letter as Mail, Gone, Revoke, Enter}
use Rattle.ulfm_log.specs.declared.entry.Entry.TheVariants.{Adopted, Stopped, Took}
use Rattle.ulfm_log.specs.Facts.{tells_gone}
use Rattle.ulfm_log.specs.Proposal.{entry_of, heard_of, item_entry, listed_of}
use Rattle.ulfm_log.proofs.Entering.{entry_parts}
use Rattle.ulfm_log.proofs.Proposing.{has_small}
use Rattle.ulfm_report_laws.proofs.Common.{at, Contribution, Entrance, Entry, EntersOnce, Report, Topic, WorldRank, cases_eq, cond-false, cond-true, eq-eqb, eqb-true, false≢true, first_given, is_gone, is_topic, list_any, ne_eqb, none-some, or_cases, own_set, same_Some, slice_get-get_or, some_from, topics_equal}
use Rattle.ulfm_report_laws.proofs.Agreeing.{given_at}
use Rattle.ulfm_report_laws.proofs.Ordered.{failed_later, front_place}
use Rattle.ulfm_report_laws.proofs.Proposed.{listed_by}
use Rattle.ulfm_report_laws.specs.Decisions.{AreTrue}
use Rattle.ulfm_report_laws.specs.Order.{HasStoppedBefore, HaveOneOrder, ExclusionsComeLater}

if_true : (b : Bool) → cond b true false ≡ true → b ≡ true
if_true true h = refl
if_true false h = h

never_true : (b : Bool) → cond b false false ≡ true → ⊥
never_true true h = false≢true h
never_true false h = false≢true h

if_some : {X : Type 0} (b : Bool) (o : Option X) (x : X) → cond b o None ≡ Some x → (b ≡ true) × (o ≡ Some x)
if_some true o x h = (refl, h)
if_some false o x h = absurd (none-some x h)

-- what tells that a rank is gone took its notice
notice_of : (x : ℕ) (e : Entry) → tells_gone x e ≡ true → (source : WorldRank) × (e ≡ Took source Gone) × (source.number ≡ x)
notice_of x (Took source Gone) h = (source, refl, eqb-true source.number x (if_true (eqb source.number x) h))
notice_of x (Took source (Mail letter)) h = absurd (never_true (eqb source.number x) h)
notice_of x (Took source (Revoke context)) h = absurd (never_true (eqb source.number x) h)
notice_of x (Took source (Enter entrance)) h = absurd (never_true (eqb source.number x) h)
notice_of x _ h = absurd (false≢true h)

-- what was heard of a rank was taken from it
heard_parts : (m : ℕ) (t : Topic) (e : Entry) (brought : Contribution) → heard_of t m e ≡ Some brought → (source : WorldRank) × (entrance : Entrance) × (e ≡ Took source (Enter entrance)) × (source.number ≡ m) × (entrance.topic ≡ t)
heard_parts m t (Took source (Enter entrance)) brought h =
    let outer = if_some (eqb source.number m) (item_entry t (Enter entrance)) brought h in
    let inner = if_some (is_topic entrance.topic t) (Some entrance.contribution) brought outer.1 in
    (source, entrance, refl, eqb-true source.number m outer.0, topics_equal entrance.topic t inner.0)
heard_parts m t (Took source (Mail letter)) brought h = absurd (none-some brought (if_some (eqb source.number m) None brought h).1)
heard_parts m t (Took source (Revoke context)) brought h = absurd (none-some brought (if_some (eqb source.number m) None brought h).1)
heard_parts m t (Took source Gone) brought h = absurd (none-some brought (if_some (eqb source.number m) None brought h).1)
heard_parts m t _ brought h = absurd (none-some brought h)

-- who is known by what a rank is listed with
pub known_by : (o : Option Contribution) (x : ℕ) → in_entry o x ≡ true → (brought : Contribution) × (o ≡ Some brought) × (has brought.known x ≡ true)
known_by None x h = absurd (false≢true h)
known_by (Some brought) x h = (brought, refl, h)

module _ {reports : List Report} (o : HaveOneOrder reports) (decisions : AreTrue reports) (enters : (r : ℕ) (told : Report) → at reports r told → EntersOnce told.rank.log) (x now : ℕ) where
  -- a failure that a log tells of happened before
  gone_before : (p n : ℕ) (told : Report) → at reports p told → ((j : ℕ) → j < n → o.time p j < now) → is_gone (take n told.rank.log) x ≡ true → HasStoppedBefore reports o.time x now
  gone_before p n told here early gone =
      let log = told.rank.log in
      let found = place_test (tells_gone x) Stopped (take n log) gone in
      let entry = get_or (take n log) found.0 Stopped in
      let front = front_place n log found.0 entry (slice_get-get_or (take n log) found.0 Stopped found.1) in
      let notice = notice_of x entry found.2 in
      let stop = failed_later o p found.0 told notice.0 here (subst (λ (e : Entry). at log found.0 e) notice.1 front.1) in
      subst (λ s. HasStoppedBefore reports o.time s now) notice.2
      (record { sender = stop.sender; reported = stop.reported; place = stop.place; stopped = stop.stopped; earlier = omega (arith, stop.earlier, early found.0 front.0) })

  -- so did one that a rank knew as it entered
  entered_before : (m n : ℕ) (told : Report) (t : Topic) (brought : Contribution) → at reports m told → ((j : ℕ) → j < n → o.time m j < now) → own_set (take n told.rank.log) t ≡ Some brought → has brought.known x ≡ true → HasStoppedBefore reports o.time x now
  entered_before m n told t brought here early own knew =
      let log = told.rank.log in
      let found = given_at (entry_of t) (take n log) brought own in
      let front = front_place n log found.0 found.1 found.2 in
      let parts = entry_parts t found.1 brought found.3 in
      let once = enters m told here found.0 parts.0 (subst (λ (e : Entry). at log found.0 e) parts.1 front.1) in
      gone_before m found.0 told here (λ j lt. early j (omega (arith, lt, front.0)))
      (sym (once.1 x) ∙ ap (λ (c : Contribution). has c.known x) parts.3 ∙ knew)

  -- and so did one that a listed rank knew
  heard_before : (p n m : ℕ) (told : Report) (t : Topic) (brought : Contribution) (sender : Report) → at reports p told → at reports m sender → own_set sender.rank.log t ≡ Some brought → ((j : ℕ) → j < n → o.time p j < now) → first_given (heard_of t m) (take n told.rank.log) ≡ Some brought → has brought.known x ≡ true → HasStoppedBefore reports o.time x now
  heard_before p n m told t brought sender here there own early heard knew =
      let log = told.rank.log in
      let found = given_at (heard_of t m) (take n log) brought heard in
      let front = front_place n log found.0 found.1 found.2 in
      let parts = heard_parts m t found.1 brought found.3 in
      let source = parts.0 in let entrance = parts.1 in
      let owed = o.owed_earlier p found.0 told source (Enter entrance) here (subst (λ (e : Entry). at log found.0 e) parts.2 front.1) in
      let is_sender : owed.sender ≡ sender = only_at reports m sender owed.sender there (subst (λ i. at reports i owed.sender) parts.3 owed.reported) in
      let first = some_from (own_set (take owed.count owed.sender.rank.log) entrance.topic) owed.owed in
      let mine : own_set (take owed.count sender.rank.log) t ≡ Some first.0 = ap (λ (r : Report). own_set (take owed.count r.rank.log) t) (sym is_sender) ∙ ap (own_set (take owed.count owed.sender.rank.log)) (sym parts.4) ∙ first.1 in
      let given = given_at (entry_of t) (take owed.count sender.rank.log) first.0 mine in
      let entry = entry_parts t given.1 first.0 given.3 in
      let whole = (enters m sender there given.0 entry.0 (subst (λ (e : Entry). at sender.rank.log given.0 e) entry.1 (front_place owed.count sender.rank.log given.0 given.1 given.2).1)).0 in
      let same : first.0 ≡ brought = same_Some first.0 brought (ap Some (sym entry.3) ∙ sym whole ∙ ap (own_set sender.rank.log) entry.2 ∙ own) in
      entered_before m owed.count sender t first.0 there
      (λ j lt. let before : o.time m j < o.time p found.0 = subst (λ i. o.time i j < o.time p found.0) parts.3 (owed.earlier j lt) in omega (arith, before, early found.0 front.0))
      mine (ap (λ (c : Contribution). has c.known x) same ∙ knew)

-- whom a decision excludes had stopped before it was adopted
pub excluded_later : {reports : List Report} (o : HaveOneOrder reports) → AreTrue reports → ((r : ℕ) (told : Report) → at reports r told → EntersOnce told.rank.log) → ExclusionsComeLater reports o.time
excluded_later {reports} o decisions enters r k told d x here stands out =
    let h = o.proposed_earlier r k told d here stands in
    let p = h.made.proposes in let t = d.topic in let log = take h.place h.told.rank.log in
    let small = has_small d.excluded d.excluded.sized x out in
    elim (or_cases (is_gone log x) (list_any (λ entry. in_entry entry x) d.entries) (sym (p.excluded x small (d.lawful.excluded_members x out)) ∙ out)) [
      | inl gone ↦ gone_before o decisions enters x (o.time r k) h.rank h.place h.told h.reported h.earlier gone
      | inr told_by ↦
          let found = place_test (λ entry. in_entry entry x) None d.entries told_by in let m = found.0 in
          let knew = known_by (entry_at d.entries m) x found.2 in let brought = knew.0 in
          let member = d.lawful.listed_members m (listed_by (entry_at d.entries m) x found.2) in
          let lists : listed_of h.rank log t m ≡ Some brought = sym (p.listed m (omega (arith, found.1, d.sized)) member) ∙ knew.1 in
          let entered = (decisions r told here k (Adopted d) stands).listed m brought knew.1 in
          elim (cases_eq m h.rank) [
            | inl own ↦
                entered_before o decisions enters x (o.time r k) h.rank h.place h.told t brought h.reported h.earlier
                (sym (cond-true (eqb m h.rank) (own_set log t) (first_given (heard_of t m) log) (eq-eqb m h.rank own)) ∙ lists) knew.2
            | inr other ↦
                heard_before o decisions enters x (o.time r k) h.rank h.place m h.told t brought entered.report h.reported entered.reported entered.entered h.earlier
                (sym (cond-false (eqb m h.rank) (own_set log t) (first_given (heard_of t m) log) (ne_eqb m h.rank other)) ∙ lists) knew.2
          ]
    ]
