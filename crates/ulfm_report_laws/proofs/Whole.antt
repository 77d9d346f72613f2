-- Where reports are lawful, each decision that a rank adopted is the whole proposal of some rank.
use Rattle.std.proofs.Common.{◌≡◌, ℕ, List, [], ◌∷◌, ◌++◌, Option, Some, None, length, take, drop, ap, sym, subst, ◌∙◌, inl, inr, arith, length-append, refl, ◌+◌}
use Rattle.std.proofs.lemmas.Bool.{cases_lt}
use Rattle.std.proofs.lemmas.List.{take-append-drop, take-append-le, take_all}
use Rattle.ulfm_base.specs.Group.{excluding}
use Rattle.ulfm_base.specs.RankSet.{has}
use Rattle.ulfm_log.specs.Communicators.{or_empty}
use Rattle.ulfm_log.specs.declared.entry.Entry.TheVariants.{Adopted}
use Rattle.ulfm_log.proofs.Entering.{EntersMade, enters_made}
use Rattle.ulfm_report_laws.proofs.Common.{AnswersFollow, at, Decision, each_logged, Entry, false≢true, Fits, group_of, Inboxes, is_member, IsOwn, Known, members_found, Report, slice_get_within, some_from, State, there}
use Rattle.ulfm_report_laws.specs.Lawful.{LawfulSoFar}
use Rattle.ulfm_report_laws.specs.Order.{DecisionsAreProposals}
use Rattle.ulfm_report_laws.proofs.Agreeing.{group_on}
use Rattle.ulfm_report_laws.proofs.OneGroup.{same_group}
use Rattle.ulfm_report_laws.proofs.Proposed.{is_whole}

-- each beginning of a log enters topics alone of communicators that it made
made_in_front : (n me : ℕ) (log : List Entry) (e : Entry) (j : ℕ) → ((i : ℕ) → EntersMade n (take i log)) → Fits n me log e → EntersMade n (take j (log ++ e ∷ []))
made_in_front n me log e j fronts fits = elim (cases_lt j (length log + 1)) [
  | inl less ↦ subst (λ (xs : List Entry). EntersMade n xs) (sym (take-append-le j log (e ∷ []) (omega (arith, less)))) (fronts j)
  | inr least ↦
      subst (λ (xs : List Entry). EntersMade n xs) (sym (take_all j (log ++ e ∷ []) (omega (arith, least, length-append log (e ∷ [])))))
      (enters_made n me log e (subst (λ (xs : List Entry). EntersMade n xs) (take_all (length log) log (omega arith)) (fronts (length log))) fits)
]

fronts_made : (known : Known) (told : Report) → AnswersFollow known told → (j : ℕ) → EntersMade told.rank.ranks (take j told.rank.log)
fronts_made known told h =
    each_logged known told (λ log. (j : ℕ) → EntersMade told.rank.ranks (take j log))
    (λ log e may k j. made_in_front told.rank.ranks told.rank.me log e j k may.fits)
    (λ j. subst (λ (xs : List Entry). EntersMade told.rank.ranks xs) (sym (take_all j [] (omega arith))) (λ t entered. absurd (false≢true entered))) h

-- a rank made the communicator that its own decision is about
own_found : (known : Known) (rank : State) (d : Decision) → IsOwn known rank d → group_of rank.ranks rank.log d.topic.context.number ≡ Some d.old
own_found known rank d h = pick (group_of h.then.ranks h.then.log d.topic.context.number) refl
  where
    pick : (o : Option (List ℕ)) → group_of h.then.ranks h.then.log d.topic.context.number ≡ o → group_of rank.ranks rank.log d.topic.context.number ≡ Some d.old
    pick None none =
        let no_old : d.old ≡ [] = h.group ∙ ap or_empty none in
        let no_fresh : d.fresh ≡ [] = d.lawful.survivors ∙ ap (λ (g : List ℕ). excluding g (has d.excluded)) no_old in
        absurd (false≢true (ap (λ (g : List ℕ). is_member g rank.me) (sym no_fresh) ∙ h.member))
    pick (Some g) found =
        let c = d.topic.context.number in
        let later : group_of rank.ranks rank.log c ≡ Some g = rw (← h.stood.ranks, ← h.stood.beginning) (group_on h.then.ranks h.then.log h.stood.rest c g found) in
        later ∙ ap Some (sym (h.group ∙ members_found h.then.ranks h.then.log c g found))

module _ {inboxes : Inboxes} {knows : List Known} {reports : List Report} (h : LawfulSoFar inboxes knows reports) where
  pub known_of : (r : ℕ) (told : Report) → at reports r told → (known : Known) × at knows r known
  known_of r told here = there knows r (omega (arith, slice_get_within reports r told here, h.known_each))

  group_adopted : (r k : ℕ) (told : Report) (d : Decision) → at reports r told → at told.rank.log k (Adopted d) → group_of (length reports) told.rank.log d.topic.context.number ≡ Some d.old
  group_adopted r k told d here stands =
      let known = known_of r told here in
      subst (λ n. group_of n told.rank.log d.topic.context.number ≡ Some d.old) (h.counted r told here) (own_found known.0 told.rank d (h.own r told known.0 d here known.1 (k, stands)))

  pub decisions_are_proposals : DecisionsAreProposals reports h.one_order.time
  decisions_are_proposals r k told d here stands =
      let e = h.one_order.proposed_earlier r k told d here stands in
      let n = length reports in let c = d.topic.context.number in let log = e.told.rank.log in let front = take e.place log in
      let known = known_of e.rank e.told e.reported in
      let fronts : EntersMade n front = subst (λ m. EntersMade m front) (h.counted e.rank e.told e.reported) (fronts_made known.0 e.told (h.answers e.rank e.told known.0 e.reported known.1) e.place) in
      let made = some_from (group_of n front c) (fronts d.topic e.made.proposes.entered) in
      let whole : group_of n log c ≡ Some made.0 =
      subst (λ (xs : List Entry). group_of n xs c ≡ Some made.0) (take-append-drop e.place log) (group_on n front (drop e.place log) c made.0 made.1) in
      let same : d.old ≡ made.0 = same_group reports h.one_decision n r e.rank c here e.reported (group_adopted r k told d here stands) whole in
      record { earlier = e; proposal = is_whole n e.rank front d (same ∙ sym (members_found n front c made.0 made.1)) e.made.proposes }
