-- What steps tell of agreements is true of what ranks brought into them.
use Rattle.std.proofs.Common.{◌≡◌, ℕ, suc, ◌+◌, ◌||◌, true, List, [], ◌∷◌, ◌++◌, length, take, refl, ap, sym, subst, ◌∙◌, inl, inr, append-nil, append_assoc, Option, Some, None, slice_get}
use Rattle.std.proofs.Math.Seq.{take-append_seam}
use Rattle.ulfm_base.proofs.Among.{excluding_from}
use Rattle.ulfm_base.proofs.Places.{only_at}
use Rattle.ulfm_base.specs.Decision.{and_all, entry_at, is_listed, value_of}
use Rattle.ulfm_base.specs.Lists.{InPlace}
use Rattle.ulfm_base.specs.RankSet.{has}
use Rattle.ulfm_base.specs.Topic.{agreement_topic, is_agreement}
use Rattle.ulfm_base.proofs.Longer.{get_here}
use Rattle.ulfm_rank.specs.Checks.{adopt_checks, agree_checks, Passes}
use Rattle.ulfm_log.specs.Communicators.{is_made}
use Rattle.ulfm_log.specs.Log.{or_else}
use Rattle.ulfm_log.specs.Proposal.{agreements, entry_of, next_agreement}
use Rattle.ulfm_log.specs.declared.entry.Entry.TheVariants.{Adopted, Entered}
use Rattle.ulfm_log.proofs.Belonging.{own_from}
use Rattle.ulfm_log.proofs.Entering.{entry_parts}
use Rattle.ulfm_script.specs.Answered.{AnswerFollows, EntersBetween, by_call, left_by_call, by_decision, left_undecided, by_skip}
use Rattle.ulfm_script.specs.Calls.{EntersBy}
use Rattle.ulfm_script.specs.Deciding.{missing_in}
use Rattle.ulfm_script.proofs.Entrances.{added_at, entered_by_step, EntersAt, IsAnswered, nth_answered}
use Rattle.ulfm_script.proofs.Rounds.{same_round}
use Rattle.ulfm_report_laws.specs.Agreement.{AgreeOnOne, AgreesRightly, BroughtFlag, flag_in, IsAgreed, AgreementsAreTrue, round_at, TellsValue, ToldValue}
use Rattle.ulfm_report_laws.specs.Decisions.{AreTrue, EnteredWith, HasEntered, IsTrueOf}
use Rattle.ulfm_report_laws.proofs.Arrivals.{read_at}
use Rattle.ulfm_report_laws.proofs.Proposing.{AllKeep}
use Rattle.ulfm_report_laws.proofs.Turns.{in_turn, rounds_told}
use Rattle.ulfm_report_laws.proofs.Common.{AdoptOne, Agree, Agreed, all_pass, AnswersFollow, at, Context, Contribution, Decision, Entrance, Entry, false≢true, first_given, group_at, group_of, group_stays, is_member, IsStep, Known, logged, members_found, none-some, not-false, or_cases, Report, same_Some, Shrink, some_from, State, Step, step_report, StepAnswer, StepReport, StoodAt, there, Topic}

-- what is first given by a log is given by an entry
pub given_at : {X : Type 0} (give : Entry → Option X) (log : List Entry) (x : X) → first_given give log ≡ Some x → (k : ℕ) × (e : Entry) × at log k e × (give e ≡ Some x)
given_at give [] x h = absurd (none-some x h)
given_at {X} give (e ∷ log) x h = pick (give e) refl h (given_at give log x)
  where
    pick : (o : Option X) → give e ≡ o → or_else o (first_given give log) ≡ Some x → (first_given give log ≡ Some x → (k : ℕ) × (f : Entry) × at log k f × (give f ≡ Some x)) → (k : ℕ) × (f : Entry) × at (e ∷ log) k f × (give f ≡ Some x)
    pick (Some y) is here rest = (0, e, refl, is ∙ here)
    pick None is later rest = let found = rest later in (suc found.0, found.1, found.2, found.3)

-- the group of a communicator that was made stays while a log goes on
pub group_on : (n : ℕ) (log more : List Entry) (c : ℕ) (g : List ℕ) → group_of n log c ≡ Some g → group_of n (log ++ more) c ≡ Some g
group_on n log [] c g h = rw (append-nil log) h
group_on n log (e ∷ more) c g h = rw (← append_assoc log (e ∷ []) more) (group_on n (log ++ e ∷ []) more c g (group_stays n log e c g h))

-- and while the rank's log does
group_later : (r old : State) (n c : ℕ) → StoodAt r n old → is_made old.ranks old.log c ≡ true → group_at old c ≡ group_at r c
group_later r old n c stood made =
    let found = some_from (group_of old.ranks old.log c) made in
    let later : group_of r.ranks r.log c ≡ Some found.0 = rw (← stood.ranks, ← stood.beginning) (group_on old.ranks old.log stood.rest c found.0 found.1) in
    members_found old.ranks old.log c found.0 found.1 ∙ sym (members_found r.ranks r.log c found.0 later)

-- a step that stands after k others is in the round that these give
round_here : (told : Report) (done rest : List StepReport) (x : StepReport) (comm : Context) → done ++ x ∷ rest ≡ told.steps → rounds_told comm done ≡ round_at told (length done) comm
round_here told done rest x comm whole = ap (rounds_told comm) (sym (take-append_seam done (x ∷ rest)) ∙ ap (take (length done)) whole)

-- a decision of an agreement that a step entered was adopted, and told
record IsAdopting (r : State) (flag : ℕ) (comm : Context) (from place value : ℕ) (missing : List ℕ) (old new : State) : Type 0 where
  topic : Topic
  held : Decision
  entered : EntersBetween r (Agree flag comm) topic from place
  passes : Passes (adopt_checks old topic held)
  is_value : held.value ≡ Some value
  is_missing : missing ≡ missing_in held
  only : new ≡ logged old (Adopted held)

-- so a step was told a value
decided_by : (known : Known) (r : State) (done : List StepReport) (from to flag : ℕ) (comm : Context) (value : ℕ) (missing : List ℕ) (place polls : ℕ) (said : StepAnswer) → TellsValue said value missing
    → (h : AnswerFollows known r done from (step_report (Agree flag comm) said place polls) to) → IsAdopting r flag comm from place value missing h.old h.new
decided_by known r done from to flag comm value missing place polls (Agreed v ms) tells h = elim h.how [
  | by_call a ↦ absurd a.answers
  | left_by_call a ↦ absurd (let g = a.given_up in let bad : ⊥ = cc in bad)
  | by_decision d ↦ elim d.outcome [
    | inl a ↦ record { topic = d.topic; held = a.held; entered = d.entered; passes = a.adoption.0; is_value = a.adoption.1 ∙ ap Some tells.0; is_missing = sym tells.1 ∙ a.adoption.2; only = a.adoption.3 }
    | inr w ↦ absurd (let g = w.refused in let bad : ⊥ = cc in bad)
  ]
  | left_undecided u ↦ absurd (let g = u.given_up in let bad : ⊥ = cc in bad)
  | by_skip k ↦ absurd (let g = k.skipped in let bad : ⊥ = cc in bad)
]
decided_by known r done from to flag comm value missing place polls _ tells h = absurd tells

-- a step that entered an agreement asked for it, in its turn
record AsksFor (old : State) (asked : Step) (comm : Context) (round bits : ℕ) : Type 0 where
  step : asked ≡ Agree bits comm
  passes : Passes (agree_checks old comm)
  turn : agreements old.log comm.number ≡ round

asks_for : (old : State) (asked : Step) (topic : Topic) (new : State) (comm : Context) (round bits : ℕ) (h : EntersBy old asked topic new) → topic ≡ agreement_topic comm round → h.enters.entrance.contribution.flag ≡ Some bits → AsksFor old asked comm round bits
asks_for old (Shrink on again) topic new comm round bits h is flagged = absurd (false≢true (ap (λ (t : Topic). is_agreement t.purpose) (same_Some _ topic h.about ∙ is)))
asks_for old (Agree flag on) topic new comm round bits h is flagged =
    let same : next_agreement old.log on ≡ agreement_topic comm round = same_Some _ topic h.about ∙ is in
    let there_is : on ≡ comm = ap (λ (t : Topic). t.context) same in
    let bit : flag ≡ bits = same_Some flag bits (sym h.enters.brings ∙ flagged) in
    record {
      step = λ i. Agree (bit i) (there_is i);
      passes = subst (λ c. Passes (agree_checks old c)) there_is h.accepted;
      turn = ap (λ (c : Context). agreements old.log c.number) (sym there_is) ∙ same_round (ap (λ (t : Topic). t.purpose) same);
    }
asks_for old _ topic new comm round bits h is flagged = absurd (none-some topic h.about)

-- a flag is that of a contribution
flag_some : (o : Option Contribution) (bits : ℕ) → flag_in o ≡ Some bits → (c : Contribution) × (o ≡ Some c) × (c.flag ≡ Some bits)
flag_some None bits h = absurd (none-some bits h)
flag_some (Some c) bits h = (c, refl, h)

module _ (reports : List Report) where
  -- what a rank brought into a round stands in its log, and one of its steps asked for it
  asked_by : (m : ℕ) (comm : Context) (round bits : ℕ) (brought : Contribution) (told : Report) → at reports m told → brought.flag ≡ Some bits → HasEntered told (agreement_topic comm round) brought → (known : Known) (x : StepReport) (a : IsAnswered known told.rank told.steps x) (e : Entrance) (p : ℕ) (h : EntersAt told.rank a.from p x.step e)
      → e.topic ≡ agreement_topic comm round → e.contribution.flag ≡ Some bits → BroughtFlag reports m comm round bits
  asked_by m comm round bits brought told here flagged entered known x a e p h topic flag =
      let is = asks_for h.old x.step h.topic h.new comm round bits h.enters (sym h.enters.enters.about ∙ ap (λ (n : Entrance). n.topic) h.is ∙ topic) (ap (λ (n : Entrance). n.contribution.flag) h.is ∙ flag) in
      let whole : Contribution = record { known = brought.known; flag = Some bits } in
      let same : brought ≡ whole = λ i. record { known = brought.known; flag = flagged i } in
      let stands : slice_get told.steps (length a.done) ≡ Some (step_report (Agree bits comm) x.answer x.at x.polls) =
      ap (λ (xs : List StepReport). slice_get xs (length a.done)) (sym a.whole) ∙ get_here a.done x a.rest ∙ ap (λ (s : Step). Some (step_report s x.answer x.at x.polls)) is.step in
      record {
        known = brought.known;
        entered = rw (read_at reports m here) (subst (HasEntered told (agreement_topic comm round)) same entered);
        step = length a.done;
        said = x.answer;
        asked = rw (read_at reports m here) (record { at = x.at; polls = x.polls; stands = stands });
        in_round = rw (read_at reports m here) (sym (round_here told a.done a.rest x comm a.whole) ∙ sym (in_turn known told.rank a.done a.from p h.old comm a.before h.took h.stood is.passes) ∙ is.turn);
      }

  module _ (follow : (k : ℕ) (told : Report) → at reports k told → (known : Known) × AnswersFollow known told) where
    brought_by : (m : ℕ) (comm : Context) (round bits : ℕ) (brought : Contribution) → brought.flag ≡ Some bits → EnteredWith reports m (agreement_topic comm round) brought → BroughtFlag reports m comm round bits
    brought_by m comm round bits brought flagged h =
        let t = agreement_topic comm round in
        let log = h.report.rank.log in
        let found = given_at (entry_of t) log brought h.entered in
        let parts = entry_parts t found.1 brought found.3 in
        let f = follow m h.report h.reported in
        let by = entered_by_step f.0 h.report f.1 found.0 parts.0 (found.2 ∙ ap Some parts.1) in
        asked_by m comm round bits brought h.report h.reported flagged h.entered f.0 by.0 by.1 parts.0 found.0 by.2 parts.2 (ap (λ (c : Contribution). c.flag) parts.3 ∙ flagged)

    module _ (truly : AreTrue reports) (keeps : AllKeep reports) (order : InPlace (λ (told : Report). told.rank.me) reports) where
      -- who adopts is listed, with the flag of its step
      own_flag : (r flag from to : ℕ) (comm : Context) (topic : Topic) (told : Report) → at reports r told → (entered : EntersBetween told.rank (Agree flag comm) topic from to) (held : Decision) → IsTrueOf reports held → held.topic ≡ entered.enters.enters.entrance.topic → is_member held.fresh r ≡ true → flag_in (entry_at held.entries r) ≡ Some flag
      own_flag r flag from to comm topic told here entered held true_of about member =
          let e = entered.enters.enters.entrance in
          let stands = added_at told.rank entered.place (entered.place + 1) entered.old entered.new (Entered e) entered.stood entered.stood_next entered.enters.enters.only in
          let mine : first_given (entry_of e.topic) told.rank.log ≡ Some e.contribution = ((keeps r told here).enters_once entered.place e stands).0 in
          let kept = excluding_from held.old (has held.excluded) r (ap (λ g. is_member g r) (sym held.lawful.survivors) ∙ member) in
          let listed : is_listed held.entries r ≡ true = elim (or_cases (is_listed held.entries r) (has held.excluded r) (held.lawful.complete r kept.0)) [ inl is ↦ is | inr out ↦ absurd (false≢true (sym kept.1 ∙ out)) ] in
          let brought = some_from (entry_at held.entries r) listed in
          let with = true_of.listed r brought.0 brought.1 in
          let theirs : first_given (entry_of held.topic) told.rank.log ≡ Some brought.0 = ap (λ (t : Report). first_given (entry_of held.topic) t.rank.log) (only_at reports r with.report told with.reported here) ∙ with.entered in
          let same : brought.0 ≡ e.contribution = same_Some _ _ (sym theirs ∙ ap (λ t. first_given (entry_of t) told.rank.log) about ∙ mine) in
          ap flag_in brought.1 ∙ ap (λ (c : Contribution). c.flag) same ∙ entered.enters.enters.brings

      module _ (t : ToldValue reports) (told : Report) (here : at reports t.rank told) (asked : IsStep told t.step (Agree t.flag t.comm) t.said) where
        agreed : IsAgreed reports t
        agreed =
            let f = follow t.rank told here in
            let x = step_report (Agree t.flag t.comm) t.said asked.at asked.polls in
            let n = nth_answered f.0 told f.1 t.step x asked.stands in
            let a = n.0 in
            let h = a.follows in
            let d = decided_by f.0 told.rank a.done a.from a.to t.flag t.comm t.value t.missing asked.at asked.polls t.said t.tells h in
            let adopted = added_at told.rank asked.at a.to h.old h.new (Adopted d.held) h.stood h.stood_next d.only in
            let true_of : IsTrueOf reports d.held = truly t.rank told here asked.at (Adopted d.held) adopted in
            let checks = all_pass (adopt_checks h.old d.topic d.held) d.passes in
            let affair = own_from h.old.me (group_at h.old d.topic.context.number) h.old.log d.topic d.held checks.1.1.1.1.0 in
            let enters = d.entered.enters in
            let next : next_agreement d.entered.old.log t.comm ≡ d.topic = same_Some _ d.topic enters.about in
            let in_round = in_turn f.0 told.rank a.done a.from d.entered.place d.entered.old t.comm a.before d.entered.took_before d.entered.stood enters.accepted ∙ round_here told a.done a.rest x t.comm a.whole ∙ ap (λ j. round_at told j t.comm) n.1 in
            let topic : d.held.topic ≡ agreement_topic t.comm (round_at told t.step t.comm) = affair.about ∙ sym next ∙ ap (agreement_topic t.comm) in_round in
            let me : h.old.me ≡ t.rank = h.stood.me ∙ order t.rank told here in
            record {
              decision = d.held;
              adopted = rw (read_at reports t.rank here) (asked.at, adopted);
              topic = rw (read_at reports t.rank here) topic;
              group = rw (read_at reports t.rank here) (affair.old_group ∙ ap (λ (u : Topic). group_at h.old u.context.number) (sym next) ∙ group_later told.rank h.old asked.at t.comm.number h.stood (ap (λ (u : Topic). is_made h.old.ranks h.old.log u.context.number) next ∙ not-false _ checks.1.0));
              is_value = same_Some _ _ (sym d.is_value ∙ d.held.lawful.and_of_flags ∙ ap (λ (u : Topic). value_of u.purpose d.held.entries) topic);
              is_missing = d.is_missing;
              own = own_flag t.rank t.flag a.from asked.at t.comm d.topic told here d.entered d.held true_of (affair.about ∙ sym enters.enters.about) (ap (is_member d.held.fresh) (sym me) ∙ affair.member);
              listed = λ m bits listed.
                  let c = flag_some (entry_at d.held.entries m) bits listed in
                  rw (read_at reports t.rank here) (brought_by m t.comm (round_at told t.step t.comm) bits c.0 c.2 (subst (λ u. EnteredWith reports m u c.0) topic (true_of.listed m c.0 c.1)));
              unlisted = λ m member unlisted. true_of.excluded m (sym (ap (λ b. b || has d.held.excluded m) unlisted) ∙ d.held.lawful.complete m member);
            }

      rightly : AgreesRightly reports
      rightly t =
          let told = there reports t.rank t.inside in
          agreed t told.0 told.1 (rw (read_at reports t.rank told.1) at t.asked)

      on_one : AdoptOne reports → AgreeOnOne reports
      on_one one mine yours comm same =
          let x = rightly mine in
          let y = rightly yours in
          let told = there reports mine.rank mine.inside in
          let theirs = there reports yours.rank yours.inside in
          let topic : x.decision.topic ≡ y.decision.topic = x.topic ∙ (λ i. agreement_topic (comm i) (same i)) ∙ sym y.topic in
          let d : x.decision ≡ y.decision = one mine.rank yours.rank told.0 theirs.0 x.decision y.decision told.1 theirs.1 (rw (read_at reports mine.rank told.1) at x.adopted) (rw (read_at reports yours.rank theirs.1) at y.adopted) topic in
          (x.is_value ∙ ap (λ (e : Decision). and_all e.entries) d ∙ sym y.is_value, x.is_missing ∙ ap missing_in d ∙ sym y.is_missing)

-- what steps tell of agreements is true, where answers are right and decisions are
pub agreement : (reports : List Report) → ((k : ℕ) (told : Report) → at reports k told → (known : Known) × AnswersFollow known told) → AreTrue reports → AllKeep reports → InPlace (λ (told : Report). told.rank.me) reports → AdoptOne reports → AgreementsAreTrue reports
agreement reports follow truly keeps order one = record { rightly = rightly reports follow truly keeps order; on_one = on_one reports follow truly keeps order one }
