-- An agreement is entered in the round that its step takes part in: so many steps before were told a value there.
use Rattle.std.proofs.Common.{◌≡◌, ℕ, ◌+◌, ◌-◌, ◌&&◌, ◌||◌, Bool, true, false, cond, eqb, List, [], ◌∷◌, ◌++◌, length, filter, refl, ap, sym, subst, ◌∙◌, arith, inl, inr, ◌⊎◌, length-append, Option, Some, None, is_some, not}
use Rattle.std.proofs.Math.Bool.{and-false, or-false}
use Rattle.std.proofs.lemmas.List.Elements.{filter-append}
use Rattle.ulfm_base.proofs.Topics.{topic_passes}
use Rattle.ulfm_base.specs.Topic.{agreement_topic, is_agreement}
use Rattle.ulfm_base.specs.declared.error.CallError.{CallError}
use Rattle.ulfm_rank.specs.Checks.{adopt_checks, agree_checks, Passes}
use Rattle.ulfm_log.specs.Log.{or_else}
use Rattle.ulfm_log.specs.Proposal.{adopts, agreements, enters_agreement, entry_of, has_adopted, has_entered, is_agreeing, last_agreement, last_shrink, next_agreement}
use Rattle.ulfm_log.specs.declared.entry.Entry.TheVariants.{Adopted, Entered, Took}
use Rattle.ulfm_log.proofs.Entering.{AdoptsEntered, adopts_entered, counts, entry_parts, RoundsCounted, rounds-more, rounds_counted}
use Rattle.ulfm_log.proofs.Firsts.{first-push}
use Rattle.ulfm_script.specs.Answered.{EachAnswerFollows, OnlyTook}
use Rattle.ulfm_script.specs.Calls.{EntersBy}
use Rattle.ulfm_script.specs.Deciding.{topic_of}
use Rattle.ulfm_script.proofs.Adopting.{adopted_about}
use Rattle.ulfm_script.proofs.Fitting.{fits_apart, fits_entered}
use Rattle.ulfm_script.proofs.Kept.{fits_adopted}
use Rattle.ulfm_script.proofs.Once.{entered-here}
use Rattle.ulfm_script.proofs.Polls.{answers_plain, opens_adds, refused_adoption}
use Rattle.ulfm_script.proofs.Says.{IsApart}
use Rattle.ulfm_script.proofs.Walked.{KeepsAll, walked_to}
use Rattle.ulfm_report_laws.specs.Agreement.{ends_round_in, ends_round_by}
use Rattle.ulfm_report_laws.proofs.Common.{all_pass, any-push, AnswersAdoption, AnswersStep, cases_Bool, cases_eq, Agree, Agreed, Context, Contribution, Decision, Entrance, Entry, eq-eqb, false≢true, first_given, Fits, is_topic, IsTook, Known, ne_eqb, none-some, not-false, or_none, or_right, OutOfMemory, Refused, same_context, same_Some, Shrink, Shrunk, Skipped, State, Step, step_report, StepAnswer, StepReport, StoodAt, Topic, Unfinished}

-- one while an agreement that was entered isn't adopted, else none
abbrev open_rounds : Bool → ℕ
open_rounds true = 1
open_rounds false = 0

-- how many of these steps were told a value on a communicator
abbrev pub rounds_told : Context → List StepReport → ℕ
rounds_told comm done = length (filter (ends_round_in comm) done)

-- on each communicator as many agreements were entered as steps were told a value there, and one more that is open
abbrev IsCounted : List StepReport → List Entry → Type 0
IsCounted done log = (comm : Context) → agreements log comm.number ≡ rounds_told comm done + open_rounds (is_agreeing log comm)

-- an entry neither enters an agreement on a communicator nor adopts one
record IsIdleOn (comm : Context) (e : Entry) : Type 0 where
  enters_none : enters_agreement comm.number e ≡ false
  adopts_none : (round : ℕ) → adopts (agreement_topic comm round) e ≡ false

-- no such entry brings anything into an agreement there
brings_none : (comm : Context) (round : ℕ) (e : Entry) → enters_agreement comm.number e ≡ false → entry_of (agreement_topic comm round) e ≡ None
brings_none comm round e none = pick (entry_of (agreement_topic comm round) e) refl
  where
    pick : (o : Option Contribution) → entry_of (agreement_topic comm round) e ≡ o → o ≡ None
    pick None is = refl
    pick (Some brought) is =
        let parts = entry_parts (agreement_topic comm round) e brought is in
        let one = counts parts.0 (agreement_topic comm round) parts.2 in
        let zero = ap (λ b. length (cond b (e ∷ []) [])) none in
        absurd (omega (arith, one, zero, ap (λ x. length (filter (enters_agreement comm.number) (x ∷ []))) parts.1))

module _ (log : List Entry) (e : Entry) (comm : Context) (idle : IsIdleOn comm e) where
  same_agreements : agreements (log ++ e ∷ []) comm.number ≡ agreements log comm.number
  same_agreements = omega (arith, rounds-more log (e ∷ []) true comm.number, ap (λ b. length (cond b (e ∷ []) [])) idle.enters_none)

  same_entered : (round : ℕ) → has_entered (log ++ e ∷ []) (agreement_topic comm round) ≡ has_entered log (agreement_topic comm round)
  same_entered round =
      let t = agreement_topic comm round in
      ap is_some (first-push (entry_of t) log e ∙ ap (or_else (first_given (entry_of t) log)) (brings_none comm round e idle.enters_none) ∙ or_none (first_given (entry_of t) log))

  same_adopted : (round : ℕ) → has_adopted (log ++ e ∷ []) (agreement_topic comm round) ≡ has_adopted log (agreement_topic comm round)
  same_adopted round =
      let t = agreement_topic comm round in
      any-push (adopts t) log e ∙ ap (λ b. has_adopted log t || b) (idle.adopts_none round) ∙ or-false (has_adopted log t)

  same_agreeing : is_agreeing (log ++ e ∷ []) comm ≡ is_agreeing log comm
  same_agreeing =
      let last = agreements log comm.number - 1 in
      ap (λ n. has_entered (log ++ e ∷ []) (agreement_topic comm (n - 1)) && not (has_adopted (log ++ e ∷ []) (agreement_topic comm (n - 1)))) same_agreements
      ∙ ap (λ b. b && not (has_adopted (log ++ e ∷ []) (agreement_topic comm last))) (same_entered last)
      ∙ ap (λ b. has_entered log (agreement_topic comm last) && not b) (same_adopted last)

-- such an entry, and steps that were told no value there, change nothing
counted_idle : (done more : List StepReport) (log : List Entry) (e : Entry) (comm : Context) → IsIdleOn comm e → rounds_told comm more ≡ rounds_told comm done → agreements log comm.number ≡ rounds_told comm done + open_rounds (is_agreeing log comm)
    → agreements (log ++ e ∷ []) comm.number ≡ rounds_told comm more + open_rounds (is_agreeing (log ++ e ∷ []) comm)
counted_idle done more log e comm idle same h =
    omega (arith, same_agreements log e comm idle, h, same, ap open_rounds (same_agreeing log e comm idle))

-- one more step
told-more : (comm : Context) (done : List StepReport) (x : StepReport) (b : Bool) → ends_round_in comm x ≡ b → rounds_told comm (done ++ x ∷ []) ≡ rounds_told comm done + open_rounds b
told-more comm done x true is = omega (arith, ap length (filter-append (ends_round_in comm) done (x ∷ [])), length-append (filter (ends_round_in comm) done) (filter (ends_round_in comm) (x ∷ [])), ap (λ b. length (cond b (x ∷ []) [])) is)
told-more comm done x false is = omega (arith, ap length (filter-append (ends_round_in comm) done (x ∷ [])), length-append (filter (ends_round_in comm) done) (filter (ends_round_in comm) (x ∷ [])), ap (λ b. length (cond b (x ∷ []) [])) is)

module _ (log : List Entry) (entrance : Entrance) (comm : Context) (is : entrance.topic ≡ next_agreement log comm) where
  one_more : agreements (log ++ Entered entrance ∷ []) comm.number ≡ agreements log comm.number + 1
  one_more = omega (arith, rounds-more log (Entered entrance ∷ []) true comm.number, counts entrance (next_agreement log comm) is)

  last_now : last_agreement (log ++ Entered entrance ∷ []) comm ≡ next_agreement log comm
  last_now =
      let turn : agreements (log ++ Entered entrance ∷ []) comm.number - 1 ≡ agreements log comm.number = omega (arith, one_more) in
      ap (agreement_topic comm) turn

  not_adopted : AdoptsEntered log → RoundsCounted log → has_adopted (log ++ Entered entrance ∷ []) (next_agreement log comm) ≡ false
  not_adopted adopted counted = elim (cases_Bool (has_adopted log (next_agreement log comm))) [
    | inl was ↦
        let below = counted (next_agreement log comm) (adopted (next_agreement log comm) was) in
        absurd (omega (arith, below))
    | inr none ↦ any-push (adopts (next_agreement log comm)) log (Entered entrance) ∙ ap (λ b. b || false) none
  ]

  now_agreeing : AdoptsEntered log → RoundsCounted log → is_agreeing (log ++ Entered entrance ∷ []) comm ≡ true
  now_agreeing adopted counted =
      let new = log ++ Entered entrance ∷ [] in
      ap (λ t. has_entered new t && not (has_adopted new t)) last_now
      ∙ ap (λ b. b && not (has_adopted new (next_agreement log comm))) (ap (has_entered new) (sym is) ∙ entered-here log entrance)
      ∙ ap not (not_adopted adopted counted)

-- an agreement is open before its decision is adopted, and not afterwards
module _ (log : List Entry) (held : Decision) (comm : Context) (is : held.topic ≡ last_agreement log comm) where
  was_agreeing : has_entered log (last_agreement log comm) ≡ true → has_adopted log (last_agreement log comm) ≡ false → is_agreeing log comm ≡ true
  was_agreeing entered adopted = ap (λ b. b && not (has_adopted log (last_agreement log comm))) entered ∙ ap not adopted

  still : agreements (log ++ Adopted held ∷ []) comm.number ≡ agreements log comm.number
  still = omega (arith, rounds-more log (Adopted held ∷ []) true comm.number)

  no_longer : is_agreeing (log ++ Adopted held ∷ []) comm ≡ false
  no_longer =
      let new = log ++ Adopted held ∷ [] in
      let adopted : has_adopted new (last_agreement log comm) ≡ true = any-push (adopts (last_agreement log comm)) log (Adopted held) ∙ or_right (has_adopted log (last_agreement log comm)) _ (topic_passes held.topic (last_agreement log comm) is) in
      ap (λ n. has_entered new (agreement_topic comm (n - 1)) && not (has_adopted new (agreement_topic comm (n - 1)))) still
      ∙ ap (λ b. has_entered new (last_agreement log comm) && not b) adopted
      ∙ and-false (has_entered new (last_agreement log comm))

-- the answers of calls tell no value of an agreement
called_silent : (comm : Context) (done : List StepReport) (r : State) (asked : Step) (answer : StepAnswer) (new : State) → AnswersStep done r asked answer new → ends_round_by comm asked answer ≡ false
called_silent comm done r (Agree flag on) (Agreed value missing) new a = absurd a
called_silent comm done r _ _ new a = refl

ended_silent : (comm : Context) (asked : Step) (answer : StepAnswer) → (answer ≡ Unfinished) ⊎ ((answer ≡ Skipped) ⊎ (answer ≡ Refused OutOfMemory)) → ends_round_by comm asked answer ≡ false
ended_silent comm (Agree flag on) answer h = elim h [ inl is ↦ ap (ends_round_by comm (Agree flag on)) is | inr (inl is) ↦ ap (ends_round_by comm (Agree flag on)) is | inr (inr is) ↦ ap (ends_round_by comm (Agree flag on)) is ]
ended_silent comm _ answer h = refl

apart_idle : (comm : Context) (e : Entry) → IsApart e → IsIdleOn comm e
apart_idle comm (Entered entrance) h = absurd h
apart_idle comm (Adopted d) h = absurd h
apart_idle comm _ h = record { enters_none = refl; adopts_none = λ round. refl }

took_apart : (e : Entry) → IsTook e → IsApart e
took_apart (Took source item) h = tt
took_apart _ h = absurd h

-- entrances into a shrink, and into an agreement on another communicator
entrance_idle : (comm : Context) (entrance : Entrance) → (eqb entrance.topic.context.number comm.number && is_agreement entrance.topic.purpose) ≡ false → IsIdleOn comm (Entered entrance)
entrance_idle comm entrance none = record { enters_none = none; adopts_none = λ round. refl }

-- so are adoptions
adoption_idle : (comm : Context) (held : Decision) → ((round : ℕ) → is_topic held.topic (agreement_topic comm round) ≡ false) → IsIdleOn comm (Adopted held)
adoption_idle comm held none = record { enters_none = refl; adopts_none = none }

-- what a log keeps while agreements are entered and adopted
abbrev Keeps : List StepReport → List Entry → Type 0
Keeps done log = AdoptsEntered log × RoundsCounted log × IsCounted done log

-- an entry that fits keeps the first two
keeps_by : (n me : ℕ) (done more : List StepReport) (log : List Entry) (e : Entry) → Fits n me log e → Keeps done log → IsCounted more (log ++ e ∷ []) → Keeps more (log ++ e ∷ [])
keeps_by n me done more log e fits k counted = (adopts_entered n me log e k.0 fits, rounds_counted n me log e k.1 fits, counted)

keeps_idle : (n me : ℕ) (done more : List StepReport) (log : List Entry) (e : Entry) → Fits n me log e → ((comm : Context) → IsIdleOn comm e) → ((comm : Context) → rounds_told comm more ≡ rounds_told comm done) → Keeps done log → Keeps more (log ++ e ∷ [])
keeps_idle n me done more log e fits idle same k = keeps_by n me done more log e fits k (λ comm. counted_idle done more log e comm (idle comm) (same comm) (k.2 comm))

refused_silent : (comm : Context) (asked : Step) (e : CallError) → ends_round_by comm asked (Refused e) ≡ false
refused_silent comm (Agree flag on) e = refl
refused_silent comm _ e = refl

-- a step that was told no value
keeps_silent : (done : List StepReport) (log : List Entry) (x : StepReport) → ((comm : Context) → ends_round_by comm x.step x.answer ≡ false) → Keeps done log → Keeps (done ++ x ∷ []) log
keeps_silent done log x silent k = (k.0, k.1, λ comm. omega (arith, k.2 comm, told-more comm done x false (silent comm)))

module _ (known : Known) (r : State) where
  answered : (done : List StepReport) (old : State) (x : StepReport) (new : State) → AnswersStep done old x.step x.answer new → Keeps done old.log → Keeps (done ++ x ∷ []) new.log
  answered done old x new a k =
      let silent : (comm : Context) → ends_round_by comm x.step x.answer ≡ false = λ comm. called_silent comm done old x.step x.answer new a in
      keeps_silent done new.log x silent (elim (answers_plain done old x.step x.answer new a) [
        | inl same ↦ rw same.0 k
        | inr one ↦ rw one.2 (keeps_idle old.ranks old.me done done old.log one.0 (fits_apart old.ranks old.me old.log one.0 one.1.apart) (λ comm. apart_idle comm one.0 one.1.apart) (λ comm. refl) k)
      ])

  -- an entrance opens a round on its communicator alone
  entered : (done : List StepReport) (old : State) (asked : Step) (topic : Topic) (new : State) → EntersBy old asked topic new → Keeps done old.log → (comm : Context) → agreements new.log comm.number ≡ rounds_told comm done + open_rounds (is_agreeing new.log comm)
  entered done old (Shrink on again) topic new h k comm =
      let e = h.enters.entrance in
      let idle = entrance_idle comm e (ap (λ (t : Topic). eqb t.context.number comm.number && is_agreement t.purpose) (h.enters.about ∙ sym (same_Some _ topic h.about)) ∙ and-false (eqb on.number comm.number)) in
      rw h.enters.only (counted_idle done done old.log (Entered e) comm idle refl (k.2 comm))
  entered done old (Agree flag on) topic new h k comm =
      let e = h.enters.entrance in
      let is : e.topic ≡ next_agreement old.log on = h.enters.about ∙ sym (same_Some _ topic h.about) in
      elim (cases_eq on.number comm.number) [
        | inl same ↦
            let here : e.topic ≡ next_agreement old.log comm = is ∙ ap (next_agreement old.log) (same_context on comm same) in
            let idle : is_agreeing old.log comm ≡ false = ap (is_agreeing old.log) (sym (same_context on comm same)) ∙ (all_pass (agree_checks old on) h.accepted).1.1.0 in
            rw h.enters.only (omega (arith, one_more old.log e comm here, k.2 comm, ap open_rounds idle, ap open_rounds (now_agreeing old.log e comm here k.0 k.1)))
        | inr other ↦
            let idle = entrance_idle comm e (ap (λ (t : Topic). eqb t.context.number comm.number && is_agreement t.purpose) is ∙ ap (λ b. b && true) (ne_eqb on.number comm.number other)) in
            rw h.enters.only (counted_idle done done old.log (Entered e) comm idle refl (k.2 comm))
      ]
  entered done old _ topic new h k comm = absurd (none-some topic h.about)

  opened : (done : List StepReport) (old : State) (asked : Step) (topic : Topic) (new : State) → EntersBy old asked topic new → Keeps done old.log → Keeps done new.log
  opened done old asked topic new h k =
      let C : State → Type 0 = λ s. IsCounted done s.log in
      let more = keeps_by old.ranks old.me done done old.log (Entered h.enters.entrance) (fits_entered old asked topic new k.1 h) k (subst C h.enters.only (entered done old asked topic new h k)) in
      rw h.enters.only more

  -- an adoption closes one
  adopted : (done : List StepReport) (old : State) (asked : Step) (answer : StepAnswer) (topic : Topic) (held : Decision) (new : State) (place polls : ℕ) → topic_of old.log asked ≡ Some topic → AnswersAdoption old asked topic held answer new → Keeps done old.log → Keeps (done ++ step_report asked answer place polls ∷ []) new.log
  adopted done old (Shrink on again) (Shrunk child group me) topic held new place polls about a k =
      let x = step_report (Shrink on again) (Shrunk child group me) place polls in
      let is : held.topic ≡ last_shrink old.log on = (adopted_about old topic held a.0) ∙ sym (same_Some _ topic about) in
      rw a.4 (keeps_idle old.ranks old.me done (done ++ x ∷ []) old.log (Adopted held) (fits_adopted old topic held a.0)
      (λ comm. adoption_idle comm held (λ round. ap (λ t. is_topic t (agreement_topic comm round)) is ∙ and-false (eqb on.number comm.number)))
      (λ comm. omega (arith, told-more comm done x false refl)) k)
  adopted done old (Agree flag on) (Agreed value missing) topic held new place polls about a k =
      let x = step_report (Agree flag on) (Agreed value missing) place polls in
      let is : held.topic ≡ last_agreement old.log on = (adopted_about old topic held a.0) ∙ sym (same_Some _ topic about) in
      let checks = all_pass (adopt_checks old topic held) a.0 in
      rw a.3 (keeps_by old.ranks old.me done (done ++ x ∷ []) old.log (Adopted held) (fits_adopted old topic held a.0) k (λ comm. elim (cases_eq on.number comm.number) [
        | inl same ↦
            let here : held.topic ≡ last_agreement old.log comm = is ∙ ap (last_agreement old.log) (same_context on comm same) in
            let last : topic ≡ last_agreement old.log comm = sym (same_Some _ topic about) ∙ ap (last_agreement old.log) (same_context on comm same) in
            let agreeing = was_agreeing old.log held comm here (ap (has_entered old.log) (sym last) ∙ not-false _ checks.1.1.1.0) (ap (has_adopted old.log) (sym last) ∙ checks.1.1.0) in
            omega (arith, still old.log held comm here, k.2 comm, ap open_rounds agreeing, ap open_rounds (no_longer old.log held comm here), told-more comm done x true (eq-eqb on.number comm.number same))
        | inr other ↦
            counted_idle done (done ++ x ∷ []) old.log (Adopted held) comm
            (adoption_idle comm held (λ round. ap (λ t. is_topic t (agreement_topic comm round)) is ∙ ap (λ b. b && eqb (agreements old.log on.number - 1) round) (ne_eqb on.number comm.number other)))
            (omega (arith, told-more comm done x false (ne_eqb on.number comm.number other))) (k.2 comm)
      ]))
  adopted done old asked (Refused e) topic held new place polls about a k =
      keeps_silent done new.log (step_report asked (Refused e) place polls) (λ comm. refused_silent comm asked e) (rw (refused_adoption old asked topic held e new a).1 k)
  adopted done old asked _ topic held new place polls about a k = absurd a

  counted : KeepsAll known r Keeps
  counted = record {
    takes = λ done log e took k. keeps_idle r.ranks r.me done done log e (fits_apart r.ranks r.me log e (took_apart e took)) (λ comm. apart_idle comm e (took_apart e took)) (λ comm. refl) k;
    answers = λ n old new done report stood a k. answered done old report new a k;
    opens = λ n old new done asked stood o k. elim (opens_adds done old asked new o) [
      | inl same ↦ rw same k
      | inr entry ↦ opened done old asked entry.0 new entry.1 k
    ];
    adopts = λ n old new done report topic held stood about knows a k. adopted done old report.step report.answer topic held new report.at report.polls about a k;
    ends = λ log done report how k. keeps_silent done log report (λ comm. ended_silent comm report.step report.answer how) k;
  }

-- a step that may enter an agreement enters it in the round of the steps before it
pub in_turn : (known : Known) (r : State) (done : List StepReport) (from n : ℕ) (old : State) (comm : Context) → EachAnswerFollows known r [] 0 done from → OnlyTook r.log from n → StoodAt r n old → Passes (agree_checks old comm) → agreements old.log comm.number ≡ rounds_told comm done
in_turn known r done from n old comm answers took stood passes =
    let start : Keeps [] [] = ((λ t h. absurd (false≢true h)), (λ topic h. absurd (false≢true h)), (λ on. refl)) in
    let idle : is_agreeing old.log comm ≡ false = (all_pass (agree_checks old comm) passes).1.1.0 in
    let k = walked_to known r Keeps (counted known r) done from n old answers took stood start in
    omega (arith, k.2 comm, ap open_rounds idle)
