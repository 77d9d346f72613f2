-- Reports whose answers are right are true of their logs.
use Rattle.std.proofs.Common.{◌≡◌, ℕ, List, [], ◌∷◌, ◌++◌, refl, ap, subst, ◌∙◌, inl, inr, ◌⊎◌, All}
use Rattle.ulfm_report_laws.proofs.Common.{Topic, Decision, Entry, State, StepReport, Step, Report, Unfinished, Skipped, Refused, AnswersStep, LeavesOpen, OutOfMemory, all_front, all_last, Known, AnswersAdoption, StoodAt, IsTook, AnswersFollow}
use Rattle.ulfm_log.specs.declared.entry.Entry.TheVariants.{Took, Entered, Adopted}
use Rattle.ulfm_script.proofs.Polls.{answers_plain, opens_adds, adoption_adds}
use Rattle.ulfm_script.proofs.Alike.{AddsFew}
use Rattle.ulfm_script.proofs.Walked.{KeepsAll, reported}
use Rattle.ulfm_report_laws.proofs.Answering.{true-answers, honest-plain}
use Rattle.ulfm_report_laws.proofs.Closing.{IsTrueOf}
use Rattle.ulfm_report_laws.proofs.Honest.{IsHonest, honest-logged, honest-start}
use Rattle.ulfm_report_laws.proofs.Mail.{IsTakenFrom}
use Rattle.ulfm_report_laws.proofs.Joint.{true-open, true-adoption}

same_ranks : {old new : State} → AddsFew old new → new.ranks ≡ old.ranks
same_ranks (inl same) = ap (λ s. s.ranks) same
same_ranks (inr one) = ap (λ s. s.ranks) one.1

before_few : (P : Entry → Type 0) {old new : State} → AddsFew old new → All P new.log → All P old.log
before_few P (inl same) all = subst (λ s. All P s.log) same all
before_few P {old} (inr one) all = all_front P old.log one.0 (subst (λ s. All P s.log) one.1 all)

took_borne : {n : ℕ} {log : List Entry} (e : Entry) {done : List StepReport} → IsTook e → IsHonest n log done → IsTakenFrom n e → IsHonest n (log ++ e ∷ []) done
took_borne {n} {log} (Took source item) {done} t h own = honest-logged (Took source item) h tt (λ c d. refl) own
took_borne _ t h own = absurd t

module _ (known : Known) (r : State) where
  -- where each item that was taken came from a rank, the steps are true of the log
  abbrev IsBorne : List StepReport → List Entry → Type 0
  IsBorne done log = All (IsTakenFrom r.ranks) log → IsHonest r.ranks log done

  -- what is kept true of a state that stood at some place
  changed : {n : ℕ} (old new : State) (done later : List StepReport) → StoodAt r n old → AddsFew old new → (IsTrueOf old done → IsTrueOf new later) → IsBorne done old.log → IsBorne later new.log
  changed old new done later stood few keeps borne all = rw (same_ranks few ∙ stood.ranks) at (keeps (rw stood.ranks (borne (before_few (IsTakenFrom r.ranks) few all))))

  ended : (log : List Entry) (done : List StepReport) (report : StepReport) → (report.answer ≡ Unfinished) ⊎ ((report.answer ≡ Skipped) ⊎ (report.answer ≡ Refused OutOfMemory)) → IsHonest r.ranks log done → IsHonest r.ranks log (done ++ report ∷ [])
  ended log done report how h = honest-plain r.ranks log done report.step report.answer report.at report.polls h (elim how [ inl is ↦ rw is tt | inr (inl is) ↦ rw is tt | inr (inr is) ↦ rw is tt ])

  answered_few : (done : List StepReport) (old : State) (report : StepReport) (new : State) → AnswersStep done old report.step report.answer new → AddsFew old new
  answered_few done old report new a = elim (answers_plain done old report.step report.answer new a) [ inl same ↦ inl same.0 | inr one ↦ inr (one.0, one.2) ]

  opened_few : (done : List StepReport) (old : State) (asked : Step) (new : State) → LeavesOpen done old asked new → AddsFew old new
  opened_few done old asked new o = elim (opens_adds done old asked new o) [ inl same ↦ inl same | inr entry ↦ inr (Entered entry.1.enters.entrance, entry.1.enters.only) ]

  adopted : (n : ℕ) (old new : State) (done : List StepReport) (report : StepReport) (topic : Topic) (held : Decision) → StoodAt r n old → AnswersAdoption old report.step topic held report.answer new → IsBorne done old.log → IsBorne (done ++ report ∷ []) new.log
  adopted n old new done report topic held stood a borne =
      changed old new done (done ++ report ∷ []) stood (elim (adoption_adds old report.step topic held report.answer new a) [ inl same ↦ inl same | inr one ↦ inr (Adopted held, one.1) ]) (λ h. true-adoption old done h report.at report.polls new report.step topic held report.answer a) borne

  borne : KeepsAll known r IsBorne
  borne = record {
    takes = λ done log e took k all. took_borne e took (k (all_front (IsTakenFrom r.ranks) log e all)) (all_last (IsTakenFrom r.ranks) log e all);
    answers = λ n old new done report stood a k.
        changed old new done (done ++ report ∷ []) stood (answered_few done old report new a) (λ h. true-answers old h report.at report.polls new report.step report.answer a) k;
    opens = λ n old new done asked stood o k. changed old new done done stood (opened_few done old asked new o) (λ h. true-open old asked new h o) k;
    adopts = λ n old new done report topic held stood about knows a k. adopted n old new done report topic held stood a k;
    ends = λ log done report how k all. ended log done report how (k all);
  }

-- the steps of a report with right answers are true of its log
pub borne_out : (known : Known) (told : Report) → AnswersFollow known told → All (IsTakenFrom told.rank.ranks) told.rank.log → IsHonest told.rank.ranks told.rank.log told.steps
borne_out known told h all = reported known told (IsBorne known told.rank) (borne known told.rank) (λ none. honest-start told.rank.ranks) h all
