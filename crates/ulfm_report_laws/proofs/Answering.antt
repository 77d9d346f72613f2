-- Each answer of a poll keeps the steps of a rank true of its log.
use Rattle.std.proofs.Common.{◌≡◌, ℕ, List, [], ◌∷◌, ◌++◌, refl, inl, inr, Some, None}
use Rattle.ulfm_report_laws.proofs.Common.{Entry, State, logged, Step, StepAnswer, StepReport, Send, Wait, Mrecv, Cancel, Sent, Posted, Done, Over, Found, Cancelled, AnswersStep, step_report, sent_by, closes, PostsNone}
use Rattle.ulfm_log.specs.declared.entry.Entry.TheVariants.{Sent as SentEntry, Posted as PostedEntry, Released, Received, Cancelled as CancelEntry, Probed, Took}
use Rattle.ulfm_log.specs.declared.entry.TestAnswer.TheVariants.{Done as TestDone, Over as TestOver}
use Rattle.ulfm_script.proofs.Says.{IsSilent, IsIdle, each_answer}
use Rattle.ulfm_report_laws.proofs.Honest.{IsHonest, honest-logged, honest-answered}
use Rattle.ulfm_report_laws.proofs.Mail.{sent_entry, IsTakenFrom}
use Rattle.ulfm_report_laws.proofs.Closing.{IsTrueOf, true-sent, true-closed}
use Rattle.ulfm_report_laws.proofs.Numbers.{number_of}
use Rattle.ulfm_report_laws.proofs.Posting.{true-posted, true-found}
use Rattle.ulfm_report_laws.proofs.Releasing.{closes_request, closes_message, closes_cancelled}
use Rattle.ulfm_report_laws.proofs.Tells.{Tells}

-- an answer that posts, sends and releases nothing
pub record IsPlain (asked : Step) (answer : StepAnswer) : Type 0 where
  pub sends : (group : List ℕ) (c d : ℕ) → sent_by group c d asked answer ≡ []
  pub asks : number_of answer ≡ None
  pub tells : (n : ℕ) (log : List Entry) (done : List StepReport) → Tells n log done asked answer
  pub waits : (req : ℕ) → closes asked answer ≡ Some req → ⊥

-- a silent answer is plain, whatever was asked
pub plain : (asked : Step) (answer : StepAnswer) → IsSilent answer → IsPlain asked answer
plain asked answer silent = record { sends = λ group c d. sends group c d asked answer silent; asks = asks answer silent; tells = λ n log done. tells n log done asked answer silent; waits = λ req. waits req asked answer silent }
  where
    sends : (group : List ℕ) (c d : ℕ) (asked : Step) (answer : StepAnswer) → IsSilent answer → sent_by group c d asked answer ≡ []
    sends group c d (Send to tag body comm) Sent h = absurd h
    sends group c d _ _ h = refl

    asks : (answer : StepAnswer) → IsSilent answer → number_of answer ≡ None
    asks (Posted id) h = absurd h
    asks (Found id status) h = absurd h
    asks _ h = refl

    tells : (n : ℕ) (log : List Entry) (done : List StepReport) (asked : Step) (answer : StepAnswer) → IsSilent answer → Tells n log done asked answer
    tells n log done asked Sent h = absurd h
    tells n log done asked (Posted id) h = absurd h
    tells n log done asked (Found id status) h = absurd h
    tells n log done asked (Done status body) h = absurd h
    tells n log done asked (Over reason) h = absurd h
    tells n log done asked Cancelled h = absurd h
    tells n log done asked _ h = tt

    waits : (req : ℕ) (asked : Step) (answer : StepAnswer) → IsSilent answer → closes asked answer ≡ Some req → ⊥
    waits req asked (Done status body) h e = absurd h
    waits req asked (Over reason) h e = absurd h
    waits req asked Cancelled h e = absurd h
    waits req asked _ h e = let bad : ⊥ = cc in bad

pub honest-plain : (n : ℕ) (log : List Entry) (done : List StepReport) (asked : Step) (answer : StepAnswer) (at polls : ℕ) → IsHonest n log done → IsSilent answer → IsHonest n log (done ++ step_report asked answer at polls ∷ [])
honest-plain n log done asked answer at polls h silent =
    let p = plain asked answer silent in
    honest-answered n (step_report asked answer at polls) h (λ group c d. p.sends group c d) p.asks (p.tells n log (done ++ step_report asked answer at polls ∷ [])) (λ req k y c g f. p.waits req c)

-- nothing is added to the log
pub true-same : (r : State) (done : List StepReport) (asked : Step) (answer : StepAnswer) (at polls : ℕ) (new : State) → IsTrueOf r done → IsSilent answer → new ≡ r → IsTrueOf new (done ++ step_report asked answer at polls ∷ [])
true-same r done asked answer at polls new h silent same = rw same (honest-plain r.ranks r.log done asked answer at polls h silent)

-- an idle entry is added
pub true-idle : {n : ℕ} {log : List Entry} {done : List StepReport} (e : Entry) → IsIdle e → IsHonest n log done → IsHonest n (log ++ e ∷ []) done
true-idle {n} {log} {done} e idle h = honest-logged e h (posts e idle) (λ c d. sends c d e idle) (takes e idle)
  where
    posts : (e : Entry) → IsIdle e → PostsNone e
    posts (PostedEntry pattern) h = absurd h
    posts (Probed id pattern) h = absurd h
    posts _ h = tt

    sends : (c d : ℕ) (e : Entry) → IsIdle e → sent_entry c d e ≡ []
    sends c d (SentEntry to letter) h = absurd h
    sends c d _ h = refl

    takes : (e : Entry) → IsIdle e → IsTakenFrom n e
    takes (Took source item) h = absurd h
    takes _ h = tt

pub true-one : (r : State) (done : List StepReport) (asked : Step) (answer : StepAnswer) (at polls : ℕ) (new : State) (e : Entry) → IsTrueOf r done → IsSilent answer → IsIdle e → new ≡ logged r e → IsTrueOf new (done ++ step_report asked answer at polls ∷ [])
true-one r done asked answer at polls new e h silent idle only = true-same (logged r e) done asked answer at polls new (true-idle e idle h) silent only

-- an answer keeps the steps true
pub true-answers : (r : State) {done : List StepReport} (h : IsTrueOf r done) (at polls : ℕ) (new : State) (asked : Step) (answer : StepAnswer) → AnswersStep done r asked answer new → IsTrueOf new (done ++ step_report asked answer at polls ∷ [])
true-answers r {done} h at polls new asked answer a =
    each_answer done r new (λ step said. IsTrueOf new (done ++ step_report step said at polls ∷ []))
    (λ to tag body comm k. true-sent r done to tag body comm at polls new h k)
    (λ source tag room comm id k. true-posted r done source tag room comm id at polls new h k.0 k.1 k.2)
    (λ req status body k. true-closed r (Released k.id (TestDone status body)) (step_report (Wait req) (Done status body) at polls) h (closes_request r (Wait req) (λ p. refl) (λ other. tt) refl k) refl refl (λ group c d. refl) (λ n log dones v. v) k.only)
    (λ req reason k. true-closed r (Released k.id (TestOver reason)) (step_report (Wait req) (Over reason) at polls) h (closes_request r (Wait req) (λ p. refl) (λ other. tt) refl k) refl refl (λ group c d. refl) (λ n log dones v. v) k.only)
    (λ source tag comm id status k. true-found r done source tag comm id status at polls new h k)
    (λ req room status body k. true-closed r (Received k.id (TestDone status body)) (step_report (Mrecv req room) (Done status body) at polls) h (closes_message r (Mrecv req room) room (λ p. refl) (λ other seen. tt) refl k) refl refl (λ group c d. refl) (λ n log dones v. v) k.only)
    (λ req room reason k. true-closed r (Received k.id (TestOver reason)) (step_report (Mrecv req room) (Over reason) at polls) h (closes_message r (Mrecv req room) room (λ p. refl) (λ other seen. tt) refl k) refl refl (λ group c d. refl) (λ n log dones v. v) k.only)
    (λ req k. true-closed r (CancelEntry k.tests.id) (step_report (Cancel req) Cancelled at polls) h (closes_cancelled r k) refl refl (λ group c d. refl) (λ n log dones v. v) k.only)
    (λ req status body k. true-closed r (Released k.id (TestDone status body)) (step_report (Cancel req) (Done status body) at polls) h (closes_request r (Cancel req) (λ p. refl) (λ other. tt) refl k) refl refl (λ group c d. refl) (λ n log dones v. v) k.only)
    (λ req reason k. true-closed r (Released k.id (TestOver reason)) (step_report (Cancel req) (Over reason) at polls) h (closes_request r (Cancel req) (λ p. refl) (λ other. tt) refl k) refl refl (λ group c d. refl) (λ n log dones v. v) k.only)
    (λ step said silent k. elim k [
      | inl same ↦ true-same r done step said at polls new h silent same.0
      | inr one ↦ true-one r done step said at polls new one.0 h silent one.1.idle one.2
    ])
    asked answer a
