-- What a test of its request says for a wait or a cancel, and the answer of a message for its receive.
use Rattle.std.proofs.Common.{◌≡◌, ℕ, true, false, List, refl, sym, ◌∙◌, IfSome, IfNone, Some, None}
use Rattle.ulfm_log.specs.declared.entry.Entry.TheVariants.{Released, Cancelled}
use Rattle.ulfm_log.specs.declared.entry.TestAnswer.{TestAnswer}
use Rattle.ulfm_log.specs.declared.entry.TestAnswer.TheVariants.{Done, Over, Pending, NotYet}
use Rattle.ulfm_base.specs.declared.pattern.Pattern.{Pattern}
use Rattle.ulfm_match.specs.Pairing.{Pairing, LawfulPairing}
use Rattle.ulfm_rank.specs.Answer.{IsRequest, IsTestAnswer, is_release}
use Rattle.ulfm_rank.specs.History.{history_of}
use Rattle.ulfm_rank.specs.Messages.{is_receipt}
use Rattle.ulfm_script.proofs.Common.{logged, State, StepAnswer, StepReport, tested, request_at, Cancels, Tests, Receives, AnswersWait, AnswersCancel, AnswersMrecv, answer_of, RequestId, same_Some, false≢true}

-- a test releases its request or changes nothing
pub only_tested : (r new : State) (id : RequestId) (answer : TestAnswer) → (is_release answer ≡ true → new ≡ logged r (Released id answer)) → (is_release answer ≡ false → new ≡ r) → new ≡ tested r id answer
only_tested r new id (Done status body) released stays = released refl
only_tested r new id (Over reason) released stays = released refl
only_tested r new id Pending released stays = stays refl
only_tested r new id NotYet released stays = stays refl

-- a test that answers the wait
pub answers_wait : (before : List StepReport) (r : State) (req : ℕ) (answer : TestAnswer) (new : State) → Tests before r req answer new → IfSome (answer_of answer) (λ told. AnswersWait before r req told new)
answers_wait before r req (Done status body) new h = h
answers_wait before r req (Over reason) new h = h
answers_wait before r req Pending new h = h
answers_wait before r req NotYet new h = tt

-- a test that leaves the wait open
pub stays_open : (before : List StepReport) (r : State) (req : ℕ) (answer : TestAnswer) (new : State) → Tests before r req answer new → IfNone (answer_of answer) (Tests before r req NotYet new)
stays_open before r req (Done status body) new h = tt
stays_open before r req (Over reason) new h = tt
stays_open before r req Pending new h = tt
stays_open before r req NotYet new h = h

-- a step has something to say of an answer that releases
pub release_said : (answer : TestAnswer) → is_release answer ≡ true → answer_of answer ≡ None → ⊥
release_said (Done status body) k e = cc
release_said (Over reason) k e = cc
release_said Pending k e = false≢true k
release_said NotYet k e = false≢true k

-- what is answered of a message releases it
pub receipt_releases : (answer : TestAnswer) → is_receipt answer ≡ true → is_release answer ≡ true
receipt_releases (Done status body) k = refl
receipt_releases (Over reason) k = refl
receipt_releases Pending k = k
receipt_releases NotYet k = k

-- a test that doesn't release changes nothing
stays_tested : (r : State) (id : RequestId) (answer : TestAnswer) → is_release answer ≡ false → r ≡ tested r id answer
stays_tested r id answer k = only_tested r r id answer (λ e. absurd (false≢true (sym k ∙ e))) (λ e. refl)

-- what a test of a request that a step posted says
pub tests_by : {before : List StepReport} {r : State} {req : ℕ} {id : RequestId} {answer : TestAnswer} {new : State} → request_at before req ≡ Some id → ((i : ℕ) × (pattern : Pattern) × IsRequest r.log id.number i pattern) → ((pairing : Pairing) × LawfulPairing (history_of r.log) pairing) →
    IsTestAnswer r.ranks r.log id.number answer → new ≡ tested r id answer → Tests before r req answer new
tests_by {id = id} posted request pairing answers only =
    record { id = id; posted = posted; place = request.0; pattern = request.1; request = request.2; pairing = pairing.0; lawful = pairing.1; answers = answers; only = only }

-- a cancel of a request that a test would leave
pub cancels_by : {before : List StepReport} {r : State} {req : ℕ} {id : RequestId} (answer : TestAnswer) {new : State} → is_release answer ≡ false → request_at before req ≡ Some id → ((i : ℕ) × (pattern : Pattern) × IsRequest r.log id.number i pattern) → ((pairing : Pairing) × LawfulPairing (history_of r.log) pairing) →
    IsTestAnswer r.ranks r.log id.number answer → new ≡ logged r (Cancelled id) → Cancels before r req new
unfolding tests_by
cancels_by {r = r} {id = id} answer goes_on posted request pairing answers only =
    record { answer = answer; goes_on = goes_on; tests = tests_by posted request pairing answers (stays_tested r id answer goes_on); only = only }

-- a test that releases the request answers a cancel that came too late
pub answers_late : (before : List StepReport) (r : State) (req : ℕ) (answer : TestAnswer) (said : StepAnswer) (new : State) → Tests before r req answer new → is_release answer ≡ true → answer_of answer ≡ Some said → AnswersCancel before r req said new
answers_late before r req (Done status body) said new h k e = rw (← same_Some _ said e) h
answers_late before r req (Over reason) said new h k e = rw (← same_Some _ said e) h
answers_late before r req Pending said new h k e = absurd (false≢true k)
answers_late before r req NotYet said new h k e = absurd (false≢true k)

-- the answer of a message is that of its receive
pub answers_mrecv : (before : List StepReport) (r : State) (req room : ℕ) (answer : TestAnswer) (said : StepAnswer) (new : State) → Receives before r req room answer new → is_release answer ≡ true → answer_of answer ≡ Some said → AnswersMrecv before r req room said new
answers_mrecv before r req room (Done status body) said new h k e = rw (← same_Some _ said e) h
answers_mrecv before r req room (Over reason) said new h k e = rw (← same_Some _ said e) h
answers_mrecv before r req room Pending said new h k e = absurd (false≢true k)
answers_mrecv before r req room NotYet said new h k e = absurd (false≢true k)
