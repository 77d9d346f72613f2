-- The receives that the answers of steps name by their numbers.
use Rattle.std.proofs.Common.{◌≡◌, ℕ, zero, suc, ◌<◌, ◌⊎◌, inl, inr, List, [], ◌∷◌, ◌++◌, length, refl, ap, arith, Option, Some, None, slice_get}
use Rattle.ulfm_report_laws.proofs.Common.{⊤, MessageId, RequestId, Status, Step, Wait, Mrecv, Cancel, get_front, StepAnswer, Posted, Found, StepReport, request_of, request_in, request_at, message_of, message_in, message_at}

-- the number of the receive that an answer posted
abbrev pub number_of : StepAnswer → Option ℕ
number_of (Posted id) = Some id.number
number_of (Found id status) = Some id.number
number_of _ = None

abbrev pub number_in : Option StepReport → Option ℕ
number_in None = None
number_in (Some report) = number_of report.answer

-- the number of the receive that the step of this number posted, if it did
abbrev pub number_at : List StepReport → ℕ → Option ℕ
number_at done k = number_in (slice_get done k)

-- a request is named by its number
pub request_number : (done : List StepReport) (k : ℕ) {id : RequestId} → request_at done k ≡ Some id → number_at done k ≡ Some id.number
request_number done k {id} h = pick (slice_get done k) h
  where
    said : (answer : StepAnswer) → request_of answer ≡ Some id → number_of answer ≡ Some id.number
    said (Posted jd) h = cc
    said _ h = absurd (cc)

    pick : (o : Option StepReport) → request_in o ≡ Some id → number_in o ≡ Some id.number
    pick None h = absurd (cc)
    pick (Some x) h = said x.answer h

-- and so is a message
pub message_number : (done : List StepReport) (k : ℕ) {id : MessageId} → message_at done k ≡ Some id → number_at done k ≡ Some id.number
message_number done k {id} h = pick (slice_get done k) h
  where
    said : (answer : StepAnswer) → message_of answer ≡ Some id → number_of answer ≡ Some id.number
    said (Found jd status) h = cc
    said _ h = absurd (cc)

    pick : (o : Option StepReport) → message_in o ≡ Some id → number_in o ≡ Some id.number
    pick None h = absurd (cc)
    pick (Some x) h = said x.answer h

-- A receive of what a probe found asks for a message that was answered, and a wait or a cancel for a request.
abbrev pub AsksForAnswer : Step → StepAnswer → Type 0
AsksForAnswer (Mrecv req room) (Found id status) = ⊤
AsksForAnswer (Wait req) (Posted id) = ⊤
AsksForAnswer (Cancel req) (Posted id) = ⊤
AsksForAnswer _ _ = ⊥

-- step k was answered what this step asks for
pub record AsksAt (done : List StepReport) (k : ℕ) (asked : Step) : Type 0 where
  pub report : StepReport
  pub there : slice_get done k ≡ Some report
  pub names : AsksForAnswer asked report.answer

-- a step that asks for a request asks for the one that is there
pub asks_request : (done : List StepReport) (k : ℕ) (asked : Step) {id : RequestId} → ((other : RequestId) → AsksForAnswer asked (Posted other)) → request_at done k ≡ Some id → AsksAt done k asked
asks_request done k asked {id} any h = pick (slice_get done k) refl h
  where
    said : (answer : StepAnswer) → request_of answer ≡ Some id → AsksForAnswer asked answer
    said (Posted jd) h = any jd
    said _ h = absurd (cc)

    pick : (o : Option StepReport) → slice_get done k ≡ o → request_in o ≡ Some id → AsksAt done k asked
    pick None e h = absurd (cc)
    pick (Some x) e h = record { report = x; there = e; names = said x.answer h }

-- and one that asks for a message
pub asks_message : (done : List StepReport) (k : ℕ) (asked : Step) {id : MessageId} → ((other : MessageId) (status : Status) → AsksForAnswer asked (Found other status)) → message_at done k ≡ Some id → AsksAt done k asked
asks_message done k asked {id} any h = pick (slice_get done k) refl h
  where
    said : (answer : StepAnswer) → message_of answer ≡ Some id → AsksForAnswer asked answer
    said (Found jd status) h = any jd status
    said _ h = absurd (cc)

    pick : (o : Option StepReport) → slice_get done k ≡ o → message_in o ≡ Some id → AsksAt done k asked
    pick None e h = absurd (cc)
    pick (Some x) e h = record { report = x; there = e; names = said x.answer h }

-- what a beginning of the answered steps has, all have
pub asks_front : (done more : List StepReport) (k : ℕ) (asked : Step) → AsksAt done k asked → AsksAt (done ++ more) k asked
asks_front done more k asked h = record { report = h.report; there = get_front done more k h.report h.there; names = h.names }

-- a number of a beginning of the answered steps is the same of all
pub number_front : (done more : List StepReport) (k : ℕ) {number : ℕ} → number_at done k ≡ Some number → number_at (done ++ more) k ≡ Some number
number_front [] more k h = absurd (cc)
number_front (x ∷ done) more zero h = h
number_front (x ∷ done) more (suc k) h = number_front done more k h

-- the number that one more answer names stands last
pub number_last : (done : List StepReport) (x : StepReport) → number_at (done ++ x ∷ []) (length done) ≡ number_of x.answer
number_last [] x = refl
number_last (y ∷ done) x = number_last done x

pub number_cases : (done : List StepReport) (x : StepReport) (k : ℕ) {number : ℕ} → number_at (done ++ x ∷ []) k ≡ Some number → (number_at done k ≡ Some number) ⊎ ((k ≡ length done) × (number_of x.answer ≡ Some number))
number_cases [] x zero h = inr (refl, h)
number_cases [] x (suc k) h = absurd (cc)
number_cases (y ∷ done) x zero h = inl h
number_cases (y ∷ done) x (suc k) h = elim (number_cases done x k h) [ inl o ↦ inl o | inr e ↦ inr (ap suc e.0, e.1) ]

pub number_within : (done : List StepReport) (k : ℕ) {number : ℕ} → number_at done k ≡ Some number → k < length done
number_within [] k h = absurd (cc)
number_within (x ∷ done) zero h = omega arith
number_within (x ∷ done) (suc k) h = let l = number_within done k h in omega (arith, l)

-- the step that posted a receive of this number
pub number_step : (steps : List StepReport) (k : ℕ) {number : ℕ} → number_at steps k ≡ Some number → (x : StepReport) × (slice_get steps k ≡ Some x) × (number_of x.answer ≡ Some number)
number_step steps k {number} h = pick (slice_get steps k) refl h
  where
    pick : (o : Option StepReport) → slice_get steps k ≡ o → number_in o ≡ Some number → (x : StepReport) × (slice_get steps k ≡ Some x) × (number_of x.answer ≡ Some number)
    pick None e h = absurd (cc)
    pick (Some x) e h = (x, e, h)
