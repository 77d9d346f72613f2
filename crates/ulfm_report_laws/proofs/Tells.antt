-- What the answered steps of a rank tell of its log, and that it stays true.
use Rattle.std.proofs.Common.{◌≡◌, ℕ, Bool, true, false, cond, eqb, List, [], ◌∷◌, ◌++◌, refl, ap, sym, ◌∙◌, subst, arith, Option, Some, None}
use Rattle.ulfm_report_laws.proofs.Common.{Context, Letter, Tag, Pattern, PostAt, count_before, Entry, TestAnswer, group_of, members_of, history_of, events_by, Step, Send, Recv, Probe, StepAnswer, Sent, Posted, Done, Over, Found, Cancelled, StepReport, ProcFailed, asks_of, room_of, content, is_rank, sent_by, or_left, eqb-true, slice_get_within, is_released, releases, IsSourceOf, history-push, any-push, count_front, group_stays, members_found, get_front, ⊤, ◌&&◌, slice_get, Status}
use Rattle.ulfm_match.specs.Pairing.{Pairing, LawfulPairing}
use Rattle.ulfm_log.specs.declared.entry.TestAnswer.TheVariants.{Done as TestDone, Over as TestOver}
use Rattle.ulfm_rank.specs.Answer.{Got, IsAnswerBy, is_release}
use Rattle.ulfm_rank.specs.Messages.{TellsOf, with_room}
use Rattle.ulfm_rank.proofs.Stays.{members_stay}
use Rattle.ulfm_report_laws.proofs.Lasting.{answer_lasts, got_lasts}
use Rattle.ulfm_report_laws.proofs.Numbers.{number_at, number_front, AsksAt, asks_front}

-- a receive of the history has this number, and asks for this
pub record IsReceipt (n : ℕ) (log : List Entry) (source : Option ℕ) (tag : Option Tag) (room : ℕ) (comm : Context) (number : ℕ) : Type 0 where
  pub place : ℕ
  pub pattern : Pattern
  pub posted : PostAt (history_of log) place pattern
  pub numbered : count_before (history_of log) place ≡ number
  pub context : pattern.context ≡ comm
  pub has_tag : pattern.tag ≡ tag
  pub has_room : pattern.room ≡ room
  pub group : List ℕ
  pub made : group_of n log comm.number ≡ Some group
  pub asks_for : IsSourceOf (members_of n log comm.number) source pattern.source

-- such a receive, of a probe, got a letter that the status tells of
pub record IsFinding (n : ℕ) (log : List Entry) (source : Option ℕ) (tag : Option Tag) (comm : Context) (number : ℕ) (status : Status) : Type 0 where
  pub receipt : IsReceipt n log source tag 1024 comm number
  pub letter : Letter
  pub got : (r : Pairing) → LawfulPairing (history_of log) r → Got (history_of log) r receipt.place letter
  pub told : TellsOf (members_of n log comm.number) letter status

-- the receive of step req, for which a step asked, was released with this answer, which each lawful pairing gives
pub record IsVerdict (n : ℕ) (log : List Entry) (done : List StepReport) (req : ℕ) (asked : Step) (answer : TestAnswer) : Type 0 where
  pub number : ℕ
  pub named : number_at done req ≡ Some number
  pub kind : AsksAt done req asked
  pub place : ℕ
  pub pattern : Pattern
  pub posted : PostAt (history_of log) place pattern
  pub numbered : count_before (history_of log) place ≡ number
  pub released : is_released log number ≡ true
  pub release : is_release answer ≡ true
  pub answers : (r : Pairing) → LawfulPairing (history_of log) r → IsAnswerBy n log r place (with_room pattern (room_of asked pattern)) answer

-- what an accepted send tells
abbrev pub TellsSent : ℕ → List Entry → Step → Type 0
TellsSent n log (Send to tag body comm) = (member : ℕ) × (slice_get (members_of n log comm.number) to ≡ Some member)
TellsSent n log _ = ⊤

-- what a receive tells that was posted
abbrev pub TellsPosted : ℕ → List Entry → Step → ℕ → Type 0
TellsPosted n log (Recv source tag room comm) number = IsReceipt n log source tag room comm number
TellsPosted n log _ number = ⊥

-- what a probe tells that found a letter
abbrev pub TellsFound : ℕ → List Entry → Step → ℕ → Status → Type 0
TellsFound n log (Probe source tag comm) number status = IsFinding n log source tag comm number status
TellsFound n log _ number status = ⊥

-- what a step tells that released the receive of another one
abbrev pub TellsVerdict : ℕ → List Entry → List StepReport → Option ℕ → Step → TestAnswer → Type 0
TellsVerdict n log done None asked answer = ⊤
TellsVerdict n log done (Some req) asked answer = IsVerdict n log done req asked answer

-- What an answered step tells. A receive that was cancelled is as one that was ended by a failure.
abbrev pub Tells : ℕ → List Entry → List StepReport → Step → StepAnswer → Type 0
Tells n log done asked Sent = TellsSent n log asked
Tells n log done asked (Posted id) = TellsPosted n log asked id.number
Tells n log done asked (Found id status) = TellsFound n log asked id.number status
Tells n log done asked (Done status body) = TellsVerdict n log done (asks_of asked) asked (TestDone status body)
Tells n log done asked (Over reason) = TellsVerdict n log done (asks_of asked) asked (TestOver reason)
Tells n log done asked Cancelled = TellsVerdict n log done (asks_of asked) asked (TestOver ProcFailed)
Tells n log done asked _ = ⊤

-- a receive of a beginning stands in the whole
pub posted_longer : (log : List Entry) (e : Entry) (place : ℕ) (pattern : Pattern) → PostAt (history_of log) place pattern → PostAt (history_of (log ++ e ∷ [])) place pattern
posted_longer log e place pattern posted = subst (λ g. PostAt g place pattern) (sym (history-push log e)) (get_front (history_of log) (events_by log (history_of log) e) place _ posted)

pub numbered_longer : (log : List Entry) (e : Entry) (place : ℕ) (pattern : Pattern) → PostAt (history_of log) place pattern → count_before (history_of (log ++ e ∷ [])) place ≡ count_before (history_of log) place
numbered_longer log e place pattern posted =
    ap (λ g. count_before g place) (history-push log e) ∙ count_front (history_of log) (events_by log (history_of log) e) place (let l = slice_get_within (history_of log) place _ posted in omega (arith, l))

receipt-logged : (n : ℕ) (log : List Entry) (e : Entry) (source : Option ℕ) {tag : Option Tag} {room : ℕ} (comm : Context) {number : ℕ} → IsReceipt n log source tag room comm number → IsReceipt n (log ++ e ∷ []) source tag room comm number
receipt-logged n log e source comm h =
    let made = group_stays n log e comm.number h.group h.made in
    let same = members_found n log comm.number h.group h.made ∙ sym (members_found n (log ++ e ∷ []) comm.number h.group made) in
    record {
      place = h.place;
      pattern = h.pattern;
      posted = posted_longer log e h.place h.pattern h.posted;
      numbered = numbered_longer log e h.place h.pattern h.posted ∙ h.numbered;
      context = h.context;
      has_tag = h.has_tag;
      has_room = h.has_room;
      group = h.group;
      made = made;
      asks_for = subst (λ group. IsSourceOf group source h.pattern.source) same h.asks_for;
    }

finding-logged : (n : ℕ) (log : List Entry) (e : Entry) (source : Option ℕ) {tag : Option Tag} (comm : Context) {number : ℕ} {status : Status} → IsFinding n log source tag comm number status → IsFinding n (log ++ e ∷ []) source tag comm number status
unfolding receipt-logged
finding-logged n log e source comm {status = status} h = record {
  receipt = receipt-logged n log e source comm h.receipt;
  letter = h.letter;
  got = got_lasts log e h.receipt.place h.got;
  told = members_stay n log e comm.number (λ (group : List ℕ). TellsOf group h.letter status) (λ q. let s = q.sender in cc) h.told;
}

verdict-logged : (n : ℕ) (log : List Entry) (e : Entry) (done : List StepReport) (o : Option ℕ) (asked : Step) (answer : TestAnswer) → TellsVerdict n log done o asked answer → TellsVerdict n (log ++ e ∷ []) done o asked answer
verdict-logged n log e done None asked answer h = h
verdict-logged n log e done (Some req) asked answer h = record {
  number = h.number;
  named = h.named;
  kind = h.kind;
  place = h.place;
  pattern = h.pattern;
  posted = posted_longer log e h.place h.pattern h.posted;
  numbered = numbered_longer log e h.place h.pattern h.posted ∙ h.numbered;
  released = any-push (releases h.number) log e ∙ or_left (is_released log h.number) (releases h.number e) h.released;
  release = h.release;
  answers = answer_lasts n log e h.place h.pattern (room_of asked h.pattern) answer h.posted h.release h.answers;
}

verdict-answered : (n : ℕ) (log : List Entry) (done : List StepReport) (x : StepReport) (o : Option ℕ) (asked : Step) (answer : TestAnswer) → TellsVerdict n log done o asked answer → TellsVerdict n log (done ++ x ∷ []) o asked answer
verdict-answered n log done x None asked answer h = h
verdict-answered n log done x (Some req) asked answer h = record {
  number = h.number;
  named = number_front done (x ∷ []) req h.named;
  kind = asks_front done (x ∷ []) req asked h.kind;
  place = h.place;
  pattern = h.pattern;
  posted = h.posted;
  numbered = h.numbered;
  released = h.released;
  release = h.release;
  answers = h.answers;
}

sent-longer : (n : ℕ) (log : List Entry) (e : Entry) (asked : Step) → TellsSent n log asked → TellsSent n (log ++ e ∷ []) asked
sent-longer n log e (Send to tag body comm) h = (h.0, members_stay n log e comm.number (λ group. slice_get group to ≡ Some h.0) (λ q. cc) h.1)
sent-longer n log e _ h = tt

posted-logged : (n : ℕ) (log : List Entry) (e : Entry) (asked : Step) (number : ℕ) → TellsPosted n log asked number → TellsPosted n (log ++ e ∷ []) asked number
posted-logged n log e (Recv source tag room comm) number h = receipt-logged n log e source comm h
posted-logged n log e _ number h = absurd h

found-logged : (n : ℕ) (log : List Entry) (e : Entry) (asked : Step) (number : ℕ) (status : Status) → TellsFound n log asked number status → TellsFound n (log ++ e ∷ []) asked number status
found-logged n log e (Probe source tag comm) number status h = finding-logged n log e source comm h
found-logged n log e _ number status h = absurd h

-- an answered step tells the same of a longer log
pub tells-logged : (n : ℕ) (log : List Entry) (e : Entry) (done : List StepReport) (asked : Step) (answer : StepAnswer) → Tells n log done asked answer → Tells n (log ++ e ∷ []) done asked answer
tells-logged n log e done asked Sent h = sent-longer n log e asked h
tells-logged n log e done asked (Posted id) h = posted-logged n log e asked id.number h
tells-logged n log e done asked (Found id status) h = found-logged n log e asked id.number status h
tells-logged n log e done asked (Done status body) h = verdict-logged n log e done (asks_of asked) asked (TestDone status body) h
tells-logged n log e done asked (Over reason) h = verdict-logged n log e done (asks_of asked) asked (TestOver reason) h
tells-logged n log e done asked Cancelled h = verdict-logged n log e done (asks_of asked) asked (TestOver ProcFailed) h
tells-logged n log e done asked _ h = tt

-- and beside one more answer
pub tells-answered : (n : ℕ) (log : List Entry) (done : List StepReport) (x : StepReport) (asked : Step) (answer : StepAnswer) → Tells n log done asked answer → Tells n log (done ++ x ∷ []) asked answer
tells-answered n log done x asked (Done status body) h = verdict-answered n log done x (asks_of asked) asked (TestDone status body) h
tells-answered n log done x asked (Over reason) h = verdict-answered n log done x (asks_of asked) asked (TestOver reason) h
tells-answered n log done x asked Cancelled h = verdict-answered n log done x (asks_of asked) asked (TestOver ProcFailed) h
tells-answered n log done x asked _ h = h

-- what an answered step sent stays the same
pub sent-logged : (n : ℕ) (log : List Entry) (e : Entry) (done : List StepReport) (c d : ℕ) (asked : Step) (answer : StepAnswer) → Tells n log done asked answer → sent_by (members_of n (log ++ e ∷ []) c) c d asked answer ≡ sent_by (members_of n log c) c d asked answer
sent-logged n log e done c d (Send to tag body comm) Sent h = pick (eqb comm.number c) (λ k. eqb-true comm.number c k)
  where
    later : slice_get (members_of n (log ++ e ∷ []) comm.number) to ≡ Some h.0
    later = members_stay n log e comm.number (λ group. slice_get group to ≡ Some h.0) (λ q. cc) h.1

    pick : (b : Bool) → (b ≡ true → comm.number ≡ c) → cond (b && is_rank d (slice_get (members_of n (log ++ e ∷ []) c) to)) (content tag body ∷ []) [] ≡ cond (b && is_rank d (slice_get (members_of n log c) to)) (content tag body ∷ []) []
    pick false same = refl
    pick true same = ap (λ o. cond (is_rank d o) (content tag body ∷ []) []) (rw (same refl) at (later ∙ sym h.1))
sent-logged n log e done c d _ _ h = refl
