-- The steps that release the receive of another one: waits and cancels that are done or over, receives of what a probe found, and
-- cancels.
use Rattle.std.proofs.Common.{◌≡◌, ℕ, ◌<◌, true, false, List, [], ◌∷◌, ◌++◌, length, length-append, refl, ap, sym, ◌∙◌, subst, arith, inl, inr, Some, slice_get}
use Rattle.ulfm_report_laws.proofs.Common.{MessageId, RequestId, Status, Posted, Found, Clear, Come, ComeAt, End, Entry, MatchEvent, Pattern, Post, PostAt, State, Step, StepReport, TestAnswer, Tests, Receives, Cancels, Cancel, history_of, room_of, eq-eqb, history-push, slice_get_within, lt_or_ge, get_here, get_in_front, ProcFailed}
use Rattle.ulfm_log.specs.declared.entry.Entry.TheVariants.{Released, Received, Cancelled}
use Rattle.ulfm_log.specs.declared.entry.TestAnswer.TheVariants.{Done as TestDone, Over as TestOver, Pending, NotYet}
use Rattle.ulfm_match.proofs.Cut.{cut, inside_back}
use Rattle.ulfm_match.specs.Pairing.{Pairing, LawfulPairing, pairs_below}
use Rattle.ulfm_rank.specs.Answer.{IsAnswerBy, IsOpenReceive, IsOver, IsUnpaired, is_release}
use Rattle.ulfm_rank.specs.Messages.{with_room}
use Rattle.ulfm_rank.proofs.Stays.{answer_stays}
use Rattle.ulfm_rank.proofs.Endings.{one_number}
use Rattle.ulfm_report_laws.proofs.Closing.{Closes}
use Rattle.ulfm_report_laws.proofs.Lasting.{answer_lasts}
use Rattle.ulfm_report_laws.proofs.Numbers.{request_number, message_number, AsksForAnswer, asks_request, asks_message}

-- a test that releases its request, for a step that asks for the room of the receive
pub closes_request : (r : State) {done : List StepReport} {req : ℕ} (asked : Step) {answer : TestAnswer} {new : State} → ((p : Pattern) → p.room ≡ room_of asked p) → ((id : RequestId) → AsksForAnswer asked (Posted id)) → is_release answer ≡ true → (t : Tests done r req answer new) → Closes r done req asked (Released t.id answer) answer
closes_request r {done} {req} asked {answer} rooms any release t =
    let n = r.ranks in let log = r.log in let e = Released t.id answer in record {
      number = t.id.number;
      named = request_number done req t.posted;
      kind = asks_request done req asked any t.posted;
      place = t.place;
      pattern = t.pattern;
      posted = t.request.posted;
      numbered = t.request.numbered;
      unreleased = t.request.unreleased;
      releases_it = eq-eqb t.id.number t.id.number refl;
      release = release;
      answers = λ p law.
          subst (λ k. IsAnswerBy n (log ++ e ∷ []) p t.place (with_room t.pattern k) answer) (rooms t.pattern)
          (answer_stays n log e t.place t.pattern answer t.request.posted release (λ q l. t.answers t.place t.pattern t.request q l) p law);
      posts = tt;
      sends = λ c d. refl;
      takes = tt;
    }

-- a message that is received
pub closes_message : (r : State) {done : List StepReport} {req : ℕ} (asked : Step) (room : ℕ) {answer : TestAnswer} {new : State} → ((p : Pattern) → room_of asked p ≡ room) → ((id : MessageId) (status : Status) → AsksForAnswer asked (Found id status)) → is_release answer ≡ true → (t : Receives done r req room answer new) → Closes r done req asked (Received t.id answer) answer
closes_message r {done} {req} asked room {answer} rooms any release t =
    let n = r.ranks in let log = r.log in let e = Received t.id answer in record {
      number = t.id.number;
      named = message_number done req t.found;
      kind = asks_message done req asked any t.found;
      place = t.place;
      pattern = t.pattern;
      posted = t.message.posted;
      numbered = t.message.numbered;
      unreleased = t.message.unreleased;
      releases_it = eq-eqb t.id.number t.id.number refl;
      release = release;
      answers = λ p law.
          subst (λ k. IsAnswerBy n (log ++ e ∷ []) p t.place (with_room t.pattern k) answer) (sym (rooms t.pattern))
          (answer_lasts n log e t.place t.pattern room answer t.message.posted release (λ q l. t.answers.each t.place t.pattern t.message q l) p law);
      posts = tt;
      sends = λ c d. refl;
      takes = tt;
    }

-- a receive that waits has no letter, and didn't end
pub record Waits (log : List Entry) (r : Pairing) (i : ℕ) (p : Pattern) : Type 0 where
  pub unpaired : IsUnpaired r i
  pub still_open : IsOpenReceive (history_of log) i p

waits_by : (n : ℕ) (log : List Entry) (r : Pairing) (i : ℕ) (p : Pattern) (answer : TestAnswer) → is_release answer ≡ false → IsAnswerBy n log r i p answer → Waits log r i p
waits_by n log r i p Pending k a = record { unpaired = a.unpaired; still_open = a.still_open }
waits_by n log r i p NotYet k a = record { unpaired = a.unpaired; still_open = a.still_open }
waits_by n log r i p (TestDone status body) k a = absurd (cc)
waits_by n log r i p (TestOver reason) k a = absurd (cc)

-- a receive that waited, and is ended, is as one that was ended by a failure
ended_over : (h : List MatchEvent) (i : ℕ) (p : Pattern) → PostAt h i p → (r : Pairing) → LawfulPairing (h ++ End i ∷ []) r → IsUnpaired (pairs_below (length h) r) i → IsOpenReceive h i p → IsOver (h ++ End i ∷ []) r i p ProcFailed
ended_over h i p posted r law free still_open =
    let xs = End i ∷ [] in
    let li : i < length h = slice_get_within h i (Post p) posted in
    let last : slice_get (h ++ xs) (length h) ≡ Some (End i) = get_here h (End i) [] in
    let unpaired : IsUnpaired r i = λ b q. elim (lt_or_ge b (length h)) [
      | inl lb ↦ free b (inside_back (length h) r i b li lb q)
      | inr far ↦
          let m = law.matched i b q in
          let came : ComeAt (h ++ xs) b m.letter = m.letter_live.came in
          let inside : b < length (h ++ xs) = slice_get_within (h ++ xs) b (Come m.letter) came in
          let top : b ≡ length h = omega (arith, far, inside, length-append h xs) in
          let both : Some (Come m.letter) ≡ Some (End i) = sym came ∙ ap (slice_get (h ++ xs)) top ∙ last in
          let bad : ⊥ = cc in bad
    ] in (
      unpaired,
      record {
        place = length h;
        after = li;
        is = last;
        first = λ s. still_open.not_cleared (record { place = s.place; after = s.after; before = s.before; is = get_in_front h xs s.place (Clear p.context.number) s.before s.is });
      },
    )

-- a receive that is cancelled
pub closes_cancelled : (r : State) {done : List StepReport} {req : ℕ} {new : State} (t : Cancels done r req new) → Closes r done req (Cancel req) (Cancelled t.tests.id) (TestOver ProcFailed)
closes_cancelled r {done} {req} k =
    let t = k.tests in
    let n = r.ranks in let log = r.log in let e = Cancelled t.id in let h = history_of log in
    let long : history_of (log ++ e ∷ []) ≡ h ++ End t.place ∷ [] = history-push log e ∙ ap (λ xs. h ++ xs) (one_number t.id.number h t.place t.pattern t.request.posted t.request.numbered) in record {
      number = t.id.number;
      named = request_number done req t.posted;
      kind = asks_request done req (Cancel req) (λ id. tt) t.posted;
      place = t.place;
      pattern = t.pattern;
      posted = t.request.posted;
      numbered = t.request.numbered;
      unreleased = t.request.unreleased;
      releases_it = eq-eqb t.id.number t.id.number refl;
      release = refl;
      answers = λ p law.
          let law' : LawfulPairing (h ++ End t.place ∷ []) p = subst (λ g. LawfulPairing g p) long law in
          let short = pairs_below (length h) p in
          let w = waits_by n log short t.place t.pattern k.answer k.goes_on (t.answers t.place t.pattern t.request short (cut h (End t.place ∷ []) p law')) in
          subst (λ g. IsOver g p t.place t.pattern ProcFailed) (sym long) (ended_over h t.place t.pattern t.request.posted p law' w.unpaired w.still_open);
      posts = tt;
      sends = λ c d. refl;
      takes = tt;
    }
