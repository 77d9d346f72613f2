-- A send, and a step that releases the receive of another one, keep the steps of a rank true of its log.
use Rattle.std.proofs.Common.{◌≡◌, ℕ, Bool, true, false, cond, eqb, List, [], ◌∷◌, ◌++◌, refl, ap, sym, ◌∙◌, Option, Some, None, slice_get, ◌&&◌}
use Rattle.ulfm_report_laws.proofs.Common.{Context, Pattern, Tag, PostAt, PostsNone, count_before, Entry, TestAnswer, members_of, history_of, State, logged, Step, Send, StepAnswer, Sent, Done, Over, Cancelled, ProcFailed, StepReport, asks_of, room_of, comm_of, step_report, content, is_rank, sent_in, closes, false≢true, or_right, eqb-true, same_Some, is_released, releases, flat_map, All-push, Sends, any-push, formed-logged}
use Rattle.ulfm_log.specs.declared.entry.Entry.TheVariants.{Sent as SentEntry}
use Rattle.ulfm_log.specs.declared.entry.TestAnswer.TheVariants.{Done as TestDone, Over as TestOver}
use Rattle.ulfm_match.specs.Pairing.{Pairing, LawfulPairing}
use Rattle.ulfm_rank.specs.Answer.{IsAnswerBy, is_release}
use Rattle.ulfm_rank.specs.Messages.{with_room}
use Rattle.ulfm_report_laws.proofs.Honest.{IsHonest, sends-logged, covered-logged, covered-answered, honest-logged, honest-answered}
use Rattle.ulfm_report_laws.proofs.Orderly.{orderly-logged, orderly-answered}
use Rattle.ulfm_report_laws.proofs.Mail.{IsTakenFrom, flat-push, sent_entry}
use Rattle.ulfm_report_laws.proofs.Numbers.{number_at, number_of, number_front, AsksAt, asks_front}
use Rattle.ulfm_rank.proofs.Stays.{members_stay}
use Rattle.ulfm_report_laws.proofs.Tells.{Tells, TellsVerdict, IsVerdict, posted_longer, numbered_longer}

-- the answered steps are true of the rank's log
abbrev pub IsTrueOf : State → List StepReport → Type 0
IsTrueOf r done = IsHonest r.ranks r.log done

-- the letter of a send is the one that its step tells
same_content : (group : List ℕ) (c d to count_before : ℕ) (tag : Tag) {tag' : Tag} (body : List ℕ) {body' : List ℕ} (comm : Context) {comm' : Context} → comm' ≡ comm → tag' ≡ tag → body' ≡ body → (comm.number ≡ c → slice_get group to ≡ Some count_before) →
    cond (eqb comm.number c && is_rank d (slice_get group to)) (content tag body ∷ []) [] ≡ cond (eqb comm'.number c && eqb count_before d) (content tag' body' ∷ []) []
same_content group c d to count_before tag {tag'} body comm {comm'} ec et eb at =
    pick (eqb comm.number c) refl
    ∙ ap (λ k. cond (eqb k.number c && eqb count_before d) (content tag body ∷ []) []) (sym ec)
    ∙ ap (λ t. cond (eqb comm'.number c && eqb count_before d) (content t body ∷ []) []) (sym et)
    ∙ ap (λ b. cond (eqb comm'.number c && eqb count_before d) (content tag' b ∷ []) []) (sym eb)
  where
    pick : (b : Bool) → eqb comm.number c ≡ b → cond (eqb comm.number c && is_rank d (slice_get group to)) (content tag body ∷ []) [] ≡ cond (eqb comm.number c && eqb count_before d) (content tag body ∷ []) []
    pick true e = ap (λ o. cond (eqb comm.number c && is_rank d o) (content tag body ∷ []) []) (at (eqb-true comm.number c e))
    pick false e = rw e refl

pub true-sent : (r : State) (done : List StepReport) (to : ℕ) (tag : Tag) (body : List ℕ) (comm : Context) (at polls : ℕ) (new : State) → IsTrueOf r done → Sends r (comm_of comm) to tag body new → IsTrueOf new (done ++ step_report (Send to tag body comm) Sent at polls ∷ [])
true-sent r done to tag body comm at polls new h s =
    let n = r.ranks in let log = r.log in let e = SentEntry s.to s.letter in
    let x = step_report (Send to tag body comm) Sent at polls in
    let member = members_stay n log e comm.number (λ group. slice_get group to ≡ Some s.to.number) (λ q. cc) s.named in
    rw s.only (record {
      orderly = orderly-answered x (orderly-logged e h.orderly) (s.to.number, member) (λ id q. absurd (cc)) (λ req k y q g f. cc);
      sends = λ c d.
          let group = members_of n (log ++ e ∷ []) c in
          flat-push (sent_in group c d) done x
          ∙ ap (λ xs. flat_map (sent_in group c d) done ++ xs)
          (same_content group c d to s.to.number tag body comm s.context s.has_tag s.carries (λ q. ap (λ k. slice_get (members_of n (log ++ e ∷ []) k) to) (sym q) ∙ member))
          ∙ sends-logged e c d h;
      covered = covered-answered (log ++ e ∷ []) done x (covered-logged log e done h.covered tt);
      formed = formed-logged log e h.formed tt;
      taken = All-push (IsTakenFrom n) log e h.taken tt;
    })

-- a receive that was closed is released
released_of : (n : ℕ) (log : List Entry) (done : List StepReport) (o : Option ℕ) (asked : Step) (answer : TestAnswer) (req number : ℕ) → TellsVerdict n log done o asked answer → o ≡ Some req → number_at done req ≡ Some number → is_released log number ≡ true
released_of n log done None asked answer req number v e g = absurd (cc)
released_of n log done (Some k) asked answer req number v e g = ap (is_released log) (same_Some number v.number (sym g ∙ ap (number_at done) (sym (same_Some k req e)) ∙ v.named)) ∙ v.released

closed_released : (n : ℕ) (log : List Entry) (done : List StepReport) (asked : Step) (answer : StepAnswer) (req number : ℕ) → Tells n log done asked answer → closes asked answer ≡ Some req → number_at done req ≡ Some number → is_released log number ≡ true
closed_released n log done asked (Done status body) req number t e g = released_of n log done (asks_of asked) asked (TestDone status body) req number t e g
closed_released n log done asked (Over reason) req number t e g = released_of n log done (asks_of asked) asked (TestOver reason) req number t e g
closed_released n log done asked Cancelled req number t e g = released_of n log done (asks_of asked) asked (TestOver ProcFailed) req number t e g
closed_released n log done asked _ req number t e g = absurd (cc)

-- A step that asks for the receive of step req, and the entry that releases it. After that each lawful pairing gives this answer.
pub record Closes (r : State) (done : List StepReport) (req : ℕ) (asked : Step) (e : Entry) (answer : TestAnswer) : Type 0 where
  pub number : ℕ
  pub named : number_at done req ≡ Some number
  pub kind : AsksAt done req asked
  pub place : ℕ
  pub pattern : Pattern
  pub posted : PostAt (history_of r.log) place pattern
  pub numbered : count_before (history_of r.log) place ≡ number
  pub unreleased : is_released r.log number ≡ false
  pub releases_it : releases number e ≡ true
  pub release : is_release answer ≡ true
  pub answers : (p : Pairing) → LawfulPairing (history_of (r.log ++ e ∷ [])) p → IsAnswerBy r.ranks (r.log ++ e ∷ []) p place (with_room pattern (room_of asked pattern)) answer
  pub posts : PostsNone e
  pub sends : (c d : ℕ) → sent_entry c d e ≡ []
  pub takes : IsTakenFrom r.ranks e

-- such a step keeps the steps true
pub true-closed : (r : State) {done : List StepReport} {req : ℕ} {answer : TestAnswer} (e : Entry) (x : StepReport) {new : State} → IsTrueOf r done → Closes r done req x.step e answer → number_of x.answer ≡ None → closes x.step x.answer ≡ Some req → ((group : List ℕ) (c d : ℕ) → sent_in group c d x ≡ [])
    → ((n : ℕ) (log : List Entry) (dones : List StepReport) → IsVerdict n log dones req x.step answer → Tells n log dones x.step x.answer) → new ≡ logged r e → IsTrueOf new (done ++ x ∷ [])
true-closed r {done} {req} {answer} e x {new} h t unposted closing silent tells only =
    let n = r.ranks in let log = r.log in
    let longer = honest-logged e h t.posts t.sends t.takes in
    let verdict : IsVerdict n (log ++ e ∷ []) (done ++ x ∷ []) req x.step answer = record {
      number = t.number;
      named = number_front done (x ∷ []) req t.named;
      kind = asks_front done (x ∷ []) req x.step t.kind;
      place = t.place;
      pattern = t.pattern;
      posted = posted_longer log e t.place t.pattern t.posted;
      numbered = numbered_longer log e t.place t.pattern t.posted ∙ t.numbered;
      released = any-push (releases t.number) log e ∙ or_right (is_released log t.number) (releases t.number e) t.releases_it;
      release = t.release;
      answers = t.answers;
    } in
    rw only (honest-answered n x longer silent unposted (tells n (log ++ e ∷ []) (done ++ x ∷ []) verdict)
    (λ q k y c g f.
    false≢true (sym t.unreleased ∙ closed_released n log done y.step y.answer q t.number (h.orderly.tells k y g) f (ap (number_at done) (same_Some q req (sym c ∙ closing)) ∙ t.named))))
