-- What receives got, and the answers that released them, stay as the log grows.
use Rattle.std.proofs.Common.{◌≡◌, ℕ, true, List, ◌∷◌, ◌++◌, length, [], refl, sym, subst}
use Rattle.ulfm_report_laws.proofs.Common.{Come, Entry, MatchEvent, Letter, Pattern, PostAt, TestAnswer, history_of, events_by, history-push, get_front, Truncated}
use Rattle.ulfm_match.proofs.Cut.{cut, inside_to}
use Rattle.ulfm_match.specs.Pairing.{Pairing, LawfulPairing, pairs_below}
use Rattle.ulfm_rank.specs.Answer.{Got, IsAnswerBy, is_release}
use Rattle.ulfm_rank.specs.Messages.{with_room}
use Rattle.ulfm_log.specs.declared.entry.TestAnswer.TheVariants.{Done as TestDone, Over as TestOver, Pending, NotYet}
use Rattle.ulfm_rank.proofs.Stays.{answer_stays, receipt_stays}

-- a letter that each lawful pairing of a beginning gives
pub got_longer : (h xs : List MatchEvent) (r : Pairing) → LawfulPairing (h ++ xs) r → (i : ℕ) {letter : Letter} → Got h (pairs_below (length h) r) i letter → Got (h ++ xs) r i letter
got_longer h xs r law i {letter} g = record { place = g.place; pairs = (inside_to (length h) r i g.place g.pairs).0; came = get_front h xs g.place (Come letter) g.came }

-- and of a beginning of a log
pub got_lasts : (log : List Entry) (e : Entry) (i : ℕ) {letter : Letter} → ((r : Pairing) → LawfulPairing (history_of log) r → Got (history_of log) r i letter) → (r : Pairing) → LawfulPairing (history_of (log ++ e ∷ [])) r → Got (history_of (log ++ e ∷ [])) r i letter
got_lasts log e i {letter} old r law =
    let h = history_of log in let xs = events_by log h e in
    let long = history-push log e in
    let law' : LawfulPairing (h ++ xs) r = subst (λ g. LawfulPairing g r) long law in
    subst (λ g. Got g r i letter) (sym long) (got_longer h xs r law' i (old (pairs_below (length h) r) (cut h xs r law')))

-- an answer that released its receive, by whatever room was asked for
pub answer_lasts : (n : ℕ) (log : List Entry) (e : Entry) (i : ℕ) (p : Pattern) (room : ℕ) (answer : TestAnswer) → PostAt (history_of log) i p → is_release answer ≡ true
    → ((r : Pairing) → LawfulPairing (history_of log) r → IsAnswerBy n log r i (with_room p room) answer) → (r : Pairing) → LawfulPairing (history_of (log ++ e ∷ [])) r → IsAnswerBy n (log ++ e ∷ []) r i (with_room p room) answer
answer_lasts n log e i p room (TestDone status body) posted k old r law = receipt_stays n log e i (with_room p room) (TestDone status body) refl old r law
answer_lasts n log e i p room (TestOver Truncated) posted k old r law = receipt_stays n log e i (with_room p room) (TestOver Truncated) refl old r law
answer_lasts n log e i p room (TestOver reason) posted k old r law = answer_stays n log e i p (TestOver reason) posted refl old r law
answer_lasts n log e i p room Pending posted k old r law = cc
answer_lasts n log e i p room NotYet posted k old r law = cc
