-- What a test answers.
use Rattle.std.proofs.Common.{◌≡◌, ℕ, Bool, true, false, cond, List, refl, ap, sym, ◌∙◌, subst, Option, Some}
use Rattle.ulfm_rank.proofs.Common.{Pattern, Letter, WorldRank, PostAt, Entry, TestAnswer, Fate, Waiting, Paired, Found, Failed, Cleared, Request, group_of, history_of, AdmitsSource, Pairing, Pairs, LawfulPairing, Matching, same_pattern, same_letter, one_pairing, letter_within, pends, Got, IsUnpaired, IsOpenReceive, IsReceived, IsAnswerBy, IsRequest, IsTestAnswer, IsSourceIn, IsInStep, is_found, is_released, false≢true, IsNoRequest, IsMessage, IsNoMessage, with_room, Became, IsDelivered, GivesAnswer, HasSender, Source, One, Any, is_member, Done, Over, Pending, NotYet}
use Rattle.ulfm_rank.proofs.Groups.{rank_some}
use Rattle.ulfm_log.proofs.Grouped.{members_found}
use Rattle.ulfm_rank.proofs.Steps.{same_place}

member_of : (group : List ℕ) (source : Source) (r : WorldRank) → IsSourceIn group source → AdmitsSource source r → is_member group r.number ≡ true
member_of group (One q) r l e = subst (λ (w : WorldRank). is_member group w.number ≡ true) (sym e) l
member_of group (Any m) r l e = l r.number e

same_group : (a b : List ℕ) → Some a ≡ Some b → a ≡ b
same_group a b e = cc

module _ {n : ℕ} {log : List Entry} {m : Matching} {find : ℕ → Option Request} (t : IsInStep n log m find) where
  -- a letter that a receive got is of a member
  got_member : (i : ℕ) (p : Pattern) (l : Letter) (group : List ℕ) → IsSourceIn group p.source → PostAt (history_of log) i p → Got (history_of log) t.pairing i l → is_member group l.envelope.source.number ≡ true
  got_member i p l group source posted got =
      let k = t.tracks.lawful.matched i got.place got.pairs in
      let ep = same_pattern (history_of log) i k.pattern p k.receive_live.posted posted in
      let el = same_letter (history_of log) got.place k.letter l k.letter_live.came got.came in
      member_of group p.source l.envelope.source source (subst (λ (w : Letter). AdmitsSource p.source w.envelope.source) el (subst (λ (q : Pattern). AdmitsSource q.source k.letter.envelope.source) ep k.admits.source))

  pub has_sender : (id : ℕ) (q : Request) → find id ≡ Some q → (group : List ℕ) → group_of n log q.pattern.context.number ≡ Some group → HasSender group q.fate
  has_sender id q f group made =
      let s = t.table.standing id q f in
      let o = t.table.of_group id q f in
      sender q.fate s.place q.pattern (subst (λ g. IsSourceIn g q.pattern.source) (same_group o.group group (sym o.made ∙ made)) o.source) s.posted s.fate
    where
      sender : (o : Fate) (i : ℕ) (p : Pattern) → IsSourceIn group p.source → PostAt (history_of log) i p → Became (history_of log) t.pairing i p o → HasSender group o
      sender Waiting i p source posted b = tt
      sender (Paired l) i p source posted b = rank_some group l.envelope.source.number (got_member i p l group source posted b)
      sender (Found l) i p source posted b = rank_some group l.envelope.source.number (got_member i p l group source posted b)
      sender Failed i p source posted b = tt
      sender Cleared i p source posted b = tt

  module _ (i : ℕ) (p : Pattern) (r : Pairing) (law : LawfulPairing (history_of log) r) (group : List ℕ) (made : group_of n log p.context.number ≡ Some group) where
    other : (b : ℕ) → Pairs r i b → Pairs t.pairing i b
    other b q = one_pairing (history_of log) r t.pairing law t.tracks.lawful i b q

    unpaired : IsUnpaired t.pairing i → IsUnpaired r i
    unpaired u b q = u b (other b q)

    got : (l : Letter) → Got (history_of log) t.pairing i l → Got (history_of log) r i l
    got l g = record { place = g.place; pairs = one_pairing (history_of log) t.pairing r t.tracks.lawful law i g.place g.pairs; came = g.came }

    delivered : (l : Letter) → Got (history_of log) t.pairing i l → (a : TestAnswer) → IsDelivered group p l a → IsAnswerBy n log r i p a
    delivered l g (Done status body) d = record {
      letter = l;
      got = got l g;
      received = subst (λ ms. IsReceived ms p.room l status body) (sym (members_found n log p.context.number group made)) d;
    }
    delivered l g (Over reason) d = subst (λ e. IsAnswerBy n log r i p (Over e)) (sym d.0) (l, got l g, d.1)
    delivered l g Pending d = absurd d
    delivered l g NotYet d = absurd d

    answers : (o : Fate) → Became (history_of log) t.pairing i p o → (a : TestAnswer) → GivesAnswer group (pends n log p) p o a → IsAnswerBy n log r i p a
    answers Waiting w a gives = subst (IsAnswerBy n log r i p) (sym gives) (pick (pends n log p) refl)
      where
        free : IsUnpaired r i
        free = unpaired (λ b q. w.unpaired b (letter_within (history_of log) t.pairing t.tracks.lawful i b q) q)

        opened : IsOpenReceive (history_of log) i p
        opened = record { not_ended = w.live.not_ended; not_cleared = w.live.not_cleared }

        pick : (b : Bool) → pends n log p ≡ b → IsAnswerBy n log r i p (cond b Pending NotYet)
        pick true e = record { unpaired = free; still_open = opened; pends = e }
        pick false e = record { unpaired = free; still_open = opened; pends = e }
    answers (Paired l) g a gives = delivered l g a gives
    answers (Found l) g a gives = delivered l g a gives
    answers Failed b a gives = subst (IsAnswerBy n log r i p) (sym gives) (unpaired b.0, b.1)
    answers Cleared b a gives = subst (IsAnswerBy n log r i p) (sym gives) (unpaired b.0, b.1)

  -- the answer for a request in the table is that of every lawful pairing
  pub tested : (id : ℕ) (q : Request) → find id ≡ Some q → (group : List ℕ) → group_of n log q.pattern.context.number ≡ Some group → (a : TestAnswer) → GivesAnswer group (pends n log q.pattern) q.pattern q.fate a → IsTestAnswer n log id a
  tested id q f group made a gives i p is r law =
      let s = t.table.standing id q f in
      let e = same_place (history_of log) t.pairing id q s i p is.posted is.numbered in
      let ep = same_pattern (history_of log) i q.pattern p (subst (λ k. PostAt (history_of log) k q.pattern) e s.posted) is.posted in
      let b : Became (history_of log) t.pairing i q.pattern q.fate = subst (λ k. Became (history_of log) t.pairing k q.pattern q.fate) e s.fate in
      subst (λ w. IsAnswerBy n log r i w a) ep (answers i q.pattern r law group made q.fate b a gives)

  -- the answer for a message, received with another room
  pub received : (id : ℕ) (q : Request) → find id ≡ Some q → (l : Letter) → q.fate ≡ Found l → (room : ℕ) (group : List ℕ) → group_of n log q.pattern.context.number ≡ Some group → (a : TestAnswer) → IsDelivered group (with_room q.pattern room) l a
      → (i : ℕ) (p : Pattern) → IsMessage log id i p → (r : Pairing) → LawfulPairing (history_of log) r → IsAnswerBy n log r i (with_room p room) a
  received id q f l found room group made a gives i p is r law =
      let s = t.table.standing id q f in
      let e = same_place (history_of log) t.pairing id q s i p is.posted is.numbered in
      let ep = same_pattern (history_of log) i q.pattern p (subst (λ k. PostAt (history_of log) k q.pattern) e s.posted) is.posted in
      let b : Got (history_of log) t.pairing i l = subst (λ k. Got (history_of log) t.pairing k l) e (subst (Became (history_of log) t.pairing s.place q.pattern) found s.fate) in
      subst (λ (w : Pattern). IsAnswerBy n log r i (with_room w room) a) ep (delivered i (with_room q.pattern room) r law group made l b a gives)

  pub is_message : (id : ℕ) (q : Request) → find id ≡ Some q → is_found q.fate ≡ true → (i : ℕ) × (p : Pattern) × IsMessage log id i p
  is_message id q f found =
      let s = t.table.standing id q f in
      (s.place, q.pattern, record { posted = s.posted; numbered = s.numbered; unreleased = t.table.unreleased id q f; found = sym (t.table.kind id q f) ∙ found })

  -- no message has a number that stands for none in the table, or for a request
  pub no_message : (id : ℕ) → ((q : Request) → find id ≡ Some q → is_found q.fate ≡ false) → IsNoMessage log id
  no_message id none i p is =
      let c = t.table.complete i p is.posted (ap (is_released log) is.numbered ∙ is.unreleased) in
      let f = subst (λ k. find k ≡ Some c.0) is.numbered c.1 in
      false≢true (sym (none c.0 f) ∙ (t.table.kind id c.0 f ∙ is.found))

  pub is_request : (id : ℕ) (q : Request) → find id ≡ Some q → is_found q.fate ≡ false → (i : ℕ) × (p : Pattern) × IsRequest log id i p
  is_request id q f receive =
      let s = t.table.standing id q f in
      (s.place, q.pattern, record { posted = s.posted; numbered = s.numbered; unreleased = t.table.unreleased id q f; receive = sym (t.table.kind id q f) ∙ receive })

  -- no request has a number that stands for none in the table, or for a message
  pub no_request : (id : ℕ) → ((q : Request) → find id ≡ Some q → is_found q.fate ≡ true) → IsNoRequest log id
  no_request id none i p is =
      let c = t.table.complete i p is.posted (ap (is_released log) is.numbered ∙ is.unreleased) in
      let f = subst (λ k. find k ≡ Some c.0) is.numbered c.1 in
      false≢true (sym is.receive ∙ (sym (t.table.kind id c.0 f) ∙ none c.0 f))
