-- What is told of a receive stays as the log grows.
use Rattle.std.proofs.Common.{◌≡◌, ℕ, ◌+◌, ◌<◌, ◌⊎◌, inl, inr, true, List, [], ◌∷◌, ◌++◌, length, refl, ap, sym, ◌∙◌, subst, arith, Option, Some, None, slice_get, max}
use Rattle.ulfm_rank.proofs.Common.{Letter, Pattern, MatchEvent, Post, Come, End, Clear, PostAt, Entry, TestAnswer, group_of, members_of, or_empty, history_of, events_by, Pairing, LawfulPairing, pairs_below, same_pattern, Got, IsUnpaired, IsOver, IsReceived, IsAnswerBy, is_receipt, is_release, slice_get_within, Done, Over, Pending, NotYet, cut, get_front, inside_to, inside_back, CallError}
use Rattle.ulfm_base.specs.declared.error.CallError.TheVariants.{ProcFailed, Revoked, Truncated}
use Rattle.ulfm_match.proofs.Decide.{lt_or_ge}
use Rattle.ulfm_rank.proofs.Tables.{first_on}
use Rattle.ulfm_rank.proofs.Histories.{history-push}
use Rattle.ulfm_log.proofs.Grouped.{group_stays, members_found}

-- what holds of the members of a communicator, and not of none, stays
pub members_stay : (n : ℕ) (log : List Entry) (e : Entry) (c : ℕ) (P : List ℕ → Type 0) → (P [] → ⊥) → P (members_of n log c) → P (members_of n (log ++ e ∷ []) c)
members_stay n log e c P none p = pick (group_of n log c) refl p
  where
    pick : (o : Option (List ℕ)) → group_of n log c ≡ o → P (or_empty o) → P (members_of n (log ++ e ∷ []) c)
    pick None q p = absurd (none p)
    pick (Some g) q p = subst P (sym (members_found n (log ++ e ∷ []) c g (group_stays n log e c g q))) p

module _ (h xs : List MatchEvent) (r : Pairing) (law : LawfulPairing (h ++ xs) r) where
  got_on : (i : ℕ) (letter : Letter) → Got h (pairs_below (length h) r) i letter → Got (h ++ xs) r i letter
  got_on i letter g = record { place = g.place; pairs = (inside_to (length h) r i g.place g.pairs).0; came = get_front h xs g.place (Come letter) g.came }

  -- a receive that was over and unpaired isn't paired later
  unpaired_on : (i place : ℕ) (p : Pattern) (e : MatchEvent) → PostAt h i p → IsUnpaired (pairs_below (length h) r) i → i < place → slice_get h place ≡ Some e → (e ≡ End i) ⊎ (e ≡ Clear p.context.number) → IsUnpaired r i
  unpaired_on i place p e posted free after is why b q =
      let li = slice_get_within h i (Post p) posted in
      let lp = slice_get_within h place e is in
      elim (lt_or_ge b (length h)) [
        | inl lb ↦ free b (inside_back (length h) r i b li lb q)
        | inr far ↦
            let live = (law.matched i b q).receive_live in
            let before : place < max i b + 1 = omega (arith, far, lp) in
            let same = same_pattern (h ++ xs) i (law.matched i b q).pattern p live.posted (get_front h xs i (Post p) posted) in
            elim why [
              | inl ended ↦ live.not_ended (record { place = place; after = after; before = before; is = get_front h xs place (End i) (is ∙ ap Some ended) })
              | inr cleared ↦
                  live.not_cleared (record { place = place; after = after; before = before; is = get_front h xs place (Clear (law.matched i b q).pattern.context.number) (is ∙ ap Some cleared ∙ ap (λ (w : Pattern). Some (Clear w.context.number)) (sym same)) })
            ]
      ]

  over_on : (i : ℕ) (p : Pattern) (reason : CallError) → PostAt h i p → IsOver h (pairs_below (length h) r) i p reason → IsOver (h ++ xs) r i p reason
  over_on i p ProcFailed posted o = (unpaired_on i o.1.place p (End i) posted o.0 o.1.after o.1.is (inl refl), first_on h xs i (End i) (Clear p.context.number) o.1)
  over_on i p Revoked posted o = (unpaired_on i o.1.place p (Clear p.context.number) posted o.0 o.1.after o.1.is (inr refl), first_on h xs i (Clear p.context.number) (End i) o.1)
  over_on i p Truncated posted o = (o.0, got_on i o.0 o.1, o.2)
  over_on i p _ posted o = absurd o

-- what a pairing of the longer log says of the beginning
module _ (n : ℕ) (log : List Entry) (e : Entry) (i : ℕ) (p : Pattern) (r : Pairing) (law : LawfulPairing (history_of (log ++ e ∷ [])) r) where
  abbrev h : List MatchEvent
  h = history_of log

  abbrev xs : List MatchEvent
  xs = events_by log h e

  long : history_of (log ++ e ∷ []) ≡ h ++ xs
  long = history-push log e

  law' : LawfulPairing (h ++ xs) r
  law' = subst (λ g. LawfulPairing g r) long law

  short : LawfulPairing h (pairs_below (length h) r)
  short = cut h xs r law'

  receipt_on : (answer : TestAnswer) → is_receipt answer ≡ true → IsAnswerBy n log (pairs_below (length h) r) i p answer → IsAnswerBy n (log ++ e ∷ []) r i p answer
  receipt_on (Done status body) k a = record {
    letter = a.letter;
    got = subst (λ g. Got g r i a.letter) (sym long) (got_on h xs r law' i a.letter a.got);
    received = members_stay n log e p.context.number (λ (group : List ℕ). IsReceived group p.room a.letter status body) (λ q. let s = q.sender in cc) a.received;
  }
  receipt_on (Over Truncated) k o = subst (λ g. IsOver g r i p Truncated) (sym long) (o.0, got_on h xs r law' i o.0 o.1, o.2)
  receipt_on _ k o = cc

  release_on : (answer : TestAnswer) → PostAt h i p → is_release answer ≡ true → IsAnswerBy n log (pairs_below (length h) r) i p answer → IsAnswerBy n (log ++ e ∷ []) r i p answer
  release_on (Done status body) posted k a = receipt_on (Done status body) refl a
  release_on (Over reason) posted k o = subst (λ g. IsOver g r i p reason) (sym long) (over_on h xs r law' i p reason posted o)
  release_on Pending posted k a = cc
  release_on NotYet posted k a = cc

-- an answer that released its request stays true
pub answer_stays : (n : ℕ) (log : List Entry) (e : Entry) (i : ℕ) (p : Pattern) (answer : TestAnswer) → PostAt (history_of log) i p → is_release answer ≡ true
    → ((r : Pairing) → LawfulPairing (history_of log) r → IsAnswerBy n log r i p answer) → (r : Pairing) → LawfulPairing (history_of (log ++ e ∷ [])) r → IsAnswerBy n (log ++ e ∷ []) r i p answer
answer_stays n log e i p answer posted released old r law = release_on n log e i p r law answer posted released (old _ (short n log e i p r law))

-- and so does the answer of a message, by whatever room it was received
pub receipt_stays : (n : ℕ) (log : List Entry) (e : Entry) (i : ℕ) (p : Pattern) (answer : TestAnswer) → is_receipt answer ≡ true
    → ((r : Pairing) → LawfulPairing (history_of log) r → IsAnswerBy n log r i p answer) → (r : Pairing) → LawfulPairing (history_of (log ++ e ∷ [])) r → IsAnswerBy n (log ++ e ∷ []) r i p answer
receipt_stays n log e i p answer receipt old r law = receipt_on n log e i p r law answer receipt (old _ (short n log e i p r law))
