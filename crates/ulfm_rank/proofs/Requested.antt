-- A request that a rank has is answered as its log tells.
use Rattle.std.proofs.Common.{◌≡◌, ℕ, Bool, true, false, cond, List, refl, ap, sym, subst, ◌∙◌, Some, Option, IsSome}
use Rattle.ulfm_rank.proofs.Common.{CommunicatorsView, Letter, Pattern, Entry, TestAnswer, Done, Over, Pending, NotYet, Fate, Waiting, Paired, Found, Failed, Cleared, Request, IsDelivered, IsMessageAnswer, is_found, is_waiting, is_receipt, is_release, with_room, find_group, or_empty, Follows, Box, pends_by, Matching, IsTestAnswer, GivesAnswer, HasSender, IsOfGroup, is_some, FaultState}
use Rattle.ulfm_rank.proofs.Answered.{tested, received, has_sender}
use Rattle.ulfm_log.proofs.Grouped.{members_found}
use Rattle.ulfm_rank.proofs.Known.{pends_known}
use Rattle.ulfm_log.proofs.Made.{found_group}

-- the answer for a receive that waits doesn't release it
pub waits : (g : List ℕ) (pending : Bool) (p : Pattern) (o : Fate) (a : TestAnswer) → is_waiting o ≡ true → GivesAnswer g pending p o a → is_release a ≡ false
waits g pending p Waiting a w gives = ap is_release gives ∙ neither pending
  where
    neither : (b : Bool) → is_release (cond b Pending NotYet) ≡ false
    neither true = refl
    neither false = refl
waits g pending p (Paired l) a w gives = cc
waits g pending p (Found l) a w gives = cc
waits g pending p Failed a w gives = cc
waits g pending p Cleared a w gives = cc

delivered : (g : List ℕ) (p : Pattern) (l : Letter) (a : TestAnswer) → IsDelivered g p l a → is_release a ≡ true
delivered g p l (Done status body) d = refl
delivered g p l (Over reason) d = refl
delivered g p l Pending d = absurd d
delivered g p l NotYet d = absurd d

-- that for any other does
pub ended : (g : List ℕ) (pending : Bool) (p : Pattern) (o : Fate) (a : TestAnswer) → is_waiting o ≡ false → GivesAnswer g pending p o a → is_release a ≡ true
ended g pending p Waiting a w gives = cc
ended g pending p (Paired l) a w gives = delivered g p l a gives
ended g pending p (Found l) a w gives = delivered g p l a gives
ended g pending p Failed a w gives = ap is_release gives
ended g pending p Cleared a w gives = ap is_release gives

-- what waits is known by that alone
pub waiting : (o : Fate) → is_waiting o ≡ true → o ≡ Waiting
waiting Waiting w = refl
waiting (Paired l) w = cc
waiting (Found l) w = cc
waiting Failed w = cc
waiting Cleared w = cc

module _ {n me : ℕ} {log : List Entry} {stopped : Bool} {matcher : Matching} {find : ℕ → Option Request} {facts : FaultState} {comms : CommunicatorsView} {boxes : List Box} (held : Follows n me log stopped matcher find facts comms boxes) (id : ℕ) (q : Request) (found : find id ≡ Some q) where
  of_group : IsOfGroup n log q.pattern
  of_group = held.in_step.table.of_group id q found

  found_here : find_group q.pattern.context.number comms.made ≡ Some of_group.group
  found_here = found_group q.pattern.context.number held.communicators ∙ of_group.made

  pub has_group : IsSome (find_group q.pattern.context.number comms.made)
  has_group = ap is_some found_here

  pub sender_found : HasSender (or_empty (find_group q.pattern.context.number comms.made)) q.fate
  sender_found =
      subst (λ g. HasSender g q.fate) (sym (ap or_empty found_here))
      (has_sender held.in_step id q found of_group.group of_group.made)

  pub answered : (a : TestAnswer) → GivesAnswer (or_empty (find_group q.pattern.context.number comms.made)) (pends_by facts (or_empty (find_group q.pattern.context.number comms.made)) q.pattern) q.pattern q.fate a → IsTestAnswer n log id a
  answered a gives =
      let g = of_group.group in
      let gives' : GivesAnswer g (pends_by facts g q.pattern) q.pattern q.fate a = subst (λ g. GivesAnswer g (pends_by facts g q.pattern) q.pattern q.fate a) (ap or_empty found_here) gives in
      tested held.in_step id q found g of_group.made a
      (subst (λ b. GivesAnswer g b q.pattern q.fate a) (pends_known n log facts q.pattern g held.faults (members_found n log q.pattern.context.number g of_group.made)) gives')

  -- a test of a receive that waits would say so
  pub unanswered : is_waiting q.fate ≡ true → (a : TestAnswer) × (is_release a ≡ false) × IsTestAnswer n log id a
  unanswered w =
      let g = or_empty (find_group q.pattern.context.number comms.made) in
      let a : TestAnswer = cond (pends_by facts g q.pattern) Pending NotYet in
      let gives : GivesAnswer g (pends_by facts g q.pattern) q.pattern q.fate a = rw (waiting q.fate w) refl in
      (a, waits g (pends_by facts g q.pattern) q.pattern q.fate a w gives, answered a gives)

  -- a message is answered with another room
  pub answered_message : is_found q.fate ≡ true → (room : ℕ) (pending : Bool) (a : TestAnswer) → GivesAnswer (or_empty (find_group q.pattern.context.number comms.made)) pending (with_room q.pattern room) q.fate a → IsMessageAnswer n log id room a
  answered_message e room pending a gives =
      let m = letter_of q.fate e in
      let g = of_group.group in
      let d : IsDelivered g (with_room q.pattern room) m.0 a = subst (λ o. GivesAnswer g pending (with_room q.pattern room) o a) m.1 (subst (λ g. GivesAnswer g pending (with_room q.pattern room) q.fate a) (ap or_empty found_here) gives) in
      record {
        receipt = is_received g (with_room q.pattern room) m.0 a d;
        each = received held.in_step id q found m.0 m.1 room g of_group.made a d;
      }
    where
      letter_of : (o : Fate) → is_found o ≡ true → (l : Letter) × (o ≡ Found l)
      letter_of (Found l) e = (l, refl)
      letter_of Waiting e = cc
      letter_of (Paired l) e = cc
      letter_of Failed e = cc
      letter_of Cleared e = cc

      is_received : (g : List ℕ) (p : Pattern) (l : Letter) (a : TestAnswer) → IsDelivered g p l a → is_receipt a ≡ true
      is_received g p l (Done status body) d = refl
      is_received g p l (Over reason) d = ap (λ e. is_receipt (Over e)) d.0
      is_received g p l Pending d = absurd d
      is_received g p l NotYet d = absurd d
