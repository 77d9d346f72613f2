-- A letter that was taken was sent by an earlier entry.
use Rattle.std.proofs.Common.{◌≡◌, ◌<◌, ℕ, zero, suc, Bool, true, false, cond, eqb, List, [], ◌∷◌, ◌++◌, length, take, drop, refl, ap, sym, subst, ◌∙◌, arith, inl, inr, append-nil, append_assoc, length-append, Some}
use Rattle.std.specs.List.{count_by}
use Rattle.std.proofs.Math.Seq.{drop-cons}
use Rattle.std.proofs.lemmas.Bool.{eq-eqb, eqb-true}
use Rattle.std.proofs.lemmas.List.{take-append-drop}
use Rattle.std.proofs.lemmas.List.Sums.{sum_by-cons}
use Rattle.ulfm_base.specs.declared.item.Item.TheVariants.{Letter as Mail, Gone, Revoke, Enter}
use Rattle.ulfm_base.proofs.Longer.{get_here}
use Rattle.ulfm_log.specs.declared.entry.Entry.TheVariants.{Sent, Revoked, Entered, Took}
use Rattle.ulfm_log.specs.Log.{by_before}
use Rattle.ulfm_report_laws.proofs.Common.{at, Entry, Flow, Flows, Inboxes, IsBeginning, Item, Letter, Report, State, WorldRank, cases_Bool, cases_eq, flat_map, flat_map-append, gathered_all, get_or_from_slice_get, get_front, get_in_front, inbox_of, is_addressed, is_member, is_revoked, is_stopped, items_from, members_of, none-some, outbox, owed, owed_by, owes, same_Some, slice_get_within, took, took_by, if◌then◌else◌, ◌&&◌, ◌==◌}
use Rattle.ulfm_report_laws.proofs.Flowing.{arrived_owed}
use Rattle.ulfm_report_laws.proofs.Mail.{flat-push}
use Rattle.ulfm_report_laws.proofs.Ordered.{front_place}
use Rattle.ulfm_report_laws.specs.Order.{HaveOneOrder, LettersComeLater, is_letter, sends_to, takes_letter}

abbrev letter_of : Item → List Letter
letter_of (Mail letter) = letter ∷ []
letter_of _ = []

-- the letters among some items
abbrev letters_of : List Item → List Letter
letters_of items = flat_map letter_of items

-- the letter that an entry sends to d
abbrev sent_by : ℕ → Entry → List Letter
sent_by d (Sent to letter) = if to.number == d then letter ∷ [] else []
sent_by d _ = []

abbrev sent_letters : ℕ → List Entry → List Letter
sent_letters d log = flat_map (sent_by d) log

no_letter : (b : Bool) (item : Item) → letter_of item ≡ [] → letters_of (cond b (item ∷ []) []) ≡ []
no_letter true item none = append-nil (letter_of item) ∙ none
no_letter false item none = refl

not_passed : (a b : Bool) (item : Item) → letter_of item ≡ [] → letters_of (cond a [] (cond b (item ∷ []) [])) ≡ []
not_passed true b item none = refl
not_passed false b item none = no_letter b item none

owed_one : (n me d : ℕ) (before : List Entry) (e : Entry) → letters_of (owed_by n me d before e) ≡ sent_by d e
owed_one n me d before (Sent to letter) = pick (eqb to.number d)
  where
    pick : (b : Bool) → letters_of (cond b (Mail letter ∷ []) []) ≡ cond b (letter ∷ []) []
    pick true = refl
    pick false = refl
owed_one n me d before (Revoked context) = not_passed (is_revoked before context.number) (is_addressed me before d) (Revoke context) refl
owed_one n me d before (Entered entrance) = no_letter (is_member (members_of n before entrance.topic.context.number) d && is_addressed me before d) (Enter entrance) refl
owed_one n me d before (Took source (Revoke context)) = not_passed (is_revoked before context.number) (is_addressed me before d) (Revoke context) refl
owed_one n me d before (Took source (Mail letter)) = refl
owed_one n me d before (Took source Gone) = refl
owed_one n me d before (Took source (Enter entrance)) = refl
owed_one n me d before _ = refl

-- the letters that a log owes to d are those that it sent there
owed_all : (n me d : ℕ) (log : List Entry) → letters_of (owed n me log d) ≡ sent_letters d log
owed_all n me d log =
    gathered_all {X = Item} (by_before (owed_by n me d)) (λ (before : List Entry) (found : List Item). letters_of found ≡ sent_letters d before)
    (λ before found e h.
    flat_map-append letter_of found (owed_by n me d before e)
    ∙ ap (λ xs. xs ++ letters_of (owed_by n me d before e)) h
    ∙ ap (λ xs. sent_letters d before ++ xs) (owed_one n me d before e)
    ∙ sym (flat-push (sent_by d) before e))
    [] refl log

letters_front : (xs ys : List Item) → IsBeginning xs ys → (rest : List Letter) × (letters_of xs ++ rest ≡ letters_of ys)
letters_front xs ys b = (letters_of b.0, sym (flat_map-append letter_of xs b.0) ∙ ap letters_of b.1)

-- the letters that arrived are a beginning of those that were sent
letters_arrived : {sender : State} (s d : ℕ) {xs : List Item} → Flow sender s d xs → (rest : List Letter) × (letters_of xs ++ rest ≡ sent_letters d sender.log)
letters_arrived {sender} s d {xs} h =
    let whole : letters_of (owes sender d) ≡ sent_letters d sender.log = owed_all sender.ranks sender.me d sender.log in
    elim (cases_eq s d) [
      | inl same ↦ let f = letters_front xs (owes sender d) (arrived_owed d h (λ stopped. same)) in (f.0, f.1 ∙ whole)
      | inr other ↦ elim (cases_Bool (is_stopped sender.log)) [
        | inr running ↦ let f = letters_front xs (owes sender d) (outbox sender d, sym (h.running running)) in (f.0, f.1 ∙ whole)
        | inl stopped ↦
            let n = h.stopped stopped other in
            let f = letters_front n.sent (owes sender d) n.beginning in
            let all : letters_of xs ++ letters_of (outbox sender d) ≡ letters_of n.sent =
            sym (flat_map-append letter_of xs (outbox sender d)) ∙ ap letters_of (sym n.all) ∙ flat_map-append letter_of n.sent (Gone ∷ []) ∙ append-nil (letters_of n.sent) in
            (letters_of (outbox sender d) ++ f.0, sym (append_assoc (letters_of xs) (letters_of (outbox sender d)) f.0) ∙ ap (λ ys. ys ++ f.0) all ∙ f.1 ∙ whole)
      ]
    ]

-- as many letters as are counted
took_count : (s : ℕ) (log : List Entry) → length (letters_of (took log s)) ≡ count_by (takes_letter s) log
took_count s [] = refl
took_count s (e ∷ log) =
    omega (arith, ap length (flat_map-append letter_of (took_by s e) (took log s)), length-append (letters_of (took_by s e)) (letters_of (took log s)), one e, took_count s log, sum_by-cons (λ (x : Entry). cond (takes_letter s x) 1 0) e log)
  where
    pick : (b : Bool) (item : Item) → length (letters_of (cond b (item ∷ []) [])) ≡ cond (cond b (is_letter item) false) 1 0
    pick true (Mail letter) = refl
    pick true Gone = refl
    pick true (Revoke context) = refl
    pick true (Enter entrance) = refl
    pick false item = refl

    one : (x : Entry) → length (letters_of (took_by s x)) ≡ cond (takes_letter s x) 1 0
    one (Took source item) = pick (eqb source.number s) item
    one _ = refl

sent_count : (d : ℕ) (log : List Entry) → length (sent_letters d log) ≡ count_by (sends_to d) log
sent_count d [] = refl
sent_count d (e ∷ log) = omega (arith, length-append (sent_by d e) (sent_letters d log), one e, sent_count d log, sum_by-cons (λ (x : Entry). cond (sends_to d x) 1 0) e log)
  where
    pick : (b : Bool) (letter : Letter) → length (let xs : List Letter = cond b (letter ∷ []) [] in xs) ≡ cond b 1 0
    pick true letter = refl
    pick false letter = refl

    one : (x : Entry) → length (sent_by d x) ≡ cond (sends_to d x) 1 0
    one (Sent to letter) = pick (eqb to.number d) letter
    one _ = refl

-- the entry that sent the letter of a number
pub record IsSending (d place : ℕ) (log : List Entry) (letter : Letter) : Type 0 where
  pub to : WorldRank
  pub is_to : to.number ≡ d
  pub sent : at log place (Sent to letter)

abbrev Sends : ℕ → List Entry → Letter → Type 0
Sends d log letter = (place : ℕ) × IsSending d place log letter

sends_later : (d : ℕ) (e : Entry) (log : List Entry) (letter : Letter) → Sends d log letter → Sends d (e ∷ log) letter
sends_later d e log letter found = (suc found.0, record { to = found.1.to; is_to = found.1.is_to; sent = found.1.sent })

sends_here : (d : ℕ) (to : WorldRank) (own : Letter) (log : List Entry) (letter : Letter) (b : Bool) → eqb to.number d ≡ b → (k : ℕ) → at (cond b (own ∷ []) [] ++ sent_letters d log) k letter
    → ((n : ℕ) → at (sent_letters d log) n letter → Sends d log letter) → Sends d (Sent to own ∷ log) letter
sends_here d to own log letter true same zero there later = (0, record { to = to; is_to = eqb-true to.number d same; sent = ap (λ (x : Letter). Some (Sent to x)) (same_Some own letter there) })
sends_here d to own log letter true same (suc k) there later = sends_later d (Sent to own) log letter (later k there)
sends_here d to own log letter false other k there later = sends_later d (Sent to own) log letter (later k there)

sends_on : (d : ℕ) (e : Entry) (log : List Entry) (m : ℕ) (letter : Letter) → ((n : ℕ) → at (sent_letters d log) n letter → Sends d log letter) → at (sent_letters d (e ∷ log)) m letter → Sends d (e ∷ log) letter
sends_on d (Sent to own) log m letter later there = sends_here d to own log letter (eqb to.number d) refl m there later
sends_on d e log m letter later there = sends_later d e log letter (later m there)

sending : (d : ℕ) (log : List Entry) (m : ℕ) (letter : Letter) → at (sent_letters d log) m letter → Sends d log letter
sending d [] m letter here = absurd (none-some letter here)
sending d (e ∷ log) m letter here = sends_on d e log m letter (λ n there. sending d log n letter there) here

split_at : (log : List Entry) (k : ℕ) (e : Entry) → at log k e → take k log ++ e ∷ drop (suc k) log ≡ log
split_at log k e here =
    ap (λ (x : Entry). take k log ++ x ∷ drop (suc k) log) (sym (get_or_from_slice_get log k e e here))
    ∙ ap (λ (ys : List Entry). take k log ++ ys) (sym (drop-cons log k e (slice_get_within log k e here)))
    ∙ take-append-drop k log

-- a letter's number is how many were taken before
taken_place : (s k : ℕ) (log : List Entry) (source : WorldRank) (letter : Letter) → source.number ≡ s → at log k (Took source (Mail letter))
    → at (letters_of (took log s)) (length (letters_of (took (take k log) s))) letter
taken_place s k log source letter same here =
    let e = Took source (Mail letter) in
    let rest = took (drop (suc k) log) s in
    let front = letters_of (took (take k log) s) in
    let parts : letters_of (took log s) ≡ front ++ letter ∷ letters_of rest =
    ap (λ (xs : List Entry). letters_of (took xs s)) (sym (split_at log k e here))
    ∙ ap letters_of (flat_map-append (took_by s) (take k log) (e ∷ drop (suc k) log))
    ∙ flat_map-append letter_of (took (take k log) s) (took_by s e ++ rest)
    ∙ ap (λ (b : Bool). front ++ letters_of (cond b (Mail letter ∷ []) [] ++ rest)) (eq-eqb source.number s same) in
    subst (λ (xs : List Letter). at xs (length front) letter) (sym parts) (get_here front letter (letters_of rest))

-- each letter that was taken was sent earlier
pub sent_before : (inboxes : Inboxes) {reports : List Report} → Flows inboxes reports → (o : HaveOneOrder reports) → LettersComeLater reports o.time
sent_before inboxes flows o d k receiver source letter here stands =
    let s = source.number in
    let owed = o.owed_earlier d k receiver source (Mail letter) here stands in
    let log = receiver.rank.log in let sent = owed.sender.rank.log in
    let left = items_from s (inbox_of inboxes d) in
    let early = take owed.count sent in let late = drop owed.count sent in
    let m = length (letters_of (took (take k log) s)) in
    let arrived = letters_arrived s d (flows s d owed.sender receiver owed.reported here) in
    let came : at (letters_of (took log s ++ left)) m letter =
    subst (λ (xs : List Letter). at xs m letter) (sym (flat_map-append letter_of (took log s) left))
    (get_front (letters_of (took log s)) (letters_of left) m letter (taken_place s k log source letter refl stands)) in
    let all : at (sent_letters d sent) m letter = subst (λ (xs : List Letter). at xs m letter) arrived.1 (get_front (letters_of (took log s ++ left)) arrived.0 m letter came) in
    let parts : sent_letters d sent ≡ sent_letters d early ++ sent_letters d late = ap (sent_letters d) (sym (take-append-drop owed.count sent)) ∙ flat_map-append (sent_by d) early late in
    let within : m < length (sent_letters d early) = omega (arith, owed.owed, took_count s (take k log), sent_count d early) in
    let found = sending d early m letter (get_in_front (sent_letters d early) (sent_letters d late) m letter within (subst (λ (xs : List Letter). at xs m letter) parts all)) in
    let place = front_place owed.count sent found.0 (Sent found.1.to letter) found.1.sent in record {
      sender = owed.sender;
      reported = owed.reported;
      place = found.0;
      to = found.1.to;
      is_to = found.1.is_to;
      sent = place.1;
      earlier = owed.earlier found.0 place.0;
    }
