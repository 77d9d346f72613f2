-- What a log tells of entrances into topics, and what a longer one tells.
use Rattle.std.proofs.Common.{◌≡◌, ℕ, ◌+◌, ◌<◌, ◌&&◌, arith, subst, length, filter, length-append, Bool, true, false, cond, List, [], ◌∷◌, ◌++◌, refl, ap, sym, ◌∙◌, inl, inr, ◌⊎◌, Option, Some, None}
use Rattle.std.specs.Prelude.{⊤, is_some}
use Rattle.std.proofs.lemmas.List.Elements.{filter-append}
use Rattle.ulfm_log.proofs.Common.{Topic, Purpose, Shrink, Agree, Entrance, Decision, Contribution, has, is_topic, topics_equal, topic_passes, is_agreement, is_of_kind, is_round_on, round_of, rounds_of, enters_round, deciders, Entry, Entered, Adopted, first_given, Knows, false≢true, eq-eqb, or_cases, or_left, or_parts, group_of, is_made, members_of, entry_of, has_entered, adopts, has_adopted, is_foreign, none-some, cond_some, is_gone, tells_gone}
use Rattle.ulfm_log.proofs.Gather.{any-push}
use Rattle.ulfm_log.proofs.Firsts.{or_else_cases, or_else_first, some_from, first-push}
use Rattle.ulfm_log.proofs.Grouped.{group_stays, members_found}

-- a round is entered in its turn: its number is how many of its kind were entered on its communicator before
abbrev pub IsInTurn : List Entry → Topic → Type 0
IsInTurn before topic = round_of topic.purpose ≡ rounds_of before (is_agreement topic.purpose) topic.context.number

-- An entry that a rank may add: it enters a topic of a communicator that it made, once and in its turn, with the failures that
-- it knows; it adopts a decision on a topic that it entered, which isn't foreign.
abbrev pub Fits : ℕ → ℕ → List Entry → Entry → Type 0
Fits n me before (Entered entrance) =
    (is_made n before entrance.topic.context.number ≡ true) × (has_entered before entrance.topic ≡ false) × Knows before entrance.contribution.known × IsInTurn before entrance.topic
Fits n me before (Adopted d) = (is_made n before d.topic.context.number ≡ true) × (has_entered before d.topic ≡ true) × (is_foreign me (deciders n before d.topic) before d.topic d ≡ false)
Fits n me before _ = ⊤

-- an entry that brings something into a topic is an entrance with it
pub entry_parts : (t : Topic) (e : Entry) (set : Contribution) → entry_of t e ≡ Some set → (entrance : Entrance) × (e ≡ Entered entrance) × (entrance.topic ≡ t) × (entrance.contribution ≡ set)
entry_parts t (Entered entrance) set h =
    let both = cond_some (is_topic entrance.topic t) entrance.contribution set h in
    (entrance, refl, topics_equal entrance.topic t both.0, both.1)
entry_parts t _ set h = absurd (none-some set h)

pub entry_here : (entrance : Entrance) (t : Topic) → entrance.topic ≡ t → entry_of t (Entered entrance) ≡ Some entrance.contribution
entry_here entrance t same = ap (λ b. cond b (Some entrance.contribution) None) (topic_passes entrance.topic t same)

-- what the first entrance into a topic brings
abbrev pub own_set : List Entry → Topic → Option Contribution
own_set log c = first_given (entry_of c) log

pub own_stays : (log : List Entry) (e : Entry) (c : Topic) (set : Contribution) → own_set log c ≡ Some set → own_set (log ++ e ∷ []) c ≡ Some set
own_stays log e c set h = first-push (entry_of c) log e ∙ or_else_first (own_set log c) (entry_of c e) set h

pub entered_stays : (log : List Entry) (e : Entry) (c : Topic) → has_entered log c ≡ true → has_entered (log ++ e ∷ []) c ≡ true
entered_stays log e c h = let found = some_from (own_set log c) h in ap is_some (own_stays log e c found.0 found.1)

-- the first entry was there, or it is the new one
pub own_cases : (log : List Entry) (e : Entry) (c : Topic) (set : Contribution) → own_set (log ++ e ∷ []) c ≡ Some set → (own_set log c ≡ Some set) ⊎ ((own_set log c ≡ None) × (entry_of c e ≡ Some set))
own_cases log e c set h = or_else_cases (own_set log c) (entry_of c e) set (sym (first-push (entry_of c) log e) ∙ h)

pub gone_stays : (log : List Entry) (e : Entry) (s : ℕ) → is_gone log s ≡ true → is_gone (log ++ e ∷ []) s ≡ true
gone_stays log e s h = any-push (tells_gone s) log e ∙ or_left (is_gone log s) (tells_gone s e) h

pub gone_before : (log : List Entry) (e : Entry) (s : ℕ) → is_gone (log ++ e ∷ []) s ≡ false → is_gone log s ≡ false
gone_before log e s h = (or_parts (is_gone log s) (tells_gone s e) (sym (any-push (tells_gone s) log e) ∙ h)).0

pub made_stays : (n : ℕ) (log : List Entry) (e : Entry) (c : ℕ) → is_made n log c ≡ true → is_made n (log ++ e ∷ []) c ≡ true
made_stays n log e c h = let found = some_from (group_of n log c) h in ap is_some (group_stays n log e c found.0 found.1)

-- the members of a communicator that was made stay
pub members_stay : (n : ℕ) (log : List Entry) (e : Entry) (c : ℕ) → is_made n log c ≡ true → members_of n (log ++ e ∷ []) c ≡ members_of n log c
members_stay n log e c h =
    let found = some_from (group_of n log c) h in
    members_found n (log ++ e ∷ []) c found.0 (group_stays n log e c found.0 found.1) ∙ sym (members_found n log c found.0 found.1)

-- a rank entered topics alone of communicators that it made
abbrev pub EntersMade : ℕ → List Entry → Type 0
EntersMade n log = (t : Topic) → has_entered log t ≡ true → is_made n log t.context.number ≡ true

pub enters_made : (n me : ℕ) (log : List Entry) (e : Entry) → EntersMade n log → Fits n me log e → EntersMade n (log ++ e ∷ [])
enters_made n me log e h fits t entered =
    let set = some_from (own_set (log ++ e ∷ []) t) entered in
    made_stays n log e t.context.number (elim (own_cases log e t set.0 set.1) [
      | inl was ↦ h t (ap is_some was)
      | inr now ↦
          let is = entry_parts t e set.0 now.1 in
          ap (λ (u : Topic). is_made n log u.context.number) (sym is.2) ∙ (rw is.1 at fits).0
    ])

-- it adopted decisions alone on topics that it entered
abbrev pub AdoptsEntered : List Entry → Type 0
AdoptsEntered log = (t : Topic) → has_adopted log t ≡ true → has_entered log t ≡ true

adopts_parts : (t : Topic) (e : Entry) → adopts t e ≡ true → (d : Decision) × (e ≡ Adopted d) × (d.topic ≡ t)
adopts_parts t (Adopted d) h = (d, refl, topics_equal d.topic t h)
adopts_parts t _ h = absurd (false≢true h)

pub adopts_entered : (n me : ℕ) (log : List Entry) (e : Entry) → AdoptsEntered log → Fits n me log e → AdoptsEntered (log ++ e ∷ [])
adopts_entered n me log e h fits t adopted =
    entered_stays log e t (elim (or_cases (has_adopted log t) (adopts t e) (sym (any-push (adopts t) log e) ∙ adopted)) [
      | inl was ↦ h t was
      | inr now ↦
          let is = adopts_parts t e now in
          ap (has_entered log) (sym is.2) ∙ (rw is.1 at fits).1
    ])

-- the failures of an entrance are known
abbrev pub KnowsSets : List Entry → Type 0
KnowsSets log = (t : Topic) (s : ℕ) (set : Contribution) → own_set log t ≡ Some set → has set.known s ≡ true → is_gone log s ≡ true

pub knows_sets : (n me : ℕ) (log : List Entry) (e : Entry) → KnowsSets log → Fits n me log e → KnowsSets (log ++ e ∷ [])
knows_sets n me log e h fits t s set own inside =
    gone_stays log e s (elim (own_cases log e t set own) [
      | inl was ↦ h t s set was inside
      | inr now ↦
          let is = entry_parts t e set now.1 in
          sym ((rw is.1 at fits).2 s) ∙ ap (λ (c : Contribution). has c.known s) is.3 ∙ inside
    ])

-- each round that a rank entered has a number below that of the next one of its kind
abbrev pub RoundsCounted : List Entry → Type 0
RoundsCounted log = (topic : Topic) → has_entered log topic ≡ true → round_of topic.purpose < rounds_of log (is_agreement topic.purpose) topic.context.number

-- the rounds of a log that goes on
pub rounds-more : (log more : List Entry) (agrees : Bool) (c : ℕ) → rounds_of (log ++ more) agrees c ≡ rounds_of log agrees c + rounds_of more agrees c
rounds-more log more agrees c = ap length (filter-append (enters_round agrees c) log more) ∙ length-append (filter (enters_round agrees c) log) (filter (enters_round agrees c) more)

-- a purpose is of its kind
own_kind : (purpose : Purpose) → is_of_kind (is_agreement purpose) purpose ≡ true
own_kind (Shrink round) = refl
own_kind (Agree round) = refl

-- a topic is a round of its kind on its communicator
pub own_round : (topic : Topic) → is_round_on (is_agreement topic.purpose) topic.context.number topic ≡ true
own_round topic = ap (λ b. b && is_of_kind (is_agreement topic.purpose) topic.purpose) (eq-eqb topic.context.number topic.context.number refl) ∙ own_kind topic.purpose

-- an entrance counts
pub counts : (entrance : Entrance) (topic : Topic) → entrance.topic ≡ topic → length (filter (enters_round (is_agreement topic.purpose) topic.context.number) (Entered entrance ∷ [])) ≡ 1
counts entrance topic same = ap (λ b. length (cond b (Entered entrance ∷ []) [])) (ap (is_round_on (is_agreement topic.purpose) topic.context.number) same ∙ own_round topic)

pub rounds_counted : (n me : ℕ) (log : List Entry) (e : Entry) → RoundsCounted log → Fits n me log e → RoundsCounted (log ++ e ∷ [])
rounds_counted n me log e h fits t entered =
    let agrees = is_agreement t.purpose in
    let c = t.context.number in
    let set = some_from (own_set (log ++ e ∷ []) t) entered in
    let more = rounds-more log (e ∷ []) agrees c in
    elim (own_cases log e t set.0 set.1) [
      | inl was ↦ let below = h t (ap is_some was) in omega (arith, more, below)
      | inr now ↦
          let is = entry_parts t e set.0 now.1 in
          let turn : round_of t.purpose ≡ rounds_of log agrees c = subst (IsInTurn log) is.2 (rw is.1 at fits).3 in
          let one : length (filter (enters_round agrees c) (e ∷ [])) ≡ 1 = ap (λ x. length (filter (enters_round agrees c) (x ∷ []))) is.1 ∙ counts is.0 t is.2 in
          omega (arith, more, turn, one)
    ]
