-- What a poll of a step adds to a log fits it, and is no adoption.
use Rattle.std.proofs.Common.{◌≡◌, ℕ, Bool, true, false, List, [], ◌∷◌, ◌++◌, arith, refl, ap, sym, subst, inl, inr, ◌⊎◌}
use Rattle.ulfm_rank.specs.Checks.{shrink_checks}
use Rattle.ulfm_script.proofs.Common.{Adopted, agree_checks, all_pass, AnswersStep, Agree, Context, EntersBy, Topic, Entered, Entry, LeavesOpen, logged, next_round, none-some, RoundsCounted, same_Some, Shrink, State, Step, StepAnswer, StepReport, not-false, has_entered, ⊤, Knows, Fits}
use Rattle.ulfm_log.specs.Communicators.{is_made}
use Rattle.ulfm_log.proofs.Entering.{IsInTurn}
use Rattle.ulfm_script.proofs.Polls.{answers_plain, opens_adds}
use Rattle.ulfm_script.proofs.Says.{IsApart}

-- an entry adopts nothing
abbrev pub IsPlain : Entry → Type 0
IsPlain (Adopted d) = ⊥
IsPlain _ = ⊤

-- a log stays, or gets one entry that the rank may add, and that adopts nothing
abbrev pub AddsPlain : ℕ → ℕ → List Entry → List Entry → Type 0
AddsPlain n me old new = (new ≡ old) ⊎ ((e : Entry) × Fits n me old e × IsPlain e × (new ≡ old ++ e ∷ []))

abbrev pub Adds : State → State → Type 0
Adds old new = AddsPlain old.ranks old.me old.log new.log

pub adds_same : (r new : State) → new ≡ r → Adds r new
adds_same r new same = inl (ap (λ (s : State). s.log) same)

pub adds_one : (r new : State) (e : Entry) → Fits r.ranks r.me r.log e → IsPlain e → new ≡ logged r e → Adds r new
adds_one r new e fits plain only = inr (e, fits, plain, ap (λ (s : State). s.log) only)

pub fits_apart : (n me : ℕ) (log : List Entry) (e : Entry) → IsApart e → Fits n me log e
fits_apart n me log (Adopted d) h = absurd h
fits_apart n me log (Entered entrance) h = absurd h
fits_apart n me log _ h = tt

adopts_none : (e : Entry) → IsApart e → IsPlain e
adopts_none (Adopted d) h = h
adopts_none _ h = tt

-- an answer of a poll adds one such entry at most
pub answers_add : (done : List StepReport) (r : State) (asked : Step) (answer : StepAnswer) (new : State) → AnswersStep done r asked answer new → Adds r new
answers_add done r asked answer new h = elim (answers_plain done r asked answer new h) [
  | inl same ↦ adds_same r new same.0
  | inr one ↦ adds_one r new one.0 (fits_apart r.ranks r.me r.log one.0 one.1.apart) (adopts_none one.0 one.1.apart) one.2
]

-- a topic that a rank may enter: its communicator was made, and it is new and in its turn
abbrev pub IsNew : State → Topic → Type 0
IsNew r t = (is_made r.ranks r.log t.context.number ≡ true) × (has_entered r.log t ≡ false) × IsInTurn r.log t

refused : (b : Bool) → (b ≡ true → ⊥) → b ≡ false
refused true h = absurd (h refl)
refused false h = refl

-- the next round of a kind wasn't entered
next_is_new : (log : List Entry) (g : Bool) (comm : Context) → RoundsCounted log → has_entered log (next_round log g comm) ≡ false
next_is_new log true comm counted = refused (has_entered log (next_round log true comm)) (λ is. let below = counted (next_round log true comm) is in omega (arith, below))
next_is_new log false comm counted = refused (has_entered log (next_round log false comm)) (λ is. let below = counted (next_round log false comm) is in omega (arith, below))

-- what a step enters is new
pub entered_new : (r : State) (asked : Step) (topic : Topic) (new : State) → RoundsCounted r.log → EntersBy r asked topic new → IsNew r topic
entered_new r (Shrink comm again) topic new counted h =
    let ok = all_pass (shrink_checks again r comm) h.accepted in
    subst (IsNew r) (same_Some _ topic h.about) (not-false _ ok.1.0, next_is_new r.log false comm counted, refl)
entered_new r (Agree flag comm) topic new counted h =
    let ok = all_pass (agree_checks r comm) h.accepted in
    subst (IsNew r) (same_Some _ topic h.about) (not-false _ ok.1.0, next_is_new r.log true comm counted, refl)
entered_new r _ topic new counted h = absurd (none-some topic h.about)

-- an entrance of a step fits
pub fits_entered : (r : State) (asked : Step) (topic : Topic) (new : State) → RoundsCounted r.log → (h : EntersBy r asked topic new) → Fits r.ranks r.me r.log (Entered h.enters.entrance)
fits_entered r asked topic new counted h =
    let F : Topic → Type 0 = λ t. (is_made r.ranks r.log t.context.number ≡ true) × (has_entered r.log t ≡ false) × Knows r.log h.enters.entrance.contribution.known × IsInTurn r.log t in
    let is : IsNew r topic = entered_new r asked topic new counted h in
    subst F (sym h.enters.about) (is.0, is.1, h.enters.knows, is.2)

-- a poll that leaves a step open adds its entrance at most
pub opens_add : (done : List StepReport) (r : State) (asked : Step) (new : State) → RoundsCounted r.log → LeavesOpen done r asked new → Adds r new
opens_add done r asked new counted h = elim (opens_adds done r asked new h) [
  | inl same ↦ adds_same r new same
  | inr entry ↦ adds_one r new (Entered entry.1.enters.entrance) (fits_entered r asked entry.0 new counted entry.1) tt entry.1.enters.only
]
