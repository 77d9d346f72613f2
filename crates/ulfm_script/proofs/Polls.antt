-- What a poll of a step adds to a log.
use Rattle.std.proofs.Common.{◌≡◌, ℕ, Bool, true, false, List, [], refl, ap, sym, ◌∙◌, inl, inr, ◌⊎◌}
use Rattle.ulfm_log.specs.declared.entry.Entry.TheVariants.{Sent as SentEntry, Posted as PostedEntry, Released, Received, Cancelled, Probed, Entered, Adopted, Took}
use Rattle.ulfm_log.specs.declared.entry.TestAnswer.TheVariants.{Done as TestDone, Over as TestOver}
use Rattle.ulfm_log.specs.State.{State, IsState, logged}
use Rattle.ulfm_rank.proofs.Quiet.{Own, quiet-same, quiet-logged}
use Rattle.ulfm_script.proofs.Common.{adopt_checks, AnswersAdoption, Topic, Decision, Entry, EntersBy, is_stop_step, Passes, Shrink, Agree, Step, StepAnswer, StepReport, Wait, Probe, false≢true, Player, AnswersStep, LeavesOpen, StaysOpen, awaits_decision, IsCalled, GivesUpStep, ◌||◌, stopped-push, Quiet, is_stop, is_stopped, took_by, IsSigned}
use Rattle.ulfm_answer.specs.declared.answer.StepAnswer.TheVariants.{Shrunk, Agreed, Refused}
use Rattle.ulfm_base.specs.declared.error.CallError.{CallError}
use Rattle.ulfm_script.specs.Calls.{Refuses}
use Rattle.ulfm_script.proofs.Says.{IsIdle, IsApart, AddsIdle, each_answer}

-- one entry of the rank's own is added, a stop or not
pub record AddsOne (old : State) (stops : Bool) (new : State) : Type 0 where
  pub entry : Entry
  pub own : Own old.me entry
  pub stop : is_stop entry ≡ stops
  pub only : new ≡ logged old entry

-- nothing is added, or one entry
abbrev pub Adds : State → Bool → State → Type 0
Adds old stops new = ((new ≡ old) × (stops ≡ false)) ⊎ AddsOne old stops new

pub adds_same : (r new : State) → new ≡ r → Adds r false new
adds_same r new e = inl (e, refl)

pub adds_one : (r new : State) (e : Entry) (stops : Bool) → Own r.me e → is_stop e ≡ stops → new ≡ logged r e → Adds r stops new
adds_one r new e stops own stop only = inr (record { entry = e; own = own; stop = stop; only = only })

-- an entry of an answer by a call: it adopts no decision and enters no topic
pub record IsPlain (me : ℕ) (stops : Bool) (e : Entry) : Type 0 where
  pub own : Own me e
  pub stop : is_stop e ≡ stops
  pub apart : IsApart e

-- nothing is added, by a step that is no stop or a rank that stopped; or one such entry
abbrev pub AddsPlain : State → Bool → State → Type 0
AddsPlain old stops new = ((new ≡ old) × ((stops ≡ false) ⊎ (is_stopped old.log ≡ true))) ⊎ ((e : Entry) × IsPlain old.me stops e × (new ≡ logged old e))

plain_one : (r new : State) (e : Entry) → IsSigned r.me e → ((s : ℕ) → took_by s e ≡ []) → is_stop e ≡ false → IsApart e → new ≡ logged r e → AddsPlain r false new
plain_one r new e signed none go apart only = inr (e, record { own = record { signed = signed; takes_none = none }; stop = go; apart = apart }, only)

idle_signed : (me : ℕ) (e : Entry) → IsIdle e → IsSigned me e
idle_signed me (SentEntry to letter) h = absurd h
idle_signed me _ h = tt

idle_takes : (s : ℕ) (e : Entry) → IsIdle e → took_by s e ≡ []
idle_takes s (Took source item) h = absurd h
idle_takes s _ h = refl

plain_idle : (r : State) (asked : Step) (new : State) → AddsIdle r asked new → AddsPlain r (is_stop_step asked) new
plain_idle r asked new (inl same) = inl same
plain_idle r asked new (inr one) = inr (one.0, record { own = record { signed = idle_signed r.me one.0 one.1.idle; takes_none = λ s. idle_takes s one.0 one.1.idle }; stop = one.1.stop; apart = one.1.apart }, one.2)

-- an answer by a call adds one entry of the rank's own at most, a stop where the step is, no adoption and no entrance
pub answers_plain : (done : List StepReport) (r : State) (asked : Step) (answer : StepAnswer) (new : State) → AnswersStep done r asked answer new → AddsPlain r (is_stop_step asked) new
answers_plain done r asked answer new h =
    each_answer done r new (λ step said. AddsPlain r (is_stop_step step) new)
    (λ to tag body comm k. plain_one r new (SentEntry k.to k.letter) k.source (λ s. refl) refl tt k.only)
    (λ source tag room comm id k. plain_one r new (PostedEntry k.1.pattern) tt (λ s. refl) refl tt k.1.only)
    (λ req status body k. plain_one r new (Released k.id (TestDone status body)) tt (λ s. refl) refl tt k.only)
    (λ req reason k. plain_one r new (Released k.id (TestOver reason)) tt (λ s. refl) refl tt k.only)
    (λ source tag comm id status k. plain_one r new (Probed id k.1.pattern) tt (λ s. refl) refl tt k.1.only)
    (λ req room status body k. plain_one r new (Received k.id (TestDone status body)) tt (λ s. refl) refl tt k.only)
    (λ req room reason k. plain_one r new (Received k.id (TestOver reason)) tt (λ s. refl) refl tt k.only)
    (λ req k. plain_one r new (Cancelled k.tests.id) tt (λ s. refl) refl tt k.only)
    (λ req status body k. plain_one r new (Released k.id (TestDone status body)) tt (λ s. refl) refl tt k.only)
    (λ req reason k. plain_one r new (Released k.id (TestOver reason)) tt (λ s. refl) refl tt k.only)
    (λ step said silent k. plain_idle r step new k)
    asked answer h

-- at a rank that runs
pub answers_add : (done : List StepReport) (r : State) (asked : Step) (answer : StepAnswer) (new : State) → is_stopped r.log ≡ false → AnswersStep done r asked answer new → Adds r (is_stop_step asked) new
answers_add done r asked answer new running h = elim (answers_plain done r asked answer new h) [
  | inl same ↦ elim same.1 [ inl goes ↦ inl (same.0, goes) | inr stopped ↦ absurd (false≢true (sym running ∙ stopped)) ]
  | inr one ↦ adds_one r new one.0 (is_stop_step asked) one.1.own one.1.stop one.2
]

-- nothing is added, or a step enters its topic
abbrev pub Opens : State → Step → State → Type 0
Opens old asked new = (new ≡ old) ⊎ ((topic : Topic) × EntersBy old asked topic new)

pub opens_adds : (done : List StepReport) (r : State) (asked : Step) (new : State) → LeavesOpen done r asked new → Opens r asked new
opens_adds done r (Wait req) new h = inl h.only
opens_adds done r (Probe source tag comm) new h = inl h.2
opens_adds done r (Shrink comm again) new h = inr h
opens_adds done r (Agree flag comm) new h = inr h
opens_adds done r _ new h = absurd h

-- a step that its first poll may leave open is no stop
pub opens_go_on : (done : List StepReport) (r : State) (asked : Step) (new : State) → LeavesOpen done r asked new → is_stop_step asked ≡ false
opens_go_on done r (Wait req) new h = refl
opens_go_on done r (Probe source tag comm) new h = refl
opens_go_on done r (Shrink comm again) new h = refl
opens_go_on done r (Agree flag comm) new h = refl
opens_go_on done r _ new h = absurd h

adds_open : (done : List StepReport) (r : State) (asked : Step) (new : State) → LeavesOpen done r asked new → Adds r false new
adds_open done r asked new h = elim (opens_adds done r asked new h) [
  | inl same ↦ adds_same r new same
  | inr entry ↦ adds_one r new (Entered entry.1.enters.entrance) false (record { signed = tt; takes_none = λ s. refl }) refl entry.1.enters.only
]

-- a poll that leaves a step open adds its entrance at most
pub opens_add : (waits : Bool) (done : List StepReport) (r : State) (asked : Step) (new : State) → StaysOpen waits done r asked new → Adds r false new
opens_add true done r asked new h = adds_same r new h
opens_add false done r asked new h = adds_open done r asked new h

-- an adoption adds nothing where it is refused, else its entry
pub adoption_adds : (r : State) (asked : Step) (topic : Topic) (held : Decision) (answer : StepAnswer) (new : State) → AnswersAdoption r asked topic held answer new → (new ≡ r) ⊎ (Passes (adopt_checks r topic held) × (new ≡ logged r (Adopted held)))
adoption_adds r (Shrink comm again) topic held (Shrunk child group me) new h = inr (h.0, h.4)
adoption_adds r (Agree flag comm) topic held (Agreed value missing) new h = inr (h.0, h.3)
adoption_adds r asked topic held (Refused e) new h = inl h.1
adoption_adds r asked topic held _ new h = absurd h

-- an adoption is refused by its checks, or by out of memory
pub refused_adoption : (r : State) (asked : Step) (topic : Topic) (held : Decision) (e : CallError) (new : State) → AnswersAdoption r asked topic held (Refused e) new → Refuses (adopt_checks r topic held) e r new
refused_adoption r (Shrink comm again) topic held e new h = h
refused_adoption r (Agree flag comm) topic held e new h = h
refused_adoption r _ topic held e new h = h

-- the rank stopped exactly where a stop was added
pub stopped-adds : (r : State) (stops : Bool) (new : State) → is_stopped r.log ≡ false → Adds r stops new → is_stopped new.log ≡ stops
stopped-adds r stops new running (inl same) = ap (λ (s : State). is_stopped s.log) same.0 ∙ running ∙ sym same.1
stopped-adds r stops new running (inr one) =
    ap (λ (s : State). is_stopped s.log) one.only
    ∙ stopped-push r.log one.entry
    ∙ ap (λ b. b || is_stop one.entry) running
    ∙ one.stop

pub quiet-adds : (r : State) (stops : Bool) (new : State) → IsState r → Adds r stops new → Quiet r new
quiet-adds r stops new h (inl same) = rw same.0 (quiet-same r h)
quiet-adds r stops new h (inr one) = rw one.only (quiet-logged r one.entry h one.own)

-- a poll takes nothing and lets nothing go out
pub quiet-called : (old : Player) (asked : Step) (new : Player) → IsState old.rank → is_stopped old.rank.log ≡ false → IsCalled old asked new → Quiet old.rank new.rank
quiet-called old asked new h running (inl a) = rw a.only (quiet-adds old.rank (is_stop_step asked) a.rank h (answers_add old.done old.rank asked a.answer a.rank running a.answers))
quiet-called old asked new h running (inr o) = rw o.only (quiet-adds old.rank false o.rank h (opens_add (awaits_decision old.current) old.done old.rank asked o.rank o.stays))

pub quiet-left : (old new : Player) → IsState old.rank → GivesUpStep old new → Quiet old.rank new.rank
quiet-left old new h k = rw k.only (quiet-same old.rank h)
