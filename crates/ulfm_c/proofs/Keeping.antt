-- The end goes with the rank, whatever its calls do.
use Rattle.std.proofs.Common.{◌≡◌, ℕ, Bool, true, false, refl, ap, sym, subst, Result, Ok, Err, Option, OnOk, OnErr, cond}
use Rattle.std.specs.Prelude.{IfOk}
use Rattle.ulfm_carrier.specs.declared.lane_ends.LaneEnds.{LaneEnds}
use Rattle.ulfm_base.specs.declared.request_id.RequestId.{RequestId}
use Rattle.ulfm_rank.proofs.Joining.{joined-quiet}
use Rattle.ulfm_rank.proofs.Quiet.{Own, quiet-logged, quiet-same}
use Rattle.ulfm_log.specs.State.{IsState, RankView, State, logged}
use Rattle.ulfm_log.specs.declared.entry.Entry.{Entry}
use Rattle.ulfm_log.specs.declared.entry.Cancel.{Cancel}
use Rattle.ulfm_log.specs.declared.entry.Cancel.TheVariants.{Cancelled, Completed}
use Rattle.ulfm_log.specs.declared.entry.Comm.{Comm}
use Rattle.ulfm_log.specs.declared.entry.Entry.TheVariants.{Released, Probed as ProbedEntry}
use Rattle.ulfm_log.specs.declared.entry.Probed.{Probed}
use Rattle.ulfm_log.specs.declared.entry.Probed.TheVariants.{Found, Nothing}
use Rattle.ulfm_rank.specs.Cancel.{cancelling}
use Rattle.ulfm_rank.specs.Messages.{IsProbeAnswer}
use Rattle.ulfm_base.specs.declared.tag.Tag.{Tag}
use Rattle.ulfm_log.specs.declared.entry.TestAnswer.{TestAnswer}
use Rattle.ulfm_rank.specs.Answer.{is_release}
use Rattle.ulfm_rank.specs.inside.Quiet.{Quiet}
use Rattle.ulfm_c.specs.View.{IsAtEnd}

pub quiet-one : {old : State} (new : State) (x : Entry) → IsState old → Own old.me x → new ≡ logged old x → Quiet old new
quiet-one {old} new x sound own only = subst (λ (r : State). Quiet old r) (sym only) (quiet-logged old x sound own)

pub quiet-none : {old : State} (new : State) → IsState old → new ≡ old → Quiet old new
quiet-none {old} new sound same = subst (λ (r : State). Quiet old r) (sym same) (quiet-same old sound)

-- one entry is added where something is so, else none
pub quiet-cond : {old : State} (new : State) (b : Bool) (x : Entry) → IsState old → Own old.me x → new ≡ cond b (logged old x) old → Quiet old new
quiet-cond new true x sound own only = quiet-one new x sound own only
quiet-cond new false x sound own only = quiet-none new sound only

pub quiet-unless : {old : State} (new : State) (b : Bool) (x : Entry) → IsState old → Own old.me x → new ≡ cond b old (logged old x) → Quiet old new
quiet-unless new true x sound own only = quiet-none new sound only
quiet-unless new false x sound own only = quiet-one new x sound own only

kept-same : {old : State} (new : State) {end : LaneEnds} → IsAtEnd old end → new ≡ old → IsAtEnd new end
kept-same new {end} h same = subst (λ (r : State). IsAtEnd r end) (sym same) h

module _ {A E : Type 0} {old : State} (new : State) {end : LaneEnds} (h : IsAtEnd old end) where
  -- a call did something quiet, or was refused and changed nothing
  pub kept-ok : {P : Type 0} (result : Result A E) → OnOk result P → OnErr result (new ≡ old) → (P → Quiet old new) → IsAtEnd new end
  kept-ok (Ok v) did same quiet = joined-quiet new h (quiet did)
  kept-ok (Err e) did same quiet = kept-same new h same

  pub kept-if : {P : A → Type 0} (result : Result A E) → IfOk result P → OnErr result (new ≡ old) → ((v : A) → P v → Quiet old new) → IsAtEnd new end
  kept-if (Ok v) did same quiet = joined-quiet new h (quiet v did)
  kept-if (Err e) did same quiet = kept-same new h same

-- what left a rank as it was left its state
pub state-same : {A E : Type 0} (v w : RankView) (result : Result A E) → OnErr result (w ≡ v) → OnErr result (w.state ≡ v.state)
state-same v w (Ok a) same = same
state-same v w (Err e) same = ap (λ (r : RankView). r.state) same

-- a cancel adds an entry that takes nothing and sends nothing
pub own-cancel : {me : ℕ} (id : RequestId) (answer : Cancel) → Own me (cancelling id answer)
own-cancel id Cancelled = record { signed = tt; takes_none = λ s. refl }
own-cancel id (Completed answer) = record { signed = tt; takes_none = λ s. refl }

-- a probe that finds a letter adds an entry, and another one none
pub quiet-probed : {old : State} (new : State) (comm : Comm) (source : Option ℕ) (tag : Option Tag) → IsState old → (probed : Probed) → IsProbeAnswer old comm source tag new probed → Quiet old new
quiet-probed new comm source tag sound (Found id status) h = quiet-one new (ProbedEntry id h.pattern) sound (record { signed = tt; takes_none = λ s. refl }) h.only
quiet-probed new comm source tag sound Nothing h = quiet-none new sound h.1

-- a test releases its request, or changes nothing
pub kept-test : {E : Type 0} (v w : RankView) {end : LaneEnds} (id : RequestId) (result : Result TestAnswer E) → IsAtEnd v.state end → IfOk result (λ answer. is_release answer ≡ true → w.state ≡ logged v.state (Released id answer)) → IfOk result (λ answer. is_release answer ≡ false → w ≡ v) → OnErr result (w ≡ v) → IsAtEnd w.state end
kept-test v w {end} id (Err e) h released stays same = subst (λ (r : RankView). IsAtEnd r.state end) (sym same) h
kept-test v w {end} id (Ok answer) h released stays same = by (is_release answer) refl
  where
    by : (b : Bool) → is_release answer ≡ b → IsAtEnd w.state end
    by true is = joined-quiet w.state h (quiet-one w.state (Released id answer) h.sound (record { signed = tt; takes_none = λ s. refl }) (released is))
    by false is = subst (λ (r : RankView). IsAtEnd r.state end) (sym (stays is)) h
