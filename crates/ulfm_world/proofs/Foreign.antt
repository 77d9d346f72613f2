-- In every schedule no step is refused since a decision isn't one for its rank to adopt, nor one that ranks decide together because of a revocation.
use Rattle.std.proofs.Common.{◌≡◌, ◌≢◌, ℕ, ◌≤◌, Bool, true, false, List, [], length, refl, ap, sym, ◌∙◌, inl, inr}
use Rattle.ulfm_base.specs.declared.error.CallError.TheVariants.{NotMember, ProcFailed, Revoked}
use Rattle.ulfm_rank.specs.Checks.{agree_checks, comm_checks, dup_checks, receive_checks, send_checks, shrink_checks}
use Rattle.ulfm_rank.specs.Messages.{IsRefusalAfterChecks}
use Rattle.ulfm_script.specs.Calls.{AnswersStep, comm_of}
use Rattle.ulfm_job.specs.declared.step.Step.TheVariants.{Send, Recv, Wait, Probe, Mrecv, Cancel, Failed, Ack, Revoke, Dup, Note, Stop}
use Rattle.ulfm_script.specs.Player.{is_joint}
use Rattle.ulfm_report_laws.specs.Decisions.{NoneIsForeign}
use Rattle.ulfm_report_laws.specs.Pending.{RevokedRefusesNone}
use Rattle.ulfm_report_laws.proofs.Each.{by_entry}
use Rattle.ulfm_report_laws.proofs.Refused.{refused_by, refused_or_starved}
use Rattle.ulfm_world.specs.Each.{InEachWorld}
use Rattle.ulfm_world.proofs.EachStep.{each_step}
use Rattle.ulfm_world.proofs.Common.{Agree, CallError, OutOfMemory, Reaches, Refused, Room, Shrink, State, Step, StepAnswer, StepReport, World, false≢true, reports_in, start_world}

-- an error says nothing of a decision that isn't one for its rank
abbrev is_own : CallError → Bool
is_own NotMember = false
is_own _ = true

abbrev is_own_answer : StepAnswer → Bool
is_own_answer (Refused e) = is_own e
is_own_answer _ = true

-- no poll of a step is refused so
call_own : (before : List StepReport) (r : State) (asked : Step) (answer : StepAnswer) (new : State) → AnswersStep before r asked answer new → is_own_answer answer ≡ true
call_own before r (Send to tag body comm) (Refused e) new h = refused_or_starved is_own (send_checks r comm.number to (length body)) e refl refl h.0
call_own before r (Recv source tag room comm) (Refused e) new h = refused_or_starved is_own (receive_checks r comm.number source) e refl refl h.0
call_own before r (Wait req) (Refused e) new h = ap is_own h.0
call_own before r (Probe source tag comm) (Refused e) new h = elim (h.0) [
  | inl fails ↦ refused_by is_own (receive_checks r comm.number source) e refl fails
  | inr late ↦ late_own e late.1
]
  where
    late_own : (e : CallError) → IsRefusalAfterChecks r (comm_of comm) source tag e → is_own e ≡ true
    late_own ProcFailed late = refl
    late_own OutOfMemory late = refl
    late_own _ late = absurd late
call_own before r (Mrecv req room) (Refused e) new h = ap is_own h.0
call_own before r (Cancel req) (Refused e) new h = ap is_own h.0
call_own before r (Failed comm) (Refused e) new h = refused_by is_own (comm_checks r comm.number []) e refl h.0
call_own before r (Ack count comm) (Refused e) new h = refused_or_starved is_own (comm_checks r comm.number []) e refl refl h.0.0
call_own before r (Revoke comm) (Refused e) new h = refused_or_starved is_own (comm_checks r comm.number []) e refl refl h.0.0
call_own before r (Dup comm again) (Refused e) new h = refused_or_starved is_own (dup_checks again r comm.number) e refl refl h.0
call_own before r (Shrink comm again) (Refused e) new h = refused_or_starved is_own (shrink_checks again r comm) e refl refl h.0
call_own before r (Agree flag comm) (Refused e) new h = refused_or_starved is_own (agree_checks r comm) e refl refl h.0
call_own before r (Note text) (Refused e) new h = absurd h
call_own before r Stop (Refused e) new h = absurd h
call_own before r asked _ new h = refl

abbrev IsOwnStep : StepReport → Type 0
IsOwnStep x = is_own_answer x.answer ≡ true

-- nor is a decision
decided_own : (answer : StepAnswer) → ((e : CallError) → answer ≡ Refused e → e ≡ OutOfMemory) → is_own_answer answer ≡ true
decided_own (Refused e) starves = ap is_own (starves e refl)
decided_own _ starves = refl

pub none_foreign : (n : ℕ) (room : Room) (w : World) → n ≤ 8 → Reaches (start_world n room) w → NoneIsForeign (reports_in w)
none_foreign n room w small h r k told step here stands bad =
    let own : is_own_answer step.answer ≡ true =
    each_step IsOwnStep (λ before r asked answer new place polls a. call_own before r asked answer new a) (λ asked answer place polls starves. decided_own answer starves) (λ asked place polls. refl) (λ asked place polls. refl)
    n room w small h r k told step here stands in
    false≢true (ap is_own_answer (sym bad) ∙ own)

-- and none that ranks decide together is refused because of a revocation
abbrev IsUnrevoked : StepReport → Type 0
IsUnrevoked x = is_joint x.step ≡ true → x.answer ≢ Refused Revoked

decided_unrevoked : (answer : StepAnswer) → ((e : CallError) → answer ≡ Refused e → e ≡ OutOfMemory) → answer ≢ Refused Revoked
decided_unrevoked answer starves is = let same : Revoked ≡ OutOfMemory = starves Revoked is in let bad : ⊥ = cc in bad

pub revoked_refuses_none : InEachWorld RevokedRefusesNone
revoked_refuses_none n room w small h =
    each_step IsUnrevoked (λ before r asked answer new place polls a joint. by_entry before r asked answer new joint a) (λ asked answer place polls starves joint. decided_unrevoked answer starves)
    (λ asked place polls joint e. let bad : ⊥ = cc in bad) (λ asked place polls joint e. let bad : ⊥ = cc in bad) n room w small h
