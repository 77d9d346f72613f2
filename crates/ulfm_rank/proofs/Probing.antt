-- A probe finds a letter, or none.
use Rattle.std.proofs.Common.{◌≡◌, ℕ, ◌+◌, Bool, false, List, [], ◌∷◌, ◌++◌, length, refl, ap, sym, ◌∙◌, subst, Option, Some, None, inl, inr, arith, Contains}
use Rattle.ulfm_rank.proofs.Common.{CommunicatorsView, Context, Pattern, Letter, State, IsReceive, FaultState, Box, Follows, FindsNone, names_gone, names_known, Post, Come, Entry, Request, Matching, IsInStep, is_revoked, history_of, get_old, receive_within, one_pairing, WouldGet, WouldWait}
use Rattle.ulfm_base.specs.Pattern.{Admits}
use Rattle.ulfm_base.specs.declared.error.CallError.TheVariants.{OutOfMemory}
use Rattle.ulfm_base.specs.declared.tag.Tag.{Tag}
use Rattle.ulfm_match.proofs.Admitted.{admits_either}
use Rattle.ulfm_match.proofs.Least.{take_least}
use Rattle.ulfm_match.proofs.PostWaits.{post_waits}
use Rattle.ulfm_match.proofs.Probed.{posted_with, probe_gives, probe_takes}
use Rattle.ulfm_match.specs.Calls.{ProbeGets, TracksProbe}
use Rattle.ulfm_rank.proofs.InStep.{in_step_open}
use Rattle.ulfm_rank.proofs.Known.{known_named}
use Rattle.ulfm_rank.proofs.Opens.{unrevoked_open}
use Rattle.ulfm_rank.proofs.Refusals.{all_pass}
use Rattle.ulfm_rank.specs.Checks.{Passes, receive_checks}
use Rattle.ulfm_rank.specs.Messages.{IsRefusalAfterChecks}
use Rattle.ulfm_log.specs.declared.entry.Comm.{Comm}

-- where no kept letter fits, a receive gets none
pub waits : {n : ℕ} {log : List Entry} {m : Matching} {find : ℕ → Option Request} → IsInStep n log m find → (p : Pattern) → is_revoked log p.context.number ≡ false → ((y : ℕ × Letter) → Contains m.kept y → Admits p y.1.envelope → ⊥) → WouldWait log p
waits {n} {log} {m} {find} held p fresh none =
    let h = history_of log in
    let r = held.pairing in
    let later : Matching = record { waiting = m.waiting ++ (m.count, p) ∷ []; kept = m.kept; count = m.count + 1; cleared = m.cleared; prepared = false } in
    let t = post_waits h r m p held.tracks (unrevoked_open log p.context.number fresh) none later refl refl refl refl in
    record {
      pairing = r;
      lawful = t.lawful;
      each = λ other law b q. let w = receive_within h r held.tracks.lawful (length h) b (one_pairing (h ++ Post p ∷ []) other r law t.lawful (length h) b q) in omega (arith, w);
    }

-- a receive that passes its checks is of a context that isn't revoked
pub unrevoked : (r : State) (comm : Comm) (source : Option ℕ) (tag : Option Tag) (room : ℕ) (p : Pattern) → Passes (receive_checks r comm.context.number source) → IsReceive r comm source tag room p → is_revoked r.log p.context.number ≡ false
unrevoked r comm source tag room p passes receive = ap (λ (d : Context). is_revoked r.log d.number) receive.context ∙ (all_pass (receive_checks r comm.context.number source) passes).1.1.0

-- a probe finds none where no kept letter fits
pub finds_none : {n me : ℕ} {log : List Entry} {stopped : Bool} {m : Matching} {find : ℕ → Option Request} {facts : FaultState} {comms : CommunicatorsView} {boxes : List Box} → Follows n me log stopped m find facts comms boxes → (r : State) → log ≡ r.log
    → (comm : Comm) (source : Option ℕ) (tag : Option Tag) (p : Pattern) → Passes (receive_checks r comm.context.number source) → IsReceive r comm source tag 1024 p → ((y : ℕ × Letter) → Contains m.kept y → Admits p y.1.envelope → ⊥) → (gone : Bool) → names_known facts p.source ≡ gone → FindsNone r comm source tag gone
finds_none {log = log} held r seen comm source tag p passes receive none gone names = record {
  pattern = p;
  receive = receive;
  waits = subst (λ (l : List Entry). WouldWait l p) seen (waits held.in_step p (ap (λ (l : List Entry). is_revoked l p.context.number) seen ∙ unrevoked r comm source tag 1024 p passes receive) none);
  names = ap (λ (l : List Entry). names_gone l p.source) (sym seen) ∙ (sym (known_named held.faults p.source) ∙ names);
}

-- a probe for which a letter is kept finds one
pub never_none : {n : ℕ} {log : List Entry} {m : Matching} {find : ℕ → Option Request} → IsInStep n log m find → (p : Pattern) (y : ℕ × Letter) → Contains m.kept y → Admits p y.1.envelope → (m' : Matching) → TracksProbe p m None m' → ⊥
never_none {log = log} held p y there fits m' none =
    let s = held.tracks.remains.kept.sound y.0 y.1 there in
    none (history_of log) held.pairing held.tracks s.0 y.1 s.2 fits

-- such a receive gets the letter by each lawful pairing
pub gets : {n : ℕ} {log : List Entry} {m : Matching} {find : ℕ → Option Request} → IsInStep n log m find → (p : Pattern) (l : Letter) (m' : Matching) → TracksProbe p m (Some l) m' → WouldGet log p l
gets {log = log} held p l m' tracks =
    let h = history_of log in
    let g : ProbeGets h held.pairing p l m' = tracks h held.pairing held.tracks in
    let w = posted_with g in
    record {
      pairing = w.pairing;
      lawful = w.lawful;
      each = λ other law. record { place = g.place; pairs = probe_gives g other law; came = get_old h (Post p) g.place (Come l) g.came };
    }

-- where a kept letter fits, a receive gets the earliest of those that do, so that a probe may be out of memory
pub may_starve : {n me : ℕ} {log : List Entry} {stopped : Bool} {m : Matching} {find : ℕ → Option Request} {facts : FaultState} {comms : CommunicatorsView} {boxes : List Box} → Follows n me log stopped m find facts comms boxes → (r : State) → log ≡ r.log
    → (comm : Comm) (source : Option ℕ) (tag : Option Tag) (p : Pattern) → Passes (receive_checks r comm.context.number source) → IsReceive r comm source tag 1024 p → (y : ℕ × Letter) → Contains m.kept y → Admits p y.1.envelope → IsRefusalAfterChecks r comm source tag OutOfMemory
may_starve {log = log} {m = m} held r seen comm source tag p passes receive y there fits =
    let fresh = ap (λ (l : List Entry). is_revoked l p.context.number) seen ∙ unrevoked r comm source tag 1024 p passes receive in
    let uncleared = in_step_open held.in_step p.context.number fresh in
    elim (take_least (λ (z : ℕ × Letter). Admits p z.1.envelope) (λ z. admits_either p z.1.envelope) m.kept held.in_step.tracks.remains.kept.ascending) [
      | inr none ↦ absurd (none y there fits)
      | inl f ↦
          let later : Matching = record { waiting = m.waiting; kept = f.0; count = m.count + 1; cleared = m.cleared; prepared = false } in
          (p, receive, f.1.1, subst (λ (l : List Entry). WouldGet l p f.1.1) seen (gets held.in_step p f.1.1 later (λ h pairs t. probe_takes h pairs m p t ((t.remains.cleared p.context.number).0 uncleared) f.0 f.1 f.2 later refl refl refl refl)))
    ]
