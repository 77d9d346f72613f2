-- Which decision is adopted, and the communicator that it makes.
use Rattle.std.proofs.Common.{◌≡◌, ℕ, ◌<◌, Bool, true, false, List, [], ◌∷◌, ◌++◌, ap, sym, subst, ◌∙◌, Some, not, All}
use Rattle.ulfm_rank.proofs.Common.{Purpose, Shrink, Agree, decided_comm, Decision, nth_shrink, has, Entry, Adopted, All-append, All-filter, All-nil, find_group, CommunicatorsView, HasCommunicators}
use Rattle.ulfm_base.specs.declared.error.CallError.TheVariants.{NoComm, AlreadyMade, NotEntered, NotMember, OutOfMemory, Stopped}
use Rattle.ulfm_rank.specs.Checks.{Fails}
use Rattle.ulfm_log.proofs.Made.{comms-push, dups-push, found_of_world, All-one}
use Rattle.ulfm_base.specs.Table.{count_at}

-- an adoption that a check refuses isn't refused for lack of memory
pub never_starved : (a b d e f : Bool) → Fails ((a, Stopped) ∷ (b, NoComm) ∷ (d, AlreadyMade) ∷ (e, NotEntered) ∷ (f, NotMember) ∷ []) OutOfMemory → ⊥
never_starved true b d e f h = cc
never_starved false true d e f h = cc
never_starved false false true e f h = cc
never_starved false false false true f h = cc
never_starved false false false false true h = cc
never_starved false false false false false h = cc

all_decided : (P : List ℕ → Type 0) (purpose : Purpose) (c : ℕ) (fresh : List ℕ) → P fresh → All (λ (comm : ℕ × List ℕ). P comm.1) (decided_comm purpose c fresh)
all_decided P (Shrink round) c fresh p = All-one (λ (comm : ℕ × List ℕ). P comm.1) (nth_shrink round c, fresh) p
all_decided P (Agree round) c fresh p = All-nil (λ (comm : ℕ × List ℕ). P comm.1)

-- the new group of a decision has the members that it keeps of the old one
pub communicators-adopted : {n : ℕ} {log : List Entry} (d : Decision) {comms comms' : CommunicatorsView} → HasCommunicators n log comms → find_group d.topic.context.number comms.made ≡ Some d.old
    → comms'.made ≡ comms.made ++ decided_comm d.topic.purpose d.topic.context.number d.fresh → comms'.dups ≡ comms.dups → HasCommunicators n (log ++ Adopted d ∷ []) comms'
communicators-adopted {n} {log} d {comms} {comms'} h found longer same =
    let P = λ (g : List ℕ). All (λ r. r < n) g in
    let c = d.topic.context.number in
    let fresh : P d.fresh = subst P (sym d.lawful.survivors) (All-filter (λ m. not (has d.excluded m)) (λ r. r < n) d.old (found_of_world n c comms.made d.old h.of_world found)) in
    record {
      made = longer ∙ ap (λ xs. xs ++ decided_comm d.topic.purpose c d.fresh) h.made ∙ sym (comms-push n log (Adopted d));
      of_world = rw longer (All-append (λ (comm : ℕ × List ℕ). P comm.1) comms.made (decided_comm d.topic.purpose c d.fresh) h.of_world (all_decided P d.topic.purpose c d.fresh fresh));
      counts = λ c. ap (λ (dups : List (ℕ × ℕ)). count_at dups c) same ∙ h.counts c ∙ sym (dups-push log (Adopted d) c);
    }
