-- The communicators that a longer log made.
use Rattle.std.proofs.Common.{◌≡◌, ℕ, zero, suc, ◌+◌, ◌<◌, ◌≤◌, max, Bool, true, false, cond, eqb, List, [], ◌∷◌, ◌++◌, refl, ap, sym, ◌∙◌, arith, append-nil, Some, All, slice_get}
use Rattle.ulfm_base.specs.Table.{count_at}
use Rattle.ulfm_log.specs.Communicators.{CommunicatorsView, HasSame, dups_by, dups_from, dups_of}
use Rattle.ulfm_log.proofs.Common.{Context, eqb-true, nth_dup, numbers_from, Entry, Duplicated, All-append, find_group, copy_of, made_by, comms_of, group_of, AreOfWorld, HasCommunicators, slice_get_within, get_or_from_slice_get}
use Rattle.ulfm_log.proofs.Gather.{gathered-push}
use Rattle.ulfm_log.specs.Log.{by_found}

pub comms-push : (n : ℕ) (log : List Entry) (e : Entry) → comms_of n (log ++ e ∷ []) ≡ comms_of n log ++ made_by (comms_of n log) e
comms-push n log e = gathered-push (by_found made_by) ((0, numbers_from 0 n) ∷ []) log e

-- the counts of a log that goes on
dups-from : (c count : ℕ) (log : List Entry) (e : Entry) → dups_from c count (log ++ e ∷ []) ≡ dups_by c (dups_from c count log) e
dups-from c count [] e = refl
dups-from c count (x ∷ log) e = dups-from c (dups_by c count x) log e

pub dups-push : (log : List Entry) (e : Entry) (c : ℕ) → dups_of (log ++ e ∷ []) c ≡ dups_by c (dups_of log c) e
dups-push log e c = dups-from c 0 log e

-- an entry that makes nothing
pub communicators-quiet : {n : ℕ} {log : List Entry} (e : Entry) {comms : CommunicatorsView} → HasCommunicators n log comms → ((found : List (ℕ × List ℕ)) → made_by found e ≡ []) → ((c k : ℕ) → dups_by c k e ≡ k) → HasCommunicators n (log ++ e ∷ []) comms
communicators-quiet {n} {log} e {comms} h none counts = record {
  made = h.made ∙ sym (comms-push n log e ∙ (ap (λ more. comms_of n log ++ more) (none (comms_of n log)) ∙ append-nil (comms_of n log)));
  of_world = h.of_world;
  counts = λ c. h.counts c ∙ sym (dups-push log e c ∙ counts c (dups_of log c));
}

-- room plays no part
pub communicators-same : {n : ℕ} {log : List Entry} {comms : CommunicatorsView} (comms' : CommunicatorsView) → HasSame comms comms' → HasCommunicators n log comms → HasCommunicators n log comms'
communicators-same {n} {log} {comms} comms' same h = record {
  made = same.made ∙ h.made;
  of_world = rw same.made h.of_world;
  counts = λ c. ap (λ (dups : List (ℕ × ℕ)). count_at dups c) same.dups ∙ h.counts c;
}

copied : (c d : ℕ) (comms : List (ℕ × List ℕ)) (group : List ℕ) → find_group c comms ≡ Some group → copy_of c d comms ≡ (d, group) ∷ []
copied c d [] group h = cc
copied c d (comm ∷ comms) group h = pick (eqb comm.0 c) h (copied c d comms group)
  where
    pick : (b : Bool) → cond b (Some comm.1) (find_group c comms) ≡ Some group → (find_group c comms ≡ Some group → copy_of c d comms ≡ (d, group) ∷ []) → cond b ((d, comm.1) ∷ []) (copy_of c d comms) ≡ (d, group) ∷ []
    pick true e next = let same : comm.1 ≡ group = cc in ap (λ g. (d, g) ∷ []) same
    pick false e next = next e

pub All-one : {X : Type 0} (P : X → Type 0) (x : X) → P x → All P (x ∷ [])
All-one P x p zero d h = p
All-one P x p (suc k) d h = absurd (omega (arith, h))

-- the members of a communicator that is found are ranks of the world
pub found_of_world : (n c : ℕ) (comms : List (ℕ × List ℕ)) (group : List ℕ) → AreOfWorld n comms → find_group c comms ≡ Some group → All (λ r. r < n) group
found_of_world n c [] group all h = cc
found_of_world n c (comm ∷ comms) group all h = pick (eqb comm.0 c) h (found_of_world n c comms group (λ k d i. all (suc k) d (omega (arith, i))))
  where
    pick : (b : Bool) → cond b (Some comm.1) (find_group c comms) ≡ Some group → (find_group c comms ≡ Some group → All (λ r. r < n) group) → All (λ r. r < n) group
    pick true e next =
        let same : comm.1 ≡ group = cc in
        rw same at (all 0 comm (omega arith))
    pick false e next = next e

-- the member at a position is a rank of the world
pub member_of_world : (n c : ℕ) (comms : List (ℕ × List ℕ)) (group : List ℕ) (position r : ℕ) → AreOfWorld n comms → find_group c comms ≡ Some group → slice_get group position ≡ Some r → r < n
member_of_world n c comms group position r all h at = rw (get_or_from_slice_get group position r r at) at (found_of_world n c comms group all h position r (slice_get_within group position r at))

-- the next number is one more
next_count : (count k : ℕ) → count ≡ k → max count (suc k) ≡ suc k
next_count count k same = omega (arith, same)

-- the next duplicate has its parent's group, and is counted
pub communicators-duplicated : {n : ℕ} {log : List Entry} (context : Context) {comms comms' : CommunicatorsView} (group : List ℕ) (k : ℕ) → HasCommunicators n log comms → find_group context.number comms.made ≡ Some group → k ≡ dups_of log context.number
    → comms'.made ≡ comms.made ++ (nth_dup k context.number, group) ∷ [] → ((c : ℕ) → count_at comms'.dups c ≡ cond (eqb context.number c) (suc k) (count_at comms.dups c)) → HasCommunicators n (log ++ Duplicated context k ∷ []) comms'
communicators-duplicated {n} {log} context {comms} {comms'} group k h found next longer counted =
    let child : ℕ × List ℕ = (nth_dup k context.number, group) in
    record {
      made = longer ∙ ap (λ xs. xs ++ child ∷ []) h.made
          ∙ sym (comms-push n log (Duplicated context k) ∙ ap (λ more. comms_of n log ++ more) (copied context.number (nth_dup k context.number) (comms_of n log) group (ap (find_group context.number) (sym h.made) ∙ found)));
      of_world = rw longer (All-append (λ (comm : ℕ × List ℕ). All (λ r. r < n) comm.1) comms.made (child ∷ []) h.of_world (All-one (λ (comm : ℕ × List ℕ). All (λ r. r < n) comm.1) child (found_of_world n context.number comms.made group h.of_world found)));
      counts = λ c. counted c ∙ pick c (eqb context.number c) refl ∙ sym (dups-push log (Duplicated context k) c);
    }
  where
    pick : (c : ℕ) (b : Bool) → eqb context.number c ≡ b → cond b (suc k) (count_at comms.dups c) ≡ cond b (max (dups_of log c) (suc k)) (dups_of log c)
    pick c true e = sym (next_count (dups_of log c) k (ap (dups_of log) (sym (eqb-true context.number c e)) ∙ sym next))
    pick c false e = h.counts c

numbers_below : (k n m : ℕ) → k + n ≤ m → All (λ r. r < m) (numbers_from k n)
numbers_below k zero m h j d i = absurd (omega (arith, i))
numbers_below k (suc n) m h zero d i = omega (arith, h)
numbers_below k (suc n) m h (suc j) d i = numbers_below (suc k) n m (omega (arith, h)) j d (omega (arith, i))

-- the communicator of the world is what a rank starts with
pub communicators-start : (n : ℕ) (comms : CommunicatorsView) → comms.made ≡ (0, numbers_from 0 n) ∷ [] → comms.dups ≡ [] → HasCommunicators n [] comms
communicators-start n comms made dups = record {
  made = made;
  of_world = rw made (All-one (λ (comm : ℕ × List ℕ). All (λ r. r < n) comm.1) (0, numbers_from 0 n) (numbers_below 0 n n (omega arith)));
  counts = λ c. ap (λ (counts : List (ℕ × ℕ)). count_at counts c) dups;
}

pub found_group : {n : ℕ} {log : List Entry} {comms : CommunicatorsView} (c : ℕ) → HasCommunicators n log comms → find_group c comms.made ≡ group_of n log c
found_group {n} {log} {comms} c h = ap (find_group c) h.made
