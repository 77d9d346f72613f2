-- What an entry makes of the communicators of a log.
use Rattle.std.proofs.Common.{◌≡◌, ℕ, Bool, true, false, cond, eqb, List, [], ◌∷◌, ◌++◌, refl, ap, sym, ◌∙◌, inl, inr, ◌⊎◌, Some, None, eqb-true}
use Rattle.ulfm_log.proofs.Common.{Context, Purpose, Shrink, Agree, Decision, decided_comm, nth_dup, nth_shrink, numbers_from, Entry, Duplicated, Adopted, or_else, find_group, copy_of, made_by, comms_of, group_of, members_of, or_empty, none-some, same_Some}
use Rattle.ulfm_log.proofs.Gather.{gathered-push}
use Rattle.ulfm_log.proofs.Firsts.{or_else_cases, or_else_first}
use Rattle.ulfm_log.specs.Log.{by_found}

pub find-append : (c : ℕ) (xs ys : List (ℕ × List ℕ)) → find_group c (xs ++ ys) ≡ or_else (find_group c xs) (find_group c ys)
find-append c [] ys = refl
find-append c (x ∷ xs) ys = pick (eqb x.0 c) (find-append c xs ys)
  where
    pick : (b : Bool) → find_group c (xs ++ ys) ≡ or_else (find_group c xs) (find_group c ys) → cond b (Some x.1) (find_group c (xs ++ ys)) ≡ or_else (cond b (Some x.1) (find_group c xs)) (find_group c ys)
    pick true h = refl
    pick false h = h

pub group-push : (n : ℕ) (log : List Entry) (e : Entry) (c : ℕ) → group_of n (log ++ e ∷ []) c ≡ or_else (group_of n log c) (find_group c (made_by (comms_of n log) e))
group-push n log e c =
    ap (find_group c) (gathered-push (by_found made_by) ((0, numbers_from 0 n) ∷ []) log e)
    ∙ find-append c (comms_of n log) (made_by (comms_of n log) e)

-- the group of a communicator that was made stays
pub group_stays : (n : ℕ) (log : List Entry) (e : Entry) (c : ℕ) (g : List ℕ) → group_of n log c ≡ Some g → group_of n (log ++ e ∷ []) c ≡ Some g
group_stays n log e c g h = group-push n log e c ∙ or_else_first (group_of n log c) _ g h

pub members_found : (n : ℕ) (log : List Entry) (c : ℕ) (g : List ℕ) → group_of n log c ≡ Some g → members_of n log c ≡ g
members_found n log c g h = ap or_empty h

-- of one entry alone is a group found under its context
pub found_one : (c d : ℕ) (g h : List ℕ) → find_group c ((d, g) ∷ []) ≡ Some h → (c ≡ d) × (g ≡ h)
found_one c d g h e = pick (eqb d c) refl e
  where
    pick : (b : Bool) → eqb d c ≡ b → cond b (Some g) None ≡ Some h → (c ≡ d) × (g ≡ h)
    pick true same k = (sym (eqb-true d c same), same_Some g h k)
    pick false same k = absurd (none-some h k)

found_copy : (c p d : ℕ) (comms : List (ℕ × List ℕ)) (h : List ℕ) → find_group c (copy_of p d comms) ≡ Some h → (c ≡ d) × (find_group p comms ≡ Some h)
found_copy c p d [] h e = absurd (none-some h e)
found_copy c p d (x ∷ comms) h e = pick (eqb x.0 p) (found_copy c p d comms h) e
  where
    pick : (b : Bool) → (find_group c (copy_of p d comms) ≡ Some h → (c ≡ d) × (find_group p comms ≡ Some h)) → find_group c (cond b ((d, x.1) ∷ []) (copy_of p d comms)) ≡ Some h → (c ≡ d) × (cond b (Some x.1) (find_group p comms) ≡ Some h)
    pick true next k = let one = found_one c d x.1 h k in (one.0, ap Some one.1)
    pick false next k = next k

-- an entry duplicates a communicator of this group, and the duplicate has the context c
pub record Duplicates (comms : List (ℕ × List ℕ)) (e : Entry) (c : ℕ) (g : List ℕ) : Type 0 where
  pub parent : Context
  pub count : ℕ
  pub entry : e ≡ Duplicated parent count
  pub child : c ≡ nth_dup count parent.number
  pub group : find_group parent.number comms ≡ Some g

-- an entry adopts the decision of a shrink with this new group, whose communicator has the context c
pub record Adopts (e : Entry) (c : ℕ) (g : List ℕ) : Type 0 where
  pub decision : Decision
  pub round : ℕ
  pub entry : e ≡ Adopted decision
  pub shrinks : decision.topic.purpose ≡ Shrink round
  pub child : c ≡ nth_shrink round decision.topic.context.number
  pub group : decision.fresh ≡ g

-- the communicator that a decision makes is that of a shrink
shrunk : (c : ℕ) (purpose : Purpose) (d : ℕ) (fresh g : List ℕ) → find_group c (decided_comm purpose d fresh) ≡ Some g → (round : ℕ) × (purpose ≡ Shrink round) × (c ≡ nth_shrink round d) × (fresh ≡ g)
shrunk c (Shrink round) d fresh g h = let found = found_one c (nth_shrink round d) fresh g h in (round, refl, found.0, found.1)
shrunk c (Agree round) d fresh g h = absurd (none-some g h)

pub made_cases : (comms : List (ℕ × List ℕ)) (e : Entry) (c : ℕ) (g : List ℕ) → find_group c (made_by comms e) ≡ Some g → Duplicates comms e c g ⊎ Adopts e c g
made_cases comms (Duplicated parent count) c g h =
    let found = found_copy c parent.number (nth_dup count parent.number) comms g h in
    inl (record { parent = parent; count = count; entry = refl; child = found.0; group = found.1 })
made_cases comms (Adopted decision) c g h =
    let made = shrunk c decision.topic.purpose decision.topic.context.number decision.fresh g h in
    inr (record { decision = decision; round = made.0; entry = refl; shrinks = made.1; child = made.2; group = made.3 })
made_cases comms _ c g h = absurd (none-some g h)

-- the group of a context: it was there, or the last entry made it
pub group_cases : (n : ℕ) (log : List Entry) (e : Entry) (c : ℕ) (g : List ℕ) → group_of n (log ++ e ∷ []) c ≡ Some g → (group_of n log c ≡ Some g) ⊎ (Duplicates (comms_of n log) e c g ⊎ Adopts e c g)
group_cases n log e c g h = elim (or_else_cases (group_of n log c) (find_group c (made_by (comms_of n log) e)) g (sym (group-push n log e c) ∙ h)) [
  | inl was ↦ inl was
  | inr now ↦ inr (made_cases (comms_of n log) e c g now.1)
]

pub found_cases : (found : List (ℕ × List ℕ)) (e : Entry) (c : ℕ) (g : List ℕ) → find_group c (found ++ made_by found e) ≡ Some g → (find_group c found ≡ Some g) ⊎ (Duplicates found e c g ⊎ Adopts e c g)
found_cases found e c g h = elim (or_else_cases (find_group c found) (find_group c (made_by found e)) g (sym (find-append c found (made_by found e)) ∙ h)) [
  | inl was ↦ inl was
  | inr now ↦ inr (made_cases found e c g now.1)
]

pub still_found : (c : ℕ) (found more : List (ℕ × List ℕ)) (g : List ℕ) → find_group c found ≡ Some g → find_group c (found ++ more) ≡ Some g
still_found c found more g h = find-append c found more ∙ or_else_first (find_group c found) (find_group c more) g h
