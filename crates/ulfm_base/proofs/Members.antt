-- Lists of members, looked at from the front.
use Rattle.std.proofs.Common.{◌≡◌, ℕ, zero, suc, ◌+◌, ◌<◌, ◌≤◌, Bool, true, false, cond, not, ◌||◌, eqb, List, [], ◌∷◌, ◌++◌, length, get_or, take, Some, None, refl, ap, ◌∙◌, arith, length-take, take_all}
use Rattle.std.proofs.lemmas.Bool.Decides.{nat_tests}
use Rattle.ulfm_base.specs.Group.{is_member, IsGroup, one_further, rank_in, excluding, numbers_from}

-- a member is a rank of the world
pub member_below : (group : List ℕ) (k d : ℕ) → IsGroup group → k < length group → get_or group k d < 8
member_below [] k d h l = omega arith
member_below (m ∷ group) zero d h l = h.0
member_below (m ∷ group) (suc k) d h l = member_below group k d h.2 (omega arith)

neither : (a b : Bool) → (a || b) ≡ false → (a ≡ false) × (b ≡ false)
neither true b e = cc
neither false b e = (refl, e)

both_fail : (a b : Bool) → a ≡ false → b ≡ false → (a || b) ≡ false
both_fail a b e f = cc

-- no member before place k is r, and the one there is
pub rank_in_found : (group : List ℕ) (k r : ℕ) → k < length group → is_member (take k group) r ≡ false → get_or group k 0 ≡ r → rank_in group r ≡ Some k
rank_in_found [] k r l n e = absurd (omega arith)
rank_in_found (m ∷ group) zero r l n e = ap (λ (b : Bool). cond b (Some 0) (one_further (rank_in group r))) (let t : eqb m r ≡ true = grind (arith, nat_tests) in t)
rank_in_found (m ∷ group) (suc k) r l n e =
    let p = neither (eqb m r) (is_member (take k group) r) n in
    ap (λ (b : Bool). cond b (Some 0) (one_further (rank_in group r))) p.0 ∙ ap one_further (rank_in_found group k r (omega arith) p.1 e)

pub rank_in_none : (group : List ℕ) (k r : ℕ) → length group ≤ k → is_member (take k group) r ≡ false → rank_in group r ≡ None
rank_in_none [] k r l n = refl
rank_in_none (m ∷ group) zero r l n = absurd (omega arith)
rank_in_none (m ∷ group) (suc k) r l n =
    let p = neither (eqb m r) (is_member (take k group) r) n in
    ap (λ (b : Bool). cond b (Some 0) (one_further (rank_in group r))) p.0 ∙ ap one_further (rank_in_none group k r (omega arith) p.1)

pub is_member-excluding : (group : List ℕ) (p : ℕ → Bool) (r : ℕ) → is_member group r ≡ false → is_member (excluding group p) r ≡ false
is_member-excluding [] p r n = refl
is_member-excluding (m ∷ group) p r n =
    let h = neither (eqb m r) (is_member group r) n in
    elim (p m) as (λ b. is_member (cond (not b) (m ∷ excluding group p) (excluding group p)) r ≡ false) [
      | true ↦ is_member-excluding group p r h.1
      | false ↦ both_fail _ _ h.0 (is_member-excluding group p r h.1)
    ]

pub IsGroup-excluding : (group : List ℕ) (p : ℕ → Bool) → IsGroup group → IsGroup (excluding group p)
IsGroup-excluding [] p h = h
IsGroup-excluding (m ∷ group) p h =
    elim (p m) as (λ b. IsGroup (cond (not b) (m ∷ excluding group p) (excluding group p))) [
      | true ↦ IsGroup-excluding group p h.2
      | false ↦ (h.0, is_member-excluding group p m h.1, IsGroup-excluding group p h.2)
    ]

pub length-numbers_from : (k n : ℕ) → length (numbers_from k n) ≡ n
length-numbers_from k zero = refl
length-numbers_from k (suc n) = ap suc (length-numbers_from (suc k) n)

from_more : (k n : ℕ) → numbers_from k (suc n) ≡ numbers_from k n ++ (k + n) ∷ []
from_more k zero = ap (λ (m : ℕ). m ∷ []) (let e : k ≡ k + 0 = omega arith in e)
from_more k (suc n) = ap (λ (ms : List ℕ). k ∷ ms) (from_more (suc k) n ∙ ap (λ (m : ℕ). numbers_from (suc k) n ++ m ∷ []) (let e : suc k + n ≡ k + suc n = omega arith in e))

pub numbers_from_more : (n : ℕ) → numbers_from 0 (n + 1) ≡ numbers_from 0 n ++ n ∷ []
numbers_from_more n = ap (λ (m : ℕ). numbers_from 0 m) (let e : n + 1 ≡ suc n = omega arith in e) ∙ (from_more 0 n ∙ ap (λ (m : ℕ). numbers_from 0 n ++ m ∷ []) (let e : 0 + n ≡ n = omega arith in e))

is_member-numbers_from_below : (k n r : ℕ) → r < k → is_member (numbers_from k n) r ≡ false
is_member-numbers_from_below k zero r l = refl
is_member-numbers_from_below k (suc n) r l =
    both_fail _ _ (let t : eqb k r ≡ false = grind (arith, nat_tests) in t) (is_member-numbers_from_below (suc k) n r (omega arith))

pub IsGroup-numbers_from : (k n : ℕ) → k + n ≤ 8 → IsGroup (numbers_from k n)
IsGroup-numbers_from k zero l = tt
IsGroup-numbers_from k (suc n) l = (omega arith, is_member-numbers_from_below (suc k) n k (omega arith), IsGroup-numbers_from (suc k) n (omega arith))

pub length-excluding : (group : List ℕ) (p : ℕ → Bool) → length (excluding group p) ≤ length group
length-excluding [] p = omega arith
length-excluding (m ∷ group) p =
    elim (p m) as (λ b. length (cond (not b) (m ∷ excluding group p) (excluding group p)) ≤ suc (length group)) [
      | true ↦ (let h = length-excluding group p in omega arith)
      | false ↦ (let h = length-excluding group p in omega arith)
    ]

pub length-excluding-take : (k : ℕ) (group : List ℕ) (p : ℕ → Bool) → length (excluding (take k group) p) ≤ k
length-excluding-take k group p =
    let h : length (excluding (take k group) p) ≤ length (take k group) = length-excluding (take k group) p in
    let l : length (take k group) ≤ k = simp length-take (omega arith) in
    omega arith

pub excluding_whole : (xs group : List ℕ) (k : ℕ) (p : ℕ → Bool) → xs ≡ group → length xs ≤ k → excluding (take k xs) p ≡ excluding group p
excluding_whole xs group k p e l = ap (λ (ms : List ℕ). excluding ms p) (take_all k xs l ∙ e)
