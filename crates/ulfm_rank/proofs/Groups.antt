-- The group of a communicator that was made stays as the log grows.
use Rattle.std.proofs.Common.{◌≡◌, ℕ, zero, suc, arith, Bool, true, false, cond, List, [], ◌∷◌, ◌++◌, ap, refl, Some, Option, None, ◌==◌, ◌||◌, IsSome, slice_get}
use Rattle.ulfm_rank.proofs.Common.{Pattern, Entry, IsOfGroup, nat_tests, is_member, rank_in, one_further}
use Rattle.ulfm_log.proofs.Grouped.{group_stays}

pub of_group_stays : {n : ℕ} {log : List Entry} (x : Entry) {p : Pattern} → IsOfGroup n log p → IsOfGroup n (log ++ x ∷ []) p
of_group_stays {n} {log} x {p} o = record { group = o.group; made = group_stays n log x p.context.number o.group o.made; source = o.source }

-- a member has a rank
pub rank_some : (group : List ℕ) (r : ℕ) → is_member group r ≡ true → IsSome (rank_in group r)
rank_some [] r h = cc
rank_some (m ∷ group) r h = pick (m == r) h (rank_some group r)
  where
    next : (o : Option ℕ) → IsSome o → IsSome (one_further o)
    next None s = s
    next (Some k) s = s

    pick : (b : Bool) → b || is_member group r ≡ true → (is_member group r ≡ true → IsSome (rank_in group r)) → IsSome (cond b (Some 0) (one_further (rank_in group r)))
    pick true h rest = refl
    pick false h rest = next (rank_in group r) (rest h)

-- who stands at a position is a member
pub member_at : (group : List ℕ) (position r : ℕ) → slice_get group position ≡ Some r → is_member group r ≡ true
member_at [] position r h = cc
member_at (m ∷ group) zero r h = ap (λ b. b || is_member group r) (alike m r (let e : m ≡ r = cc in e))
  where
    alike : (a b : ℕ) → a ≡ b → (a == b) ≡ true
    alike a b e = grind (arith, nat_tests)
member_at (m ∷ group) (suc position) r h = pick (m == r) (member_at group position r h)
  where
    pick : (b : Bool) → is_member group r ≡ true → b || is_member group r ≡ true
    pick true e = refl
    pick false e = e
