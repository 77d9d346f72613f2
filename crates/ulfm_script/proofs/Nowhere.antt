-- No rank makes the communicator that stands for one that wasn't made.
use Rattle.std.proofs.Common.{◌≡◌, ◌<◌, ◌+◌, ◌-◌, ◌*◌, ◌^◌, ℕ, Bool, true, false, ◌&&◌, nat_lt, if◌then◌else◌, List, Option, Some, None, is_some, refl, sym, arith, inl, inr}
use Rattle.std.proofs.Math.Nat.{mul-pos}
use Rattle.std.proofs.lemmas.Nat.{pow_pos}
use Rattle.std.proofs.lemmas.Bool.{and_parts, ltb-true}
use Rattle.ulfm_base.specs.Context.{block_of, child_of, path_code}
use Rattle.ulfm_log.specs.Communicators.{group_of, is_made}
use Rattle.ulfm_log.specs.declared.entry.Entry.{Entry}
use Rattle.ulfm_log.proofs.Parents.{ContextCases, context_cases}
use Rattle.ulfm_script.specs.Meant.{nowhere}

-- no path has the code 0
path_some : (p n : ℕ) → 0 < path_code p n
unfolding path_code
path_some p n =
    let odd : 0 < 2 * (p * 2 ^ block_of n + (n + 1 - 2 ^ block_of n)) + 1 = omega arith in
    mul-pos (pow_pos (block_of n)) odd

-- so no child has this number
no_child : (p n : ℕ) → child_of p n ≡ 63 → ⊥
unfolding child_of
no_child p n is = pick (nat_lt n 2 && nat_lt p 31) refl is
  where
    pick : (b : Bool) → (nat_lt n 2 && nat_lt p 31) ≡ b → (if b then 2 * p + 1 + n else 63 + path_code p n) ≡ 63 → ⊥
    pick true low is =
        let parts = and_parts (nat_lt n 2) (nat_lt p 31) low in
        let few = ltb-true n 2 parts.0 in
        let small = ltb-true p 31 parts.1 in
        omega (arith, few, small, is)
    pick false low is = let some = path_some p n in omega (arith, some, is)

nobody's : ContextCases 63 → ⊥
nobody's (inl world) = omega (arith, world)
nobody's (inr (inl (k, p, is))) = no_child p (3 * k) (sym is)
nobody's (inr (inr (k, p, is))) = no_child p (3 * k + 1) (sym is)

pub never_made : (n : ℕ) (log : List Entry) → is_made n log nowhere.number ≡ false
never_made n log = by (group_of n log nowhere.number) refl
  where
    by : (o : Option (List ℕ)) → group_of n log nowhere.number ≡ o → is_some o ≡ false
    by None is = refl
    by (Some g) is = absurd (nobody's (context_cases n log nowhere.number g is))
