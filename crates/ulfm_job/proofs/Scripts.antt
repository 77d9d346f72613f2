-- How many steps scripts have, as they grow, and one of them.
use Rattle.std.proofs.Common.{◌≡◌, ℕ, zero, suc, ◌+◌, ◌<◌, ◌≤◌, List, [], ◌∷◌, length, set, slice_index_or, arith}
use Rattle.ulfm_job.proofs.Common.{Step, step_count}
use Rattle.std.proofs.lemmas.List.Sums.{sum_by-cons, sum_by-set}

pub step_count-set : (scripts : List (List Step)) (r : ℕ) (longer : List Step) → r < length scripts → length longer ≡ length (slice_index_or scripts r []) + 1 → step_count (set scripts r longer) ≡ step_count scripts + 1
step_count-set scripts r longer lt one = let e = sum_by-set length scripts r longer [] lt in omega (arith, e, one)

-- a script has at most as many steps as there are in all
pub one_of_all : (scripts : List (List Step)) (r : ℕ) → length (slice_index_or scripts r []) ≤ step_count scripts
one_of_all [] zero = omega arith
one_of_all [] (suc r) = omega arith
one_of_all (s ∷ scripts) zero = omega (arith, sum_by-cons length s scripts)
one_of_all (s ∷ scripts) (suc r) = omega (arith, sum_by-cons length s scripts, one_of_all scripts r)
