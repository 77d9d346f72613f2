-- Whether a communicator may be made of another one: its first, or a further one.
use Rattle.std.proofs.Common.{◌≡◌, ℕ, Bool, true, false, ◌&&◌, List, [], ◌∷◌, nat_le, nat_lt, cond, refl, ap, arith, Option, Some, None}
use Rattle.std.proofs.lemmas.Bool.{le-leb}
use Rattle.std.proofs.lemmas.Bool.Decides.{nat_tests}
use Rattle.ulfm_base.specs.declared.context.Context.{Context}
use Rattle.ulfm_base.specs.declared.error.CallError.{CallError}
use Rattle.ulfm_base.specs.declared.error.CallError.TheVariants.{AlreadyMade, NoContext, NoComm, Stopped}
use Rattle.ulfm_rank.proofs.Refusals.{goes_on, passes_two}
use Rattle.ulfm_rank.specs.Checks.{Check, Fails, Passes, comm_checks, first_refusal, is_single, making_checks}
use Rattle.ulfm_rank.specs.inside.Rank.{HasNumber}
use Rattle.ulfm_log.specs.State.{State}

module _ (again : Bool) (c count n : ℕ) where
  -- the checks behind the first one, and the last of them
  abbrev last : List Check
  last = (nat_le 35184372088832 n, NoContext) ∷ []

  abbrev later : List Check
  later = (is_single again c && nat_lt 30 c, NoContext) ∷ last

  -- it has one already
  pub second : (is_single again c && nat_lt 0 count) ≡ true → Fails (making_checks again c count n) AlreadyMade
  second h = ap (λ b. cond b (Some AlreadyMade) (cond (is_single again c && nat_lt 30 c) (Some NoContext) (cond (nat_le 35184372088832 n) (Some NoContext) None))) h

  -- it is past 30
  pub late : (is_single again c && nat_lt 0 count) ≡ false → (is_single again c && nat_lt 30 c) ≡ true → Fails (making_checks again c count n) NoContext
  late first h = goes_on _ AlreadyMade later (Some NoContext) first (ap (λ b. cond b (Some NoContext) (cond (nat_le 35184372088832 n) (Some NoContext) None)) h)

  -- there is no such number
  pub past : (is_single again c && nat_lt 0 count) ≡ false → (is_single again c && nat_lt 30 c) ≡ false → HasNumber None n → Fails (making_checks again c count n) NoContext
  past first early h = goes_on _ AlreadyMade later (Some NoContext) first (goes_on _ NoContext last (Some NoContext) early (ap (λ b. cond b (Some NoContext) None) (le-leb 35184372088832 n h)))

  fits : (context : Context) → context.number ≡ n → nat_le 35184372088832 n ≡ false
  fits context h = let low = context.in_range in grind (arith, nat_tests)

  -- it may be made
  pub may : (context : Context) → (is_single again c && nat_lt 0 count) ≡ false → (is_single again c && nat_lt 30 c) ≡ false → HasNumber (Some context) n → Passes (making_checks again c count n)
  may context first early h = goes_on _ AlreadyMade later None first (goes_on _ NoContext last None early (goes_on _ NoContext [] None (fits context h) refl))

-- what more checks say where a communicator is there and a first check passes
pub behind : (r : State) (c : ℕ) (b : Bool) (e : CallError) (more : List Check) (o : Option CallError) → Passes (comm_checks r c []) → b ≡ false → first_refusal more ≡ o → first_refusal (comm_checks r c ((b, e) ∷ more)) ≡ o
behind r c b e more o there h rest = passes_two _ _ Stopped NoComm ((b, e) ∷ more) o there (goes_on b e more o h rest)
