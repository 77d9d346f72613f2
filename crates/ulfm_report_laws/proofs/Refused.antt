-- Which errors a call may be refused with, by those of its checks.
use Rattle.std.proofs.Common.{◌≡◌, Bool, true, false, cond, List, [], ◌∷◌, ap, sym, ◌∙◌, inl, inr, Some}
use Rattle.std.proofs.lemmas.Bool.{and_parts}
use Rattle.std.specs.List.{list_all}
use Rattle.ulfm_base.specs.declared.error.CallError.{CallError}
use Rattle.ulfm_rank.specs.Checks.{Check, FailsOrStarves, first_refusal}
use Rattle.ulfm_report_laws.proofs.Common.{OutOfMemory, none-some, same_Some}

module _ (keeps : CallError → Bool) where
  -- what holds of the error of each check holds of the one that refuses
  pub refused_by : (checks : List Check) (e : CallError) → list_all (λ (check : Check). keeps check.1) checks ≡ true → first_refusal checks ≡ Some e → keeps e ≡ true
  refused_by [] e all h = absurd (none-some e h)
  refused_by (check ∷ checks) e all h = pick check.0 (refused_by checks e both.1) h
    where
      both : (keeps check.1 ≡ true) × (list_all (λ (other : Check). keeps other.1) checks ≡ true)
      both = and_parts (keeps check.1) (list_all (λ (other : Check). keeps other.1) checks) all

      pick : (b : Bool) → (first_refusal checks ≡ Some e → keeps e ≡ true) → cond b (Some check.1) (first_refusal checks) ≡ Some e → keeps e ≡ true
      pick true rest found = ap keeps (sym (same_Some check.1 e found)) ∙ both.0
      pick false rest later = rest later

  -- where memory may lack too
  pub refused_or_starved : (checks : List Check) (e : CallError) → keeps OutOfMemory ≡ true → list_all (λ (check : Check). keeps check.1) checks ≡ true → FailsOrStarves checks e → keeps e ≡ true
  refused_or_starved checks e starved all (inl fails) = refused_by checks e all fails
  refused_or_starved checks e starved all (inr starves) = ap keeps starves.1 ∙ starved
