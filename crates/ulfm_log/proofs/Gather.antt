-- What one more entry adds to what is read off a log.
use Rattle.std.proofs.Common.{◌≡◌, Bool, true, false, List, [], ◌∷◌, ◌++◌, refl, ap, sym, ◌∙◌, subst, append-nil, append_assoc, ◌||◌}
use Rattle.ulfm_log.proofs.Common.{Entry, list_any, or-false}
use Rattle.ulfm_log.specs.Log.{gathered_from, gathered}

module _ {X : Type 0} (by : List Entry → List X → Entry → List X) where
  gathered_from-push : (before : List Entry) (found : List X) (log : List Entry) (e : Entry) → gathered_from by before found (log ++ e ∷ []) ≡ gathered_from by before found log ++ by (before ++ log) (gathered_from by before found log) e
  gathered_from-push before found [] e = ap (λ b. found ++ by b found e) (sym (append-nil before))
  gathered_from-push before found (x ∷ log) e =
      gathered_from-push (before ++ x ∷ []) (found ++ by before found x) log e
      ∙ ap (λ b. gathered_from by (before ++ x ∷ []) (found ++ by before found x) log ++ by b (gathered_from by (before ++ x ∷ []) (found ++ by before found x) log) e) (append_assoc before (x ∷ []) log)

  pub gathered-push : (start : List X) (log : List Entry) (e : Entry) → gathered start by (log ++ e ∷ []) ≡ gathered start by log ++ by log (gathered start by log) e
  gathered-push start log e = gathered_from-push [] start log e

  -- what holds at the start and is kept by each entry holds of each log
  module _ (P : List Entry → List X → Type 0) (step : (log : List Entry) (found : List X) (e : Entry) → P log found → P (log ++ e ∷ []) (found ++ by log found e)) where
    all_from : (before : List Entry) (found : List X) (rest : List Entry) → P before found → P (before ++ rest) (gathered_from by before found rest)
    all_from before found [] p = subst (λ b. P b found) (sym (append-nil before)) p
    all_from before found (e ∷ rest) p =
        subst (λ b. P b (gathered_from by (before ++ e ∷ []) (found ++ by before found e) rest)) (append_assoc before (e ∷ []) rest)
        (all_from (before ++ e ∷ []) (found ++ by before found e) rest (step before found e p))

    pub gathered_all : (start : List X) → P [] start → (log : List Entry) → P log (gathered start by log)
    gathered_all start p log = all_from [] start log p

pub any-push : (test : Entry → Bool) (log : List Entry) (e : Entry) → list_any test (log ++ e ∷ []) ≡ list_any test log || test e
any-push test [] e = or-false (test e)
any-push test (x ∷ log) e = ap (λ b. test x || b) (any-push test log e) ∙ or_assoc (test x) (list_any test log) (test e)
  where
    or_assoc : (a b c : Bool) → a || (b || c) ≡ (a || b) || c
    or_assoc true b c = refl
    or_assoc false b c = refl
