-- Texts that name answers, one after the other.
use Rattle.std.proofs.Common.{◌≡◌, ℕ, ◌+◌, ◌<◌, ◌≤◌, List, [], ◌∷◌, ◌++◌, length, map, get_or, drop, Bor, Ok, Err, refl}
use Rattle.std.proofs.lemmas.List.{drop_all, drop_more}
use Rattle.std.specs.Str.{trim}
use Rattle.ulfm_job.specs.declared.fault.Fault.{Fault}
use Rattle.ulfm_reader.proofs.Common.{Clause, Name, Order}
use Rattle.ulfm_reader.specs.Goals.{goal_in, goals_onto}

-- texts without white space around
abbrev pub trimmed : List (Bor (List ℕ)) → List (List ℕ)
trimmed parts = map trim (map (λ (p : Bor (List ℕ)). p.now) parts)

module _ (scripts : List (List Order)) (names : List Name) (before : List Clause) (parts : List (Bor (List ℕ))) (i : ℕ) (d : Bor (List ℕ)) (text : List ℕ) where
  pub goals-on : (goal : Clause) → i < length parts → text ≡ trim (get_or parts i d).now → Ok goal ≡ goal_in scripts names text
      → goals_onto scripts names before (trimmed (drop i parts)) ≡ goals_onto scripts names (before ++ goal ∷ []) (trimmed (drop (i + 1) parts))
  unfolding goals_onto
  goals-on goal lt here read = rw (drop_more parts i d lt, ← here, ← read) refl

  pub goals-end : (fault : Fault) → i < length parts → text ≡ trim (get_or parts i d).now → Err fault ≡ goal_in scripts names text
      → goals_onto scripts names before (trimmed (drop i parts)) ≡ Err text
  unfolding goals_onto
  goals-end fault lt here read = rw (drop_more parts i d lt, ← here, ← read) refl

pub goals-done : (scripts : List (List Order)) (names : List Name) (before : List Clause) (parts : List (Bor (List ℕ))) (i : ℕ) → length parts ≤ i → goals_onto scripts names before (trimmed (drop i parts)) ≡ Ok before
unfolding goals_onto
goals-done scripts names before parts i le = rw (drop_all i parts le) refl
