-- Rows as they are kept.
use Rattle.std.proofs.Common.{◌≡◌, List, [], ◌∷◌, Bool, ◌||◌, Vec, Global, refl, ap}
use Rattle.std.specs.List.{list_any}
use Rattle.ulfm_job.specs.declared.clause.Clause.{Clause}
use Rattle.ulfm_reader.specs.JobText.{rows_of}

-- the test of a row is the same as of the row in memory
pub any-row : (is_good : List Clause → Bool) (rows : List (Vec Clause Global)) → list_any (λ row. is_good row.items) rows ≡ list_any is_good (rows_of rows)
any-row is_good [] = refl
any-row is_good (row ∷ rows) = ap (λ b. is_good row.items || b) (any-row is_good rows)
