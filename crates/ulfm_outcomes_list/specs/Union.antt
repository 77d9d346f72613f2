-- What the lists of places tell of a step, as the file numbers it, and at which places.
use Rattle.std.specs.Prelude.{ℕ, ◌==◌, ◌&&◌, Bool, false, List, [], ◌∷◌, filter, map}
use Rattle.std.specs.List.{fold, list_any}
use Rattle.std.specs.Str.{bytes_eq}
use Rattle.ulfm_answer.specs.declared.told_answer.ToldAnswer.{ToldAnswer}
use Rattle.ulfm_job.specs.Job.{JobView}
use Rattle.ulfm_outcomes_list.specs.Text as one_list
use Rattle.ulfm_outcomes_list.specs.Text.{codes_found, with_answer}
use Rattle.ulfm_job.specs.declared.place.Place.{Place}
use Rattle.ulfm_outcomes_list.specs.Numbers.{number_at}
use Rattle.ulfm_outcomes_list.specs.declared.place_list.Listed.{Listed}

-- the row tells this code of the step k of the rank r: that of an answer, or no bytes where the step never ends
abbrev pub is_row : ℕ → ℕ → List ℕ → List ℕ → Bool
is_row r k code (rank ∷ step ∷ told) = (rank == r) && (step == k) && bytes_eq told code
is_row r k code _ = false

-- the list of a place tells it of the step k of its own job
abbrev pub is_told : List (List ℕ) → ℕ → ℕ → List ℕ → Bool
is_told found r k code = list_any (is_row r k code) found

-- the list of a place tells it of the step k of the file
abbrev pub is_told_at : JobView → ℕ → ℕ → List ℕ → Listed → Bool
is_told_at j r k code one = is_told one.found r (number_at one.place j r k) code

-- answers, and those that the list of one more place has for the step, each at its place in the order of their texts, and once
abbrev pub with_answers_of : JobView → ℕ → ℕ → List ToldAnswer → Listed → List ToldAnswer
with_answers_of j r k answers one = fold with_answer answers (codes_found one.found r (number_at one.place j r k))

-- the answers that the lists have for the step k of the rank r, in the order of their texts, each once
abbrev pub answers_of : JobView → List Listed → ℕ → ℕ → List ToldAnswer
answers_of j listed r k = fold (with_answers_of j r k) [] listed

-- the places whose lists tell this of the step
abbrev pub places_with : JobView → List Listed → ℕ → ℕ → List ℕ → List Place
places_with j listed r k code = map (λ (one : Listed). one.place) (filter (is_told_at j r k code) listed)

-- some step never ends at some place
abbrev pub some_never_ends : List Listed → Bool
some_never_ends listed = list_any (λ (one : Listed). one_list.some_never_ends one.found) listed
