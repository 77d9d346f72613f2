-- What single places and parts of the places come to.
use Rattle.std.specs.Prelude.{◌≡◌, ℕ, ⊤, List, [], ◌∷◌, ◌++◌, Option, Some, None, Result, Ok, Err}
use Rattle.std.specs.declared.alloc.AllocError.{AllocError}
use Rattle.ulfm_outcomes_spec.specs.Outcomes.{IsList}
use Rattle.ulfm_reach.specs.declared.reach.Reach.TheVariants.{More}
use Rattle.ulfm_job.specs.declared.place.Place.{Place}
use Rattle.ulfm_outcomes_reply.specs.Lists.{AreLists, IsListedAt, job_asked_at}
use Rattle.ulfm_command_line.specs.Stopped.{Asked}
use Rattle.ulfm_outcomes_list.specs.declared.place_list.Listed.{Listed}
use Rattle.ulfm_outcomes_reply.specs.declared.lists.Lists.{Lists}

-- the list of a place, or that the job has more states there than the limit
abbrev pub IsListOf : Asked → ℕ → Place → Option Listed → Type 0
IsListOf asked limit place (Some one) = IsListedAt asked limit place one
IsListOf asked limit place None = IsList (job_asked_at place asked) limit More

-- the list of a place, if it has one
abbrev pub listed_of : Option Listed → List Listed
listed_of (Some one) = one ∷ []
listed_of None = []

-- the place, if it has none
abbrev pub past_of : Place → Option Listed → List Place
past_of place (Some one) = []
past_of place None = place ∷ []

-- the lists of a part, or that memory ran out
abbrev pub IsPart : Asked → ℕ → List Place → Result Lists AllocError → Type 0
IsPart asked limit places (Ok lists) = AreLists asked limit places lists.listed.items lists.past_limit.items
IsPart asked limit places (Err fault) = ⊤

-- a list is parted into as many parts, of which each came to this
abbrev pub AreParts : {X R : Type 0} → (List X → R → Type 0) → List X → List R → Type 0
AreParts Came xs [] = xs ≡ []
AreParts {X} Came xs (r ∷ rs) = (front rest : List X) × (xs ≡ front ++ rest) × Came front r × AreParts Came rest rs

-- whatever the lists of the rest of the places are, behind these they are those of all
abbrev pub GoesOn : Asked → ℕ → List Place → List Listed → List Place → List Place → Type 0
GoesOn asked limit places listed past rest = (more : List Listed) (others : List Place) → AreLists asked limit rest more others → AreLists asked limit places (listed ++ more) (past ++ others)

-- the lists of the places that are parted so
abbrev pub AreJoined : List (Result Lists AllocError) → List Listed → List Place → Type 0
AreJoined parts listed past = (asked : Asked) (limit : ℕ) (places : List Place) → AreParts (IsPart asked limit) places parts → AreLists asked limit places listed past

-- the lists of the first of them, and what is left of the parts and of the places
abbrev pub AreJoinedSoFar : List (Result Lists AllocError) → List Listed → List Place → List (Result Lists AllocError) → Type 0
AreJoinedSoFar parts listed past left =
    (asked : Asked) (limit : ℕ) (places : List Place) → AreParts (IsPart asked limit) places parts → (rest : List Place) × GoesOn asked limit places listed past rest × AreParts (IsPart asked limit) rest left
