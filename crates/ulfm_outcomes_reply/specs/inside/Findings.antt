-- What is told of parts of the lists.
use Rattle.std.specs.Prelude.{◌≡◌, ⊤, ◌++◌, false, List, Option, Result, Ok, Err}
use Rattle.std.specs.declared.alloc.AllocError.{AllocError}
use Rattle.ulfm_command_line.specs.Stopped.{Asked}
use Rattle.ulfm_command_line.specs.declared.command.ListOptions.{ListOptions}
use Rattle.ulfm_forms.specs.declared.form.Form.{Form}
use Rattle.ulfm_outcomes_list.specs.declared.place_list.Listed.{Listed}
use Rattle.ulfm_outcomes_reply.specs.EachPlace.{places_in}
use Rattle.ulfm_outcomes_reply.specs.declared.finding.Finding.{Finding}
use Rattle.ulfm_outcomes_reply.specs.inside.Judging.{IsFirstUnwanted, is_found}
use Rattle.ulfm_outcomes_reply.specs.inside.Parts.{AreParts}

-- what is told of the places of a part, or that memory ran out
abbrev pub IsFoundIn : Form → ListOptions → Asked → List Listed → Result (Option Finding) AllocError → Type 0
IsFoundIn form options asked listed (Ok told) = IsFirstUnwanted form options asked (places_in listed) told
IsFoundIn form options asked listed (Err fault) = ⊤

-- what is told of the places of all lists that are parted so
abbrev pub IsFirstOf : List (Result (Option Finding) AllocError) → Option Finding → Type 0
IsFirstOf parts told = (form : Form) (options : ListOptions) (asked : Asked) (listed : List Listed) → AreParts (IsFoundIn form options asked) listed parts
    → IsFirstUnwanted form options asked (places_in listed) told

-- what is told of those of the first parts, at none of which a schedule is found, and what is left of the parts and of the lists
abbrev pub IsFirstSoFar : List (Result (Option Finding) AllocError) → Option Finding → List (Result (Option Finding) AllocError) → Type 0
IsFirstSoFar parts told left = (is_found told ≡ false)
    × ((form : Form) (options : ListOptions) (asked : Asked) (listed : List Listed) → AreParts (IsFoundIn form options asked) listed parts
    → (front rest : List Listed) × (listed ≡ front ++ rest) × IsFirstUnwanted form options asked (places_in front) told × AreParts (IsFoundIn form options asked) rest left)
