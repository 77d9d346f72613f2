-- What lists come to where nothing is told below them.
use Rattle.std.specs.Prelude.{ℕ, ◌&&◌, ◌||◌, not, Bool, List}
use Rattle.std.specs.List.{list_any}
use Rattle.ulfm_outcomes_list.specs.Judgement.{good_judgement}
use Rattle.ulfm_outcomes_list.specs.Listed.{StepView, all_steps}
use Rattle.ulfm_outcomes_list.specs.Text.{never_ends}
use Rattle.ulfm_outcomes_list.specs.declared.judgement.Judgement.{Judgement}
use Rattle.ulfm_outcomes_list.specs.Numbers.{number_at}
use Rattle.ulfm_outcomes_list.specs.declared.place_list.Listed.{Listed}
use Rattle.ulfm_command_line.specs.Holding.{expects, stops_at}
use Rattle.ulfm_command_line.specs.Stopped.{Asked}
use Rattle.ulfm_job.specs.declared.place.Place.{Place}
use Rattle.ulfm_job.specs.declared.place.Place.TheVariants.{Nowhere}
use Rattle.ulfm_job.specs.declared.stop.Stop.{Stop}
use Rattle.ulfm_outcomes_reply.specs.Wanted.{asks}

-- A step of the file never ends at a place, where these stops are, by the rows of its list. One that expects something there doesn't count, since it
-- expects to be unfinished where nothing is told of it, but with `--strict` it does.
abbrev pub is_hang : Bool → Asked → List Stop → Place → List (List ℕ) → StepView → Bool
is_hang is_strict asked stops place found s = never_ends found s.rank (number_at place asked.job s.rank s.number) && (is_strict || not (expects asked stops s.rank s.number))

-- one of these steps does
abbrev pub hangs_at : Bool → Asked → List StepView → Place → List (List ℕ) → Bool
hangs_at is_strict asked steps place found = list_any (is_hang is_strict asked (stops_at place asked.job) place found) steps

-- one does at one of these places
abbrev pub hangs_somewhere : Bool → Asked → List StepView → List Listed → Bool
hangs_somewhere is_strict asked steps listed = list_any (λ (one : Listed). hangs_at is_strict asked steps one.place one.found) listed

-- what the list of a job comes to
abbrev pub judgement_alone : Bool → Asked → List (List ℕ) → Judgement
judgement_alone is_strict asked found = good_judgement (hangs_at is_strict asked (all_steps asked.job) Nowhere found) (asks asked)

-- what the lists of places do
abbrev pub judgement_of_all : Bool → Asked → List Listed → Judgement
judgement_of_all is_strict asked listed = good_judgement (hangs_somewhere is_strict asked (all_steps asked.job) listed) (asks asked)
