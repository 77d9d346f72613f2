-- What `outcomes --stops` writes for a job.
use Rattle.std.specs.Prelude.{◌≡◌, ◌<◌, ◌⊎◌, ℕ, ◌+◌, List, [], ◌∷◌, ◌++◌, Some, None, All, map, slice_get, take}
use Rattle.std.specs.List.{flat_map}
use Rattle.std.specs.Str.{trim}
use Rattle.ulfm_job.specs.declared.fault.JobFault.TheVariants.{TooLarge}
use Rattle.ulfm_job.specs.Job.{step_count}
use Rattle.ulfm_job.specs.Places.{places_of}
use Rattle.ulfm_job.specs.declared.place.Place.{Place}
use Rattle.ulfm_job.specs.declared.place.Place.TheVariants.{Nowhere}
use Rattle.ulfm_outcomes_reply.specs.Lists.{AreLists}
use Rattle.ulfm_outcomes_list.specs.Told.{more_at}
use Rattle.ulfm_outcomes_list.specs.Union.{some_never_ends}
use Rattle.ulfm_outcomes_list.specs.declared.place_list.Listed.{Listed}
use Rattle.ulfm_outcomes_list.specs.declared.judgement.Judgement.{Judgement}
use Rattle.ulfm_outcomes_list.specs.declared.judgement.Judgement.TheVariants.{NotKnown}
use Rattle.ulfm_forms.specs.declared.form.Form.{Form}
use Rattle.ulfm_command_line.specs.Failure.{out_of_memory_in}
use Rattle.ulfm_command_line.specs.Replies.{refused_in}
use Rattle.ulfm_command_line.specs.Stopped.{Asked, IsAskedAt, IsRefusal, asked_at}
use Rattle.ulfm_command_line.specs.Unknown.{no_name}
use Rattle.ulfm_command_line.specs.declared.command.ListOptions.{ListOptions}
use Rattle.ulfm_command_line.specs.Wish.{ChoiceView}
use Rattle.ulfm_outcomes_list.specs.declared.unmet.Unmet.{Unmet}
use Rattle.ulfm_outcomes_reply.specs.Chosen.{lists_in, unknown_part}
use Rattle.ulfm_outcomes_reply.specs.Drawn.{IsDrawn, left_drawn}
use Rattle.ulfm_outcomes_reply.specs.Hangs.{judgement_of_all}
use Rattle.ulfm_outcomes_reply.specs.Outcomes.{list_status}
use Rattle.ulfm_outcomes_reply.specs.Wanted.{HasList, IsToldOf, IsWanted}

-- what is told of a place where some schedule has one, by a list of all outcomes there
abbrev pub IsToldAt : Form → ListOptions → Place → Asked → Judgement → ℕ → List ℕ → Type 0
IsToldAt form options place asked judgement status text = (found : List (List ℕ)) × HasList asked.job options.limit found × IsToldOf form options (Some place) asked found judgement status text

-- at a place no schedule is found that has one: none does, or for some row that isn't known
abbrev pub IsUnfound : Form → ListOptions → Asked → Place → Type 0
IsUnfound form options asked place = IsWanted (asked_at place asked) ⊎ ((text : List ℕ) × IsToldAt form options place (asked_at place asked) NotKnown 7 text)

-- What the lists of these places come to, the status, and what is told below them: nothing, with the status of the lists, where the job is
-- wanted at each of them. With 9, of the first place where a schedule is found that isn't wanted. Where none is found, with 7, of the first place with a row
-- that can't be looked for.
pub data IsJudgedEach (form : Form) (options : ListOptions) (asked : Asked) (places : List Place) (alone : Judgement) (status : ℕ) : Judgement → ℕ → List ℕ → Type 0 where
  wanted : All (λ place. IsWanted (asked_at place asked)) places → IsJudgedEach form options asked places alone status alone status []
  found : (number : ℕ) (place : Place) (judgement : Judgement) (text : List ℕ) → slice_get places number ≡ Some place → All (IsUnfound form options asked) (take number places)
      → IsToldAt form options place (asked_at place asked) judgement 9 text → IsJudgedEach form options asked places alone status judgement 9 text
  unfound : (number : ℕ) (place : Place) (text : List ℕ) → slice_get places number ≡ Some place → All (λ place. IsWanted (asked_at place asked)) (take number places)
      → All (IsUnfound form options asked) places → IsToldAt form options place (asked_at place asked) NotKnown 7 text → IsJudgedEach form options asked places alone status NotKnown 7 text

-- nothing is drawn at a place, by its list
abbrev pub IsUndrawn : ListOptions → Asked → Listed → Type 0
IsUndrawn options asked one = left_drawn options.drawn (asked_at one.place asked).job one.found ≡ None

-- the picture at the first of these places where a step never ends
pub record IsFirstPicture (form : Form) (options : ListOptions) (asked : Asked) (listed : List Listed) (status : ℕ) (text : List ℕ) : Type 0 where
  pub number : ℕ
  pub one : Listed
  pub left : Unmet
  pub there : slice_get listed number ≡ Some one
  pub before : All (IsUndrawn options asked) (take number listed)
  pub first : left_drawn options.drawn (asked_at one.place asked).job one.found ≡ Some left
  pub drawn : IsDrawn form options (Some one.place) (asked_at one.place asked) left status text

-- the places of lists
abbrev pub places_in : List Listed → List Place
places_in listed = map (λ (one : Listed). one.place) listed

-- the lists of places, which come to this, if there is one
abbrev pub lists_told : Form → ChoiceView → Asked → Judgement → List Listed → List ℕ
lists_told form choice asked judgement [] = []
lists_told form choice asked judgement (one ∷ listed) = lists_in form choice asked judgement (one ∷ listed)

-- a line for each of these places: there are more states than the limit
abbrev pub places_past : Form → ℕ → List Place → List ℕ
places_past form limit places = flat_map (more_at form limit) places

-- The status and the text, in this form, that `outcomes --stops` gives for these bytes: the lists of all outcomes at all places with at
-- most so many stops, as one list, with what is told below it; where there are more states than the limit at some places, these stand
-- below the list of the others, with 7, or with 9 and what is told of one of the others below them; with 1 the line of the job's refusal, also of one
-- that has no room for so many stops, or that it has no step of a name; with 3 the line that memory ran out. Where a picture is asked for and a
-- step never ends at one of them, that alone, of the first such place.
pub data IsEachPlaceReply (form : Form) (choice : ChoiceView) (options : ListOptions) (stops : ℕ) (bytes : List ℕ) : ℕ → List ℕ → Type 0 where
  listed_all : (asked : Asked) (listed : List Listed) (judgement : Judgement) (status : ℕ) (text : List ℕ) → IsAskedAt Nowhere bytes asked → unknown_part choice asked ≡ None → AreLists asked options.limit (places_of stops asked.job) listed [] → All (IsUndrawn options asked) listed
      → IsJudgedEach form options asked (places_in listed) (judgement_of_all options.is_strict asked listed) (list_status options.is_strict (some_never_ends listed)) judgement status text
      → IsEachPlaceReply form choice options stops bytes status (lists_in form choice asked judgement listed ++ text)
  some_past_limit : (asked : Asked) (listed : List Listed) (place : Place) (past : List Place) (judgement : Judgement) (status : ℕ) (text : List ℕ) → IsAskedAt Nowhere bytes asked → unknown_part choice asked ≡ None → AreLists asked options.limit (places_of stops asked.job) listed (place ∷ past) → All (IsUndrawn options asked) listed
      → IsJudgedEach form options asked (places_in listed) NotKnown 7 judgement status text
      → IsEachPlaceReply form choice options stops bytes status ((lists_told form choice asked judgement listed ++ places_past form options.limit (place ∷ past)) ++ text)
  no_room_for_stops : (asked : Asked) → IsAskedAt Nowhere bytes asked → unknown_part choice asked ≡ None → 256 < step_count asked.job.scripts + stops → IsEachPlaceReply form choice options stops bytes 1 (refused_in form TooLarge)
  drawn_at_place : (asked : Asked) (listed : List Listed) (past : List Place) (status : ℕ) (text : List ℕ) → IsAskedAt Nowhere bytes asked → unknown_part choice asked ≡ None
      → AreLists asked options.limit (places_of stops asked.job) listed past → IsFirstPicture form options asked listed status text → IsEachPlaceReply form choice options stops bytes status text
  misnamed_at_all : (asked : Asked) (part : List ℕ) → IsAskedAt Nowhere bytes asked → unknown_part choice asked ≡ Some part → IsEachPlaceReply form choice options stops bytes 1 (no_name (trim part))
  not_listed_at_all : (status : ℕ) (text : List ℕ) → IsRefusal form Nowhere bytes status text → IsEachPlaceReply form choice options stops bytes status text
  no_memory_for_lists : IsEachPlaceReply form choice options stops bytes 3 (out_of_memory_in form)
