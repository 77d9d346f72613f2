-- What single functions find of a job at places.
use Rattle.std.specs.Prelude.{◌≡◌, ◌≤◌, ℕ, ⊤, ◌==◌, ◌∷◌, [], ◌++◌, Bool, false, true, List, Option, Some, None, All, max, option_map, slice_get, string_bytes, take}
use Rattle.ulfm_job.specs.declared.clause.Clause.{Clause}
use Rattle.ulfm_job.specs.Job.{JobView}
use Rattle.ulfm_job.specs.Place.{IsPlaceOf, job_at}
use Rattle.ulfm_job.specs.declared.place.Place.{Place}
use Rattle.ulfm_outcomes_list.specs.Union.{some_never_ends}
use Rattle.ulfm_outcomes_list.specs.declared.place_list.Listed.{Listed}
use Rattle.ulfm_outcomes_reply.specs.declared.lists.Lists.{Lists}
use Rattle.ulfm_forms.specs.declared.form.Form.{Form}
use Rattle.ulfm_command_line.specs.Stopped.{Asked, asked_at}
use Rattle.ulfm_command_line.specs.declared.command.ListOptions.{ListOptions}
use Rattle.ulfm_command_line.specs.Body.{body_in}
use Rattle.ulfm_command_line.specs.declared.reply.Reply.{Reply}
use Rattle.ulfm_outcomes_reply.specs.declared.finding.Finding.{Finding}
use Rattle.ulfm_outcomes_list.specs.declared.judgement.Judgement.{Judgement}
use Rattle.ulfm_outcomes_list.specs.declared.judgement.Judgement.TheVariants.{NotKnown}
use Rattle.ulfm_outcomes_reply.specs.EachPlace.{IsFirstPicture, IsJudgedEach, IsToldAt, IsUndrawn, IsUnfound, lists_told, places_in, places_past}
use Rattle.ulfm_command_line.specs.Wish.{ChoiceView}
use Rattle.ulfm_outcomes_reply.specs.Chosen.{lists_in}
use Rattle.ulfm_outcomes_reply.specs.Hangs.{judgement_of_all}
use Rattle.ulfm_outcomes_reply.specs.Lists.{job_asked_at}
use Rattle.ulfm_outcomes_reply.specs.Outcomes.{list_status, nowhere_in}
use Rattle.ulfm_outcomes_reply.specs.ShowEach.{AreGoalsAt, IsNowhereAt}
use Rattle.ulfm_outcomes_reply.specs.Wanted.{AreRuledOut, HasList, IsToldOf, IsWanted}
use Rattle.ulfm_outcomes_reply.specs.declared.show_each_place.LookAt.{LookAt}
use Rattle.ulfm_outcomes_list.specs.declared.search_result.Told.{Told}
use Rattle.ulfm_outcomes_spec.specs.Told.{IsLook}
use Rattle.ulfm_outcomes_reply.specs.inside.Looking.{IsDrawnOf, IsLookText, look_status}
use Rattle.ulfm_outcomes_list.specs.declared.goals.Goals.{Goals}
use Rattle.ulfm_forms.specs.declared.style.Style.{Style}

-- so many threads share the places: as many as are asked for, and one at least, else 64 at most
abbrev pub AreSharing : Option ℕ → ℕ → Type 0
AreSharing (Some asked) threads = threads ≡ max 1 asked
AreSharing None threads = threads ≤ 64

-- the list of one of the job's places, and whether the search for it ruled rows of `never` out
abbrev pub IsListedOf : Asked → ℕ → Listed → Type 0
IsListedOf asked limit one = IsPlaceOf asked.job one.place × HasList (job_asked_at one.place asked) limit one.found
    × (one.rules_out ≡ true → AreRuledOut (job_asked_at one.place asked) (asked_at one.place asked).rows)

-- the lists of some of them
abbrev pub AreListedOf : Asked → ℕ → List Listed → Type 0
AreListedOf asked limit listed = All (IsListedOf asked limit) listed

-- this is wanted, or that is told of it, by these rows of a list
abbrev pub IsUnwanted : Form → ListOptions → Option Place → Asked → List (List ℕ) → Option Finding → Type 0
IsUnwanted form options at asked found None = IsWanted asked
IsUnwanted form options at asked found (Some told) = IsToldOf form options at asked found told.judgement told.status (string_bytes told.text)

-- this is wanted at a place, or that is told of it, by a list there
abbrev pub IsUnwantedAt : Form → ListOptions → Place → Asked → Option Finding → Type 0
IsUnwantedAt form options place asked None = IsWanted asked
IsUnwantedAt form options place asked (Some told) = IsToldAt form options place asked told.judgement told.status (string_bytes told.text)

-- it is wanted at each of these places, or that is told of them, whatever the lists come to alone
abbrev pub IsFirstUnwanted : Form → ListOptions → Asked → List Place → Option Finding → Type 0
IsFirstUnwanted form options asked places None = All (λ place. IsWanted (asked_at place asked)) places
IsFirstUnwanted form options asked places (Some told) = (alone : Judgement) (status : ℕ) → IsJudgedEach form options asked places alone status told.judgement told.status (string_bytes told.text)

-- a schedule that isn't wanted was found, by what is told
abbrev pub is_found : Option Finding → Bool
is_found None = false
is_found (Some told) = told.status == 9

-- of so many of the lists none has a schedule that was found: at each of their places it is wanted, or that is told of the first with a row
-- that can't be looked for
abbrev pub IsUnfoundUpTo : Form → ListOptions → Asked → List Listed → ℕ → Option Finding → Type 0
IsUnfoundUpTo form options asked listed count None = All (λ (one : Listed). IsWanted (asked_at one.place asked)) (take count listed)
IsUnfoundUpTo form options asked listed count (Some told) = (number : ℕ) × (place : Place) × (slice_get (places_in listed) number ≡ Some place) × All (λ p. IsWanted (asked_at p asked)) (take number (places_in listed))
    × All (λ (one : Listed). IsUnfound form options asked one.place) (take count listed) × (told.judgement ≡ NotKnown) × (told.status ≡ 7) × IsToldAt form options place (asked_at place asked) NotKnown 7 (string_bytes told.text)

-- the status of lists below which nothing is told
abbrev pub status_past : ListOptions → List Listed → List Place → ℕ
status_past options listed [] = list_status options.is_strict (some_never_ends listed)
status_past options listed (place ∷ past) = 7

-- that of these lists
abbrev pub lists_status : ListOptions → Lists → ℕ
lists_status options lists = status_past options lists.listed.items lists.past_limit.items

-- what lists come to below which nothing is told: past the limit that isn't known
abbrev pub judgement_past : ListOptions → Asked → List Listed → List Place → Judgement
judgement_past options asked listed [] = judgement_of_all options.is_strict asked listed
judgement_past options asked listed (place ∷ past) = NotKnown

-- that of these lists
abbrev pub lists_judgement : ListOptions → Asked → Lists → Judgement
lists_judgement options asked lists = judgement_past options asked lists.listed.items lists.past_limit.items

-- the text of lists that come to this, and of the places past the limit
abbrev pub text_past : Form → ChoiceView → Asked → ListOptions → List Listed → List Place → Judgement → List ℕ
text_past form choice asked options listed [] judgement = lists_in form choice asked judgement listed
text_past form choice asked options listed (place ∷ past) judgement = lists_told form choice asked judgement listed ++ places_past form options.limit (place ∷ past)

-- that of these lists
abbrev pub lists_text : Form → ChoiceView → Asked → ListOptions → Lists → Judgement → List ℕ
lists_text form choice asked options lists judgement = text_past form choice asked options lists.listed.items lists.past_limit.items judgement

-- the status of lists and their text, with what is told below it
abbrev pub IsEachText : Form → ChoiceView → ListOptions → Asked → Lists → ℕ → List ℕ → Type 0
IsEachText form choice options asked lists status text = (judgement : Judgement) × (told : List ℕ)
    × IsJudgedEach form options asked (places_in lists.listed.items) (lists_judgement options asked lists) (lists_status options lists) judgement status told × (text ≡ lists_text form choice asked options lists judgement ++ told)

-- a picture at a place, by its list, or none
abbrev pub IsDrawnThere : Form → ListOptions → Listed → Asked → Option Reply → Type 0
IsDrawnThere form options one asked drawn = IsDrawnOf form options (Some one.place) asked one.found drawn

-- none at any of these places, or the picture at the first where there is one
abbrev pub IsFirstDrawn : Form → ListOptions → Asked → List Listed → Option Reply → Type 0
IsFirstDrawn form options asked listed None = All (IsUndrawn options asked) listed
IsFirstDrawn form options asked listed (Some reply) = IsFirstPicture form options asked listed reply.status (body_in form reply.body)

-- a search at a place for answers came to nothing, since no schedule shows them, or to what is told
abbrev pub IsLookAt : JobView → List Clause → Bool → ℕ → Place → Option Told → Type 0
IsLookAt job clauses is_brief limit place look = (goals : Goals) × AreGoalsAt place job clauses goals × IsLook (job_at place job) goals is_brief limit look

-- none of these places shows them, or of the first that does, or can't be looked at, that is told
abbrev pub IsFirstLook : JobView → List Clause → Bool → ℕ → List Place → Option LookAt → Type 0
IsFirstLook job clauses is_brief limit places None = All (IsNowhereAt job clauses) places
IsFirstLook job clauses is_brief limit places (Some look) = (number : ℕ) × (slice_get places number ≡ Some look.place)
    × All (IsNowhereAt job clauses) (take number places) × IsLookAt job clauses is_brief limit look.place (Some look.told)

-- what came of a search at each place came at one of the job, if it came to something
abbrev pub IsInside : JobView → Option LookAt → Type 0
IsInside job None = ⊤
IsInside job (Some look) = IsPlaceOf job look.place

-- the text of what came of a search at each place
abbrev pub IsLookAtText : Form → Option Style → Asked → Option LookAt → List ℕ → Type 0
IsLookAtText form drawn asked None text = text ≡ nowhere_in form
IsLookAtText form drawn asked (Some look) text = IsLookText form drawn (Some look.place) (asked_at look.place asked) (Some look.told) text

-- its status
abbrev pub look_at_status : Option LookAt → ℕ
look_at_status look = look_status (option_map (λ (l : LookAt). l.told) look)
