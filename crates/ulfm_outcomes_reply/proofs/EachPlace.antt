-- What is found of a job at places.
use Rattle.std.proofs.Common.{◌≡◌, ℕ, Bool, true, ap, List, [], ◌∷◌, ◌++◌, Option, None, Some, Ok, sym, subst, ◌∙◌}
use Rattle.std.proofs.lemmas.List.Elements.{All-cons, All-get_or, All-head, All-nil, All-tail}
use Rattle.std.proofs.lemmas.Option.{get_or_from_slice_get, slice_get_within}
use Rattle.std.specs.Prelude.{All}
use Rattle.ulfm_reach.specs.declared.reach.Reach.TheVariants as reach
use Rattle.ulfm_outcomes_spec.specs.Outcomes.{IsList}
use Rattle.ulfm_job.specs.Job.{JobView}
use Rattle.ulfm_outcomes_spec.specs.Unmet.{MeetsExpected}
use Rattle.ulfm_job.specs.Place.{IsPlaceOf, job_at}
use Rattle.ulfm_job.specs.declared.place.Place.{Place}
use Rattle.ulfm_job.specs.declared.place.Place.TheVariants.{Nowhere}
use Rattle.ulfm_outcomes_reply.specs.Lists.{AreLists, IsListedAt, beyond, job_asked_at, no_place, within}
use Rattle.ulfm_outcomes_list.specs.declared.place_list.Listed.{Listed}
use Rattle.ulfm_job.specs.declared.clause.Clause.{Clause}
use Rattle.ulfm_job.specs.Places.{places_of}
use Rattle.ulfm_forms.specs.declared.form.Form.{Form}
use Rattle.ulfm_command_line.specs.Stopped.{Asked, IsAskedAt, asked_at}
use Rattle.ulfm_command_line.specs.Wish.{ChoiceView}
use Rattle.ulfm_command_line.specs.declared.command.ListOptions.{ListOptions}
use Rattle.ulfm_outcomes_list.specs.declared.judgement.Judgement.{Judgement}
use Rattle.ulfm_outcomes_list.specs.declared.judgement.Judgement.TheVariants.{NotKnown}
use Rattle.ulfm_outcomes_reply.specs.declared.finding.Finding.{Finding}
use Rattle.ulfm_outcomes_reply.specs.EachPlace.{IsEachPlaceReply, IsJudgedEach, IsUndrawn, listed_all, places_in, some_past_limit}
use Rattle.ulfm_outcomes_list.specs.Told.{row_in}
use Rattle.ulfm_outcomes_reply.specs.Chosen.{unknown_part}
use Rattle.ulfm_outcomes_reply.specs.Outcomes.{goals_asked}
use Rattle.ulfm_outcomes_reply.specs.ShowEach.{IsFirstPlace, IsShowEachReply, nowhere_at_all, shown_at, told_at_place, too_many_at}
use Rattle.ulfm_outcomes_reply.specs.Wanted.{AreRuledOut, HasList, IsToldOf, together, unsearched}
use Rattle.ulfm_outcomes_reply.specs.declared.never_rows.FirstRow.{FirstRow}
use Rattle.ulfm_outcomes_reply.specs.declared.show_each_place.LookAt.{LookAt}
use Rattle.ulfm_outcomes_list.specs.declared.search_result.Told.{Told}
use Rattle.ulfm_outcomes_list.specs.declared.search_result.Told.TheVariants as told
use Rattle.ulfm_outcomes_reply.specs.inside.Judging.{AreListedOf, IsFirstLook, IsInside, IsListedOf, IsLookAtText, IsUnwanted, IsUnwantedAt, judgement_past, look_at_status, status_past, text_past}
use Rattle.ulfm_outcomes_spec.specs.Told.{IsLook}
use Rattle.ulfm_outcomes_reply.specs.inside.Looking.{IsFirstRow, IsFirstTold, IsLookText, look_status, row_judgement, row_status}

-- the list of a place of the job
listed_of : (asked : Asked) (limit : ℕ) (place : Place) (one : Listed) → IsPlaceOf asked.job place → IsListedAt asked limit place one → IsListedOf asked limit one
listed_of asked limit place one inside at =
    subst (λ (p : Place). IsPlaceOf asked.job p × HasList (job_asked_at p asked) limit one.found × (one.rules_out ≡ true → AreRuledOut (job_asked_at p asked) (asked_at p asked).rows)) (sym at.at)
    (inside, (at.reached.keys, subst (λ (found : List (List ℕ)). IsList (job_asked_at place asked) limit (reach.All (record { keys = at.reached.keys; found = found }))) (sym at.found) at.whole), at.out)

-- those of some of its places
pub lists_of : (asked : Asked) (limit : ℕ) (places : List Place) (listed : List Listed) (past : List Place) → AreLists asked limit places listed past → All (IsPlaceOf asked.job) places → AreListedOf asked limit listed
lists_of asked limit places listed past no_place inside = All-nil (IsListedOf asked limit)
lists_of asked limit places listed past (within place left one more others at lists) inside =
    All-cons (IsListedOf asked limit) one more (listed_of asked limit place one (All-head (IsPlaceOf asked.job) place left inside) at)
    (lists_of asked limit left more others lists (All-tail (IsPlaceOf asked.job) place left inside))
lists_of asked limit places listed past (beyond place left more others many lists) inside = lists_of asked limit left more others lists (All-tail (IsPlaceOf asked.job) place left inside)

-- the list of a place is one of what is asked for there
pub list_there : (asked made : Asked) (limit : ℕ) (one : Listed) → IsListedOf asked limit one → made ≡ asked_at one.place asked → HasList made.job limit one.found
list_there asked made limit one of is =
    subst (λ (j : JobView). HasList j limit one.found) (sym (ap (λ (a : Asked). a.job) is)) of.1

-- and the rows are ruled out there that are by its search
pub ruled_there : (asked made : Asked) (limit : ℕ) (one : Listed) → IsListedOf asked limit one → made ≡ asked_at one.place asked → one.rules_out ≡ true → AreRuledOut made.job made.rows
ruled_there asked made limit one of is out = subst (λ (a : Asked). AreRuledOut a.job a.rows) (sym is) (of.2 out)

-- what is told of what is asked for there
pub unwanted_there : (form : Form) (options : ListOptions) (one : Listed) (asked made : Asked) (told : Option Finding) → IsListedOf asked options.limit one → made ≡ asked_at one.place asked
    → IsUnwanted form options (Some one.place) made one.found told → IsUnwantedAt form options one.place made told
unwanted_there form options one asked made None of is wanted = wanted
unwanted_there form options one asked made (Some finding) of is told = (one.found, list_there asked made options.limit one of is, told)

-- what is told of a row
pub row_told_as : (form : Form) (options : ListOptions) (at : Option Place) (asked : Asked) (found : List (List ℕ)) (first : FirstRow) → MeetsExpected asked.job → IsFirstRow asked.job asked.rows options.is_brief options.limit (Some first)
    → IsToldOf form options at asked found (row_judgement first.told) (row_status first.told) (row_in form at asked.names asked.job first.number first.told)
row_told_as form options at asked found first meets is = by first.told is
  where
    by : (what : Told) → IsFirstTold asked.job asked.rows options.is_brief options.limit first.number what → IsToldOf form options at asked found (row_judgement what) (row_status what) (row_in form at asked.names asked.job first.number what)
    by (told.Schedule schedule) of = together first.number of.0 of.3.0 schedule meets of.1 of.2 of.3.1 of.3.2
    by (told.Many limit) of =
        subst (λ (n : ℕ). IsToldOf form options at asked found NotKnown 7 (row_in form at asked.names asked.job first.number (told.Many n))) (sym of.4)
        (unsearched first.number of.0 of.5.0 meets of.1 of.2 of.3 of.5.1 of.5.2)

-- what came of a search at each of the job's places came at one of them
pub look_inside : (j : JobView) (clauses : List Clause) (is_brief : Bool) (limit : ℕ) (places : List Place) (look : Option LookAt) → All (IsPlaceOf j) places → IsFirstLook j clauses is_brief limit places look → IsInside j look
look_inside j clauses is_brief limit places None inside first = tt
look_inside j clauses is_brief limit places (Some look) inside first =
    subst (IsPlaceOf j) (get_or_from_slice_get places first.0 look.place look.place first.1)
    (All-get_or (IsPlaceOf j) places first.0 look.place (slice_get_within places first.0 look.place first.1) inside)

-- the reply to what came of a search at each place
pub show_each_as : (form : Form) (options : ListOptions) (stops : ℕ) (show bytes : List ℕ) (asked : Asked) (answers : List Clause) (look : Option LookAt) (text : List ℕ) → IsAskedAt Nowhere bytes asked → goals_asked asked show ≡ Ok answers
    → IsFirstLook asked.job answers options.is_brief options.limit (places_of stops asked.job) look → IsLookAtText form options.drawn asked look text → IsShowEachReply form options stops show bytes (look_at_status look) text
show_each_as form options stops show bytes asked answers None text read named never is =
    subst (λ (t : List ℕ). IsShowEachReply form options stops show bytes 8 t) (sym is) (nowhere_at_all asked answers read named never)
show_each_as form options stops show bytes asked answers (Some look) text read named first is = by look.told first.3.2 is
  where
    place : IsFirstPlace asked.job answers stops look.place
    place = record { number = first.0; there = first.1; before = first.2 }

    by : (what : Told) → IsLook (job_at look.place asked.job) first.3.0 options.is_brief options.limit (Some what) → IsLookText form options.drawn (Some look.place) (asked_at look.place asked) (Some what) text
        → IsShowEachReply form options stops show bytes (look_status (Some what)) text
    by (told.Schedule schedule) what is = shown_at asked answers look.place read named place first.3.0 first.3.1 schedule text what is
    by (told.Many limit) what is =
        subst (λ (t : List ℕ). IsShowEachReply form options stops show bytes 7 t) (sym is)
        (subst (λ (n : ℕ). IsShowEachReply form options stops show bytes 7 (told_at_place form look.place asked (told.Many n))) (sym what.0)
        (too_many_at asked answers look.place read named place first.3.0 first.3.1 (sym what.0 ∙ what.0, what.1)))

-- the lists of all places with what is told below them
pub each_as : (form : Form) (choice : ChoiceView) (options : ListOptions) (stops : ℕ) (bytes : List ℕ) (asked : Asked) (places : List Place) (listed : List Listed) (past : List Place) (judgement : Judgement) (status : ℕ) (text words : List ℕ)
    → IsAskedAt Nowhere bytes asked → unknown_part choice asked ≡ None → AreLists asked options.limit places listed past → places ≡ places_of stops asked.job → All (IsUndrawn options asked) listed
    → IsJudgedEach form options asked (places_in listed) (judgement_past options asked listed past) (status_past options listed past) judgement status words
    → text ≡ text_past form choice asked options listed past judgement ++ words → IsEachPlaceReply form choice options stops bytes status text
each_as form choice options stops bytes asked places listed [] judgement status text words read named are is none judged same =
    subst (λ (t : List ℕ). IsEachPlaceReply form choice options stops bytes status t) (sym same)
    (listed_all asked listed judgement status words read named (subst (λ (ps : List Place). AreLists asked options.limit ps listed []) is are) none judged)
each_as form choice options stops bytes asked places listed (place ∷ past) judgement status text words read named are is none judged same =
    subst (λ (t : List ℕ). IsEachPlaceReply form choice options stops bytes status t) (sym same)
    (some_past_limit asked listed place past judgement status words read named (subst (λ (ps : List Place). AreLists asked options.limit ps listed (place ∷ past)) is are) none judged)
