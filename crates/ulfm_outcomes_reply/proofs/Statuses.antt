-- The statuses that replies to `outcomes` have, and that memory may run out for each.
use Rattle.std.proofs.Common.{ℕ, Bool, true, false, List, Option, Some, None}
use Rattle.ulfm_job.specs.declared.place.Place.{Place}
use Rattle.ulfm_job.specs.declared.place.Place.TheVariants.{Nowhere}
use Rattle.ulfm_outcomes_list.specs.Text.{some_never_ends}
use Rattle.ulfm_outcomes_list.specs.declared.judgement.Judgement.{Judgement}
use Rattle.ulfm_outcomes_list.specs.declared.unmet.Unmet.{Unmet}
use Rattle.ulfm_reach.specs.declared.reached.Reached.{Reached}
use Rattle.ulfm_outcomes_list.specs.Union.{some_never_ends as each_never_ends}
use Rattle.ulfm_forms.specs.declared.form.Form.{Form}
use Rattle.ulfm_command_line.proofs.Statuses as statuses
use Rattle.ulfm_command_line.proofs.Statuses.{IsKnown, no_play}
use Rattle.ulfm_command_line.specs.Failure.{out_of_memory_in}
use Rattle.ulfm_command_line.specs.Stopped.{Asked}
use Rattle.ulfm_command_line.specs.Wish.{ChoiceView}
use Rattle.ulfm_command_line.specs.declared.command.ListOptions.{ListOptions}
use Rattle.ulfm_outcomes_reply.specs.EachPlace as each
use Rattle.ulfm_outcomes_reply.specs.EachPlace.{IsEachPlaceReply, IsJudgedEach}
use Rattle.ulfm_outcomes_reply.specs.Drawn.{IsDrawn, no_picture, picture}
use Rattle.ulfm_outcomes_reply.specs.ListReply.{IsListReply, IsReplyBy}
use Rattle.ulfm_outcomes_reply.specs.Outcomes.{IsJudged, IsOutcomesReply, IsShowReply, list_status, drawn, good, unwanted, listed, past_limit, misnamed, not_listed, unlisted, shown, nowhere, too_many, unnamed, not_shown, unshown}
use Rattle.ulfm_outcomes_reply.specs.Wanted.{IsToldOf, together, unmet, unsearched}
use Rattle.ulfm_outcomes_reply.specs.ShowEach as each_shown
use Rattle.ulfm_outcomes_reply.specs.ShowEach.{IsShowEachReply}

list_alone : (is_strict is_open : Bool) → IsKnown (list_status is_strict is_open)
list_alone true true = statuses.left_open
list_alone true false = statuses.done
list_alone false is_open = statuses.done

told_known : (form : Form) (options : ListOptions) (at : Option Place) (asked : Asked) (found : List (List ℕ)) (judgement : Judgement) (status : ℕ) (text : List ℕ) → IsToldOf form options at asked found judgement status text → IsKnown status
told_known form options at asked found judgement status text (unmet one goals what first is shows) = statuses.not_wanted
told_known form options at asked found judgement status text (together number row goals schedule meets here none are shows) = statuses.not_wanted
told_known form options at asked found judgement status text (unsearched number row goals meets here none others are shows) = statuses.past

drawn_known : (form : Form) (options : ListOptions) (at : Option Place) (asked : Asked) (left : Unmet) (status : ℕ) (text : List ℕ) → IsDrawn form options at asked left status text → IsKnown status
drawn_known form options at asked left status text (picture goals schedule words are shows same) = statuses.done
drawn_known form options at asked left status text (no_picture goals are many) = statuses.past

judged_known : (form : Form) (choice : ChoiceView) (options : ListOptions) (asked : Asked) (reached : Reached) (status : ℕ) (text : List ℕ) → IsJudged form choice options asked reached status text → IsKnown status
judged_known form choice options asked reached status text (drawn left k words first is) = drawn_known form options None asked left k words is
judged_known form choice options asked reached status text (good none wanted) = list_alone options.is_strict (some_never_ends reached.found)
judged_known form choice options asked reached status text (unwanted judgement k words none is) = told_known form options None asked reached.found judgement status words is

list_known : (form : Form) (choice : ChoiceView) (options : ListOptions) (bytes : List ℕ) (status : ℕ) (text : List ℕ) → IsOutcomesReply form choice options bytes status text → IsKnown status
list_known form choice options bytes status text (listed asked reached k words is named all judged) = judged_known form choice options asked _ status text judged
list_known form choice options bytes status text (past_limit asked is named many) = statuses.past
list_known form choice options bytes status text (misnamed asked part is named) = statuses.no_job
list_known form choice options bytes status text (not_listed k words is) = no_play form options.place bytes status text is
list_known form choice options bytes status text unlisted = statuses.run_fails

show_known : (form : Form) (options : ListOptions) (show bytes : List ℕ) (status : ℕ) (text : List ℕ) → IsShowReply form options show bytes status text → IsKnown status
show_known form options show bytes status text (shown asked answers is named goals are schedule words what same) = statuses.done
show_known form options show bytes status text (nowhere job answers is named goals are not) = statuses.nowhere
show_known form options show bytes status text (too_many job answers is named goals are told) = statuses.past
show_known form options show bytes status text (unnamed job part is named) = statuses.no_job
show_known form options show bytes status text (not_shown k words is) = no_play form options.place bytes status text is
show_known form options show bytes status text unshown = statuses.run_fails

each_judged_known : (form : Form) (options : ListOptions) (asked : Asked) (places : List Place) (lone : Judgement) (alone : ℕ) (judgement : Judgement) (status : ℕ) (text : List ℕ) → IsKnown alone
    → IsJudgedEach form options asked places lone alone judgement status text → IsKnown status
each_judged_known form options asked places lone alone judgement status text known (each.wanted all) = known
each_judged_known form options asked places lone alone judgement status text known (each.found number place what words here before is) = statuses.not_wanted
each_judged_known form options asked places lone alone judgement status text known (each.unfound number place words here before none is) = statuses.past

each_known : (form : Form) (choice : ChoiceView) (options : ListOptions) (stops : ℕ) (bytes : List ℕ) (status : ℕ) (text : List ℕ) → IsEachPlaceReply form choice options stops bytes status text → IsKnown status
each_known form choice options stops bytes status text (each.listed_all asked lists judgement k words is named are none judged) = each_judged_known form options asked _ _ _ judgement status _ (list_alone options.is_strict (each_never_ends lists)) judged
each_known form choice options stops bytes status text (each.some_past_limit asked lists place past judgement k words is named are none judged) = each_judged_known form options asked _ _ _ judgement status _ statuses.past judged
each_known form choice options stops bytes status text (each.no_room_for_stops asked is named many) = statuses.no_job
each_known form choice options stops bytes status text (each.drawn_at_place asked lists past k words is named are first) = drawn_known form options _ _ first.left k words first.drawn
each_known form choice options stops bytes status text (each.misnamed_at_all asked part is named) = statuses.no_job
each_known form choice options stops bytes status text (each.not_listed_at_all k words is) = no_play form Nowhere bytes status text is
each_known form choice options stops bytes status text each.no_memory_for_lists = statuses.run_fails

show_each_known : (form : Form) (options : ListOptions) (stops : ℕ) (show bytes : List ℕ) (status : ℕ) (text : List ℕ) → IsShowEachReply form options stops show bytes status text → IsKnown status
show_each_known form options stops show bytes status text (each_shown.shown_at asked answers place is named first goals are schedule words shows same) = statuses.done
show_each_known form options stops show bytes status text (each_shown.nowhere_at_all asked answers is named none) = statuses.nowhere
show_each_known form options stops show bytes status text (each_shown.too_many_at asked answers place is named first goals are told) = statuses.past
show_each_known form options stops show bytes status text (each_shown.unnamed_at_all asked part is named) = statuses.no_job
show_each_known form options stops show bytes status text (each_shown.no_room_to_show asked is many) = statuses.no_job
show_each_known form options stops show bytes status text (each_shown.not_shown_at_all k words is) = no_play form Nowhere bytes status text is
show_each_known form options stops show bytes status text each_shown.no_memory_to_show_each = statuses.run_fails

by_known : (form : Form) (show : Option (List ℕ)) (stops : Option ℕ) (choice : ChoiceView) (options : ListOptions) (bytes : List ℕ) (status : ℕ) (text : List ℕ) → IsReplyBy form show stops choice options bytes status text → IsKnown status
by_known form None None choice options bytes status text h = list_known form choice options bytes status text h
by_known form None (Some stops) choice options bytes status text h = each_known form choice options stops bytes status text h
by_known form (Some goals) None choice options bytes status text h = show_known form options goals bytes status text h
by_known form (Some goals) (Some stops) choice options bytes status text h = show_each_known form options stops goals bytes status text h

pub reply_known : (form : Form) (show : Option (List ℕ)) (choice : ChoiceView) (options : ListOptions) (bytes : List ℕ) (status : ℕ) (text : List ℕ) → IsListReply form show choice options bytes status text → IsKnown status
reply_known form show choice options bytes status text h = by_known form show options.stops choice options bytes status text h

-- out of memory is what each may come to
starved_by : (form : Form) (show : Option (List ℕ)) (stops : Option ℕ) (choice : ChoiceView) (options : ListOptions) (bytes : List ℕ) → IsReplyBy form show stops choice options bytes 3 (out_of_memory_in form)
starved_by form None None choice options bytes = unlisted
starved_by form None (Some stops) choice options bytes = each.no_memory_for_lists
starved_by form (Some goals) None choice options bytes = unshown
starved_by form (Some goals) (Some stops) choice options bytes = each_shown.no_memory_to_show_each

pub starved_list : (form : Form) (show : Option (List ℕ)) (choice : ChoiceView) (options : ListOptions) (bytes : List ℕ) → IsListReply form show choice options bytes 3 (out_of_memory_in form)
starved_list form show choice options bytes = starved_by form show options.stops choice options bytes
