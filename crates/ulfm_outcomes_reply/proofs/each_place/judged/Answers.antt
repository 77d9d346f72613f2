use Rattle.std.proofs.Common.{ℕ, List, [], ◌++◌, None, Some, ap, string_bytes, subst, sym, ◌∙◌}
use Rattle.std.proofs.lemmas.List.{append-nil}
use Rattle.std.proofs.lemmas.Result.{IfOk-weaker}
use Rattle.ulfm_outcomes_list.specs.declared.place_list.Listed.{Listed}
use Rattle.ulfm_command_line.specs.Stopped.{asked_view}
use Rattle.ulfm_outcomes_reply.specs.EachPlace.{IsJudgedEach, places_in, wanted}
use Rattle.ulfm_outcomes_reply.specs.inside.Judging.{AreListedOf, IsFirstUnwanted, lists_judgement, lists_status}
use Rattle.ulfm_outcomes_reply.proofs.each_place.judged.Goals as goal

pub first_by_threads-requires-clause-listed : goal.first_by_threads-requires-clause-listed
first_by_threads-requires-clause-listed g c κs within = subst (AreListedOf (asked_view c.args.asked.now) c.args.search.now.options.limit) (sym c.as_slice-listed.ensures.value) c.requires.listed

pub returns-in_ok-text-in-Some : goal.returns-in_ok-text-in-Some
returns-in_ok-text-in-Some g c =
    let asked = asked_view c.args.asked.now in
    let form = c.args.search.now.form in
    let options = c.args.search.now.options in
    let lists = c.args.lists.now in
    let told = c.in-Some.told in
    let words = string_bytes told.text in
    let of_slice = subst (IsFirstUnwanted form options asked (places_in c.as_slice-listed.result.now)) c.in-Some.is c.in_ok-told.ensures in
    let first = subst (λ (listed : List Listed). IsFirstUnwanted form options asked (places_in listed) (Some told)) c.as_slice-listed.ensures.value of_slice in
    IfOk-weaker c.below.result _ _ (λ r h. (
      told.judgement,
      words,
      subst (λ (k : ℕ). IsJudgedEach form options asked (places_in lists.listed.items) (lists_judgement options asked lists) (lists_status options lists) told.judgement k words) (sym (h.0 ∙ c.with_unheld.ensures.status))
          (first (lists_judgement options asked lists) (lists_status options lists)),
      h.1 form ∙ ap (λ (t : List ℕ). string_bytes c.in_ok-text-in-Some.text ++ t) c.with_unheld.ensures.text ∙ ap (λ (t : List ℕ). t ++ words) c.in_ok-text-in-Some.ensures,
    )) c.below.ensures

pub returns-in-None : goal.returns-in-None
returns-in-None g c =
    let asked = asked_view c.args.asked.now in
    let form = c.args.search.now.form in
    let options = c.args.search.now.options in
    let lists = c.args.lists.now in
    let alone = lists_judgement options asked lists in
    let of_slice = subst (IsFirstUnwanted form options asked (places_in c.as_slice-listed.result.now)) c.in-None.is c.in_ok-told.ensures in
    let all = subst (λ (listed : List Listed). IsFirstUnwanted form options asked (places_in listed) None) c.as_slice-listed.ensures.value of_slice in
    IfOk-weaker c.alone.result _ _ (λ r h. (
      alone,
      [],
      subst (λ (k : ℕ). IsJudgedEach form options asked (places_in lists.listed.items) alone (lists_status options lists) alone k []) (sym h.0) (wanted all),
      h.1 ∙ sym (append-nil _),
    )) c.alone.ensures
