use Rattle.std.proofs.Common.{ℕ, List, ◌++◌, ap, ◌∙◌, codes, string_bytes, append_assoc}
use Rattle.std.proofs.lemmas.Result.{on_ok_weaker}
use Rattle.ulfm_outcomes_list.specs.Told.{place_json}
use Rattle.ulfm_outcomes_list.proofs.search_result.push_unmet_json.Goals as goal

pub returns : goal.returns
returns c =
    let place = place_json c.args.unmet in
    on_ok_weaker c.push_place.result
    (λ last. last ∙ ap (λ (t : List ℕ). t ++ place) c.in_ok-push_str.ensures.bytes ∙ append_assoc (string_bytes c.args.text.now) (codes "{\"not_as_expected\":") place) c.push_place.ensures
