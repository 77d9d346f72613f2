use Rattle.std.proofs.Common.{ℕ, List, ◌++◌, ap, ◌∙◌, codes, string_bytes, append_assoc}
use Rattle.std.proofs.lemmas.Result.{on_ok_weaker}
use Rattle.ulfm_outcomes_list.specs.ScheduleJson.{schedule_json}
use Rattle.ulfm_outcomes_list.proofs.search_result.push_schedule_key.Goals as goal

pub returns : goal.returns
returns c =
    let array = schedule_json c.args.asked.now.names.items c.args.asked.now.job c.args.schedule.now in
    on_ok_weaker c.push_schedule_json.result
    (λ last. last ∙ ap (λ (t : List ℕ). t ++ array) c.in_ok-push_str.ensures.bytes ∙ append_assoc (string_bytes c.args.text.now) (codes "\"schedule\":") array) c.push_schedule_json.ensures
