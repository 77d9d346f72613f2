use Rattle.std.proofs.Common.{ℕ, List, ◌++◌, ap, ◌∙◌, codes, string_bytes, append_assoc}
use Rattle.ulfm_job.specs.Words.{told_at}
use Rattle.ulfm_forms.specs.Trace.{head_json}
use Rattle.ulfm_outcomes_list.proofs.events.push_opened.Goals as goal

pub returns : goal.returns
returns c =
    let asked = c.args.asked.now in
    let head = head_json asked.names.items c.args.r c.args.k (told_at asked.job c.args.r c.args.k) in
    let event = codes ",\"event\":\"opened\"" in
    c.in_ok-push_str.ensures.bytes ∙ ap (λ (t : List ℕ). t ++ event) c.in_ok-push_step_head.ensures ∙ append_assoc (string_bytes c.args.text.now) head event
