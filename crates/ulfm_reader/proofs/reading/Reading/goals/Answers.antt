use Rattle.std.proofs.Common.{[], ap, map, ◌∙◌}
use Rattle.std.proofs.lemmas.Result.{IfOk-weaker}
use Rattle.std.specs.Str.{trim}
use Rattle.ulfm_reader.specs.Goals.{goals_onto}
use Rattle.ulfm_reader.specs.JobText.{reading_view}
use Rattle.ulfm_reader.proofs.reading.Reading.goals.Goals as goal

pub returns : goal.returns
returns c =
    let scripts = (reading_view c.args.self.now).plan.scripts in
    IfOk-weaker c.goals_of.result _ _ (λ r h. h ∙ ap (λ parts. goals_onto scripts c.args.self.now.names.items [] (map trim parts)) (ap (map (λ p. p.now)) c.as_slice.ensures.value ∙ c.in_ok-parts.ensures)) c.goals_of.ensures
