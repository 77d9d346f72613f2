use Rattle.std.proofs.Common.{sym, ◌∙◌}
use Rattle.ulfm_reader.proofs.Keys.{list_any-map}
use Rattle.ulfm_reader.specs.Beginnings.{begin_alike}
use Rattle.ulfm_reader.proofs.beginnings.is_alike.Goals as goal

pub returns : goal.returns
returns c = c.is_alike_to_one.ensures ∙ sym (list_any-map (λ text. begin_alike text c.args.words.now) (λ s. s.now) c.args.texts.now)
