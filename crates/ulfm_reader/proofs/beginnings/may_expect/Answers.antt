use Rattle.std.proofs.Common.{sym, ◌∙◌, ap}
use Rattle.ulfm_reader.proofs.Orders.{op-kept}
use Rattle.ulfm_reader.specs.Beginnings.{may_tell}
use Rattle.ulfm_reader.proofs.beginnings.may_expect.Goals as goal

pub returns : goal.returns
returns c = c.may_tell.ensures ∙ ap (λ op. may_tell op c.args.words.now) (c.op.ensures ∙ sym (op-kept c.args.step.now))
