use Rattle.std.proofs.Common.{ap, arith, sym, ◌∙◌}
use Rattle.ulfm_job.proofs.Numbers.{not_number, number_shortest}
use Rattle.ulfm_job.specs.Digits.{number_in}
use Rattle.ulfm_job.proofs.place_text.number_of_text.Goals as goal

pub returns-then-not-is_shortest-clause-exact : goal.returns-then-not-is_shortest-clause-exact
returns-then-not-is_shortest-clause-exact c = not_number c.args.most c.args.text.now (omega (arith, c.ranges.most.fits)) (sym c.is_shortest.ensures ∙ c.if-not-is_shortest.true)

pub returns-in-Some-clause-exact : goal.returns-in-Some-clause-exact
returns-in-Some-clause-exact c = c.in-Some.ensures.exact ∙ ap (λ m. number_in m c.args.text.now) c.from.ensures ∙ number_shortest c.args.most c.args.text.now (omega (arith, c.ranges.most.fits)) (sym c.is_shortest.ensures ∙ c.if-not-is_shortest.false)

pub returns-in-None-clause-exact : goal.returns-in-None-clause-exact
returns-in-None-clause-exact c = c.in-None.ensures.exact ∙ ap (λ m. number_in m c.args.text.now) c.from.ensures ∙ number_shortest c.args.most c.args.text.now (omega (arith, c.ranges.most.fits)) (sym c.is_shortest.ensures ∙ c.if-not-is_shortest.false)
