use Rattle.std.proofs.Common.{rules, arith, map, ap, ◌∙◌}
use Rattle.std.proofs.lemmas.Bool.Decides.{nat_tests}
use Rattle.ulfm_reader.proofs.WrittenOut.{view}
use Rattle.ulfm_reader.proofs.Blocks.{is-block, no-block, no-steps}
use Rattle.ulfm_reader.specs.Blocks.{leads_on}
use Rattle.ulfm_reader.proofs.block.block_of.Goals as goal

pub returns-then-len-keys_of-clause-exact : goal.returns-then-len-keys_of-clause-exact
returns-then-len-keys_of-clause-exact c =
    is-block (map view c.args.behind.now) c.args.table.now.entries c.in-Some.steps.now c.times_in-times.result c.leads_on-leads.result c.in-Some.ensures c.times_in-times.ensures.exact
    (c.leads_on-leads.ensures ∙ ap (leads_on (map view c.args.behind.now)) c.text_at.ensures) (first_of (search rules, grind (arith, nat_tests))) (first_of (search rules, grind (arith, nat_tests)))

pub returns-then-is_empty-clause-exact : goal.returns-then-is_empty-clause-exact
returns-then-is_empty-clause-exact c = no-steps (map view c.args.behind.now) c.args.table.now.entries c.in-Some.steps.now c.in-Some.ensures (first_of (search rules, grind (arith, nat_tests)))

pub returns-else-len-keys_of-clause-exact : goal.returns-else-len-keys_of-clause-exact
returns-else-len-keys_of-clause-exact c =
    no-block (map view c.args.behind.now) c.args.table.now.entries c.in-Some.steps.now c.times_in-times.result c.leads_on-leads.result c.in-Some.ensures c.times_in-times.ensures.exact
    (c.leads_on-leads.ensures ∙ ap (leads_on (map view c.args.behind.now)) c.text_at.ensures) (first_of (search rules, grind (arith, nat_tests)))
