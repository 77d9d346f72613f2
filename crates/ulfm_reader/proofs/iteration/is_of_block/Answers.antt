use Rattle.std.proofs.Common.{rules, arith, ◌≡◌, true, false, sym, ◌∙◌}
use Rattle.std.proofs.lemmas.Grind.{common_steps}
use Rattle.std.proofs.lemmas.Int.{to_z-of_z}
use Rattle.toml.specs.Data.{as_table}
use Rattle.ulfm_reader.proofs.WrittenOut.{view}
use Rattle.ulfm_reader.proofs.Iterations.{any-here, any-past}
use Rattle.ulfm_reader.specs.Iterations.{is_named}
use Rattle.ulfm_reader.proofs.iteration.is_of_block.Goals as goal

pub returns-then-is_named : goal.returns-then-is_named
returns-then-is_named c =
    let so_far = simp (to_z-of_z, c.ranges.rank) at c.loop-step.invariant in
    let named : is_named c.args.rank c.args.name.now (as_table (view c.step-item.result)) ≡ true = first_of (search rules, cc, grind (arith, common_steps)) in
    sym (so_far ∙ any-here (λ d. is_named c.args.rank c.args.name.now (as_table d)) c.args.block.now c.loop-step.step-index c.step-item.result c.loop-step-test.true c.step-item.is named)

pub loop-step-preserved : goal.loop-step-preserved
loop-step-preserved c =
    let so_far = simp (to_z-of_z, c.ranges.rank) at c.loop-step.invariant in
    let other : is_named c.args.rank c.args.name.now (as_table (view c.step-item.result)) ≡ false = first_of (search rules, cc, grind (arith, common_steps)) in
    simp (to_z-of_z, c.ranges.rank) (so_far ∙ any-past (λ d. is_named c.args.rank c.args.name.now (as_table d)) c.args.block.now c.loop-step.step-index c.step-item.result c.loop-step-test.true c.step-item.is other)
