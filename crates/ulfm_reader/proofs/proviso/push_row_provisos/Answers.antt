use Rattle.std.proofs.Common.{sym, ap, ◌∙◌}
use Rattle.ulfm_reader.proofs.Provided.{provisos-done, provisos-end, provisos-on}
use Rattle.ulfm_reader.specs.JobText.{in_job}
use Rattle.ulfm_reader.proofs.proviso.push_row_provisos.Goals as goal

pub returns-in-Err : goal.returns-in-Err
returns-in-Err c = λ no_memory. ap in_job (sym c.loop-number.invariant) ∙ provisos-end c.loop-number.number c.loop-number.provisos.items c.args.values.now _ _ c.loop-number.number c.loop-number-test.true c.index-values-number.is (c.in-Err.ensures no_memory)

pub loop-number-preserved : goal.loop-number-preserved
loop-number-preserved c = sym (provisos-on c.loop-number.number c.loop-number.provisos.items c.push_row_proviso.new.provisos.items c.args.values.now _ c.loop-number.number c.loop-number-test.true c.index-values-number.is c.in-Ok.ensures) ∙ c.loop-number.invariant

pub returns : goal.returns
returns c = ap in_job (sym c.loop-number.invariant ∙ provisos-done c.loop-number.number c.loop-number.provisos.items c.args.values.now c.loop-number.number c.loop-number-test.false)
