use Rattle.std.proofs.Common.{arith, ◌∙◌}
use Rattle.ulfm_answer.proofs.Positions.{found_more, few_more}
use Rattle.ulfm_script.proofs.members.positions_in.Goals as goal

pub loop-k-preserved : goal.loop-k-preserved
loop-k-preserved c = record {
  found = found_more c.args.group.now c.args.others.now c.loop-k.k c.position_in.result c.loop-k.positions.items c.push_found.new.positions.items (omega (arith, c.size-k-end.ensures.size)) c.position_in.ensures c.push_found.ensures.items c.loop-k.invariant.found;
  few = few_more c.position_in.result c.loop-k.positions.items c.push_found.new.positions.items c.loop-k.k c.push_found.ensures.items c.loop-k.invariant.few;
  inline = c.push_found.ensures.capacity ∙ c.loop-k.invariant.inline;
}
