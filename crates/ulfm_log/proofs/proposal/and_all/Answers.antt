use Rattle.std.proofs.Common.{◌<◌, length, arith, take, get_or, ap, sym, ◌∙◌}
use Rattle.std.proofs.lemmas.List.{take_more}
use Rattle.ulfm_base.specs.Decision.{and_all, and_entry}
use Rattle.ulfm_log.proofs.Proposing.{and_entries-push}
use Rattle.ulfm_log.proofs.proposal.and_all.Goals as goal

pub loop-entry-preserved : goal.loop-entry-preserved
loop-entry-preserved c =
    let listed = c.args.listed.now in
    let k = c.loop-entry.entry-index in
    let e = get_or listed k c.entry-item.result in
    let inside : c.loop-entry.entry-index < length c.args.listed.now = omega (arith, c.loop-entry-test.true, c.told-listed) in
    c.and_entry-bits.ensures ∙ ap (λ b. and_entry b e) c.loop-entry.invariant ∙ sym (and_entries-push 4294967295 (take k listed) e) ∙ ap and_all (sym (take_more listed k _ inside))
