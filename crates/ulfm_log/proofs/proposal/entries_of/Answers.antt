use Rattle.std.proofs.Common.{◌≡◌, ◌<◌, ◌∙◌, sym, ap, arith, cond, true, get_or, length, length-set, None}
use Rattle.std.proofs.lemmas.List.{get_or_default}
use Rattle.ulfm_log.proofs.Common.{entry_at, is_member}
use Rattle.ulfm_log.proofs.Proposing.{filled_more}
use Rattle.ulfm_log.proofs.proposal.entries_of.Goals as goal

pub loop-number-preserved : goal.loop-number-preserved
loop-number-preserved c =
    let listed = c.loop-number.listed in
    let number = c.loop-number.number in
    let entry = get_or c.args.entries.now number c.index-entries-number.result in
    let inside : number < length c.args.entries.now = omega (arith, c.loop-number-test.true, c.told-entries) in
    let read : entry ≡ entry_at c.args.entries.now number = get_or_default c.args.entries.now number _ None inside in
    let member : is_member c.args.group.now number ≡ true = sym c.contains.ensures ∙ c.if-not-contains.false in (
      length-set listed number entry ∙ c.loop-number.invariant.0,
      filled_more (λ k. cond (is_member c.args.group.now k) (entry_at c.args.entries.now k) None) None listed number entry (omega (arith, c.loop-number-test.true, c.loop-number.invariant.0)) (read ∙ ap (λ b. cond b (entry_at c.args.entries.now number) None) (sym member)) c.loop-number.invariant.1,
    )
