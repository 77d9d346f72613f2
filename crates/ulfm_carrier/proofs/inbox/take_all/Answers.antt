use Rattle.std.proofs.Common.{◌≡◌, ◌<◌, [], ◌∷◌, ◌++◌, length, refl, ap, sym, ◌∙◌, arith, subst}
use Rattle.ulfm_carrier.proofs.Common.{AllBelow, HasAllReceipts, ReceiptsAreTakenAndHeld, Signed, view}
use Rattle.ulfm_carrier.proofs.Rule.{hears_of}
use Rattle.ulfm_carrier.proofs.Emptied.{took_more, emptied}
use Rattle.ulfm_carrier.proofs.Places.{each_push}
use Rattle.ulfm_carrier.proofs.inbox.take_all.Goals as goal

pub len_as-count-requires-clause-rule : goal.len_as-count-requires-clause-rule
len_as-count-requires-clause-rule g c = hears_of _ _ c.requires.inlet.1

pub loop-preserved : goal.loop-preserved
loop-preserved g c =
    let kept = c.loop.invariant in let same = c.receive.ensures.inlet in let took = c.in-Some.ensures.taken in
    let x = c.in-Some.item in let v = view c.len_as-count.new.pass in let left = c.loop.left.items in
    let more = c.push_reserved.ensures.items in
    let low : x.0.number < v.made = subst (λ m. x.0.number < m) (ap (λ u. u.made) kept.taken) took.made in
    let below : AllBelow v.made (left ++ x ∷ []) = each_push (λ _ (y : Signed). y.0.number < v.made) left x (length left) refl kept.senders low in record {
      inlet = (same.0 ∙ kept.inlet.0, same.1 ∙ kept.inlet.1, same.2 ∙ kept.inlet.2);
      taken = took_more v left _ x kept.taken took.taken more;
      many = omega (arith, c.push_reserved.ensures.len, kept.many);
      room = c.push_reserved.ensures.capacity ∙ kept.room;
      senders = subst (AllBelow v.made) (sym more) below;
      held = (took.held, took.flows);
    }

pub returns-clause-all : goal.returns-clause-all
returns-clause-all g c =
    let kept = c.loop.invariant in let old = view c.args.inlet.now in let v = view c.len_as-count.new.pass in
    let same = c.len_as-count.ensures.queue.1 in let rule = c.len_as-count.ensures.rule.1 in
    let receipts : HasAllReceipts v = subst HasAllReceipts (sym same) c.requires.receipts in
    let before : ReceiptsAreTakenAndHeld v rule.0 = subst (λ u. ReceiptsAreTakenAndHeld u rule.0) (sym same) rule.2 in
    let many : length rule.0 ≡ length c.loop.left.items = omega (arith, rule.1, kept.many, c.loop.left.ok, c.loop-test.false, c.loop.auto) in
    emptied v c.loop.left.items rule.0 kept.held.0 kept.taken receipts kept.senders many before kept.held.1
