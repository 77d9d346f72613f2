use Rattle.std.proofs.Common.{◌≤◌, ◌∙◌, List, length, ap, sym, subst, arith, Some}
use Rattle.std.proofs.lemmas.Bool.{false≢true}
use Rattle.std.proofs.lemmas.Option.{slice_get-get_or}
use Rattle.ulfm_base.specs.declared.item.Item.{Item}
use Rattle.ulfm_base.specs.declared.rank.WorldRank.{WorldRank}
use Rattle.ulfm_base.specs.Items.{items_from}
use Rattle.ulfm_base.specs.Lists.{at}
use Rattle.ulfm_run.proofs.Leftover.{one_within, one_more}
use Rattle.ulfm_run.proofs.left.are_within.Goals as goal

pub returns-then-not-is_within : goal.returns-then-not-is_within
returns-then-not-is_within c =
    let n = c.loop-inbox.inbox-index in
    let here : at c.args.inboxes.now n c.inbox-item.result = slice_get-get_or c.args.inboxes.now n c.inbox-item.result (omega (arith, c.loop-inbox-test.true, c.loop-inbox.auto.inbox-index-end)) ∙ ap Some (sym c.inbox-item.is) in (
      (λ h. absurd (false≢true h)),
      λ all. sym c.if-not-is_within.true ∙ c.is_within.ensures.1 (λ s.
          subst (λ (xs : List (WorldRank × Item)). length (items_from s xs) ≤ c.args.places) (sym c.deref.ensures.value)
          (one_within c.args.places c.args.inboxes.now all n c.inbox-item.result here s)),
    )

pub loop-inbox-preserved : goal.loop-inbox-preserved
loop-inbox-preserved c =
    let n = c.loop-inbox.inbox-index in
    let here : at c.args.inboxes.now n c.inbox-item.result = slice_get-get_or c.args.inboxes.now n c.inbox-item.result (omega (arith, c.loop-inbox-test.true, c.loop-inbox.auto.inbox-index-end)) ∙ ap Some (sym c.inbox-item.is) in
    one_more c.args.places c.args.inboxes.now n c.loop-inbox.invariant c.inbox-item.result here
    (λ s. subst (λ (xs : List (WorldRank × Item)). length (items_from s xs) ≤ c.args.places) c.deref.ensures.value (c.is_within.ensures.0 c.if-not-is_within.false s))
