use Rattle.std.proofs.Common.{◌∙◌, List, ap, refl, arith, length}
use Rattle.ulfm_base.specs.declared.item.Item.{Item}
use Rattle.ulfm_c.proofs.Pushing.{go-ranks, goes-none, goes-none-by, goes-one, goes-then}
use Rattle.ulfm_c.proofs.process.Process.push_to.Goals as goal

pub loop-moved-init : goal.loop-moved-init
loop-moved-init c = (goes-none c.args.self.now.view, λ p other stuck. stuck, refl)

pub push_one-requires : goal.push_one-requires
push_one-requires c = let inv = c.loop-moved.invariant in let ranks = go-ranks inv.0.went _ _ inv.0.out in omega (arith, c.requires, ranks)

pub loop-moved-smaller : goal.loop-moved-smaller
loop-moved-smaller c = let went = c.loop-moved-test.ensures.pushes.went refl in omega (arith, ap (λ (xs : List Item). length xs) went.1.front)

pub loop-moved-preserved : goal.loop-moved-preserved
loop-moved-preserved c =
    let inv = c.loop-moved.invariant in let push = c.loop-moved-test.ensures.pushes in
    let ranks = go-ranks inv.0.went _ _ inv.0.out in (
      goes-then _ inv.0 (goes-one (omega (arith, c.requires, ranks)) push) refl,
      λ p other stuck. push.others p other (inv.1 p other stuck),
      c.loop-moved-test.ensures.room ∙ inv.2,
    )

pub returns-clause-room : goal.returns-clause-room
returns-clause-room c = c.loop-moved-test.ensures.room ∙ c.loop-moved.invariant.2

pub returns-clause-pushes : goal.returns-clause-pushes
returns-clause-pushes c =
    let inv = c.loop-moved.invariant in let push = c.loop-moved-test.ensures.pushes in
    record { goes_on = goes-then _ inv.0 (goes-none-by push) refl; stuck = push.stuck refl; others = λ p other stuck. push.others p other (inv.1 p other stuck) }
