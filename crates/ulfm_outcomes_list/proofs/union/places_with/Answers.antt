use Rattle.std.proofs.Common.{sym}
use Rattle.ulfm_outcomes_list.specs.Union.{is_told_at, places_with}
use Rattle.ulfm_outcomes_list.specs.declared.place_list.Listed.{Listed}
use Rattle.ulfm_outcomes_list.proofs.Telling.{items-with, items-without}
use Rattle.ulfm_outcomes_list.proofs.union.places_with.Goals as goal

pub loop-one-preserved-then-not-is_told_at : goal.loop-one-preserved-then-not-is_told_at
loop-one-preserved-then-not-is_told_at c =
    let j = c.args.job.now in
    let listed = c.args.listed.now in
    let code = c.args.code.now in
    items-without (is_told_at j c.args.rank c.args.k code) (λ (one : Listed). one.place) listed c.loop-one.one-index c.one-item.result c.loop-one.places.items (places_with j listed c.args.rank c.args.k code)
    c.loop-one-test.true c.one-item.is c.loop-one.invariant (sym c.if-not-is_told_at.ensures)

pub loop-one-preserved : goal.loop-one-preserved
loop-one-preserved c =
    let j = c.args.job.now in
    let listed = c.args.listed.now in
    let code = c.args.code.now in
    items-with (is_told_at j c.args.rank c.args.k code) (λ (one : Listed). one.place) listed c.loop-one.one-index c.one-item.result c.loop-one.places.items (places_with j listed c.args.rank c.args.k code)
    c.loop-one-test.true c.one-item.is c.loop-one.invariant c.push.new.self.items (sym c.if-not-is_told_at.ensures) c.in_ok-push.ensures.items
