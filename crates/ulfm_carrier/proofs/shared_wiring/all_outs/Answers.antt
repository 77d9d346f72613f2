use Rattle.std.proofs.Common.{◌≡◌, ◌+◌, ℕ, length, ap, sym, ◌∙◌, arith, subst}
use Rattle.ulfm_carrier.proofs.Common.{at, Global, InboxPass, length_push, Vec, AreInlets, AreOuts, AreRows}
use Rattle.ulfm_carrier.proofs.Places.{each_push, none_at}
use Rattle.ulfm_carrier.proofs.SharedWires.{open_inlets, more_inlets, new_outs}
use Rattle.ulfm_carrier.proofs.shared_wiring.all_outs.Goals as goal

pub loop-init : goal.loop-init
loop-init c =
    let none = ap length c.in_ok-rows.ensures.items in record {
      many = c.requires.len.1;
      inlets = c.requires.inlets;
      rows = (none, λ s o here. absurd (none_at c.in_ok-rows.rows.items s none here));
    }

pub next_outs-requires-clause-inlets : goal.next_outs-requires-clause-inlets
next_outs-requires-clause-inlets c = open_inlets c.loop.counter c.args.inboxes.now.items c.loop.inlets.items c.loop.invariant.inlets

pub loop-preserved : goal.loop-preserved
loop-preserved c =
    let kept = c.loop.invariant in let boxes = c.args.inboxes.now.items in let inlets = c.loop.inlets.items in
    let rows = c.loop.rows.items in let outs = c.in_ok-outs.outs in let made = c.in_ok-outs.ensures in
    let more = c.in_ok-push.ensures.items in
    let P : ℕ → Vec InboxPass Global → Type 0 = λ s o. AreOuts s boxes o.items in record {
      many = made.len ∙ kept.many;
      inlets = more_inlets c.loop.counter boxes inlets c.next_outs.new.inlets.items made.len kept.inlets made.inlets;
      rows = (
        ap length more ∙ length_push rows outs ∙ ap (λ n. n + 1) kept.rows.0,
        λ s o here.
            each_push P rows outs c.loop.counter kept.rows.0 kept.rows.1 (new_outs c.loop.counter boxes inlets outs.items (kept.many ∙ sym c.requires.len.0) made.outs.0 kept.inlets made.outs.1) s o (subst (λ l. at l s o) more here),
      );
    }

pub returns-clause-inlets : goal.returns-clause-inlets
returns-clause-inlets c =
    let all : c.loop.counter ≡ c.args.n = omega (arith, c.loop-test.false, c.loop.auto) in
    subst (λ m. AreInlets m c.args.inboxes.now.items c.loop.inlets.items) all c.loop.invariant.inlets

pub returns-clause-rows : goal.returns-clause-rows
returns-clause-rows c =
    let all : c.loop.counter ≡ c.args.n = omega (arith, c.loop-test.false, c.loop.auto) in
    subst (λ m. AreRows m c.args.inboxes.now.items c.loop.rows.items) all c.loop.invariant.rows
