use Rattle.std.proofs.Common.{◌<◌, ap, ◌∙◌, refl, sym, arith, length, get_or, subst}
use Rattle.ulfm_carrier.proofs.Common.{arc_value, at, pass_name, pushed_with, ruled_capacity}
use Rattle.ulfm_carrier.proofs.Places.{at_read, view_other, view_or}
use Rattle.ulfm_carrier.proofs.Frames.{frame_with, own_pass}
use Rattle.ulfm_carrier.proofs.Passes.{name_same, names_same, pushed_more, sender_same}
use Rattle.ulfm_carrier.proofs.Ready.{still_ready, own_refused}
use Rattle.ulfm_carrier.proofs.shared_ends.SharedEndsEnds.push.Goals as goal

-- The item goes to another rank.

pub send-requires-clause-out : goal.send-requires-clause-out
send-requires-clause-out g c =
    let e = c.args.self.now in let r = c.requires.ready in
    own_pass c.args.dest r.passes (r.senders c.args.dest) (omega (arith, c.requires.dest, e.outs.ok)) (c.index-inbox.ensures ∙ ap (λ v. get_or v.items c.args.dest c.index-inbox.result.now) c.deref.ensures) c.index_mut-out.ensures.value

pub returns-clause-name : goal.returns-clause-name
returns-clause-name g c =
    let e = c.args.self.now in let p = c.index_mut-out.result.now in let q = c.send.new.out in
    let here = c.index_mut-out.ensures.value in let same = c.send.ensures.out in
    let kept = sender_same c.send.result p q c.args.item c.send.ensures.pushed in
    let names = names_same e.outs.items c.args.dest p q here same in
    ((λ i. record { place = e.me.number; outs = names i; inlet = pass_name e.inlet }), refl, refl, still_ready e _ c.args.dest p q refl here same (refl, refl, refl) (frame_with e _ _ _) refl (omega (arith, c.requires.dest, e.outs.ok)) kept.0 kept.1 refl refl refl c.requires.ready)

pub returns-clause-others : goal.returns-clause-others
returns-clause-others g c = λ p apart. view_other pushed_with c.args.self.now.outs.items c.args.dest p c.send.new.out _ apart

pub returns-clause-pushed : goal.returns-clause-pushed
returns-clause-pushed g c =
    let e = c.args.self.now in let p = c.index_mut-out.result.now in
    let kept = sender_same c.send.result p c.send.new.out c.args.item c.send.ensures.pushed in
    pushed_more c.send.result e.outs.items c.args.dest c.send.new.out c.args.item _ (omega (arith, c.requires.dest, e.outs.ok)) c.index_mut-out.ensures.value kept.2

-- The item goes to the rank itself.

pub returns-then-dest-self-clause-name : goal.returns-then-dest-self-clause-name
returns-then-dest-self-clause-name g c =
    let e = c.args.self.now in let r = c.requires.ready in
    let low : c.args.dest < length e.outs.items = omega (arith, c.requires.dest, e.outs.ok) in
    let p = c.index_mut-out.result.now in let q = c.send_own.new.own in let here = c.index_mut-out.ensures.value in
    let is = own_pass c.args.dest r.passes (r.senders c.args.dest) low (c.index-inbox.ensures ∙ ap (λ v. get_or v.items c.args.dest c.index-inbox.result.now) c.deref.ensures) here in
    let own = c.send_own.ensures.own in
    let inlet = c.send_own.ensures.inlet in (
      (λ n. record { place = e.me.number; outs = (names_same e.outs.items c.args.dest p q here own.0) n; inlet = name_same e.inlet c.send_own.new.inlet inlet.0 n }),
      refl,
      refl,
      still_ready e _ c.args.dest p q refl here own.0 inlet.0 (frame_with e _ _ _) refl low (own.1 ∙ sym is.1) own.2 (ap (λ v. v.role) inlet.1) (ap (λ v. v.made) inlet.1) (ap (λ v. v.receipts) inlet.1) r,
    )

pub returns-then-dest-self-clause-others : goal.returns-then-dest-self-clause-others
returns-then-dest-self-clause-others g c = λ p apart. view_other pushed_with c.args.self.now.outs.items c.args.dest p c.send_own.new.own _ apart

pub returns-then-dest-self-clause-pushed : goal.returns-then-dest-self-clause-pushed
returns-then-dest-self-clause-pushed g c =
    let e = c.args.self.now in
    pushed_more c.send_own.result e.outs.items c.args.dest c.send_own.new.own c.args.item _ (omega (arith, c.requires.dest, e.outs.ok)) c.index_mut-out.ensures.value c.send_own.ensures.pushed

pub returns-then-dest-self-clause-own : goal.returns-then-dest-self-clause-own
returns-then-dest-self-clause-own g c =
    let e = c.args.self.now in let r = c.requires.ready in let inboxes = (arc_value e.inboxes).items in
    let i = c.index-inbox.result.now in let p = c.index_mut-out.result.now in
    let low : c.args.dest < length e.outs.items = omega (arith, c.requires.dest, e.outs.ok) in
    let box = at_read inboxes c.args.dest (omega (arith, low, r.passes.inbox_for_each)) (c.index-inbox.ensures ∙ ap (λ v. get_or v.items c.args.dest i) c.deref.ensures) in
    let here = at_read e.outs.items c.args.dest low c.index_mut-out.ensures.value in
    let there : at e.outs.items e.me.number p = subst (λ k. at e.outs.items k p) c.if-dest-self.true here in
    own_refused e p r.receiver.receiver.live there (r.senders c.args.dest i p box here).2 r.receiver.receiver.made c.send_own.result _ _ _ c.args.item (view_or (λ inbox. ruled_capacity inbox) inboxes c.args.dest 0 box)
    c.send_own.ensures.pushed
