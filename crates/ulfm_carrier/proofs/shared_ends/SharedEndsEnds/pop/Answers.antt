use Rattle.std.proofs.Common.{[], ap, ◌∙◌, refl, sym, get_or, IfNone}
use Rattle.ulfm_carrier.proofs.Common.{map-set_same, pushed_with, OwnIsTakenAndHeldAt}
use Rattle.ulfm_carrier.proofs.Frames.{frame_with, own_pass}
use Rattle.ulfm_carrier.proofs.Passes.{name_same, names_same}
use Rattle.ulfm_carrier.proofs.Places.{at_read}
use Rattle.ulfm_carrier.proofs.Ready.{still_ready, receiver_kept, nothing_of_its_own, own_taken, none_of_others}
use Rattle.ulfm_carrier.proofs.shared_ends.SharedEndsEnds.pop.Given.{Over}
use Rattle.ulfm_carrier.proofs.shared_ends.SharedEndsEnds.pop.Goals.{After-self-1}
use Rattle.ulfm_carrier.proofs.shared_ends.SharedEndsEnds.pop.Goals as goal

pub receive_own-requires-clause-own : goal.receive_own-requires-clause-own
receive_own-requires-clause-own g c =
    let r = c.requires.ready in let me = c.args.self.now.me.number in
    let is = own_pass me r.passes (r.senders me) r.passes.inside (c.index-inbox.ensures ∙ ap (λ v. get_or v.items me c.index-inbox.result.now) c.deref.ensures) c.index_mut-own.ensures.value in
    (is.0, is.1)

pub returns-clause-name : goal.returns-clause-name
returns-clause-name g c =
    let e = c.args.self.now in let r = c.requires.ready in let me = e.me.number in let p = c.index_mut-own.result.now in
    let q = c.receive_own.new.own in let here = c.index_mut-own.ensures.value in let own = c.receive_own.ensures.own in
    let pass = c.receive_own.ensures.inlet in
    let names = names_same e.outs.items me p q here own.0 in
    let kept = receiver_kept c.receive_own.result e.inlet c.receive_own.new.inlet _ c.receive_own.ensures.taken in
    let is = own_pass me r.passes (r.senders me) r.passes.inside (c.index-inbox.ensures ∙ ap (λ v. get_or v.items me c.index-inbox.result.now) c.deref.ensures) here in
    ((λ n. record { place = me; outs = names n; inlet = name_same e.inlet c.receive_own.new.inlet pass n }), refl, refl, still_ready e _ me p q refl here own.0 pass (frame_with e _ _ _) refl r.passes.inside (own.1 ∙ sym is.1) own.2 kept.0 kept.1 kept.2 r)

pub returns-clause-pushed : goal.returns-clause-pushed
returns-clause-pushed g c = λ p.
    let e = c.args.self.now in
    ap (λ l. get_or l p []) (map-set_same pushed_with e.outs.items e.me.number c.receive_own.new.own c.index_mut-own.result.now (c.receive_own.ensures.own.3 ∙ ap pushed_with c.index_mut-own.ensures.value))

-- where nothing was found, nothing of its own is held
nothing : (g : Over) (c : After-self-1 g) → IfNone c.receive_own.result (OwnIsTakenAndHeldAt c.args.self.now [])
nothing g c =
    let e = c.args.self.now in let r = c.requires.ready in let me = e.me.number in let p = c.index_mut-own.result.now in
    let is = own_pass me r.passes (r.senders me) r.passes.inside (c.index-inbox.ensures ∙ ap (λ v. get_or v.items me c.index-inbox.result.now) c.deref.ensures) c.index_mut-own.ensures.value in
    nothing_of_its_own e p r.receiver.receiver.live (at_read e.outs.items me r.passes.inside c.index_mut-own.ensures.value) is.2 r.receiver.receiver.made c.receive_own.result _ _ c.receive_own.ensures.taken

pub returns-clause-own : goal.returns-clause-own
returns-clause-own g c = own_taken c.args.self.now c.receive_own.result (nothing g c)

pub returns-clause-no_others : goal.returns-clause-no_others
returns-clause-no_others g c = let e = c.args.self.now in none_of_others e c.receive_own.result e.outs.ok.0 (nothing g c)
