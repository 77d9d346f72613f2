use Rattle.std.proofs.Common.{◌≡◌, ◌<◌, ℕ, List, length, map, vec_len, ap, sym, ◌∙◌, arith, subst}
use Rattle.ulfm_carrier.proofs.Common.{AllFresh, arc_value, at, Global, SharedEnds, Vec, shared_name, shared_pushed, shared_taken, inbox_capacity, IsReady, OneCall, Queue, AreInboxes, AreMade}
use Rattle.ulfm_carrier.proofs.SharedWired.{if_ok, made_family, made_fresh, made_capacities}
use Rattle.ulfm_carrier.proofs.shared_wiring.shared.Goals as goal

pub returns-clause-family : goal.returns-clause-family
returns-clause-family c =
    let n = length c.all_outs.new.inlets.items in let is = c.all_outs.ensures.len in
    let boxes : List Queue = (arc_value c.in_ok-inboxes-2.inboxes).items in
    let same : boxes ≡ c.in_ok-inboxes.inboxes.items = ap (λ v. v.items) c.in_ok-inboxes-2.ensures.ok in
    let many : length boxes ≡ n = ap length same ∙ c.in_ok-inboxes.ensures.len.0 ∙ sym is in
    let C = AreInboxes c.args.capacity in
    let capacities : AreInboxes c.args.capacity boxes = subst C (sym same) c.in_ok-inboxes.ensures.inboxes in
    let M : Vec SharedEnds Global → Type 0 = λ ends. AreMade n c.args.capacity boxes ends.items in
    if_ok M (λ ends. OneCall (map shared_name ends.items)) c.wired.result (λ ends made. made_family n c.args.capacity boxes many capacities ends.items made (omega arith)) c.wired.ensures.made

pub returns-clause-fresh : goal.returns-clause-fresh
returns-clause-fresh c =
    let n = length c.all_outs.new.inlets.items in let is = c.all_outs.ensures.len in
    let boxes : List Queue = (arc_value c.in_ok-inboxes-2.inboxes).items in
    let same : boxes ≡ c.in_ok-inboxes.inboxes.items = ap (λ v. v.items) c.in_ok-inboxes-2.ensures.ok in
    let many : length boxes ≡ n = ap length same ∙ c.in_ok-inboxes.ensures.len.0 ∙ sym is in
    let C = AreInboxes c.args.capacity in
    let capacities : AreInboxes c.args.capacity boxes = subst C (sym same) c.in_ok-inboxes.ensures.inboxes in
    let M : Vec SharedEnds Global → Type 0 = λ ends. AreMade n c.args.capacity boxes ends.items in
    let Q : Vec SharedEnds Global → Type 0 = λ ends. AllFresh (λ e. vec_len e.outs) shared_pushed shared_taken IsReady ends.items in
    if_ok M Q c.wired.result (λ ends made. made_fresh n c.args.capacity boxes many capacities ends.items made (omega arith)) c.wired.ensures.made

pub returns-clause-capacities : goal.returns-clause-capacities
returns-clause-capacities c =
    let n = length c.all_outs.new.inlets.items in let is = c.all_outs.ensures.len in
    let boxes : List Queue = (arc_value c.in_ok-inboxes-2.inboxes).items in
    let same : boxes ≡ c.in_ok-inboxes.inboxes.items = ap (λ v. v.items) c.in_ok-inboxes-2.ensures.ok in
    let many : length boxes ≡ n = ap length same ∙ c.in_ok-inboxes.ensures.len.0 ∙ sym is in
    let C = AreInboxes c.args.capacity in
    let capacities : AreInboxes c.args.capacity boxes = subst C (sym same) c.in_ok-inboxes.ensures.inboxes in
    let M : Vec SharedEnds Global → Type 0 = λ ends. AreMade n c.args.capacity boxes ends.items in
    let Q : Vec SharedEnds Global → Type 0 = λ ends. (k d : ℕ) (e : SharedEnds) → at ends.items k e → d < c.args.n → inbox_capacity e d ≡ c.args.capacity in
    if_ok M Q c.wired.result (λ ends made k d e here low. made_capacities n c.args.capacity boxes many capacities ends.items made k d e here (omega (arith, low, is))) c.wired.ensures.made
