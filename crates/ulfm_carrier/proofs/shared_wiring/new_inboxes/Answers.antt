use Rattle.std.proofs.Common.{◌≡◌, ◌+◌, ◌∷◌, [], ◌++◌, ℕ, List, length, ap, sym, ◌∙◌, subst}
use Rattle.ulfm_carrier.proofs.Common.{InboxPass, IsPassOf, length_push, ruled_capacity, view, Queue, receiver_of, AreInboxes, AreInlets}
use Rattle.ulfm_carrier.proofs.Places.{each_push}
use Rattle.ulfm_carrier.proofs.SharedWires.{each_pair}
use Rattle.ulfm_carrier.proofs.shared_wiring.new_inboxes.Goals as goal

pub loop-preserved : goal.loop-preserved
loop-preserved c =
    let kept = c.loop.invariant in let boxes = c.loop.inboxes.items in let inlets = c.loop.inlets.items in
    let box = c.in_ok-inbox.inbox in let inlet = c.in_ok-inbox.inlet in let made = c.in_ok-inbox.ensures in
    let more = c.in_ok-push.ensures.items in let more' = c.in_ok-push-2.ensures.items in
    let all = each_push (λ (_ : ℕ) (i : Queue). ruled_capacity i ≡ c.args.capacity) boxes box c.loop.counter kept.many kept.inboxes made.0 in
    let both = each_pair (λ (_ : ℕ) (i : Queue) (p : InboxPass). IsPassOf i p × (view p ≡ receiver_of 0)) boxes inlets box inlet kept.many kept.as_many kept.inlets (made.1, made.2) in
    let A : List Queue → Type 0 = λ l. AreInlets 0 l (inlets ++ inlet ∷ []) in
    record {
      many = ap length more ∙ length_push boxes box ∙ ap (λ n. n + 1) kept.many;
      as_many = ap length more' ∙ length_push inlets inlet ∙ ap (λ n. n + 1) kept.as_many;
      inboxes = subst (AreInboxes c.args.capacity) (sym more) all;
      inlets = subst (λ l. AreInlets 0 c.push.new.self.items l) (sym more') (subst A (sym more) both);
    }
