-- What an end may do, as far as its passes stay the same.
use Rattle.std.proofs.Common.{◌≡◌, ◌<◌, ℕ, length, map, get_or, vec_capacity, refl, ap, sym, ◌∙◌, arith, slice_get}
use Rattle.ulfm_carrier.proofs.Common.{arc_value, Global, InboxPass, IsPassOf, IsSamePass, Item, length-map, Queue, SharedEnds, Vec, view, WorldRank, pass_name, HasPasses, MaySend, IsReceiver}
use Rattle.ulfm_carrier.proofs.Places.{at_read}
use Rattle.ulfm_carrier.specs.declared.inbox.Role.TheVariants as role

-- the two ends are one but for their passes and their room for lists
pub record SameFrame (e f : SharedEnds) : Type 0 where
  pub me : f.me ≡ e.me
  pub inboxes : (arc_value f.inboxes).items ≡ (arc_value e.inboxes).items
  pub gathered : f.gathered ≡ e.gathered
  pub left : f.left ≡ e.left

pub frame_twice : {e f g : SharedEnds} → SameFrame e f → SameFrame f g → SameFrame e g
frame_twice a b = record { me = b.me ∙ a.me; inboxes = b.inboxes ∙ a.inboxes; gathered = b.gathered ∙ a.gathered; left = b.left ∙ a.left }

pub frame_with : (e : SharedEnds) (outs : Vec InboxPass Global) (inlet : InboxPass) (lists : Vec (Vec (WorldRank × Item) Global) Global) → SameFrame e (record e { outs = outs; inlet = inlet; lists = lists })
frame_with e outs inlet lists = record { me = refl; inboxes = refl; gathered = refl; left = refl }

pub as_many_outs : (e f : SharedEnds) → map pass_name f.outs.items ≡ map pass_name e.outs.items → length f.outs.items ≡ length e.outs.items
as_many_outs e f names = sym (length-map f.outs.items pass_name) ∙ ap length names ∙ length-map e.outs.items pass_name

pub passes_same : (e f : SharedEnds) → f.me ≡ e.me → (arc_value f.inboxes).items ≡ (arc_value e.inboxes).items → length f.outs.items ≡ length e.outs.items → HasPasses e → HasPasses f
passes_same e f me inboxes many h =
    let number = ap (λ r. r.number) me in
    let inside = h.inside in
    let few = h.few in record {
      inside = omega (arith, number, many, inside);
      few = omega (arith, many, few);
      inbox_for_each = ap length inboxes ∙ h.inbox_for_each ∙ sym many;
    }

pub sends_same : (e f : SharedEnds) (d : ℕ) → f.me ≡ e.me → (arc_value f.inboxes).items ≡ (arc_value e.inboxes).items → slice_get f.outs.items d ≡ slice_get e.outs.items d → MaySend e d → MaySend f d
sends_same e f d me inboxes same h = λ inbox out at_d at_out.
    let r = h inbox out (ap (λ l. slice_get l d) (sym inboxes) ∙ at_d) (sym same ∙ at_out) in (r.0, r.1, r.2 ∙ ap (λ n. n.number) (sym me))

-- also where it was told of closed senders
pub receiver_same : {e f : SharedEnds} → SameFrame e f → length f.outs.items ≡ length e.outs.items → IsSamePass e.inlet f.inlet → (view f.inlet).role ≡ (view e.inlet).role → (view f.inlet).made ≡ (view e.inlet).made → IsReceiver e → IsReceiver f
receiver_same {e} {f} same many pass role made h = record {
  own = λ inbox here.
      let there = ap (λ a. slice_get (arc_value f.inboxes).items a) (ap (λ r. r.number) (sym same.me)) in
      let r = h.own inbox (ap (λ l. slice_get l e.me.number) (sym same.inboxes) ∙ there ∙ here) in
      let room = ap (λ v. vec_capacity v) same.left in ((pass.0 ∙ r.0.0, pass.2 ∙ r.0.1), omega (arith, r.1, room));
  receives = role ∙ h.receives;
  made = made ∙ h.made ∙ sym many;
  live = same.gathered ∙ h.live;
  empty = ap (λ v. v.items) same.left ∙ h.empty;
}

pub same_inlet : (e f : SharedEnds) → f.inlet ≡ e.inlet → IsSamePass e.inlet f.inlet
same_inlet e f is = (ap (λ p. p.table_id) is, ap (λ p. p.id) is, ap (λ p. p.me.1) is)

-- the pass of a sender that is read, for the inbox that is read
pub own_pass : {e : SharedEnds} (d : ℕ) {inbox : Queue} {out : InboxPass} → HasPasses e → MaySend e d → d < length e.outs.items → inbox ≡ get_or (arc_value e.inboxes).items d inbox → out ≡ get_or e.outs.items d out
    → IsPassOf inbox out × ((view out).role ≡ role.Sender) × ((view out).from ≡ e.me.number)
own_pass {e} d {inbox} {out} passes sends low box here = sends inbox out (at_read (arc_value e.inboxes).items d (omega (arith, low, passes.inbox_for_each)) box) (at_read e.outs.items d low here)
