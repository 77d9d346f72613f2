-- An end stays ready, after its passes were used, and what it learned of its inbox.
use Rattle.std.proofs.Common.{◌≡◌, ◌<◌, ◌≤◌, ℕ, List, [], ◌++◌, Option, None, Some, length, set, get_or, ap, sym, ◌∙◌, arith, subst, append-nil, length-set, vec_capacity, Result, Ok, Err, MatchResult, OnErr, MatchOption, IfNone}
use Rattle.ulfm_carrier.proofs.Common.{arc_value, at, IsPassOf, IsSamePass, Item, items_from, nil_from_length, SharedEnds, shown, view, pushed_with, shared_pushed, shared_taken, OwnIsTakenAndHeldAt, IsReady, owner, TakesOne, Held}
use Rattle.ulfm_carrier.specs.Inbox.{Signed, InboxPass, OwnIsTakenAndHeld}
use Rattle.ulfm_carrier.proofs.Frames.{SameFrame, passes_same, receiver_same}
use Rattle.ulfm_carrier.proofs.Passes.{each_pass}
use Rattle.ulfm_carrier.proofs.Places.{view_or}
use Rattle.ulfm_carrier.proofs.Senders.{items-append}
use Rattle.ulfm_carrier.specs.declared.inbox.Role.TheVariants as role

-- one pass of an end was used, and maybe that by which it receives
module _ (e f : SharedEnds) (k : ℕ) (p q : InboxPass) (outs : f.outs.items ≡ set e.outs.items k q) (here : p ≡ get_or e.outs.items k p) (same : IsSamePass p q) (pass : IsSamePass e.inlet f.inlet) where
  pub still_ready : SameFrame e f → f.lists ≡ e.lists → k < length e.outs.items → (view q).role ≡ (view p).role → (view q).from ≡ (view p).from
      → (view f.inlet).role ≡ (view e.inlet).role → (view f.inlet).made ≡ (view e.inlet).made → (view f.inlet).receipts ≡ (view e.inlet).receipts → IsReady e → IsReady f
  still_ready frame lists low sends from receives made receipts r =
      let many : length f.outs.items ≡ length e.outs.items = ap length outs ∙ length-set e.outs.items k q in
      let number = ap (λ n. n.number) frame.me in record {
        passes = passes_same e f frame.me frame.inboxes many r.passes;
        senders = λ d inbox out at_d at_out.
            let h = each_pass (λ i o. IsPassOf i o × ((view o).role ≡ role.Sender) × ((view o).from ≡ e.me.number)) (arc_value e.inboxes).items e.outs.items k p q low here r.senders
            (λ i there old. ((same.0 ∙ old.0.0, same.2 ∙ old.0.1), sends ∙ old.1, from ∙ old.2)) d inbox out (subst (λ l. at l d inbox) frame.inboxes at_d) (subst (λ l. at l d out) outs at_out) in
            (h.0, h.1, h.2 ∙ sym number);
        receiver = record { receiver = receiver_same frame many pass receives made r.receiver.receiver; receipts = receipts ∙ r.receiver.receipts };
        no_list = ap (λ v. v.items) lists ∙ r.no_list;
        list_for_each = let a = ap (λ v. vec_capacity v) lists in let h = r.list_for_each in omega (arith, many, a, h);
      }

-- what a pop of a receiver tells of its pass
pub receiver_kept : (r : Option Signed) (p q : InboxPass) (H : Type 0) → MatchOption r ((view q ≡ view p) × H) (λ x. TakesOne (view p) x (view q))
    → ((view q).role ≡ (view p).role) × ((view q).made ≡ (view p).made) × ((view q).receipts ≡ (view p).receipts)
receiver_kept None p q H h = (ap (λ v. v.role) h.0, ap (λ v. v.made) h.0, ap (λ v. v.receipts) h.0)
receiver_kept (Some x) p q H h = (ap (λ v. v.role) h.taken, ap (λ v. v.made) h.taken, ap (λ v. v.receipts) h.taken)

-- what an end learns of its inbox, whose sender it is too
module _ (e : SharedEnds) (own : InboxPass) (live : e.gathered ≡ None) (there : at e.outs.items e.me.number own) (from : (view own).from ≡ e.me.number) (made : (view e.inlet).made ≡ length e.outs.items) where
  step : {held : List Signed} → OwnIsTakenAndHeld (owner (view own) (view e.inlet)) held → OwnIsTakenAndHeldAt e held
  step {held} h =
      let me = e.me.number in
      let taken : List Signed = (view e.inlet).taken in
      let shows : (p : ℕ) → items_from p taken ≡ shared_taken e p = λ p. ap (λ g. items_from p (shown g taken)) (sym live) in
      let parts : (p : ℕ) → items_from p (taken ++ held) ≡ shared_taken e p ++ items_from p held = λ p. items-append p taken held ∙ ap (λ l. l ++ items_from p held) (shows p) in record {
        own = view_or pushed_with e.outs.items me [] there ∙ h.own ∙ ap (λ n. items_from n (taken ++ held)) from ∙ parts me;
        no_others = λ p past. sym (parts p) ∙ h.no_others p (omega (arith, past, made));
      }

  pub own_refused : (r : Result Unit Item) {capacity room : ℕ} (N Q : Type 0) (P : Unit → Type 0) (x : Item) → room ≡ capacity
      → MatchResult r P (λ back. (back ≡ x) × Q × Held capacity (OwnIsTakenAndHeld (owner (view own) (view e.inlet)))) → OnErr r (N → Held room (OwnIsTakenAndHeldAt e))
  own_refused (Ok u) N Q P x is h = tt
  own_refused (Err b) N Q P x is h = λ _. (h.2.0, h.2.1 ∙ sym is, step h.2.2)

  -- nothing is found where the end took all that it pushed to itself
  pub nothing_of_its_own : (r : Option Signed) (A : Type 0) (B : Signed → Type 0) → MatchOption r (A × Held 0 (OwnIsTakenAndHeld (owner (view own) (view e.inlet)))) B → IfNone r (OwnIsTakenAndHeldAt e [])
  nothing_of_its_own (Some x) A B h = tt
  nothing_of_its_own None A B h = subst (OwnIsTakenAndHeldAt e) (nil_from_length h.1.0 h.1.1) (step h.1.2)

-- no item is held of an inbox that holds nothing
module _ (e : SharedEnds) where
  pub own_taken : (r : Option Signed) → IfNone r (OwnIsTakenAndHeldAt e []) → IfNone r (shared_pushed e e.me.number ≡ shared_taken e e.me.number)
  own_taken (Some x) h = tt
  own_taken None h = h.own ∙ append-nil (shared_taken e e.me.number)

  pub none_of_others : {n : ℕ} (r : Option Signed) → n ≡ length e.outs.items → IfNone r (OwnIsTakenAndHeldAt e []) → IfNone r ((p : ℕ) → n ≤ p → shared_taken e p ≡ [])
  none_of_others (Some x) is h = tt
  none_of_others None is h = λ p past. sym (append-nil (shared_taken e p)) ∙ h.no_others p (omega (arith, past, is))
