-- Ends of one call while all of them close to one: what each may do.
use Rattle.std.proofs.Common.{◌≡◌, ◌<◌, ◌≤◌, ℕ, List, [], length, map, get_or, refl, ap, sym, ◌∙◌, arith, slice_get}
use Rattle.ulfm_carrier.proofs.Common.{AreOpenFrom, at, at_view, InboxPass, length-map, SharedEnds, there, pass_name, shared_name, shared_pushed, HasPasses, MaySend, IsReceiver, OneCall}
use Rattle.ulfm_carrier.proofs.Places.{view_or}
use Rattle.ulfm_carrier.proofs.Frames.{as_many_outs, passes_same, sends_same, receiver_same}
use Rattle.ulfm_carrier.proofs.Heard.{Hears}

module _ (all : List SharedEnds) (family : OneCall (map shared_name all)) where
  pub all_outs : (k : ℕ) {e : SharedEnds} → at all k e → length e.outs.items ≡ length all
  all_outs k {e} here = sym (length-map e.outs.items pass_name) ∙ family.outs k (shared_name e) (at_view shared_name all k e here) ∙ length-map all shared_name

  pub number : (k : ℕ) {e : SharedEnds} → at all k e → e.me.number ≡ k
  number k {e} here = family.placed k (shared_name e) (at_view shared_name all k e here)

  -- the pass of i for the inbox j is of the queue of j
  pub same_queue : (i j : ℕ) (x y : SharedEnds) (out : InboxPass) → at all i x → at all j y → at x.outs.items j out → out.table_id ≡ y.inlet.table_id
  same_queue i j x y out at_i at_j here = family.joined i j (shared_name x) (shared_name y) (pass_name out) (at_view shared_name all i x at_i) (at_view shared_name all j y at_j) (at_view pass_name x.outs.items j out here)

module _ {all : List SharedEnds} {place closed heard k : ℕ} {e f : SharedEnds} (here : at all k e) (h : Hears all place closed heard k e f) where
  pub still_passes : AreOpenFrom place all → HasPasses f
  still_passes still = passes_same e f h.frame.me h.frame.inboxes (as_many_outs e f h.names) (still k e here).passes

  pub outs_there : OneCall (map shared_name all) → place < length all → place < length f.outs.items
  outs_there family low = let a = as_many_outs e f h.names in let b = all_outs all family k here in omega (arith, a, b, low)

  pub may_close : AreOpenFrom place all → closed ≤ k → MaySend f place
  may_close still late = sends_same e f place h.frame.me h.frame.inboxes (ap (λ v. slice_get v.items place) (h.waiting late)) ((still k e here).senders place (omega arith))

  -- what is left of a sender that closed is of the receiver's queue
  pub receipt_queue : OneCall (map shared_name all) → place < length all → (r g : SharedEnds) (receipt : InboxPass) → closed ≤ k → at all place r → g.inlet.table_id ≡ r.inlet.table_id
      → ((out : InboxPass) → at f.outs.items place out → (receipt.table_id ≡ out.table_id) × (receipt.me.1 ≡ [])) → (receipt.table_id ≡ g.inlet.table_id) × (receipt.me.1 ≡ [])
  receipt_queue family low r g receipt late at_place pass queue =
      let out = there f.outs.items place (outs_there family low) in
      let q = queue out.0 out.1 in
      (q.0 ∙ same_queue all family k place e r out.0 here at_place (ap (λ v. slice_get v.items place) (sym (h.waiting late)) ∙ out.1) ∙ sym pass, q.1)

  -- it tells what the end pushed
  pub receipt_pushed : shared_pushed f place ≡ get_or (map (λ x. shared_pushed x place) all) k []
  receipt_pushed = ap (λ l. get_or l place []) h.pushed ∙ sym (view_or (λ x. shared_pushed x place) all k [] here)

pub may_hear : {all : List SharedEnds} {place closed heard : ℕ} {e f : SharedEnds} → at all place e → Hears all place closed heard place e f → AreOpenFrom place all → IsReceiver f
may_hear {place = place} {e = e} {f = f} here h still =
    let is = h.receipts refl in
    receiver_same h.frame (as_many_outs e f h.names) h.pass (ap (λ v. v.role) is) (ap (λ v. v.made) is) ((still place e here).receiver (omega arith)).receiver
