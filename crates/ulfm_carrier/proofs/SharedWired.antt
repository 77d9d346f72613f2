-- With all passes made, the ends are those of one call, and nothing was done with them.
use Rattle.std.proofs.Common.{◌≡◌, ◌<◌, ◌≤◌, ℕ, List, length, map, vec_len, ap, sym, ◌∙◌, arith, subst, Result, Ok, Err, IfOk}
use Rattle.ulfm_carrier.proofs.Common.{AllFresh, arc_value, at, InboxPass, items_from, length-map, ruled_capacity, SharedEnds, shown, slice_get_within, there, pass_name, pushed_with, shared_name, shared_pushed, shared_taken, inbox_capacity, IsReady, OneCall, Queue, AreInboxes, AreMade}
use Rattle.ulfm_carrier.proofs.Places.{view_or}
use Rattle.ulfm_carrier.proofs.Whole.{at_map, all_empty}

pub if_ok : {A E : Type 0} (P Q : A → Type 0) (r : Result A E) → ((x : A) → P x → Q x) → IfOk r P → IfOk r Q
if_ok P Q (Ok x) f h = f x h
if_ok P Q (Err e) f h = h

module _ (n capacity : ℕ) (inboxes : List Queue) (many : length inboxes ≡ n) (capacities : AreInboxes capacity inboxes) (ends : List SharedEnds) (made : AreMade n capacity inboxes ends) where
  below : (k : ℕ) {e : SharedEnds} → at ends k e → k < n
  below k {e} here = omega (arith, slice_get_within ends k e here, made.as_many)

  outs_all : (k : ℕ) {e : SharedEnds} → at ends k e → length e.outs.items ≡ n
  outs_all k {e} here = (made.each k e here).outs.0 ∙ many

  as_many : length (map shared_name ends) ≡ n
  as_many = length-map ends shared_name ∙ made.as_many

  -- the pass of i for the inbox j is of the queue of j
  joined : (i j : ℕ) (x y : SharedEnds) (out : InboxPass) → at ends i x → at ends j y → at x.outs.items j out → out.table_id ≡ y.inlet.table_id
  joined i j x y out at_i at_j at_out =
      let box = there inboxes j (omega (arith, below j at_j, many)) in
      ((made.each i x at_i).outs.1 j box.0 out box.1 at_out).0.0 ∙ sym ((made.each j y at_j).inlet box.0 box.1).0.0

  pub made_family : 0 < n → OneCall (map shared_name ends)
  made_family some = record {
    some = omega (arith, as_many, some);
    placed = λ i x here. let e = at_map shared_name ends i here in ap (λ y. y.place) e.2 ∙ (made.each i e.0 e.1).number;
    outs = λ i x here.
        let e = at_map shared_name ends i here in ap (λ y. length y.outs) e.2 ∙ length-map e.0.outs.items pass_name ∙ outs_all i e.1 ∙ sym as_many;
    joined = λ i j x y out at_i at_j at_out.
        let a = at_map shared_name ends i at_i in
        let b = at_map shared_name ends j at_j in
        let o = at_map pass_name a.0.outs.items j (subst (λ z. at z.outs j out) a.2 at_out) in
        ap (λ p. p.table_id) o.2 ∙ joined i j a.0 b.0 o.0 a.1 b.1 o.1 ∙ sym (ap (λ z. z.inlet.table_id) b.2);
  }

  ready : n ≤ 8 → (k : ℕ) (e : SharedEnds) → at ends k e → IsReady e
  ready few k e here =
      let v = made.each k e here in
      let outs = outs_all k here in
      let box = there inboxes k (omega (arith, below k here, many)) in
      let is = (v.inlet box.0 box.1).1 in record {
        passes = record { inside = omega (arith, v.number, below k here, outs); few = omega (arith, few, outs); inbox_for_each = ap length v.same_inboxes ∙ sym v.outs.0 };
        senders = λ d inbox out at_d at_out.
            let h = v.outs.1 d inbox out (subst (λ l. at l d inbox) v.same_inboxes at_d) at_out in
            (h.0, ap (λ u. u.role) h.1, ap (λ u. u.from) h.1 ∙ sym v.number);
        receiver = record {
          receiver = record {
            own = λ inbox at_k.
                let stands : at inboxes k inbox = subst (λ m. at inboxes m inbox) v.number (subst (λ l. at l e.me.number inbox) v.same_inboxes at_k) in
                ((v.inlet inbox stands).0, omega (arith, capacities k inbox stands, v.room));
            receives = ap (λ u. u.role) is;
            made = ap (λ u. u.made) is ∙ sym outs;
            live = v.live;
            empty = v.empty;
          };
          receipts = ap (λ u. u.receipts) is;
        };
        no_list = v.no_list;
        list_for_each = omega (arith, outs, v.list_for_each);
      }

  pub made_fresh : n ≤ 8 → AllFresh (λ e. vec_len e.outs) shared_pushed shared_taken IsReady ends
  made_fresh few k e here =
      let v = made.each k e here in
      let box = there inboxes k (omega (arith, below k here, many)) in
      let none = ap (λ u. u.taken) (v.inlet box.0 box.1).1 in record {
        is_ready = ready few k e here;
        counted = omega (arith, outs_all k here, e.outs.ok, made.as_many);
        nothing_pushed = all_empty pushed_with e.outs.items (λ j out stands.
            let i = there inboxes j (omega (arith, slice_get_within e.outs.items j out stands, v.outs.0)) in
            ap (λ u. u.pushed) (v.outs.1 j i.0 out i.1 stands).1);
        nothing_taken = λ p. λ i. items_from p (shown (v.live i) (none i));
      }

  pub made_capacities : (k d : ℕ) (e : SharedEnds) → at ends k e → d < n → inbox_capacity e d ≡ capacity
  made_capacities k d e here low =
      let v = made.each k e here in
      let box = there inboxes d (omega (arith, low, many)) in
      view_or (λ inbox. ruled_capacity inbox) (arc_value e.inboxes).items d 0 (subst (λ l. at l d box.0) (sym v.same_inboxes) box.1) ∙ capacities d box.0 box.1
