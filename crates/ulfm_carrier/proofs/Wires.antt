-- The ring of one pair is added to the ends of both.
use Rattle.std.proofs.Common.{◌≡◌, ◌≢◌, ◌<◌, ℕ, List, [], ◌∷◌, ◌++◌, length, set, get_or, refl, ap, ◌∙◌, arith, length-set}
use Rattle.ulfm_carrier.proofs.Common.{at, Global, Inlet, LaneEnds, Outlet, Vec}
use Rattle.ulfm_carrier.proofs.Places.{at_read, each_set}

-- the end at k before and after the ring from s to d is added
pub record Adds (s d k : ℕ) (out : Outlet) (inlet : Inlet) (e f : LaneEnds) : Type 0 where
  pub me : f.me ≡ e.me
  pub next : f.next ≡ e.next
  pub left : f.left ≡ e.left
  pub inboxes : f.inboxes ≡ e.inboxes
  pub outs_here : k ≡ s → f.outs.items ≡ e.outs.items ++ out ∷ []
  pub outs_other : k ≢ s → f.outs.items ≡ e.outs.items
  pub ins_here : k ≡ d → f.ins.items ≡ e.ins.items ++ inlet ∷ []
  pub ins_other : k ≢ d → f.ins.items ≡ e.ins.items

module _ (ends : List LaneEnds) (s d : ℕ) (out : Outlet) (inlet : Inlet) (low_s : s < length ends) (low_d : d < length ends) (sender receiver : LaneEnds) (outlets : Vec Outlet Global) (inlets : Vec Inlet Global) (here_s : sender ≡ get_or ends s sender)
    (outs_s : outlets.items ≡ sender.outs.items ++ out ∷ []) (here_d : receiver ≡ get_or (set ends s (record sender { outs = outlets })) d receiver) (ins_d : inlets.items ≡ receiver.ins.items ++ inlet ∷ []) where
  -- the sender's end is written
  pub record Sends (k : ℕ) (e f : LaneEnds) : Type 0 where
    pub me : f.me ≡ e.me
    pub next : f.next ≡ e.next
    pub left : f.left ≡ e.left
    pub inboxes : f.inboxes ≡ e.inboxes
    pub ins : f.ins ≡ e.ins
    pub outs_here : k ≡ s → f.outs.items ≡ e.outs.items ++ out ∷ []
    pub outs_other : k ≢ s → f.outs.items ≡ e.outs.items

  abbrev sent : List LaneEnds
  sent = set ends s (record sender { outs = outlets })

  sends : (k : ℕ) (f : LaneEnds) → at sent k f → (e : LaneEnds) × at ends k e × Sends k e f
  sends =
      let P : ℕ → LaneEnds → Type 0 = λ k f. (e : LaneEnds) × at ends k e × Sends k e f in
      each_set P ends s (record sender { outs = outlets }) (λ k f apart here. (f, here, record { me = refl; next = refl; left = refl; inboxes = refl; ins = refl; outs_here = λ same. absurd (apart same); outs_other = λ _. refl }))
      (sender, at_read ends s low_s here_s, record { me = refl; next = refl; left = refl; inboxes = refl; ins = refl; outs_here = λ _. outs_s; outs_other = λ apart. absurd (apart refl) })

  pub adds : (k : ℕ) (f : LaneEnds) → at (set sent d (record receiver { ins = inlets })) k f → (e : LaneEnds) × at ends k e × Adds s d k out inlet e f
  adds =
      let first = sends d receiver (at_read sent d (omega (arith, low_d, length-set ends s (record sender { outs = outlets }))) here_d) in
      let v = first.2 in
      each_set (λ (k : ℕ) (f : LaneEnds). (e : LaneEnds) × at ends k e × Adds s d k out inlet e f) sent d (record receiver { ins = inlets }) (λ k f apart here. let e = sends k f here in let w = e.2 in
      (e.0, e.1, record { me = w.me; next = w.next; left = w.left; inboxes = w.inboxes; outs_here = w.outs_here; outs_other = w.outs_other; ins_here = λ same. absurd (apart same); ins_other = λ _. ap (λ v. v.items) w.ins }))
      (first.0, first.1, record { me = v.me; next = v.next; left = v.left; inboxes = v.inboxes; outs_here = v.outs_here; outs_other = v.outs_other; ins_here = λ _. ins_d ∙ ap (λ v. v.items ++ inlet ∷ []) v.ins; ins_other = λ apart. absurd (apart refl) })
