-- The ends, once the inbox of one of them is empty.
use Rattle.std.proofs.Common.{◌≡◌, ◌≢◌, ◌<◌, ◌+◌, ◌≤◌, ℕ, suc, List, [], ◌∷◌, length, map, set, get_or, refl, ap, ◌∙◌, arith, slice_get}
use Rattle.ulfm_carrier.proofs.Common.{arc_value, AreOpenFrom, at, InboxPass, IsOpenFrom, IsSamePass, items_from, Keeps, only_at, SharedEnds, shown, view, pass_name, pushed_with, shared_name, shared_pushed, shared_taken, MayReceive}
use Rattle.ulfm_carrier.proofs.Places.{at_read, each_set}
use Rattle.ulfm_carrier.proofs.Passes.{name_same}
use Rattle.ulfm_carrier.proofs.Frames.{as_many_outs, passes_same, sends_same, receiver_same}
use Rattle.ulfm_carrier.proofs.Heard.{Hears, AllHear}

-- The end k before and after the inboxes up to `place` are emptied.
pub record IsDone (place k : ℕ) (e g : SharedEnds) : Type 0 where
  pub name : shared_name g ≡ shared_name e
  pub pushed : (p : ℕ) → shared_pushed g p ≡ shared_pushed e p
  pub taken : (p : ℕ) → shared_taken g p ≡ shared_taken e p
  pub later : IsOpenFrom (place + 1) k g

abbrev pub AllDone : List SharedEnds → ℕ → List SharedEnds → Type 0
AllDone all place now = (k : ℕ) (g : SharedEnds) → at now k g → (e : SharedEnds) × at all k e × IsDone place k e g

-- what was taken is shown as before also where closed senders told of theirs
pub taken_told : {all : List SharedEnds} {place closed heard : ℕ} {e f : SharedEnds} → Hears all place closed heard place e f → (s : ℕ) → shared_taken f s ≡ shared_taken e s
taken_told h s =
    let t = ap (λ v. v.taken) (h.receipts refl) in
    λ i. items_from s (shown (h.frame.gathered i) (t i))

module _ (all : List SharedEnds) (place n : ℕ) (still : AreOpenFrom place all) where
  is_done : (k : ℕ) (e g : SharedEnds) → at all k e → g.me ≡ e.me → (arc_value g.inboxes).items ≡ (arc_value e.inboxes).items → map pass_name g.outs.items ≡ map pass_name e.outs.items → map pushed_with g.outs.items ≡ map pushed_with e.outs.items
      → ((p : ℕ) → p ≢ place → slice_get g.outs.items p ≡ slice_get e.outs.items p) → IsSamePass e.inlet g.inlet → ((s : ℕ) → shared_taken g s ≡ shared_taken e s) → (place + 1 ≤ k → MayReceive g) → IsDone place k e g
  is_done k e g here me inboxes names pushed others pass taken receives =
      let was = still k e here in record {
        name = λ i. record { place = (me i).number; outs = names i; inlet = name_same e.inlet g.inlet pass i };
        pushed = λ p. ap (λ l. get_or l p []) pushed;
        taken = taken;
        later = record {
          passes = passes_same e g me inboxes (as_many_outs e g names) was.passes;
          senders = λ j late. sends_same e g j me inboxes (others j (λ same. absurd (omega (arith, same, late)))) (was.senders j (omega (arith, late)));
          receiver = receives;
        };
      }

  -- an end of another place
  other_done : (k : ℕ) (e f : SharedEnds) → k ≢ place → at all k e → Hears all place n n k e f → IsDone place k e f
  other_done k e f apart here h =
      let inlet = h.apart apart in is_done k e f here h.frame.me h.frame.inboxes h.names h.pushed h.others h.pass (λ s. λ i. items_from s (shown (h.frame.gathered i) (view (inlet i)).taken)) (λ late.
      let r = (still k e here).receiver (omega (arith, late)) in
      record { receiver = receiver_same h.frame (as_many_outs e f h.names) h.pass (ap (λ (p : InboxPass). (view p).role) inlet) (ap (λ (p : InboxPass). (view p).made) inlet) r.receiver; receipts = ap (λ (p : InboxPass). (view p).receipts) inlet ∙ r.receipts })

  -- the end whose inbox is empty
  own_done : (e f g : SharedEnds) → at all place e → Hears all place n n place e f → g.me ≡ f.me → (arc_value g.inboxes).items ≡ (arc_value f.inboxes).items → g.outs ≡ f.outs → IsSamePass f.inlet g.inlet → ((s : ℕ) → shared_taken g s ≡ shared_taken f s) → IsDone place place e g
  own_done e f g here h me inboxes outs pass taken =
      let outs' = ap (λ v. v.items) outs in
      is_done place e g here (me ∙ h.frame.me) (inboxes ∙ h.frame.inboxes) (ap (map pass_name) outs' ∙ h.names) (ap (map pushed_with) outs' ∙ h.pushed) (λ p apart. ap (λ l. slice_get l p) outs' ∙ h.others p apart) (pass.0 ∙ h.pass.0, pass.1 ∙ h.pass.1, pass.2 ∙ h.pass.2)
      (λ s. taken s ∙ taken_told h s) (λ late. absurd (omega (arith, late)))

  pub all_done : (now : List SharedEnds) (f g : SharedEnds) → place < length now → f ≡ get_or now place f → AllHear all place n n now → g.me ≡ f.me → (arc_value g.inboxes).items ≡ (arc_value f.inboxes).items → g.outs ≡ f.outs → IsSamePass f.inlet g.inlet
      → ((s : ℕ) → shared_taken g s ≡ shared_taken f s) → AllDone all place (set now place g)
  all_done now f g low is heard me inboxes outs pass taken =
      let old = heard place f (at_read now place low is) in
      let P : ℕ → SharedEnds → Type 0 = λ j y. (e : SharedEnds) × at all j e × IsDone place j e y in
      each_set P now place g (λ k x apart here. let o = heard k x here in (o.0, o.1, other_done k o.0 x apart o.1 o.2)) (old.0, old.1, own_done old.0 f g old.1 old.2 me inboxes outs pass taken)

maps_same : {X Y : Type 0} (f : X → Y) (xs ys : List X) → length ys ≡ length xs → ((k : ℕ) (y : X) → at ys k y → (x : X) × at xs k x × (f y ≡ f x)) → map f ys ≡ map f xs
maps_same f [] [] many same = refl
maps_same f [] (y ∷ ys) many same = absurd (omega (arith, many))
maps_same f (x ∷ xs) [] many same = absurd (omega (arith, many))
maps_same f (x ∷ xs) (y ∷ ys) many same =
    let first = same 0 y refl in
    let head : f y ≡ f x = first.2 ∙ ap f (only_at (x ∷ xs) 0 x first.0 refl first.1) in
    λ i. head i ∷ maps_same f xs ys (omega (arith, many)) (λ k z here. same (suc k) z here) i

pub keeps_done : (all now : List SharedEnds) {place : ℕ} → length now ≡ length all → AllDone all place now → Keeps shared_name shared_pushed shared_taken all now
keeps_done all now many done = record {
  names = maps_same shared_name all now many (λ k g here. let d = done k g here in (d.0, d.1, d.2.name));
  pushed_to = λ k e g there here p. let d = done k g here in d.2.pushed p ∙ ap (λ x. shared_pushed x p) (only_at all k e d.0 there d.1);
  taken_from = λ k e g there here p. let d = done k g here in d.2.taken p ∙ ap (λ x. shared_taken x p) (only_at all k e d.0 there d.1);
}
