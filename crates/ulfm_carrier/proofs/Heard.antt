-- End by end, all close to one of them.
use Rattle.std.proofs.Common.{◌≡◌, ◌≢◌, ◌<◌, ◌≤◌, ◌+◌, ℕ, zero, suc, List, [], ◌∷◌, ◌++◌, length, map, set, get_or, refl, ap, sym, ◌∙◌, arith, subst, slice_get}
use Rattle.ulfm_carrier.proofs.Common.{at, IsSamePass, Item, pass_name, pushed_with, shared_pushed, SharedEnds, PassView, view, after_receipt}
use Rattle.ulfm_carrier.specs.inside.Emptying.{with_outs, with_inlet}
use Rattle.ulfm_carrier.proofs.Places.{at_read, each_set}
use Rattle.ulfm_carrier.proofs.Frames.{SameFrame, frame_twice, frame_with, same_inlet}

-- what the first n ends pushed to the rank of this number, with their numbers
abbrev pub told_by : List SharedEnds → ℕ → ℕ → List (ℕ × List Item)
told_by all place zero = []
told_by all place (suc n) = told_by all place n ++ (n, get_or (map (λ e. shared_pushed e place) all) n []) ∷ []

-- the receiver's view, with what closed senders told
abbrev pub told_view : PassView → List (ℕ × List Item) → PassView
told_view v receipts = record v { receipts = receipts }

-- The end k before, and after the ends below `closed` closed to the rank `place`, which heard those below `heard`.
pub record Hears (all : List SharedEnds) (place closed heard k : ℕ) (e f : SharedEnds) : Type 0 where
  pub frame : SameFrame e f
  pub names : map pass_name f.outs.items ≡ map pass_name e.outs.items
  pub pushed : map pushed_with f.outs.items ≡ map pushed_with e.outs.items
  pub others : (p : ℕ) → p ≢ place → slice_get f.outs.items p ≡ slice_get e.outs.items p
  pub waiting : closed ≤ k → f.outs ≡ e.outs
  pub pass : IsSamePass e.inlet f.inlet
  pub apart : k ≢ place → f.inlet ≡ e.inlet
  pub receipts : k ≡ place → view f.inlet ≡ told_view (view e.inlet) (told_by all place heard)

-- each end of the one list, with that of the other
abbrev pub AllHear : List SharedEnds → ℕ → ℕ → ℕ → List SharedEnds → Type 0
AllHear all place closed heard now = (k : ℕ) (f : SharedEnds) → at now k f → (e : SharedEnds) × at all k e × Hears all place closed heard k e f

pub none_heard : (all : List SharedEnds) (place : ℕ) → ((e : SharedEnds) → at all place e → (view e.inlet).receipts ≡ []) → AllHear all place 0 0 all
none_heard all place none k f here =
    (f, here, record { frame = frame_with f f.outs f.inlet f.lists; names = refl; pushed = refl; others = λ _ _. refl; waiting = λ _. refl; pass = (refl, refl, refl); apart = λ _. refl; receipts = λ is. λ i. record (view f.inlet) { receipts = none f (subst (λ n. at all n f) is here) i } })

module _ (all now : List SharedEnds) (place from : ℕ) where
  -- one end more closes
  pub closes_more : {s s' : SharedEnds} → from < length now → s ≡ get_or now from s → s' ≡ with_outs s s'.outs → map pass_name s'.outs.items ≡ map pass_name s.outs.items → map pushed_with s'.outs.items ≡ map pushed_with s.outs.items
      → ((p : ℕ) → p ≢ place → slice_get s'.outs.items p ≡ slice_get s.outs.items p) → AllHear all place from from now → AllHear all place (from + 1) from (set now from s')
  closes_more {s} {s'} low here rest names pushed others was =
      let old = was from s (at_read now from low here) in
      let w = old.2 in
      let inlet : s'.inlet ≡ s.inlet = ap (λ x. x.inlet) rest in
      each_set (λ (k : ℕ) (f : SharedEnds). (e : SharedEnds) × at all k e × Hears all place (from + 1) from k e f) now from s' (λ k g _ there. let o = was k g there in let h = o.2 in
      (o.0, o.1, record { frame = h.frame; names = h.names; pushed = h.pushed; others = h.others; waiting = λ late. h.waiting (omega (arith, late)); pass = h.pass; apart = h.apart; receipts = h.receipts })) (
        old.0,
        old.1,
        record {
          frame = frame_twice w.frame (subst (SameFrame s) (sym rest) (frame_with s s'.outs s.inlet s.lists));
          names = names ∙ w.names;
          pushed = pushed ∙ w.pushed;
          others = λ p apart. others p apart ∙ w.others p apart;
          waiting = λ late. absurd (omega (arith, late));
          pass = let p = same_inlet s s' inlet in (p.0 ∙ w.pass.0, p.1 ∙ w.pass.1, p.2 ∙ w.pass.2);
          apart = λ other. inlet ∙ w.apart other;
          receipts = λ is. ap view inlet ∙ w.receipts is;
        },
      )

  -- and the receiver hears of it
  pub hears_more : {r r' : SharedEnds} (u : PassView) → place < length now → r ≡ get_or now place r → r' ≡ with_inlet r r'.inlet → IsSamePass r.inlet r'.inlet → view r'.inlet ≡ after_receipt (view r.inlet) u
      → u.from ≡ from → u.pushed ≡ get_or (map (λ e. shared_pushed e place) all) from [] → AllHear all place (from + 1) from now → AllHear all place (from + 1) (from + 1) (set now place r')
  hears_more {r} {r'} u low here rest pass receipts number pushed was =
      let old = was place r (at_read now place low here) in
      let w = old.2 in
      let next : suc from ≡ from + 1 = omega arith in
      let outs : r'.outs ≡ r.outs = ap (λ x. x.outs) rest in
      each_set (λ (k : ℕ) (f : SharedEnds). (e : SharedEnds) × at all k e × Hears all place (from + 1) (from + 1) k e f) now place r' (λ k g apart there. let o = was k g there in let h = o.2 in
      (o.0, o.1, record { frame = h.frame; names = h.names; pushed = h.pushed; others = h.others; waiting = h.waiting; pass = h.pass; apart = h.apart; receipts = λ is. absurd (apart is) })) (
        old.0,
        old.1,
        record {
          frame = frame_twice w.frame (subst (SameFrame r) (sym rest) (frame_with r r.outs r'.inlet r.lists));
          names = ap (λ v. map pass_name v.items) outs ∙ w.names;
          pushed = ap (λ v. map pushed_with v.items) outs ∙ w.pushed;
          others = λ p apart. ap (λ v. slice_get v.items p) outs ∙ w.others p apart;
          waiting = λ late. outs ∙ w.waiting late;
          pass = (pass.0 ∙ w.pass.0, pass.1 ∙ w.pass.1, pass.2 ∙ w.pass.2);
          apart = λ other. absurd (other refl);
          receipts = λ is. receipts ∙ ap (λ v. after_receipt v u) (w.receipts is) ∙ (λ i. record (view old.0.inlet) { receipts = told_by all place from ++ (number i, pushed i) ∷ [] }) ∙ ap (λ n. told_view (view old.0.inlet) (told_by all place n)) next;
        },
      )
