-- Inbox by inbox, all ends are gathered, of whatever carrier.
use Rattle.std.proofs.Common.{◌≡◌, ◌<◌, ◌≤◌, ℕ, List, [], ◌++◌, length, map, set, get_or, ap, sym, ◌∙◌, arith, subst}
use Rattle.ulfm_carrier.proofs.Common.{at, Global, Item, items_from, Keeps, map-set_same, only_at, slice_get_within, there, Vec, WorldRank}
use Rattle.ulfm_carrier.proofs.Places.{at_read, each_set}
use Rattle.ulfm_carrier.proofs.Views.{as_many}

-- what all the ends of one call have, they have after one of them was used
pub family_set : {E N : Type 0} (name : E → N) (F : List N → Type 0) (ends : List E) (k : ℕ) (f : E) {e : E} → e ≡ get_or ends k e → name f ≡ name e → F (map name ends) → F (map name (set ends k f))
family_set name F ends k f {e} here same one = subst F (sym (map-set_same name ends k f e (same ∙ ap name here))) one

shows : {E : Type 0} (g : E → ℕ → List Item) (ends : List E) (k : ℕ) (e f : E) → at ends k e → ((p : ℕ) → g f p ≡ g e p) → (j : ℕ) (x y : E) → at ends j x → at (set ends k f) j y → (p : ℕ) → g y p ≡ g x p
shows {E} g ends k e f there same j x y at_x at_y p =
    let P : ℕ → E → Type 0 = λ j y. (x : E) → at ends j x → g y p ≡ g x p in
    each_set P ends k f (λ j y _ h x at_x. ap (λ z. g z p) (only_at ends j x y at_x h)) (λ x at_x. same p ∙ ap (λ z. g z p) (only_at ends k x e at_x there)) j y at_y x at_x

-- nothing is left of others
abbrev pub NoOthers : {E : Type 0} → List E → ℕ → Vec (WorldRank × Item) Global → Type 0
NoOthers ends d inbox = (s : ℕ) → length ends ≤ s → items_from s inbox.items ≡ []

module _ {E N : Type 0} (name : E → N) (pushed taken : E → ℕ → List Item) where
  -- what flows to the rank d, of which the inbox holds what is left
  abbrev pub Flows : List E → ℕ → Vec (WorldRank × Item) Global → Type 0
  Flows ends d inbox = (s : ℕ) (sender receiver : E) → at ends s sender → at ends d receiver → pushed sender d ≡ taken receiver s ++ items_from s inbox.items

  -- the end of the same place in the other list
  still_at : {ends now : List E} → Keeps name pushed taken ends now → (k : ℕ) {e : E} → at ends k e → (f : E) × at now k f
  still_at {ends} {now} h k {e} here = there now k (omega (arith, as_many name now ends h.names, slice_get_within ends k e here))

  pub kept_twice : {ends now later : List E} → Keeps name pushed taken ends now → Keeps name pushed taken now later → Keeps name pushed taken ends later
  kept_twice {ends = ends} {now = now} h g = record {
    names = g.names ∙ h.names;
    pushed_to = λ k e f there here p. let m = still_at h k there in g.pushed_to k m.0 f m.1 here p ∙ h.pushed_to k e m.0 there m.1 p;
    taken_from = λ k e f there here p. let m = still_at h k there in g.taken_from k m.0 f m.1 here p ∙ h.taken_from k e m.0 there m.1 p;
  }

  -- one end is written that shows the same
  pub kept_set : (ends : List E) (k : ℕ) (e f : E) → k < length ends → e ≡ get_or ends k e → name f ≡ name e → ((p : ℕ) → pushed f p ≡ pushed e p) → ((p : ℕ) → taken f p ≡ taken e p) → Keeps name pushed taken ends (set ends k f)
  kept_set ends k e f low here names pushes takes =
      let there = at_read ends k low here in record { names = map-set_same name ends k f e (names ∙ ap name here); pushed_to = shows pushed ends k e f there pushes; taken_from = shows taken ends k e f there takes }

  pub flowed : {ends now : List E} (d : ℕ) (inbox : Vec (WorldRank × Item) Global) → Keeps name pushed taken ends now → Flows now d inbox → Flows ends d inbox
  flowed {ends = ends} {now = now} d inbox h flows s sender receiver at_s at_d =
      let a = still_at h s at_s in
      let b = still_at h d at_d in
      sym (h.pushed_to s sender a.0 at_s a.1 d) ∙ flows s a.0 b.0 a.1 b.1 ∙ ap (λ l. l ++ items_from s inbox.items) (h.taken_from d receiver b.0 at_d b.1 s)
