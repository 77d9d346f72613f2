-- Inboxes and passes, while they are made one by one.
use Rattle.std.proofs.Common.{◌≡◌, ◌<◌, ◌≤◌, ◌+◌, inl, inr, ℕ, List, [], ◌∷◌, ◌++◌, length, map, set, ap, sym, ◌∙◌, arith, subst, append_assoc, slice_get}
use Rattle.ulfm_carrier.proofs.Common.{at, InboxPass, IsPassOf, IsSamePass, length-map, map-append, only_at, SharedEnds, slice_get_within, there, view, sender, one_more, Queue, AreInlets, AreOpenInlets, HaveMadeOneMore, AreNextOuts, AreOuts}
use Rattle.ulfm_carrier.proofs.Places.{at_push, each_set, at_other, each_push}
use Rattle.ulfm_carrier.proofs.Last.{at_middle}

-- what holds of two lists by places still does with one more in each
pub each_pair : {A B : Type 0} (P : ℕ → A → B → Type 0) (xs : List A) (ys : List B) (x : A) (y : B) {n : ℕ} → length xs ≡ n → length ys ≡ n → ((j : ℕ) (a : A) (b : B) → at xs j a → at ys j b → P j a b) → P n x y
    → (j : ℕ) (a : A) (b : B) → at (xs ++ x ∷ []) j a → at (ys ++ y ∷ []) j b → P j a b
each_pair P xs ys x y {n} many as_many each here j a b at_a at_b = elim (at_push xs x j at_a) [
  | inl h ↦ let low = h.0 in elim (at_push ys y j at_b) [ inl i ↦ each j a b h.1 i.1 | inr i ↦ let e = i.0 in absurd (omega (arith, low, e, many, as_many)) ]
  | inr h ↦ let is = h.0 in elim (at_push ys y j at_b) [
    | inl i ↦ let low = i.0 in absurd (omega (arith, is, low, many, as_many))
    | inr i ↦ subst (λ m. P m a b) (sym (is ∙ many)) (subst (λ z. P n z b) (sym h.1) (subst (P n x) (sym i.1) here))
  ]
]

pub open_inlets : (m : ℕ) (inboxes : List Queue) (inlets : List InboxPass) → AreInlets m inboxes inlets → AreOpenInlets inboxes inlets
open_inlets m inboxes inlets are j inbox inlet at_i at_j = let h = are j inbox inlet at_i at_j in (h.0, ap (λ v. v.role) h.1)

pub more_inlets : (m : ℕ) (inboxes : List Queue) (before after : List InboxPass) → length after ≡ length before → AreInlets m inboxes before → HaveMadeOneMore before after → AreInlets (m + 1) inboxes after
more_inlets m inboxes before after many are more j inbox q at_i at_q =
    let old = there before j (omega (arith, slice_get_within after j q at_q, many)) in
    let h = are j inbox old.0 at_i old.1 in
    let g = more j old.0 q old.1 at_q in
    ((g.0.0 ∙ h.0.0, g.0.2 ∙ h.0.1), g.1 ∙ ap one_more h.1)

pub new_outs : (m : ℕ) (inboxes : List Queue) (inlets outs : List InboxPass) → length inlets ≡ length inboxes → length outs ≡ length inboxes → AreInlets m inboxes inlets → AreNextOuts inboxes inlets outs → AreOuts m inboxes outs
new_outs m inboxes inlets outs many as_many are next = (
  as_many,
  λ j inbox out at_i at_o.
      let old = there inlets j (omega (arith, slice_get_within inboxes j inbox at_i, many)) in
      let g = next j inbox old.0 out at_i old.1 at_o in
      (g.0, g.1 ∙ ap (λ v. sender v.made) (are j inbox old.0 at_i old.1).1),
)

module _ (inboxes : List Queue) (start now outs : List InboxPass) (dest : ℕ) (inbox : Queue) (p q out : InboxPass) (many : length now ≡ length start) (as_many : length outs ≡ dest)
    (waiting : (j : ℕ) → dest ≤ j → slice_get now j ≡ slice_get start j) (at_inbox : at inboxes dest inbox) (at_now : at now dest p) (same : IsSamePass p q) (is : view q ≡ one_more (view p)) (pass : IsPassOf inbox out) (new : view out ≡ sender (view p).made) where
  at_start : at start dest p
  at_start = sym (waiting dest (omega arith)) ∙ at_now

  pub made_next : ((j : ℕ) (a b : InboxPass) → j < dest → at start j a → at now j b → IsSamePass a b × (view b ≡ one_more (view a))) → (j : ℕ) (a b : InboxPass) → j < dest + 1 → at start j a → at (set now dest q) j b → IsSamePass a b × (view b ≡ one_more (view a))
  made_next made j a b low at_a at_b =
      let P : ℕ → InboxPass → Type 0 = λ j b. (a : InboxPass) → j < dest + 1 → at start j a → IsSamePass a b × (view b ≡ one_more (view a)) in
      let R : InboxPass → Type 0 = λ x. IsSamePass x q × (view q ≡ one_more (view x)) in
      each_set P now dest q (λ j b apart h a low at_a. made j a b (omega (arith, low, apart)) at_a h) (λ a _ at_a. subst R (sym (only_at start dest p a at_start at_a)) (same, is)) j b at_b a low at_a

  pub waiting_next : (j : ℕ) → dest + 1 ≤ j → slice_get (set now dest q) j ≡ slice_get start j
  waiting_next j late = at_other now dest j q (λ e. absurd (omega (arith, e, late))) ∙ waiting j (omega (arith, late))

  pub outs_next : AreNextOuts inboxes start outs → AreNextOuts inboxes start (outs ++ out ∷ [])
  outs_next next j i a o at_i at_a at_o =
      let P : ℕ → InboxPass → Type 0 = λ j o. (i : Queue) (a : InboxPass) → at inboxes j i → at start j a → IsPassOf i o × (view o ≡ sender (view a).made) in
      let here : P dest out = λ i a at_i at_a. (subst (λ x. IsPassOf x out) (sym (only_at inboxes dest inbox i at_inbox at_i)) pass, new ∙ ap (λ (x : InboxPass). sender (view x).made) (sym (only_at start dest p a at_start at_a))) in
      each_push P outs out dest as_many (λ j o h i a at_i at_a. next j i a o at_i at_a h) here j o at_o i a at_i at_a

-- the pass that comes next is that at the next place
pub inlet_next : (ends : List SharedEnds) {left left' all : List InboxPass} {p : InboxPass} → map (λ e. e.inlet) ends ++ left ≡ all → left ≡ p ∷ left' → (length ends < length all) × at all (length ends) p
inlet_next ends {left'} {all} {p} was next =
    let f : SharedEnds → InboxPass = λ e. e.inlet in
    let shown : at (map f ends ++ p ∷ left') (length ends) p = subst (λ k. at (map f ends ++ p ∷ left') k p) (length-map ends f) (at_middle (map f ends) left' p) in
    let there : at all (length ends) p = subst (λ l. at l (length ends) p) (ap (λ l. map f ends ++ l) (sym next) ∙ was) shown in
    (slice_get_within all (length ends) p there, there)

pub inlets_next : (ends : List SharedEnds) {ends' : List SharedEnds} (e : SharedEnds) {left all : List InboxPass} (left' : List InboxPass) {p : InboxPass} → map (λ x. x.inlet) ends ++ left ≡ all → left ≡ p ∷ left' → ends' ≡ ends ++ e ∷ [] → e.inlet ≡ p
    → map (λ x. x.inlet) ends' ++ left' ≡ all
inlets_next ends e left' was next more is =
    let f : SharedEnds → InboxPass = λ x. x.inlet in
    ap (λ l. map f l ++ left') more ∙ ap (λ l. l ++ left') (map-append f ends (e ∷ [])) ∙ append_assoc (map f ends) (e.inlet ∷ []) left' ∙ ap (λ y. map f ends ++ y ∷ left') is ∙ ap (λ l. map f ends ++ l) (sym next) ∙ was
