-- What contracts see of a rank whose log or outboxes changed.
use Rattle.std.proofs.Common.{◌≡◌, ◌≢◌, ℕ, zero, suc, ◌+◌, ◌-◌, ◌<◌, ◌≤◌, Bool, true, false, cond, eqb, List, [], ◌∷◌, ◌++◌, length, map, set, refl, ap, sym, subst, ◌∙◌, arith, inl, inr, length-set, get_or-set_same, get_or-set_other, Option, Some, None, slice_get, drop, IfSome, IfNone}
use Rattle.std.proofs.lemmas.List.{map-set, length-map}
use Rattle.ulfm_rank.proofs.Common.{Item, Gone, Entry, is_stopped, owed, cases_eq, Mark, State, logged, with_marks, no_mark, mark_at, outbox, taken_out, returned, unmarked, marked, GoesOut, MayReturn, slice_get_within, Box, Boxes, empty_box, box_at, mark_of, with_first_out, with_item_back, with_notice_out, HasOutboxes, stop_places, get_or-map}
use Rattle.std.proofs.Math.Seq.{drop-nil}
use Rattle.ulfm_log.proofs.Logs.{owed_few}
use Rattle.ulfm_log.proofs.States.{leaves-running, leaves-stopped, next_owed}

abbrev pub state_by_boxes : Bool → ℕ → ℕ → List Entry → List Box → State
state_by_boxes keeps me n log boxes = record { me = me; ranks = n; log = log; marks = map mark_of boxes; keeps = keeps }

pub stop_places_few : (b : Bool) → stop_places b ≤ 1
stop_places_few true = omega arith
stop_places_few false = omega arith

-- one more entry, by which no item left
pub state_logged : {me n : ℕ} {log log' : List Entry} {keeps keeps' : Bool} (boxes boxes' : List Box) {r : State} (e : Entry) → state_by_boxes keeps me n log boxes ≡ r → log' ≡ log ++ e ∷ [] → map mark_of boxes' ≡ map mark_of boxes → keeps' ≡ keeps → state_by_boxes keeps' me n log' boxes' ≡ logged r e
state_logged {me} {n} {log} {log'} {keeps} {keeps'} boxes boxes' {r} e seen longer same kept = rw (longer, same, kept) (ap (λ s. logged s e) seen)

-- the mark of an outbox
pub mark_read : (keeps : Bool) (me n : ℕ) (log : List Entry) (boxes : List Box) (d : ℕ) → mark_at (state_by_boxes keeps me n log boxes) d ≡ mark_of (box_at boxes d)
mark_read keeps me n log boxes d = get_or-map mark_of boxes d empty_box

module _ {me n : ℕ} {log : List Entry} {keeps : Bool} (boxes : List Box) {r : State} (d : ℕ) (seen : state_by_boxes keeps me n log boxes ≡ r) where
  -- the rank with another mark of one outbox
  remarked : (b : Box) (change : State → Mark → Mark) → mark_of b ≡ change (state_by_boxes keeps me n log boxes) (mark_of (box_at boxes d)) → state_by_boxes keeps me n log (set boxes d b) ≡ with_marks r (set r.marks d (change r (mark_at r d)))
  remarked b change same =
      let s = state_by_boxes keeps me n log boxes in
      subst (λ (r : State). state_by_boxes keeps me n log (set boxes d b) ≡ with_marks r (set r.marks d (change r (mark_at r d)))) seen
      (ap (with_marks s) (map-set mark_of boxes d b ∙ ap (set (map mark_of boxes) d) (same ∙ ap (change s) (sym (mark_read keeps me n log boxes d)))))

  -- an item or the notice comes back
  pub returns_item : (item : Item) → is_stopped log ≡ false → state_by_boxes keeps me n log (set boxes d (with_item_back (box_at boxes d) item)) ≡ returned r d
  returns_item item running = remarked (with_item_back (box_at boxes d) item) unmarked (rw running refl)

  pub returns_notice : is_stopped log ≡ true → state_by_boxes keeps me n log (set boxes d (with_notice_out (box_at boxes d) false)) ≡ returned r d
  returns_notice stopped = remarked (with_notice_out (box_at boxes d) false) unmarked (rw stopped refl)

  module _ (h : HasOutboxes n me log boxes) (inside : d < length boxes) where
    -- the next item of a running rank, or the notice, leaves
    pub leaves_next : {item : Item} → is_stopped log ≡ false → (box_at boxes d).items ≡ item ∷ drop 1 (box_at boxes d).items → GoesOut r (state_by_boxes keeps me n log (set boxes d (with_first_out (box_at boxes d)))) d item
    leaves_next {item} running next =
        let s = state_by_boxes keeps me n log boxes in
        let no_notice : (mark_at s d).notice_out ≡ false = ap (λ (m : Mark). m.notice_out) (mark_read keeps me n log boxes d) ∙ h.no_notice running d inside in
        let next' : slice_get (owed n me log d) (mark_at s d).items_out ≡ Some item = rw (mark_read keeps me n log boxes d) (next_owed (owed n me log d) (box_at boxes d).items_out item _ (sym (h.held d inside) ∙ next)) in
        subst (λ (t : State). GoesOut r t d item) (sym (remarked (with_first_out (box_at boxes d)) marked (rw running refl)))
        (subst (λ (r : State). GoesOut r (taken_out r d) d item) seen (leaves-running s d item (omega (arith, inside, length-map boxes mark_of)) running no_notice next').goes)

    pub leaves_notice : is_stopped log ≡ true → (box_at boxes d).notice_out ≡ false → me ≢ d → GoesOut r (state_by_boxes keeps me n log (set boxes d (with_notice_out (box_at boxes d) true))) d Gone
    leaves_notice stopped no_notice other =
        let s = state_by_boxes keeps me n log boxes in
        let no_notice' : (mark_at s d).notice_out ≡ false = ap (λ (m : Mark). m.notice_out) (mark_read keeps me n log boxes d) ∙ no_notice in
        subst (λ (t : State). GoesOut r t d Gone) (sym (remarked (with_notice_out (box_at boxes d) true) marked (rw stopped refl)))
        (subst (λ (r : State). GoesOut r (taken_out r d) d Gone) seen (leaves-stopped s d (omega (arith, inside, length-map boxes mark_of)) (omega (arith, inside, h.size)) stopped no_notice' other).goes)

    -- an outbox of a running rank, which holds nothing exactly where all went out
    pub left : is_stopped log ≡ false → outbox r d ≡ (box_at boxes d).items
    left running = subst (λ (r : State). outbox r d ≡ drop (box_at boxes d).items_out (owed n me log d)) seen (rw (running, mark_read keeps me n log boxes d) refl) ∙ sym (h.held d inside)

    -- no more went out than the log has entries
    pub out_few : (box_at boxes d).items_out ≤ length log
    out_few = omega (arith, h.within d inside, owed_few n me d log)

    one_back : is_stopped log ≡ false → (mark_at (returned (state_by_boxes keeps me n log boxes) d) d).items_out ≡ (box_at boxes d).items_out - 1
    one_back running =
        let s = state_by_boxes keeps me n log boxes in
        let here = get_or-set_same s.marks d (unmarked s (mark_at s d)) no_mark (omega (arith, inside, length-map boxes mark_of)) in
        ap (λ (m : Mark). m.items_out) here ∙ rw running (ap (λ (m : Mark). m.items_out - 1) (mark_read keeps me n log boxes d))

    front : is_stopped log ≡ false → outbox (returned (state_by_boxes keeps me n log boxes) d) d ≡ drop (mark_at (returned (state_by_boxes keeps me n log boxes) d) d).items_out (owed n me log d)
    front running = ap (λ b. cond b (cond (eqb me d) [] (cond (mark_at (returned (state_by_boxes keeps me n log boxes) d) d).notice_out [] (Gone ∷ []))) (drop (mark_at (returned (state_by_boxes keeps me n log boxes) d) d).items_out (owed n me log d))) running

    -- the item that went out last is the one before those that wait
    pub outbox_back : is_stopped log ≡ false → {item : Item} → MayReturn r d item → item ∷ (box_at boxes d).items ≡ drop ((box_at boxes d).items_out - 1) (owed n me log d)
    outbox_back running {item} may =
        let back = subst (λ (r : State). outbox (returned r d) d ≡ drop ((box_at boxes d).items_out - 1) (owed n me log d)) seen (front running ∙ ap (λ k. drop k (owed n me log d)) (one_back running)) in
        ap (λ xs. item ∷ xs) (sym (left running)) ∙ sym may.front ∙ back

    pub all_out : is_stopped log ≡ false → (box_at boxes d).items ≡ [] → outbox r d ≡ []
    all_out running out = left running ∙ out

    pub none_left : is_stopped log ≡ false → outbox r d ≡ [] → (box_at boxes d).items ≡ []
    none_left running none = sym (left running) ∙ none

drop_one : (owed : List Item) (k : ℕ) → drop 1 (drop k owed) ≡ drop (k + 1) owed
drop_one [] zero = refl
drop_one [] (suc k) = sym (drop-nil (suc k + 1))
drop_one (x ∷ owed) zero = refl
drop_one (x ∷ owed) (suc k) = drop_one owed k ∙ ap (λ j. drop j (x ∷ owed)) (let e : suc (k + 1) ≡ suc k + 1 = omega arith in e)

-- outboxes of which one has another mark
pub outboxes-marked : {n me : ℕ} {log : List Entry} {boxes : List Box} (d : ℕ) (b : Box) → HasOutboxes n me log boxes → d < length boxes → b.items ≡ drop b.items_out (owed n me log d) → b.items_out ≤ length (owed n me log d) → (is_stopped log ≡ false → b.notice_out ≡ false) → (me ≡ d → b.notice_out ≡ false) → HasOutboxes n me log (set boxes d b)
outboxes-marked {n} {me} {log} {boxes} d b h inside held within no_notice self =
    let size = length-set boxes d b in
    let here : (k : ℕ) → k ≡ d → box_at (set boxes d b) k ≡ b = λ k e. ap (box_at (set boxes d b)) e ∙ get_or-set_same boxes d b empty_box inside in
    let other : (k : ℕ) → k ≢ d → box_at (set boxes d b) k ≡ box_at boxes k = λ k e. get_or-set_other boxes d k b empty_box e in
    record {
      inside = h.inside;
      size = size ∙ h.size;
      held = λ k i. elim (cases_eq k d) [
        | inl e ↦ rw (here k e) (held ∙ ap (λ j. drop b.items_out (owed n me log j)) (sym e))
        | inr e ↦ rw (other k e) (h.held k (omega (arith, i, size)))
      ];
      within = λ k i. elim (cases_eq k d) [
        | inl e ↦ rw (here k e) (subst (λ j. b.items_out ≤ length (owed n me log j)) (sym e) within)
        | inr e ↦ rw (other k e) (h.within k (omega (arith, i, size)))
      ];
      no_notice = λ s k i. elim (cases_eq k d) [
        | inl e ↦ rw (here k e) (no_notice s)
        | inr e ↦ rw (other k e) (h.no_notice s k (omega (arith, i, size)))
      ];
      no_own_notice = elim (cases_eq me d) [
        | inl e ↦ rw (here me e) (self e)
        | inr e ↦ rw (other me e) h.no_own_notice
      ];
    }

-- outboxes of which the next item went out, if there was one
pub outboxes-taken : {n me : ℕ} {log : List Entry} (old new : Boxes) (d : ℕ) (o : Option Item) → HasOutboxes n me log old.boxes → d < length old.boxes → IfSome o (λ item. (box_at old.boxes d).items ≡ item ∷ drop 1 (box_at old.boxes d).items) →
    IfSome o (λ item. new.boxes ≡ set old.boxes d (with_first_out (box_at old.boxes d))) → IfNone o (new ≡ old) → HasOutboxes n me log new.boxes
outboxes-taken {n} {me} {log} old new d None h inside next change same = rw same h
outboxes-taken {n} {me} {log} old new d (Some item) h inside next change same =
    let b = box_at old.boxes d in
    let here = sym (h.held d inside) ∙ next in
    let below = slice_get_within (owed n me log d) b.items_out item (next_owed (owed n me log d) b.items_out item _ here) in
    let rest : drop 1 b.items ≡ drop (b.items_out + 1) (owed n me log d) = ap (drop 1) (h.held d inside) ∙ drop_one (owed n me log d) b.items_out in
    rw change (outboxes-marked d (with_first_out b) h inside rest (omega (arith, below)) (λ s. h.no_notice s d inside) (λ e. ap (λ k. (box_at old.boxes k).notice_out) (sym e) ∙ h.no_own_notice))

pub IfSome_both : {X : Type 0} {P Q R : X → Type 0} (o : Option X) → IfSome o P → IfSome o Q → ((x : X) → P x → Q x → R x) → IfSome o R
IfSome_both None p q f = tt
IfSome_both (Some x) p q f = f x p q

pub IfNone_weaker : {X P Q : Type 0} (o : Option X) → IfNone o P → (P → Q) → IfNone o Q
IfNone_weaker None p f = f p
IfNone_weaker (Some x) p f = tt
