-- What outboxes hold as the log grows.
use Rattle.std.proofs.Common.{◌≡◌, ℕ, zero, suc, ◌<◌, ◌≤◌, Bool, true, false, List, [], ◌∷◌, ◌++◌, length, drop, map, get_or, replicate, refl, ap, sym, ◌∙◌, arith, append-nil, length-append, ◌||◌}
use Rattle.std.proofs.lemmas.List.{drop-append-le, length-map, length-replicate, same_lists, get_or-map}
use Rattle.ulfm_log.proofs.Common.{Item, Entry, is_stop, is_stopped, no_mark, State, IsState, owed_by, owed, Box, empty_box, box_at, mark_of, AllGrow, HasOutboxes}
use Rattle.ulfm_log.proofs.Gather.{any-push}
use Rattle.ulfm_log.proofs.Owing.{owed-push}

-- a rank that stopped goes on having stopped
pub stopped_stays : (log : List Entry) (e : Entry) → is_stopped (log ++ e ∷ []) ≡ false → is_stopped log ≡ false
stopped_stays log e h = first (is_stopped log) (is_stop e) (sym (any-push is_stop log e) ∙ h)
  where
    first : (a b : Bool) → a || b ≡ false → a ≡ false
    first true b h = h
    first false b h = refl

pub outboxes-grown : {n me : ℕ} {log : List Entry} (e : Entry) {old new : List Box} → HasOutboxes n me log old → AllGrow old new (λ d. owed_by n me d log e) → HasOutboxes n me (log ++ e ∷ []) new
outboxes-grown {n} {me} {log} e {old} {new} h grows =
    let old_of : (d : ℕ) → d < length new → d < length old = λ d k. omega (arith, k, grows.size) in
    let gained : ℕ → List Item = λ d. owed_by n me d log e in
    record {
      inside = h.inside;
      size = grows.size ∙ h.size;
      held = λ d k.
          let out = (box_at old d).items_out in
          (grows.each d k).grown
          ∙ ap (λ xs. xs ++ gained d) (h.held d (old_of d k))
          ∙ sym (drop-append-le out (owed n me log d) (gained d) (h.within d (old_of d k)))
          ∙ ap (drop out) (sym (owed-push n me log e d))
          ∙ ap (λ j. drop j (owed n me (log ++ e ∷ []) d)) (sym (grows.each d k).items_out);
      within = λ d k. omega (arith, h.within d (old_of d k), (grows.each d k).items_out, ap length (owed-push n me log e d), length-append (owed n me log d) (gained d));
      no_notice = λ s d k. (grows.each d k).notice_out ∙ h.no_notice (stopped_stays log e s) d (old_of d k);
      no_own_notice = (grows.each me (omega (arith, h.inside, h.size, grows.size))).notice_out ∙ h.no_own_notice;
    }

-- outboxes by which no item is left are as they were
pub none_grow : (boxes : List Box) (items : ℕ → List Item) → ((d : ℕ) → items d ≡ []) → AllGrow boxes boxes items
none_grow boxes items none = record {
  size = refl;
  each = λ d k. rw (none d) (record { grown = sym (append-nil (box_at boxes d).items); items_out = refl; notice_out = refl });
}

-- outboxes that grew by these items grew by the same items, however these are said
pub grows_alike : {old new : List Box} {items : ℕ → List Item} (items' : ℕ → List Item) → AllGrow old new items → ((d : ℕ) → d < length new → items d ≡ items' d) → AllGrow old new items'
grows_alike {old} {new} {items} items' grows alike = record {
  size = grows.size;
  each = λ d h. rw (← alike d h) (grows.each d h);
}

pub outboxes-quiet : {n me : ℕ} {log : List Entry} (e : Entry) {boxes : List Box} → HasOutboxes n me log boxes → ((d : ℕ) → owed_by n me d log e ≡ []) → HasOutboxes n me (log ++ e ∷ []) boxes
outboxes-quiet {n} {me} {log} e {boxes} h quiet = outboxes-grown e h (none_grow boxes _ quiet)

-- no item left outboxes that grew
pub marks-grown : {old new : List Box} {items : ℕ → List Item} → AllGrow old new items → map mark_of new ≡ map mark_of old
marks-grown {old} {new} {items} grows =
    same_lists (map mark_of new) (map mark_of old) (length-map new mark_of ∙ grows.size ∙ sym (length-map old mark_of))
    (λ k d h.
    let i : k < length new = omega (arith, h, length-map new mark_of) in
    let j : k < length old = omega (arith, i, grows.size) in
    let same : mark_of (box_at new k) ≡ mark_of (box_at old k) = let t = (grows.each k i).items_out in let u = (grows.each k i).notice_out in cc in
    get_or-map mark_of new k empty_box d i ∙ same ∙ sym (get_or-map mark_of old k empty_box d j))

starts_box : (n d : ℕ) → box_at (replicate n empty_box) d ≡ empty_box
starts_box zero d = refl
starts_box (suc n) zero = refl
starts_box (suc n) (suc d) = starts_box n d

-- empty outboxes are what a rank starts with
pub outboxes-start : (n me : ℕ) → me < n → HasOutboxes n me [] (replicate n empty_box)
outboxes-start n me inside = record {
  inside = inside;
  size = length-replicate n empty_box;
  held = λ d k. rw (starts_box n d) refl;
  within = λ d k. rw (starts_box n d) (omega arith);
  no_notice = λ s d k. rw (starts_box n d) refl;
  no_own_notice = rw (starts_box n me) refl;
}

pub marks-start : (n : ℕ) → map mark_of (replicate n empty_box) ≡ replicate n no_mark
marks-start zero = refl
marks-start (suc n) = ap (λ ms. no_mark ∷ ms) (marks-start n)

-- a rank with these outboxes is sound
pub state-sound : (n me : ℕ) (log : List Entry) (boxes : List Box) (keeps : Bool) → n ≤ 8 → HasOutboxes n me log boxes → (let r : State = record { me = me; ranks = n; log = log; marks = map mark_of boxes; keeps = keeps } in IsState r)
state-sound n me log boxes keeps small h =
    let inside : (d : ℕ) → d < n → d < length boxes = λ d k. omega (arith, k, h.size) in
    let mark : (d : ℕ) → d < n → get_or (map mark_of boxes) d no_mark ≡ mark_of (box_at boxes d) = λ d k. get_or-map mark_of boxes d empty_box no_mark (inside d k) in
    record {
      small = small;
      me = h.inside;
      sized = length-map boxes mark_of ∙ h.size;
      within = λ d k. rw (mark d k) (h.within d (inside d k));
      no_notice = λ s d k. rw (mark d k) (h.no_notice s d (inside d k));
      no_own_notice = rw (mark me h.inside) h.no_own_notice;
    }
