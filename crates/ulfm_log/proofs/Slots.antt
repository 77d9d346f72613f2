-- What a change of one outbox changes of the list of all of them.
use Rattle.std.proofs.Common.{◌≡◌, ◌≢◌, ℕ, suc, ◌+◌, ◌<◌, ◌≤◌, Bool, true, false, eqb, List, [], ◌∷◌, length, map, get_or, set, refl, ap, sym, subst, ◌∙◌, arith, inl, inr, ◌⊎◌, append-nil}
use Rattle.ulfm_log.proofs.Common.{cases_eq, false≢true, list_all, nat_tests, Box, Slot, contents_of, has_room, is_lent, empty_box, box_at, with_item, for_each, Grows, AllGrow, list_all-map, list_all_at, get_or-map}
use Rattle.std.specs.List.{AllZip}
use Rattle.std.proofs.Math.Seq.{map-set_same}
use Rattle.std.proofs.lemmas.List.{map-set, length-map, length-set, get_or_read, get_or-set_same, get_or-set_other}
use Rattle.ulfm_base.specs.declared.item.Item.{Item}

abbrev pub empty_slot : Slot
empty_slot = record { contents = empty_box; room = false; lent = false }

some_bool : (b : Bool) → (b ≡ true) ⊎ (b ≡ false)
some_bool true = inl refl
some_bool false = inr refl

abbrev pub slot_at : List Slot → ℕ → Slot
slot_at slots d = get_or slots d empty_slot

pub box-slot : (slots : List Slot) (d : ℕ) → box_at (map contents_of slots) d ≡ (slot_at slots d).contents
box-slot slots d = get_or-map contents_of slots d empty_slot

-- its place is there
pub within : (slots : List Slot) (boxes : List Box) (d : ℕ) → map contents_of slots ≡ boxes → d < length boxes → d < length slots
within slots boxes d seen inside = omega (arith, ap length seen, length-map slots contents_of)

-- copies have the same contents
pub same_contents : (xs ys : List Slot) → AllZip (λ x y. y.contents ≡ x.contents) xs ys → map contents_of ys ≡ map contents_of xs
same_contents [] [] z = refl
same_contents [] (y ∷ ys) z = absurd z
same_contents (x ∷ xs) [] z = absurd z
same_contents (x ∷ xs) (y ∷ ys) z = subst (λ b. b ∷ map contents_of ys ≡ x.contents ∷ map contents_of xs) (sym z.0) (ap (λ bs. x.contents ∷ bs) (same_contents xs ys z.1))

-- the outbox that is read at a place
pub read : (slots : List Slot) (boxes : List Box) (d : ℕ) (s : Slot) → map contents_of slots ≡ boxes → d < length boxes → s ≡ get_or slots d s → s.contents ≡ box_at boxes d
read slots boxes d s seen inside is =
    ap contents_of (get_or_read slots d s (within slots boxes d seen inside) is empty_slot) ∙ sym (box-slot slots d) ∙ ap (λ bs. box_at bs d) seen

-- the boxes after a change of one of them
pub put : (slots : List Slot) {boxes : List Box} (d : ℕ) {s : Slot} (s' : Slot) (f : Box → Box) → map contents_of slots ≡ boxes → d < length boxes → s ≡ get_or slots d s → s'.contents ≡ f s.contents →
    map contents_of (set slots d s') ≡ set boxes d (f (box_at boxes d))
put slots {boxes} d {s} s' f seen inside is change =
    map-set contents_of slots d s' ∙ ap (set (map contents_of slots) d) (change ∙ ap f (read slots boxes d s seen inside is)) ∙ ap (λ bs. set bs d (f (box_at boxes d))) seen

all_rooms : (slots : List Slot) → list_all has_room slots ≡ list_all (λ b. b) (map has_room slots)
all_rooms slots = sym (list_all-map (λ b. b) has_room slots)

-- the room of all, where a change of one outbox keeps its room
pub room_kept : (slots : List Slot) {boxes : List Box} {room : Bool} (d : ℕ) {s : Slot} (s' : Slot) → map contents_of slots ≡ boxes → list_all has_room slots ≡ room → d < length boxes → s ≡ get_or slots d s → s'.room ≡ s.room →
    list_all has_room (set slots d s') ≡ room
room_kept slots {boxes} {room} d {s} s' seen all inside is same =
    let was = get_or_read slots d s (within slots boxes d seen inside) is empty_slot in
    all_rooms (set slots d s') ∙ ap (list_all (λ b. b)) (map-set_same has_room slots d s' empty_slot (same ∙ ap has_room was)) ∙ sym (all_rooms slots) ∙ all

-- whether the item that went out last keeps its place, of one outbox and of one that changed
pub lent_read : (slots : List Slot) {boxes : List Box} {lent : List Bool} (d : ℕ) {s : Slot} → map contents_of slots ≡ boxes → map is_lent slots ≡ lent → d < length boxes → s ≡ get_or slots d s → get_or lent d false ≡ s.lent
lent_read slots {boxes} d seen at inside is =
    ap (λ bs. get_or bs d false) (sym at) ∙ get_or-map is_lent slots d empty_slot ∙ sym (ap is_lent (get_or_read slots d _ (within slots boxes d seen inside) is empty_slot))

pub lent_now : (slots : List Slot) {boxes : List Box} (d : ℕ) (s' : Slot) → map contents_of slots ≡ boxes → d < length boxes → get_or (map is_lent (set slots d s')) d false ≡ s'.lent
lent_now slots {boxes} d s' seen inside = get_or-map is_lent (set slots d s') d empty_slot ∙ ap is_lent (get_or-set_same slots d s' empty_slot (within slots boxes d seen inside))

set_here : (slots : List Slot) (d k : ℕ) (s : Slot) → k ≡ d → d < length slots → slot_at (set slots d s) k ≡ s
set_here slots d k s same inside = ap (slot_at (set slots d s)) same ∙ get_or-set_same slots d s empty_slot inside

set_else : (slots : List Slot) (d k : ℕ) (s : Slot) → k ≢ d → slot_at (set slots d s) k ≡ slot_at slots k
set_else slots d k s other = get_or-set_other slots d k s empty_slot other

-- each outbox has room, where all have
pub room_at : (slots : List Slot) (d : ℕ) → list_all has_room slots ≡ true → d < length slots → (slot_at slots d).room ≡ true
room_at slots d all inside = elim (some_bool (slot_at slots d).room) [
  | inl yes_room ↦ yes_room
  | inr lacks ↦ absurd (false≢true (sym (list_all_at has_room slots d empty_slot inside lacks) ∙ all))
]

-- all have room, where each has
pub room_all : (slots : List Slot) → ((d : ℕ) → d < length slots → (slot_at slots d).room ≡ true) → list_all has_room slots ≡ true
room_all [] each = refl
room_all (s ∷ slots) each = rw (each 0 (omega arith)) (room_all slots (λ d h. each (suc d) (omega (arith, h))))

pub room_here : (slots : List Slot) (d : ℕ) {s : Slot} → list_all has_room slots ≡ true → d < length slots → s ≡ get_or slots d s → s.room ≡ true
room_here slots d all inside is = ap has_room (get_or_read slots d _ inside is empty_slot) ∙ room_at slots d all inside

-- all have room, where one changed that has
pub room_set : (slots : List Slot) (d : ℕ) (s' : Slot) → list_all has_room slots ≡ true → s'.room ≡ true → list_all has_room (set slots d s') ≡ true
room_set slots d s' all room = room_all (set slots d s') (λ k h. elim (cases_eq k d) [
  | inl here ↦ ap has_room (set_here slots d k s' here (omega (arith, h, here, length-set slots d s'))) ∙ room
  | inr other ↦ ap has_room (set_else slots d k s' other) ∙ room_at slots k all (omega (arith, h, length-set slots d s'))
])

-- the boxes after an item was put into one of them
pub grow_one : (boxes : List Box) (to : ℕ) (item : Item) → to < length boxes → AllGrow boxes (set boxes to (with_item (box_at boxes to) item)) (for_each (eqb to) item)
grow_one boxes to item inside =
    let b = with_item (box_at boxes to) item in
    record {
      size = length-set boxes to b;
      each = λ d h. elim (cases_eq d to) [
        | inl same ↦
            let t : eqb to d ≡ true = grind (arith, nat_tests) in
            let here : box_at (set boxes to b) d ≡ b = ap (box_at (set boxes to b)) same ∙ get_or-set_same boxes to b empty_box inside in
            let was : box_at boxes d ≡ box_at boxes to = ap (box_at boxes) same in
            rw (here, was, t) (record { grown = refl; items_out = refl; notice_out = refl })
        | inr other ↦
            let t : eqb to d ≡ false = grind (arith, nat_tests) in
            let here = get_or-set_other boxes to d b empty_box other in
            rw (here, t) (record { grown = sym (append-nil (box_at boxes d).items); items_out = refl; notice_out = refl })
      ];
    }

-- a change of one outbox that keeps its contents
pub contents_kept : (slots : List Slot) (d : ℕ) {s : Slot} (s' : Slot) → d < length slots → s ≡ get_or slots d s → s'.contents ≡ s.contents → map contents_of (set slots d s') ≡ map contents_of slots
contents_kept slots d {s} s' inside is same = map-set_same contents_of slots d s' empty_slot (same ∙ ap contents_of (get_or_read slots d s inside is empty_slot))

-- the outboxes below d got room, and what they hold didn't change
pub record Reserving (was now : List Slot) (d : ℕ) : Type 0 where
  pub size : length now ≡ length was
  pub contents : map contents_of now ≡ map contents_of was
  pub done : (k : ℕ) → k < d → (slot_at now k).room ≡ true

pub reserving-start : {slots : List Slot} → Reserving slots slots 0
reserving-start {slots} = record { size = refl; contents = refl; done = λ k h. absurd (omega (arith, h)) }

pub reserving-step : {was now : List Slot} {d : ℕ} {s : Slot} (s' : Slot) → Reserving was now d → d < length now → s ≡ get_or now d s → s'.contents ≡ s.contents → s'.room ≡ true → Reserving was (set now d s') (d + 1)
reserving-step {was} {now} {d} {s} s' so_far inside is same room = record {
  size = length-set now d s' ∙ so_far.size;
  contents = contents_kept now d s' inside is same ∙ so_far.contents;
  done = λ k h. elim (cases_eq k d) [
    | inl here ↦ ap has_room (set_here now d k s' here inside) ∙ room
    | inr other ↦ ap has_room (set_else now d k s' other) ∙ so_far.done k (omega (arith, h, other))
  ];
}

-- an item was put into each outbox below d whose destination is one of `to`, and no more changed
pub record Leaving (was now : List Slot) (d : ℕ) (item : Item) (to : ℕ → Bool) : Type 0 where
  pub size : length now ≡ length was
  pub done : (k : ℕ) → k < d → Grows (slot_at was k).contents (slot_at now k).contents (for_each to item k)
  pub rest : (k : ℕ) → d ≤ k → slot_at now k ≡ slot_at was k

pub leaving-start : {slots : List Slot} {item : Item} {to : ℕ → Bool} → Leaving slots slots 0 item to
leaving-start {slots} {item} {to} = record { size = refl; done = λ k h. absurd (omega (arith, h)); rest = λ k h. refl }

pub leaving-room : {was now : List Slot} {d : ℕ} {item : Item} {to : ℕ → Bool} {s : Slot} → Leaving was now d item to → list_all has_room was ≡ true → d < length now → s ≡ get_or now d s → s.room ≡ true
leaving-room {was} {now} {d} {item} {to} {s} so_far all inside is =
    ap has_room (get_or_read now d s inside is empty_slot ∙ so_far.rest d (omega arith)) ∙ room_at was d all (omega (arith, inside, so_far.size))

pub leaving-passed : {was now : List Slot} {d : ℕ} {item : Item} {to : ℕ → Bool} → Leaving was now d item to → to d ≡ false → Leaving was now (d + 1) item to
leaving-passed {was} {now} {d} {item} {to} so_far outside = record {
  size = so_far.size;
  done = λ k h. elim (cases_eq k d) [
    | inl here ↦
        let t : to k ≡ false = ap to here ∙ outside in
        let same = so_far.rest k (omega (arith, here)) in
        rw (t, same) (record { grown = sym (append-nil (slot_at was k).contents.items); items_out = refl; notice_out = refl })
    | inr other ↦ so_far.done k (omega (arith, h, other))
  ];
  rest = λ k h. so_far.rest k (omega (arith, h));
}

pub leaving-step : {was now : List Slot} {d : ℕ} {item : Item} {to : ℕ → Bool} {s : Slot} (s' : Slot) → Leaving was now d item to → to d ≡ true → d < length now → s ≡ get_or now d s → s'.contents ≡ with_item s.contents item → Leaving was (set now d s') (d + 1) item to
leaving-step {was} {now} {d} {item} {to} {s} s' so_far member inside is left = record {
  size = length-set now d s' ∙ so_far.size;
  done = λ k h. elim (cases_eq k d) [
    | inl here ↦
        let t : to k ≡ true = ap to here ∙ member in
        let was_there : (slot_at was k).contents ≡ s.contents = ap (λ i. (slot_at was i).contents) here ∙ ap contents_of (sym (so_far.rest d (omega arith)) ∙ sym (get_or_read now d s inside is empty_slot)) in
        let now_there : (slot_at (set now d s') k).contents ≡ with_item s.contents item = ap contents_of (set_here now d k s' here inside) ∙ left in
        rw (t, was_there, now_there) (record { grown = refl; items_out = refl; notice_out = refl })
    | inr other ↦ rw (set_else now d k s' other) (so_far.done k (omega (arith, h, other)))
  ];
  rest = λ k h. set_else now d k s' (omega (arith, h)) ∙ so_far.rest k (omega (arith, h));
}

pub leaving-end : {was now : List Slot} {boxes : List Box} {d : ℕ} {item : Item} {to : ℕ → Bool} → map contents_of was ≡ boxes → Leaving was now d item to → length now ≤ d → AllGrow boxes (map contents_of now) (for_each to item)
leaving-end {was} {now} {boxes} {d} {item} {to} seen so_far whole =
    rw (← seen) (record {
      size = length-map now contents_of ∙ so_far.size ∙ sym (length-map was contents_of);
      each = λ k h. rw (box-slot was k, box-slot now k) (so_far.done k (omega (arith, h, whole, length-map now contents_of)));
    })
