-- What was walked has one order, in which stops have their room.
use Rattle.std.proofs.Common.{◌≡◌, ◌<◌, ◌≤◌, ◌+◌, ℕ, List, length, take, set, replicate, slice_index, refl, ap, sym, subst, ◌∙◌, inl, inr, arith, Option, IfSome}
use Rattle.std.proofs.lemmas.List.{length-set}
use Rattle.std.proofs.lemmas.Option.{IfSome_then}
use Rattle.ulfm_log.specs.declared.entry.Entry.TheVariants.{Adopted, Stopped, Took}
use Rattle.ulfm_base.proofs.Places.{only_at}
use Rattle.ulfm_base.specs.declared.decision.Decision.{Decision}
use Rattle.ulfm_run.proofs.Common.{at, Entry, Item, Report, WorldRank, get_or-blank, slice_get_within}
use Rattle.ulfm_report_laws.proofs.Times.{time_else, time_here, with_time}
use Rattle.ulfm_run.proofs.Fronts.{walked_cases, walked_still}
use Rattle.ulfm_run.proofs.Placed.{IsPlaced, placed}
use Rattle.ulfm_run.specs.inside.Walk.{IsOwedByWalked, HasRoomNow, MayPass, GoesOn, StepsOn, IsOwedWithin, IsProposedWithin, StopHasRoom, IsWalked}

none_yet : (r k : ℕ) → k < slice_index (replicate 8 0) r → ⊥
none_yet r k h = omega (arith, h, get_or-blank {X = ℕ} 8 r 0)

-- before the first step
pub walked_none : (room : Option ℕ) (reports : List Report) → IsWalked room reports (replicate 8 0)
walked_none room reports = record {
  sized = refl;
  time = λ r k. 0;
  now = 0;
  past = λ r k h. absurd (none_yet r k h);
  onward = λ r k h. absurd (none_yet r (k + 1) h);
  owed = λ d k receiver source item here h stands. absurd (none_yet d k h);
  proposed = λ r k told d here h stands. absurd (none_yet r k h);
  stops = λ s k sender here h stands. absurd (none_yet s k h);
}

module _ {room : Option ℕ} {reports : List Report} {old : List ℕ} {d : ℕ} (w : IsWalked room reports old) (goes : GoesOn room reports old d) (inside : d < length old) where
  abbrev front : ℕ
  front = slice_index old d

  abbrev new : List ℕ
  new = set old d (slice_index old d + 1)

  abbrev time : ℕ → ℕ → ℕ
  time = with_time w.time d front w.now

  here : (r k : ℕ) → (r ≡ d) × (k ≡ front) → time r k ≡ w.now
  here r k one = time_here w.time d front w.now r k one.0 one.1

  before : (r k : ℕ) → k < slice_index old r → time r k ≡ w.time r k
  before r k lt = time_else w.time d front w.now r k (λ one two. let same = ap (slice_index old) one in omega (arith, lt, same, two))

  past : (r k : ℕ) → k < slice_index new r → time r k < w.now + 1
  past r k lt = elim (walked_cases old d r k inside lt) [
    | inl one ↦ omega (arith, here r k one)
    | inr then ↦ omega (arith, before r k then, w.past r k then)
  ]

  onward : (r k : ℕ) → k + 1 < slice_index new r → time r k < time r (k + 1)
  onward r k lt = elim (walked_cases old d r (k + 1) inside lt) [
    | inl one ↦
        let then : k < slice_index old r = (let same = ap (slice_index old) one.0 in omega (arith, one.1, same)) in
        omega (arith, before r k then, w.past r k then, here r (k + 1) one)
    | inr then ↦ omega (arith, before r k (omega (arith, then)), before r (k + 1) then, w.onward r k then)
  ]

  -- what was owed earlier still is
  kept : (s e k : ℕ) (log : List Entry) (item : Item) → k < slice_index old e → IsOwedWithin reports old w.time s e k log item → IsOwedWithin reports new time s e k log item
  kept s e k log item lt h = record {
    owed = record {
      sender = h.owed.sender;
      reported = h.owed.reported;
      count = h.owed.count;
      earlier = λ j few. omega (arith, h.owed.earlier j few, before s j (omega (arith, few, h.within)), before e k lt);
      owed = h.owed.owed;
    };
    within = omega (arith, h.within, walked_still old d s inside);
  }

  -- what the new entry takes is owed by what was walked
  added : (k s : ℕ) (log : List Entry) (item : Item) → k ≡ front → IsOwedByWalked reports old s d log item → IsOwedWithin reports new time s d k log item
  added k s log item at_front h = record {
    owed = record {
      sender = h.sender;
      reported = h.reported;
      count = slice_index old s;
      earlier = λ j few. omega (arith, w.past s j few, before s j few, here d k (refl, at_front));
      owed = h.owed;
    };
    within = walked_still old d s inside;
  }

  -- the entry that a step passes
  passed : (told : Report) (k : ℕ) (entry : Entry) → at reports d told → k ≡ front → at told.rank.log k entry → MayPass room reports old d (take k told.rank.log) entry
  passed told k entry reported at_front stands =
      let one : told ≡ goes.told = only_at reports d goes.told told goes.reported reported in
      let same : entry ≡ goes.entry = only_at goes.told.rank.log front goes.entry entry goes.next (subst (λ (i : ℕ). at goes.told.rank.log i entry) at_front (subst (λ (x : Report). at x.rank.log k entry) one stands)) in
      subst (λ (x : Report). MayPass room reports old d (take k x.rank.log) entry) (sym one)
      (subst (λ (i : ℕ). MayPass room reports old d (take i goes.told.rank.log) entry) (sym at_front)
      (subst (λ (e : Entry). MayPass room reports old d (take front goes.told.rank.log) e) (sym same) goes.passes))

  owed : (e k : ℕ) (receiver : Report) (source : WorldRank) (item : Item) → at reports e receiver → k < slice_index new e → at receiver.rank.log k (Took source item)
      → IsOwedWithin reports new time source.number e k (take k receiver.rank.log) item
  owed e k receiver source item reported lt stands = elim (walked_cases old d e k inside lt) [
    | inl one ↦
        let there_too = subst (λ (i : ℕ). at reports i receiver) one.0 reported in
        subst (λ (i : ℕ). IsOwedWithin reports new time source.number i k (take k receiver.rank.log) item) (sym one.0)
        (added k source.number (take k receiver.rank.log) item one.1 (passed receiver k (Took source item) there_too one.1 stands))
    | inr then ↦ kept source.number e k (take k receiver.rank.log) item then (w.owed e k receiver source item reported then stands)
  ]

  -- what was proposed before some time still was
  proposed_still : (r k now : ℕ) (decision : Decision) → now ≤ time r k → (h : IsPlaced reports old decision) → ((j : ℕ) → j < h.place → w.time h.rank j < now) → IsProposedWithin reports new time (time r k) decision
  proposed_still r k now decision le h earlier = record {
    proposed = record {
      rank = h.rank;
      told = h.told;
      reported = h.reported;
      place = h.place;
      made = h.made;
      earlier = λ j few. omega (arith, earlier j few, before h.rank j (omega (arith, few, h.walked)), le);
    };
    walked = omega (arith, h.walked, walked_still old d h.rank inside);
  }

  proposed : (r k : ℕ) (told : Report) (decision : Decision) → at reports r told → k < slice_index new r → at told.rank.log k (Adopted decision) → IsProposedWithin reports new time (time r k) decision
  proposed r k told decision reported lt stands = elim (walked_cases old d r k inside lt) [
    | inl one ↦
        let h = placed reports old decision (passed told k (Adopted decision) (subst (λ (i : ℕ). at reports i told) one.0 reported) one.1 stands) in
        proposed_still r k w.now decision (omega (arith, here r k one)) h (λ j few. w.past h.rank j (omega (arith, few, h.walked)))
    | inr then ↦
        let was = w.proposed r k told decision reported then stands in let p = was.proposed in
        proposed_still r k (w.time r k) decision (omega (arith, before r k then)) (record { rank = p.rank; told = p.told; reported = p.reported; place = p.place; walked = was.walked; made = p.made }) p.earlier
  ]

  -- a stop that had room still has it
  room_kept : (s k : ℕ) → k < slice_index old s → (capacity : ℕ) → StopHasRoom reports old w.time s k capacity → StopHasRoom reports new time s k capacity
  room_kept s k lt capacity h e receiver reported =
      let one = h e receiver reported in record {
        room = record {
          count = one.room.count;
          earlier = λ j few. omega (arith, one.room.earlier j few, before e j (omega (arith, few, one.within)), before s k lt);
          few = one.room.few;
        };
        within = omega (arith, one.within, walked_still old d e inside);
      }

  -- a new stop has room by what was walked
  room_added : (k : ℕ) → k ≡ front → (capacity : ℕ) → HasRoomNow reports old d capacity → StopHasRoom reports new time d k capacity
  room_added k at_front capacity h e receiver reported = record {
    room = record {
      count = slice_index old e;
      earlier = λ j few. omega (arith, w.past e j few, before e j few, here d k (refl, at_front));
      few = h e receiver reported;
    };
    within = walked_still old d e inside;
  }

  stops : (s k : ℕ) (sender : Report) → at reports s sender → k < slice_index new s → at sender.rank.log k Stopped → IfSome room (StopHasRoom reports new time s k)
  stops s k sender reported lt stands = elim (walked_cases old d s k inside lt) [
    | inl one ↦
        let there_too = subst (λ (i : ℕ). at reports i sender) one.0 reported in
        subst (λ (i : ℕ). IfSome room (StopHasRoom reports new time i k)) (sym one.0)
        (IfSome_then room (passed sender k Stopped there_too one.1 stands) (λ capacity. room_added k one.1 capacity))
    | inr then ↦ IfSome_then room (w.stops s k sender reported then stands) (λ capacity. room_kept s k then capacity)
  ]

  walked_more : IsWalked room reports new
  walked_more = record {
    sized = length-set old d (front + 1) ∙ w.sized;
    time = time;
    now = w.now + 1;
    past = past;
    onward = onward;
    owed = owed;
    proposed = proposed;
    stops = stops;
  }

-- after a step
pub walked_step : {room : Option ℕ} {reports : List Report} {old new : List ℕ} (d : ℕ) → length reports ≤ 8 → IsWalked room reports old → StepsOn room reports old d new → IsWalked room reports new
walked_step {room} {reports} {old} d few w step =
    let inside = slice_get_within reports d step.goes.told step.goes.reported in
    subst (λ (fronts : List ℕ). IsWalked room reports fronts) (sym step.moved) (walked_more w step.goes (omega (arith, few, inside, w.sized)))
