-- Logs that grow by an entry at a time, each of them due, keep one order.
use Rattle.std.proofs.Common.{◌≡◌, ◌≢◌, ◌<◌, ◌≤◌, ◌+◌, ◌⊎◌, ℕ, List, [], ◌∷◌, ◌++◌, length, take, refl, ap, sym, subst, ◌∙◌, inl, inr, arith, length-append, append-nil}
use Rattle.std.proofs.Math.Seq.{take-append_seam}
use Rattle.ulfm_match.proofs.Cut.{get_in_front}
use Rattle.ulfm_base.proofs.Longer.{get_here}
use Rattle.ulfm_report_laws.specs.Order.{Owe}
use Rattle.ulfm_report_laws.proofs.Times.{time_else, time_here, with_time}
use Rattle.ulfm_world.proofs.Common.{Adopted, Decision, Entry, Item, StepReport, Took, WorldRank, at, cases_eq, cases_lt, same_Some, slice_get_within}
use Rattle.ulfm_world.proofs.Ordered.{AreOrdered, GoesOn, GrowsAt, IsDue, IsMade, IsMadeBefore, IsOwedBefore, front_goes_on, made_come, made_still}

-- logs that stay as they were keep their order
ordered_same : {n : ℕ} {old new : ℕ → List Entry} {answered later : ℕ → List StepReport} → ((r : ℕ) → new r ≡ old r) → ((r : ℕ) → GoesOn (answered r) (later r)) → AreOrdered n old answered → AreOrdered n new later
ordered_same {n} {old} {new} {answered} {later} same steps o = record {
  time = o.time;
  now = o.now;
  past = λ r k h. o.past r k (omega (arith, h, ap length (same r)));
  onward = λ r k h. o.onward r k (omega (arith, h, ap length (same r)));
  owed = λ d k source item here.
      let s = source.number in
      let was = o.owed d k source item (subst (λ (log : List Entry). at log k (Took source item)) (same d) here) in record {
        inside = was.inside;
        count = was.count;
        within = omega (arith, was.within, ap length (same s));
        earlier = was.earlier;
        owed = subst (λ (log : List Entry). Owe s d (take was.count log) (take k (new d)) item) (sym (same s)) (subst (λ (log : List Entry). Owe s d (take was.count (old s)) (take k log) item) (sym (same d)) was.owed);
      };
  made = λ r k d here.
      let was = o.made r k d (subst (λ (log : List Entry). at log k (Adopted d)) (same r) here) in
      record { made = made_come (λ x. omega (arith, ap length (same x))) (made_still (λ x. ([], same x ∙ sym (append-nil (old x)))) steps was.made); earlier = was.earlier };
}

module _ {n d : ℕ} {old new : ℕ → List Entry} {answered later : ℕ → List StepReport} (o : AreOrdered n old answered) (entry : Entry) (grown : new d ≡ old d ++ entry ∷ []) (due : IsDue n old new later d entry) (others : (r : ℕ) → r ≢ d → new r ≡ old r) (steps : (r : ℕ) → GoesOn (answered r) (later r)) where
  abbrev front : ℕ
  front = length (old d)

  abbrev time : ℕ → ℕ → ℕ
  time = with_time o.time d front o.now

  -- a log is its old part, and what came
  parts : (r : ℕ) → GoesOn (old r) (new r)
  parts r = elim (cases_eq r d) [
    | inl one ↦ (entry ∷ [], ap new one ∙ grown ∙ ap (λ i. old i ++ entry ∷ []) (sym one))
    | inr other ↦ ([], others r other ∙ sym (append-nil (old r)))
  ]

  longer : (r : ℕ) → length (old r) ≤ length (new r)
  longer r = omega (arith, ap length (parts r).1, length-append (old r) (parts r).0)

  -- a beginning of the old log is one of the new log
  front_same : (r count : ℕ) → count ≤ length (old r) → take count (new r) ≡ take count (old r)
  front_same r count le = front_goes_on (old r) (new r) (parts r) count le

  -- a place is the new one, or stood before
  place_cases : (r k : ℕ) → k < length (new r) → ((r ≡ d) × (k ≡ front)) ⊎ (k < length (old r))
  place_cases r k lt = elim (cases_eq r d) [
    | inl one ↦
        let long : length (new r) ≡ front + 1 = ap (λ i. length (new i)) one ∙ ap length grown ∙ length-append (old d) (entry ∷ []) in
        elim (cases_lt k front) [
          | inl before ↦ inr (subst (λ i. k < length (old i)) (sym one) before)
          | inr least ↦ inl (one, omega (arith, least, long, lt))
        ]
    | inr other ↦ inr (omega (arith, lt, ap length (others r other)))
  ]

  here : (r k : ℕ) → (r ≡ d) × (k ≡ front) → time r k ≡ o.now
  here r k one = time_here o.time d front o.now r k one.0 one.1

  before : (r k : ℕ) → k < length (old r) → time r k ≡ o.time r k
  before r k lt = time_else o.time d front o.now r k (λ one two. omega (arith, lt, ap (λ i. length (old i)) one, two))

  past : (r k : ℕ) → k < length (new r) → time r k < o.now + 1
  past r k lt = elim (place_cases r k lt) [
    | inl one ↦ omega (arith, here r k one)
    | inr then ↦ omega (arith, before r k then, o.past r k then)
  ]

  onward : (r k : ℕ) → k + 1 < length (new r) → time r k < time r (k + 1)
  onward r k lt = elim (place_cases r (k + 1) lt) [
    | inl one ↦
        let then : k < length (old r) = omega (arith, one.1, ap (λ i. length (old i)) one.0) in
        omega (arith, before r k then, o.past r k then, here r (k + 1) one)
    | inr then ↦ omega (arith, before r k (omega (arith, then)), before r (k + 1) then, o.onward r k (omega (arith, then)))
  ]

  -- what was owed earlier still is
  kept : (e k : ℕ) (source : WorldRank) (item : Item) → k < length (old e) → IsOwedBefore n old o.time source.number e k item → IsOwedBefore n new time source.number e k item
  kept e k source item lt h =
      let s = source.number in record {
        inside = h.inside;
        count = h.count;
        within = omega (arith, h.within, longer s);
        earlier = λ j few. omega (arith, h.earlier j few, before s j (omega (arith, few, h.within)), before e k lt);
        owed = subst (λ (log : List Entry). Owe s e log (take k (new e)) item) (sym (front_same s h.count h.within)) (subst (λ (log : List Entry). Owe s e (take h.count (old s)) log item) (sym (front_same e k (omega (arith, lt)))) h.owed);
      }

  -- what the new entry takes is owed by what was there
  added : (k : ℕ) (source : WorldRank) (item : Item) → k ≡ front → entry ≡ Took source item → IsOwedBefore n new time source.number d k item
  added k source item at_front is =
      let s = source.number in let given = subst (λ (x : Entry). IsDue n old new later d x) is due in
      let whole : take (length (old s)) (new s) ≡ old s = ap (take (length (old s))) (parts s).1 ∙ take-append_seam (old s) (parts s).0 in
      let log : take k (new d) ≡ old d = ap (λ i. take i (new d)) at_front ∙ ap (take front) grown ∙ take-append_seam (old d) (entry ∷ []) in record {
        inside = given.0;
        count = length (old s);
        within = longer s;
        earlier = λ j few. omega (arith, o.past s j few, before s j few, here d k (refl, at_front));
        owed = subst (λ (xs : List Entry). Owe s d xs (take k (new d)) item) (sym whole) (subst (λ (xs : List Entry). Owe s d (old s) xs item) (sym log) given.1);
      }

  -- the entry that came
  new_entry : (k : ℕ) (x : Entry) → k ≡ front → at (new d) k x → entry ≡ x
  new_entry k x at_front stands =
      let last : at (old d ++ entry ∷ []) front x = subst (λ (log : List Entry). at log front x) grown (subst (λ i. at (new d) i x) at_front stands) in
      same_Some entry x (sym (get_here (old d) entry []) ∙ last)

  -- an entry at a place is the new one, or stood there before
  entry_cases : (r k : ℕ) (x : Entry) → at (new r) k x → ((r ≡ d) × (k ≡ front) × (entry ≡ x)) ⊎ ((k < length (old r)) × at (old r) k x)
  entry_cases r k x stands = elim (place_cases r k (slice_get_within (new r) k x stands)) [
    | inl one ↦ inl (one.0, one.1, new_entry k x one.1 (subst (λ i. at (new i) k x) one.0 stands))
    | inr then ↦ inr (then, get_in_front (old r) (parts r).0 k x then (subst (λ (log : List Entry). at log k x) (parts r).1 stands))
  ]

  owed : (e k : ℕ) (source : WorldRank) (item : Item) → at (new e) k (Took source item) → IsOwedBefore n new time source.number e k item
  owed e k source item stands = elim (entry_cases e k (Took source item) stands) [
    | inl one ↦ subst (λ i. IsOwedBefore n new time source.number i k item) (sym one.0) (added k source item one.1 one.2)
    | inr then ↦ kept e k source item then.0 (o.owed e k source item then.1)
  ]

  -- what was proposed before a time of the old logs, or before now
  made_at : (r k bound : ℕ) (decision : Decision) → time r k ≡ bound → (h : IsMade n old new later decision) → ((j : ℕ) → j < h.place → o.time h.rank j < bound) → IsMadeBefore n new later time (time r k) decision
  made_at r k bound decision is h earlier = record {
    made = record { rank = h.rank; inside = h.inside; place = h.place; come = h.made.within; made = h.made };
    earlier = λ j few. omega (arith, earlier j few, before h.rank j (omega (arith, few, h.come)), is);
  }

  made : (r k : ℕ) (decision : Decision) → at (new r) k (Adopted decision) → IsMadeBefore n new later time (time r k) decision
  made r k decision stands = elim (entry_cases r k (Adopted decision) stands) [
    | inl one ↦
        let given = subst (λ (x : Entry). IsDue n old new later d x) one.2 due in
        made_at r k o.now decision (here r k (one.0, one.1)) given (λ j few. o.past given.rank j (omega (arith, few, given.come)))
    | inr then ↦ let was = o.made r k decision then.1 in made_at r k (o.time r k) decision (before r k then.0) (made_still parts steps was.made) was.earlier
  ]

  ordered_more : AreOrdered n new later
  ordered_more = record { time = time; now = o.now + 1; past = past; onward = onward; owed = owed; made = made }

-- logs of which one grew
pub ordered_grown : {n : ℕ} {old : ℕ → List Entry} {answered : ℕ → List StepReport} (d : ℕ) {new : ℕ → List Entry} {later : ℕ → List StepReport} → AreOrdered n old answered → GrowsAt n old answered d new later → AreOrdered n new later
ordered_grown {n} {old} {answered} d {new} {later} o grows = pick grows.here
  where
    pick : (new d ≡ old d) ⊎ ((entry : Entry) × (new d ≡ old d ++ entry ∷ []) × IsDue n old new later d entry) → AreOrdered n new later
    pick (inl stays) = ordered_same (λ r. elim (cases_eq r d) [ inl one ↦ ap new one ∙ stays ∙ ap old (sym one) | inr other ↦ grows.others r other ]) grows.steps o
    pick (inr more) = ordered_more o more.0 more.1 more.2 grows.others grows.steps
