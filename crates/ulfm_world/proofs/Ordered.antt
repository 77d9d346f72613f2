-- Logs that have one order, in which each item is owed as it is taken, and each decision proposed as it is adopted.
use Rattle.std.proofs.Common.{◌≡◌, ◌≢◌, ◌<◌, ◌≤◌, ◌+◌, ◌⊎◌, ℕ, List, [], ◌∷◌, ◌++◌, Some, length, take, ap, sym, subst, ◌∙◌, inl, inr, arith, length-append}
use Rattle.std.specs.Prelude.{⊤}
use Rattle.std.proofs.lemmas.List.{take-append-le}
use Rattle.ulfm_match.proofs.Cut.{get_front}
use Rattle.ulfm_report_laws.specs.Order.{Owe}
use Rattle.ulfm_report_laws.specs.Proposed.{ProposesAt, ProposesBy}
use Rattle.ulfm_script.specs.Deciding.{topic_of}
use Rattle.ulfm_world.proofs.Common.{Adopted, Decision, Entry, Item, StepReport, Took, WorldRank, at, slice_get_within}

-- an item that was taken is owed earlier, by entries that are there
pub record IsOwedBefore (n : ℕ) (logs : ℕ → List Entry) (time : ℕ → ℕ → ℕ) (s d k : ℕ) (item : Item) : Type 0 where
  pub inside : s < n
  pub count : ℕ
  pub within : count ≤ length (logs s)
  pub earlier : (j : ℕ) → j < count → time s j < time d k
  pub owed : Owe s d (take count (logs s)) (take k (logs d)) item

-- a rank proposed a decision, at a place that its log had come to
pub record IsMade (n : ℕ) (front logs : ℕ → List Entry) (steps : ℕ → List StepReport) (d : Decision) : Type 0 where
  pub rank : ℕ
  pub inside : rank < n
  pub place : ℕ
  pub come : place ≤ length (front rank)
  pub made : ProposesAt rank (logs rank) (steps rank) place d

-- and all that it did before comes before this time
pub record IsMadeBefore (n : ℕ) (logs : ℕ → List Entry) (steps : ℕ → List StepReport) (time : ℕ → ℕ → ℕ) (now : ℕ) (d : Decision) : Type 0 where
  pub made : IsMade n logs logs steps d
  pub earlier : (j : ℕ) → j < made.place → time made.rank j < now

-- the logs of n ranks have one order, and all of it comes before `now`
pub record AreOrdered (n : ℕ) (logs : ℕ → List Entry) (steps : ℕ → List StepReport) : Type 0 where
  pub time : ℕ → ℕ → ℕ
  pub now : ℕ
  pub past : (r k : ℕ) → k < length (logs r) → time r k < now
  pub onward : (r k : ℕ) → k + 1 < length (logs r) → time r k < time r (k + 1)
  pub owed : (d k : ℕ) (source : WorldRank) (item : Item) → at (logs d) k (Took source item) → IsOwedBefore n logs time source.number d k item
  pub made : (r k : ℕ) (d : Decision) → at (logs r) k (Adopted d) → IsMadeBefore n logs steps time (time r k) d

-- An entry that comes takes an item that its sender owes, or adopts a decision that was proposed at a place that a log had come to,
-- or does neither.
abbrev pub IsDue : ℕ → (ℕ → List Entry) → (ℕ → List Entry) → (ℕ → List StepReport) → ℕ → Entry → Type 0
IsDue n old new later d (Took source item) = (source.number < n) × Owe source.number d (old source.number) (old d) item
IsDue n old new later d (Adopted decision) = IsMade n old new later decision
IsDue n old new later d _ = ⊤

-- one list begins as another one
abbrev pub GoesOn : {X : Type 0} → List X → List X → Type 0
GoesOn {X} old new = (more : List X) × (new ≡ old ++ more)

-- The log of d stays, or gets an entry that is due; the others stay. Further steps may be answered.
pub record GrowsAt (n : ℕ) (old : ℕ → List Entry) (answered : ℕ → List StepReport) (d : ℕ) (new : ℕ → List Entry) (later : ℕ → List StepReport) : Type 0 where
  pub here : (new d ≡ old d) ⊎ ((entry : Entry) × (new d ≡ old d ++ entry ∷ []) × IsDue n old new later d entry)
  pub others : (r : ℕ) → r ≢ d → new r ≡ old r
  pub steps : (r : ℕ) → GoesOn (answered r) (later r)

-- a beginning of a log stays
pub front_goes_on : (old new : List Entry) → GoesOn old new → (count : ℕ) → count ≤ length old → take count new ≡ take count old
front_goes_on old new more count le = ap (take count) more.1 ∙ take-append-le count old more.0 le

-- what was proposed stays proposed
abbrev pub made_still : {n : ℕ} {front old new : ℕ → List Entry} {answered later : ℕ → List StepReport} → ((r : ℕ) → GoesOn (old r) (new r)) → ((r : ℕ) → GoesOn (answered r) (later r)) → {d : Decision} → IsMade n front old answered d → IsMade n front new later d
made_still {n} {front} {old} {new} {answered} {later} logs steps {d} h =
    let r = h.rank in let more = logs r in let made = h.made in record {
      rank = r;
      inside = h.inside;
      place = h.place;
      come = h.come;
      made = record {
        within = omega (arith, made.within, ap length more.1, length-append (old r) more.0);
        asks = elim (made.asks) [
          | inl a ↦ inl (record { held = a.held; stands = subst (λ (log : List Entry). at log h.place (Adopted a.held)) (sym more.1) (get_front (old r) more.0 h.place (Adopted a.held) a.stands); about = a.about })
          | inr s ↦
              inr (record {
                number = s.number;
                step = s.step;
                stands = subst (λ (xs : List StepReport). at xs s.number s.step) (sym (steps r).1) (get_front (answered r) (steps r).0 s.number s.step s.stands);
                placed = s.placed;
                about = subst (λ (log : List Entry). topic_of log s.step.step ≡ Some d.topic) (sym (front_goes_on (old r) (new r) more h.place made.within)) s.about;
                starves = s.starves;
              })
        ];
        proposes = subst (λ (log : List Entry). ProposesBy r log d) (sym (front_goes_on (old r) (new r) more h.place made.within)) made.proposes;
      };
    }

-- and logs that are longer came to its place too
abbrev pub made_come : {n : ℕ} {front later logs : ℕ → List Entry} {steps : ℕ → List StepReport} {d : Decision} → ((r : ℕ) → length (front r) ≤ length (later r)) → IsMade n front logs steps d → IsMade n later logs steps d
made_come longer h = record { rank = h.rank; inside = h.inside; place = h.place; come = omega (arith, h.come, longer h.rank); made = h.made }

-- logs before the first entry
pub ordered_none : (n : ℕ) (logs : ℕ → List Entry) (steps : ℕ → List StepReport) → ((r : ℕ) → logs r ≡ []) → AreOrdered n logs steps
ordered_none n logs steps none = record {
  time = λ r k. 0;
  now = 0;
  past = λ r k h. absurd (omega (arith, h, ap length (none r)));
  onward = λ r k h. absurd (omega (arith, h, ap length (none r)));
  owed = λ d k source item here. absurd (omega (arith, slice_get_within (logs d) k (Took source item) here, ap length (none d)));
  made = λ r k d here. absurd (omega (arith, slice_get_within (logs r) k (Adopted d) here, ap length (none r)));
}
