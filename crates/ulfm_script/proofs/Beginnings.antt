-- What a log's beginnings keep while the log grows.
use Rattle.std.proofs.Common.{◌≡◌, ℕ, ◌+◌, ◌≤◌, List, [], ◌∷◌, ◌++◌, length, refl, ap, sym, ◌∙◌, arith, append-nil, append_assoc, length-append, take, All}
use Rattle.std.proofs.Math.Seq.{take-append_seam}
use Rattle.ulfm_script.proofs.Common.{EntersBetween, Step, Topic, Entry, IsTook, OnlyTook, State, StoodAt, All-nil, All-append}

-- a rank's log grew
pub record Grew (old new : State) : Type 0 where
  pub me : new.me ≡ old.me
  pub ranks : new.ranks ≡ old.ranks
  pub more : List Entry
  pub log : new.log ≡ old.log ++ more

-- a beginning of a log
pub front_is : (log front rest : List Entry) (n : ℕ) → front ++ rest ≡ log → length front ≡ n → take n log ≡ front
front_is log front rest n whole size = rw size at (ap (take (length front)) (sym whole) ∙ take-append_seam front rest)

pub stood_is : (r : State) (n : ℕ) (s : State) → StoodAt r n s → take n r.log ≡ s.log
stood_is r n s h = front_is r.log s.log h.rest n h.beginning h.entries

-- a log up to the end of what was taken
pub took_is : (log : List Entry) (from to : ℕ) (h : OnlyTook log from to) → take to log ≡ h.front ++ h.between
took_is log from to h =
    front_is log (h.front ++ h.between) h.rest to (append_assoc h.front h.between h.rest ∙ h.whole) (omega (arith, length-append h.front h.between, h.begins, h.ends))

pub stood-grew : (r s : State) (n : ℕ) (t : State) → Grew r s → StoodAt r n t → StoodAt s n t
stood-grew r s n t g h = record {
  me = h.me ∙ sym g.me;
  ranks = h.ranks ∙ sym g.ranks;
  rest = h.rest ++ g.more;
  beginning = sym (append_assoc t.log h.rest g.more) ∙ ap (λ (l : List Entry). l ++ g.more) h.beginning ∙ sym g.log;
  entries = h.entries;
}

pub took-grew : (log new more : List Entry) (from to : ℕ) → new ≡ log ++ more → OnlyTook log from to → OnlyTook new from to
took-grew log new more from to e h = record {
  front = h.front;
  between = h.between;
  rest = h.rest ++ more;
  whole =
      ap (λ (l : List Entry). h.front ++ l) (sym (append_assoc h.between h.rest more))
      ∙ sym (append_assoc h.front (h.between ++ h.rest) more)
      ∙ ap (λ (l : List Entry). l ++ more) h.whole ∙ sym e;
  begins = h.begins;
  ends = h.ends;
  took = h.took;
}

pub enters-grew : (r s : State) (asked : Step) (topic : Topic) (from to : ℕ) → Grew r s → EntersBetween r asked topic from to → EntersBetween s asked topic from to
enters-grew r s asked topic from to g h = record {
  place = h.place;
  old = h.old;
  new = h.new;
  stood = stood-grew r s h.place h.old g h.stood;
  stood_next = stood-grew r s (h.place + 1) h.new g h.stood_next;
  enters = h.enters;
  took_before = took-grew r.log s.log g.more from h.place g.log h.took_before;
  took_after = took-grew r.log s.log g.more (h.place + 1) to g.log h.took_after;
}

-- a list with no place left has nothing after its end
pub none_after : (xs : List Entry) → length xs ≤ 0 → xs ≡ []
none_after [] h = refl
none_after (x ∷ xs) h = absurd (omega (arith, h))

-- the rank took up to the log's end, and more
pub took-on : (log new more : List Entry) (from : ℕ) → new ≡ log ++ more → All IsTook more → OnlyTook log from (length log) → OnlyTook new from (length new)
took-on log new more from e all h =
    let n : length log ≡ length h.front + (length h.between + length h.rest) =
    omega (arith, ap length h.whole, length-append h.front (h.between ++ h.rest), length-append h.between h.rest) in
    let none : h.rest ≡ [] = none_after h.rest (omega (arith, n, h.begins, h.ends)) in
    let was : h.front ++ h.between ≡ log =
    ap (λ (l : List Entry). h.front ++ l) (sym (append-nil h.between) ∙ ap (λ (l : List Entry). h.between ++ l) (sym none)) ∙ h.whole in
    record {
      front = h.front;
      between = h.between ++ more;
      rest = [];
      whole =
          ap (λ (l : List Entry). h.front ++ l) (append-nil (h.between ++ more))
          ∙ sym (append_assoc h.front h.between more)
          ∙ ap (λ (l : List Entry). l ++ more) was ∙ sym e;
      begins = h.begins;
      ends = omega (arith, h.begins, h.ends, n, ap length e, length-append log more, length-append h.between more);
      took = All-append IsTook h.between more h.took all;
    }

-- nothing stands after the log's end
pub took-none : (log : List Entry) → OnlyTook log (length log) (length log)
took-none log = record {
  front = log;
  between = [];
  rest = [];
  whole = append-nil log;
  begins = refl;
  ends = omega arith;
  took = All-nil IsTook;
}

pub enters-on : (r s : State) (asked : Step) (topic : Topic) (from : ℕ) → (g : Grew r s) → All IsTook g.more → EntersBetween r asked topic from (length r.log) → EntersBetween s asked topic from (length s.log)
enters-on r s asked topic from g all h = record {
  place = h.place;
  old = h.old;
  new = h.new;
  stood = stood-grew r s h.place h.old g h.stood;
  stood_next = stood-grew r s (h.place + 1) h.new g h.stood_next;
  enters = h.enters;
  took_before = took-grew r.log s.log g.more from h.place g.log h.took_before;
  took_after = took-on r.log s.log g.more (h.place + 1) g.log all h.took_after;
}

-- a rank stood as it stands
pub stood-now : (r : State) → StoodAt r (length r.log) r
stood-now r = record { me = refl; ranks = refl; rest = []; beginning = append-nil r.log; entries = refl }

-- a rank stood as it was before its log grew
pub stood-before : (r s : State) → Grew r s → StoodAt s (length r.log) r
stood-before r s g = stood-grew r s (length r.log) r g (stood-now r)

pub grew-same : (r s : State) → s ≡ r → Grew r s
grew-same r s e = record { me = ap (λ (t : State). t.me) e; ranks = ap (λ (t : State). t.ranks) e; more = []; log = ap (λ (t : State). t.log) e ∙ sym (append-nil r.log) }

pub grew-long : (r s : State) → Grew r s → length r.log ≤ length s.log
grew-long r s g = omega (arith, ap length g.log, length-append r.log g.more)
