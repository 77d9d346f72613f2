-- A decision that is handed in at a seat.
use Rattle.std.proofs.Common.{◌≡◌, ◌==◌, ℕ, ◌+◌, ◌*◌, ◌/◌, ◌%◌, inl, inr, Bool, cond, List, ◌++◌, length, set, get_or, replicate, ap, sym, ◌∙◌, refl, subst, arith, Option, Some, None, IfOk, OnErr, Result, Ok, Err}
use Rattle.std.proofs.lemmas.Bool.{cases_eq, eq-eqb, ne_eqb}
use Rattle.std.proofs.lemmas.List.{length-append, length-replicate}
use Rattle.std.specs.declared.alloc.AllocError.{AllocError}
use Rattle.ulfm_base.specs.Topic.{round_of}
use Rattle.ulfm_base.specs.declared.decision.Decision.{Decision}
use Rattle.ulfm_base.specs.declared.topic.Topic.{Topic}
use Rattle.ulfm_board.specs.Known.{Agrees, Answers, Starves, known_at, number_of, row_of, with_known}
use Rattle.ulfm_board.specs.inside.Trail.{GoesOn, KnowsCell, TrailView, cell_in, known_of, seen, slot_of}
use Rattle.ulfm_board.proofs.Listed.{get_known, put_known, same_known}
use Rattle.ulfm_board.proofs.Seen.{seen_here, seen_longer, seen_set}
use Rattle.ulfm_board.proofs.Topics.{with_new, with_old}

-- each row has 64 cells
abbrev pub IsWhole : TrailView → Type 0
IsWhole trail = length trail.decided ≡ 64 * length trail.numbers

-- a trail that went on sees the same
pub gone_on : (a b : TrailView) (more : List ℕ) → IsWhole a → GoesOn a more b → (q : ℕ) → seen b.numbers b.decided q ≡ seen a.numbers a.decided q
gone_on a b more whole goes q =
    ap (λ (ns : List ℕ). seen ns b.decided q) goes.numbers ∙ ap (λ (ds : List (Option Decision)). seen (a.numbers ++ more) ds q) goes.decided
    ∙ seen_longer a.numbers more a.decided whole q

pub whole_on : (a b : TrailView) (more : List ℕ) → IsWhole a → GoesOn a more b → IsWhole b
whole_on a b more whole goes =
    let decided : length b.decided ≡ length a.decided + 64 * length more =
    ap length goes.decided ∙ length-append a.decided (replicate (64 * length more) None) ∙ ap (λ (n : ℕ). length a.decided + n) (length-replicate (64 * length more) None) in
    let numbers : length b.numbers ≡ length a.numbers + length more = ap length goes.numbers ∙ length-append a.numbers more in
    omega (arith, whole, decided, numbers)

-- so it knows the same
pub known_on : (a b : TrailView) (more : List ℕ) → IsWhole a → GoesOn a more b → known_of b ≡ known_of a
known_on a b more whole goes = same_known a b (gone_on a b more whole goes)

-- the row and the cell of a topic
topic_row : (topic : Topic) → number_of topic / 64 ≡ row_of topic
topic_row topic = omega arith

topic_cell : (topic : Topic) → number_of topic % 64 ≡ round_of topic.purpose % 64
topic_cell topic = omega arith

module _ (a m : TrailView) (more : List ℕ) (topic : Topic) (slot cell : ℕ) (whole : IsWhole a) (goes : GoesOn a more m) (found : slot_of m.numbers (row_of topic) ≡ Some slot) (place : cell ≡ round_of topic.purpose % 64) where
  here : slot_of m.numbers (number_of topic / 64) ≡ Some slot
  here = ap (slot_of m.numbers) (topic_row topic) ∙ found

  at_cell : 64 * slot + number_of topic % 64 ≡ 64 * slot + cell
  at_cell = ap (λ (n : ℕ). 64 * slot + n) (topic_cell topic ∙ sym place)

  -- what is known on the topic is what its cell has
  known_here : known_at (known_of a) topic ≡ get_or m.decided (64 * slot + cell) None
  known_here =
      get_known a (number_of topic) ∙ sym (gone_on a m more whole goes (number_of topic)) ∙ seen_here m.numbers m.decided (number_of topic) slot here
      ∙ ap (λ (n : ℕ). get_or m.decided n None) at_cell

  module _ (b : TrailView) (names : List ℕ) (d held : Decision) (about : d.topic ≡ topic) (agrees : Agrees (get_or m.decided (64 * slot + cell) None) held) (knows : KnowsCell m (64 * slot + cell) held b) where
    before : Agrees (known_at (known_of a) topic) held
    before = subst (λ (o : Option Decision). Agrees o held) (sym known_here) agrees

    -- the decision is seen of this topic alone
    after : (r : ℕ) → seen b.numbers b.decided r ≡ cond (r == number_of topic) (Some held) (seen a.numbers a.decided r)
    after r =
        ap (λ (ns : List ℕ). seen ns b.decided r) knows.numbers ∙ ap (λ (ds : List (Option Decision)). seen m.numbers ds r) knows.decided
        ∙ ap (λ (n : ℕ). seen m.numbers (set m.decided n (Some held)) r) (sym at_cell)
        ∙ seen_set m.numbers m.decided (number_of topic) slot held here (whole_on a m more whole goes) r
        ∙ ap (λ (o : Option Decision). cond (r == number_of topic) (Some held) o) (gone_on a m more whole goes r)

    now : known_at (known_of b) topic ≡ Some held
    now = get_known b (number_of topic) ∙ after (number_of topic)
        ∙ ap (λ (t : Bool). cond t (Some held) (seen a.numbers a.decided (number_of topic))) (eq-eqb (number_of topic) (number_of topic) refl)

    others : known_of b ≡ with_known (known_of a) topic held
    others = at (known_at (known_of a) topic) refl before
      where
        at : (o : Option Decision) → known_at (known_of a) topic ≡ o → Agrees o held → known_of b ≡ with_known (known_of a) topic held
        at None is same = put_known a b (number_of topic) held after ∙ sym (with_new (known_of a) topic held is)
        at (Some e) is same = same_known a b still ∙ sym (with_old (known_of a) topic held e is)
          where
            still : (r : ℕ) → seen b.numbers b.decided r ≡ seen a.numbers a.decided r
            still r = after r ∙ elim (cases_eq r (number_of topic)) [
              | inl one ↦
                  ap (λ (t : Bool). cond t (Some held) (seen a.numbers a.decided r)) (eq-eqb r (number_of topic) one) ∙ ap Some (sym same) ∙ sym is
                  ∙ get_known a (number_of topic) ∙ ap (seen a.numbers a.decided) (sym one)
              | inr other ↦ ap (λ (t : Bool). cond t (Some held) (seen a.numbers a.decided r)) (ne_eqb r (number_of topic) other)
            ]

    -- what one cell says is what the seat answers
    pub answers : Answers (Some names) (known_of a) d held (known_of b)
    answers = record {
      as_before = subst (λ (t : Topic). Agrees (known_at (known_of a) t) held) (sym about) before;
      first_stays = λ none. absurd (cc);
      known_now = ap (known_at (known_of b)) about ∙ now;
      others_stay = others ∙ ap (λ (t : Topic). with_known (known_of a) t held) (sym about);
    }

-- what a seat is answered, by the result of the call at its cell
module _ (a m : TrailView) (more : List ℕ) (slot cell : ℕ) (whole : IsWhole a) (goes : GoesOn a more m) (b : TrailView) (names : List ℕ) (d : Decision) (found : slot_of m.numbers (row_of d.topic) ≡ Some slot) (place : cell ≡ round_of d.topic.purpose % 64) where
  pub answers_of : (r : Result Decision AllocError) → IfOk r (λ (held : Decision). Agrees (get_or m.decided (64 * slot + cell) None) held × KnowsCell m (64 * slot + cell) held b) → IfOk r (λ (held : Decision). Answers (Some names) (known_of a) d held (known_of b))
  answers_of (Ok held) h = answers a m more d.topic slot cell whole goes found place b names d held refl h.0 h.1
  answers_of (Err e) h = tt

  pub starves_of : (r : Result Decision AllocError) → OnErr r ((get_or m.decided (64 * slot + cell) None ≡ None) × (b ≡ m)) → OnErr r (Starves (known_of a) d.topic)
  starves_of (Ok held) h = tt
  starves_of (Err e) h = record { unknown = known_here a m more d.topic slot cell whole goes found place ∙ h.0 }

  pub unchanged_of : (r : Result Decision AllocError) → OnErr r ((get_or m.decided (64 * slot + cell) None ≡ None) × (b ≡ m)) → OnErr r (known_of b ≡ known_of a)
  unchanged_of (Ok held) h = tt
  unchanged_of (Err e) h = ap known_of h.1 ∙ known_on a m more whole goes

-- what holds, holds where a call fails
pub on_error : {A E P : Type 0} (r : Result A E) → P → OnErr r P
on_error (Ok a) p = tt
on_error (Err e) p = p

-- where a topic has no row, nothing is known on it
pub no_row : (a : TrailView) (topic : Topic) → slot_of a.numbers (row_of topic) ≡ None → Starves (known_of a) topic
no_row a topic none = record {
  unknown = get_known a (number_of topic) ∙ ap (λ (o : Option ℕ). cell_in a.decided o (number_of topic % 64)) (ap (slot_of a.numbers) (topic_row topic) ∙ none);
}
