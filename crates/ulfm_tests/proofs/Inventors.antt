-- What deciders know that share one cell.
use Rattle.std.proofs.Common.{◌≡◌, ℕ, Bool, true, false, cond, List, [], ◌∷◌, ap, sym, ◌∙◌, refl, subst, Option, Some, None, IfSome, IfOk, OnErr, Result, Ok, Err}
use Rattle.std.specs.Ordering.{eq_by_cmp, nat_cmp}
use Rattle.std.specs.declared.alloc.AllocError.{AllocError}
use Rattle.ulfm_base.specs.declared.decision.Decision.{Decision}
use Rattle.ulfm_base.specs.declared.topic.Topic.{Topic}
use Rattle.ulfm_board.specs.Known.{Agrees, Answers, BothAgree, Starves, known_at, number_of, with_known}
use Rattle.ulfm_board.proofs.Listed.{here_first, passed_by}
use Rattle.ulfm_board.proofs.Topics.{with_old}
use Rattle.ulfm_tests.specs.Inventing.{known_by}

-- what is known of the topic of the cell, and of another one
known_here : (number : ℕ) (o : Option Decision) (topic : Topic) → number_of topic ≡ number → known_at (known_by number o) topic ≡ o
known_here number None topic is = refl
known_here number (Some d) topic is = here_first (number_of topic) number d [] is

pub known_past : (number : ℕ) (o : Option Decision) (topic : Topic) → (number_of topic ≡ number → ⊥) → known_at (known_by number o) topic ≡ None
known_past number None topic other = refl
known_past number (Some d) topic other = passed_by (number_of topic) number d [] other

module _ (names : List ℕ) (number : ℕ) (d : Decision) (old new : Option Decision) (is : number_of d.topic ≡ number) where
  answers_one : (held : Decision) → new ≡ Some held → Agrees old held → Answers (Some names) (known_by number old) d held (known_by number new)
  answers_one held known agrees = record {
    as_before = subst (λ (o : Option Decision). Agrees o held) (sym (known_here number old d.topic is)) agrees;
    first_stays = λ none. absurd (cc);
    known_now = known_here number new d.topic is ∙ known;
    others_stay = ap (known_by number) known ∙ by old agrees;
  }
    where
      by : (o : Option Decision) → Agrees o held → known_by number (Some held) ≡ with_known (known_by number o) d.topic held
      by None same = ap (λ (n : ℕ). (n, held) ∷ []) (sym is)
      by (Some e) same = ap (λ (x : Decision). (number, x) ∷ []) (sym same) ∙ sym (with_old ((number, e) ∷ []) d.topic held e (known_here number (Some e) d.topic is))

  pub kept_answers : (r : Result Decision AllocError) → IfOk r (λ (held : Decision). (new ≡ Some held) × Agrees old held) → IfOk r (λ (held : Decision). Answers (Some names) (known_by number old) d held (known_by number new))
  kept_answers (Ok held) h = answers_one held h.0 h.1
  kept_answers (Err e) h = tt

  pub kept_starves : (r : Result Decision AllocError) → OnErr r ((old ≡ None) × (new ≡ None)) → OnErr r (Starves (known_by number old) d.topic)
  kept_starves (Ok held) h = tt
  kept_starves (Err e) h = record { unknown = ap (λ (o : Option Decision). known_at (known_by number o) d.topic) h.0 }

  pub kept_unchanged : (r : Result Decision AllocError) → OnErr r ((old ≡ None) × (new ≡ None)) → OnErr r (known_by number new ≡ known_by number old)
  kept_unchanged (Ok held) h = tt
  kept_unchanged (Err e) h = ap (known_by number) (h.1 ∙ sym h.0)

-- two of one cell know no two decisions
pub one_cell : (n m : ℕ) (a b : Option Decision) → IfSome b (λ y. IfSome a (λ x. x ≡ y)) → (topic : Topic) → BothAgree (known_at (known_by n a) topic) (known_at (known_by m b) topic)
one_cell n m None b h topic = tt
one_cell n m (Some x) None h topic = alone (eq_by_cmp nat_cmp (number_of topic) n)
  where
    alone : (s : Bool) → BothAgree (cond s (Some x) None) None
    alone true = tt
    alone false = tt
one_cell n m (Some x) (Some y) h topic = both (eq_by_cmp nat_cmp (number_of topic) n) (eq_by_cmp nat_cmp (number_of topic) m)
  where
    both : (s t : Bool) → BothAgree (cond s (Some x) None) (cond t (Some y) None)
    both true true = sym h
    both true false = tt
    both false t = tt
