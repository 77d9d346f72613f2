use Rattle.std.proofs.Common.{ℕ, List, ◌++◌, ap, subst, sym, ◌∙◌, arith, nat_eq, Some, Contains}
use Rattle.std.specs.Option.{option_to_list}
use Rattle.ulfm_match.proofs.Common.{Letter, Admits, FindsLeast, Rises, Passes, get, nat_tests, numbers_of}
use Rattle.ulfm_match.proofs.Bucketed.{first_finds, rest_finds}
use Rattle.ulfm_match.proofs.search.first_kept_from.Goals as goal
use Rattle.ulfm_match.proofs.search.first_kept_from.Goals.{in-Some-first+else-is_admitted, in_default-first}

pub returns-then-is_admitted : goal.returns-then-is_admitted
returns-then-is_admitted c =
    let Q : ℕ → Type 0 = Passes (λ (l : Letter). Admits c.args.pattern.now l.envelope) c.args.kept.now in
    let rest = c.in-Some.bucket.now.rest.items in
    let n = c.in-Some-first.first in
    let is = ap (λ k. numbers_of (get nat_eq c.args.buckets.now k)) (sym c.key_from.ensures) ∙ ap numbers_of (sym c.in-Some.ensures.value) ∙ ap (λ o. option_to_list o ++ rest) c.in-Some-first.is in
    subst (λ (ns : List ℕ). FindsLeast (Contains ns) Q (Some n)) (sym is) (first_finds n rest Q (subst Rises is c.requires) (c.is_admitted.ensures.0 c.if-is_admitted.true))

pub returns : goal.returns
returns c =
    let Q : ℕ → Type 0 = Passes (λ (l : Letter). Admits c.args.pattern.now l.envelope) c.args.kept.now in
    let rest = c.in-Some.bucket.now.rest.items in
    elim c.match-bucket.branch [
      | in-Some-first+else-is_admitted w ↦
          let is = ap (λ k. numbers_of (get nat_eq c.args.buckets.now k)) (sym c.key_from.ensures) ∙ ap numbers_of (sym c.in-Some.ensures.value) ∙ ap (λ o. option_to_list o ++ rest) w.in-Some-first.is in
          subst (λ (ns : List ℕ). FindsLeast (Contains ns) Q c.first_letter.result) (sym is)
          (rest_finds w.in-Some-first.first rest Q c.first_letter.result (λ q. let t = w.is_admitted.ensures.1 q in let f = w.if-is_admitted.false in grind (arith, nat_tests, t, f)) c.first_letter.ensures)
      | in_default-first w ↦
          let is = ap (λ k. numbers_of (get nat_eq c.args.buckets.now k)) (sym c.key_from.ensures) ∙ ap numbers_of (sym c.in-Some.ensures.value) ∙ ap (λ o. option_to_list o ++ rest) w.in_default-first.is in
          subst (λ (ns : List ℕ). FindsLeast (Contains ns) Q c.first_letter.result) (sym is) c.first_letter.ensures
    ]
