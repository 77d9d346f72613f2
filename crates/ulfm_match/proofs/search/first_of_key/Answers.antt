use Rattle.std.proofs.Common.{ℕ, List, ◌++◌, ap, subst, sym, ◌∙◌, arith, Some, Contains}
use Rattle.std.specs.Option.{option_to_list}
use Rattle.ulfm_match.proofs.Common.{Pattern, Admits, FindsLeast, Rises, Passes, nat_tests, numbers_of}
use Rattle.ulfm_match.proofs.Bucketed.{first_finds, rest_finds}
use Rattle.ulfm_match.proofs.search.first_of_key.Goals as goal
use Rattle.ulfm_match.proofs.search.first_of_key.Goals.{in-Some-first+else-admits, in_default-first}

pub returns-then-admits : goal.returns-then-admits
returns-then-admits c =
    let Q : ℕ → Type 0 = Passes (λ (p : Pattern). Admits p c.args.envelope.now) c.args.waiting.now in
    let rest = c.in-Some.bucket.now.rest.items in
    let n = c.in-Some-first.first in
    let is = ap numbers_of (sym c.in-Some.ensures.value) ∙ ap (λ o. option_to_list o ++ rest) c.in-Some-first.is in
    subst (λ (ns : List ℕ). FindsLeast (Contains ns) Q (Some n)) (sym is) (first_finds n rest Q (subst Rises is c.requires) (c.admits.ensures.0 c.if-admits.true))

pub returns : goal.returns
returns c =
    let Q : ℕ → Type 0 = Passes (λ (p : Pattern). Admits p c.args.envelope.now) c.args.waiting.now in
    let rest = c.in-Some.bucket.now.rest.items in
    elim c.match-bucket.branch [
      | in-Some-first+else-admits w ↦
          let is = ap numbers_of (sym c.in-Some.ensures.value) ∙ ap (λ o. option_to_list o ++ rest) w.in-Some-first.is in
          subst (λ (ns : List ℕ). FindsLeast (Contains ns) Q c.first_receive.result) (sym is)
          (rest_finds w.in-Some-first.first rest Q c.first_receive.result (λ q. let t = w.admits.ensures.1 q in let f = w.if-admits.false in grind (arith, nat_tests, t, f)) c.first_receive.ensures)
      | in_default-first w ↦
          let is = ap numbers_of (sym c.in-Some.ensures.value) ∙ ap (λ o. option_to_list o ++ rest) w.in_default-first.is in
          subst (λ (ns : List ℕ). FindsLeast (Contains ns) Q c.first_receive.result) (sym is) c.first_receive.ensures
    ]
