use Rattle.std.proofs.Common.{ℕ}
use Rattle.ulfm_match.proofs.Common.{Letter, Admits}
use Rattle.ulfm_match.proofs.First.{first_in_front, first_in_back, none_in}
use Rattle.ulfm_match.proofs.recent.first_letter.Goals as goal

pub returns-in-Some : goal.returns-in-Some
returns-in-Some c = first_in_front (λ (y : ℕ × Letter). Admits c.args.pattern.now y.1.envelope) _ _ _ c.as_slices.ensures.items c.in-Some.k c.in-Some.ensures

pub returns-in-Some-first_letter_in : goal.returns-in-Some-first_letter_in
returns-in-Some-first_letter_in c = first_in_back (λ (y : ℕ × Letter). Admits c.args.pattern.now y.1.envelope) _ _ _ c.as_slices.ensures.items c.in-None.ensures c.in-Some-first_letter_in.k c.in-Some-first_letter_in.ensures

pub returns-in-None-first_letter_in : goal.returns-in-None-first_letter_in
returns-in-None-first_letter_in c = none_in (λ (y : ℕ × Letter). Admits c.args.pattern.now y.1.envelope) _ _ _ c.as_slices.ensures.items c.in-None.ensures c.in-None-first_letter_in.ensures
