use Rattle.std.proofs.Common.{ℕ}
use Rattle.ulfm_match.proofs.Common.{Pattern, Admits}
use Rattle.ulfm_match.proofs.First.{first_in_front, first_in_back, none_in}
use Rattle.ulfm_match.proofs.recent.first_receive.Goals as goal

pub returns-in-Some : goal.returns-in-Some
returns-in-Some c = first_in_front (λ (y : ℕ × Pattern). Admits y.1 c.args.envelope.now) _ _ _ c.as_slices.ensures.items c.in-Some.k c.in-Some.ensures

pub returns-in-Some-first_receive_in : goal.returns-in-Some-first_receive_in
returns-in-Some-first_receive_in c = first_in_back (λ (y : ℕ × Pattern). Admits y.1 c.args.envelope.now) _ _ _ c.as_slices.ensures.items c.in-None.ensures c.in-Some-first_receive_in.k c.in-Some-first_receive_in.ensures

pub returns-in-None-first_receive_in : goal.returns-in-None-first_receive_in
returns-in-None-first_receive_in c = none_in (λ (y : ℕ × Pattern). Admits y.1 c.args.envelope.now) _ _ _ c.as_slices.ensures.items c.in-None.ensures c.in-None-first_receive_in.ensures
