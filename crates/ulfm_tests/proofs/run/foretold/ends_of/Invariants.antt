use Rattle.std.proofs.Common.{◌≡◌, ℕ, length, []}
use Rattle.ulfm_base.specs.Lists.{at}
use Rattle.ulfm_carrier.specs.Family.{IsFresh}
use Rattle.ulfm_tests.specs.Foretold.{handed_from, MayForetell}
use Rattle.ulfm_tests.specs.declared.run.foretold.Foretelling.{Foretelling}
use Rattle.ulfm_tests.proofs.run.foretold.ends_of.Given as goal

abbrev pub invariant-loop-number : goal.invariant-loop-number
invariant-loop-number l = record {
  many : length l.ends.items ≡ l.number;
  fresh : (k : ℕ) (e : Foretelling) → at l.ends.items k e → IsFresh (λ (x : Foretelling). x.ranks) (λ x p. []) (λ (x : Foretelling) p. handed_from x.handed x.from.number p) (λ (x : Foretelling). MayForetell x.ranks x.from.number x.next x.handed) l.ranks e;
}
