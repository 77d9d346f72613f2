use Rattle.std.proofs.Common.{◌≡◌, ◌+◌, ℕ, [], length, ap, ◌∙◌, subst, sym, arith}
use Rattle.ulfm_base.specs.Lists.{at}
use Rattle.ulfm_carrier.specs.Family.{IsFresh}
use Rattle.ulfm_carrier.proofs.Common.{length_push}
use Rattle.ulfm_carrier.proofs.Places.{each_push}
use Rattle.ulfm_tests.specs.Foretold.{handed_from, MayForetell}
use Rattle.ulfm_tests.specs.declared.run.foretold.Foretelling.{Foretelling}
use Rattle.ulfm_tests.proofs.run.foretold.ends_of.Goals as goal

-- a fresh end of so many
abbrev IsFreshOf : ℕ → Foretelling → Type 0
IsFreshOf n e = IsFresh (λ (x : Foretelling). x.ranks) (λ x p. []) (λ (x : Foretelling) p. handed_from x.handed x.from.number p) (λ (x : Foretelling). MayForetell x.ranks x.from.number x.next x.handed) n e

pub loop-number-preserved : goal.loop-number-preserved
loop-number-preserved c =
    let more = c.in_ok-push.ensures.items in
    let kept = c.loop-number.invariant in record {
      many = ap length more ∙ length_push c.loop-number.ends.items _ ∙ ap (λ m. m + 1) kept.many;
      fresh = λ k e here.
          each_push (λ _ (x : Foretelling). IsFreshOf c.args.ranks x) c.loop-number.ends.items _ c.loop-number.number kept.many kept.fresh
          c.in_ok-end_of.ensures k e (subst (λ l. at l k e) more here);
    }

pub returns : goal.returns
returns c =
    let all : length c.loop-number.ends.items ≡ c.args.ranks = omega (arith, c.loop-number.invariant.many, c.loop-number.auto, c.loop-number-test.false) in
    λ k e here. subst (λ n. IsFreshOf n e) (sym all) (c.loop-number.invariant.fresh k e here)
