use Rattle.std.proofs.Common.{arith, subst, refl, sym}
use Rattle.ulfm_match.proofs.Common.{Tracks, nat_tests}
use Rattle.ulfm_match.proofs.EndSteps.{end_taken, end_idle}
use Rattle.ulfm_match.proofs.Pooled.{all_ascending}
use Rattle.ulfm_match.proofs.matcher.Matcher.withdraw.Goals as goal

pub returns-then-not-is_there-clause-waited : goal.returns-then-not-is_there-clause-waited
returns-then-not-is_there-clause-waited c =
    rw (sym c.self.view_is) (
      λ t. cc,
      λ e. let q = c.is_there.ensures.1 e in let f = c.if-not-is_there.true in grind (arith, nat_tests, q, f),
    )

pub returns-then-not-is_there-clause-tracks : goal.returns-then-not-is_there-clause-tracks
returns-then-not-is_there-clause-tracks c h r i p posted n t =
    rw (sym c.self.view_is)
    (end_idle h r _ (subst (Tracks h r) (sym c.self.view_is) t) i p posted c.args.id.number n
    (λ y m e. let q = c.is_there.ensures.1 (y.1, rw (sym e) m) in let f = c.if-not-is_there.true in grind (arith, nat_tests, q, f)))

pub invariant_of-self : goal.invariant_of-self
invariant_of-self c =
    let i = c.self.invariant in
    record {
      of_waiting = c.end_numbered.ensures.pool _ i.of_waiting;
      of_kept = i.of_kept;
      room = λ r. let m = i.room r in (c.end_numbered.ensures.place m.0, m.1);
    }

pub returns-clause-waited : goal.returns-clause-waited
returns-clause-waited c =
    rw (sym c.self.view_is) (
      λ t. c.is_there.ensures.0 (let f = c.if-not-is_there.false in grind (arith, nat_tests, f)),
      λ e. refl,
    )

pub returns-clause-tracks : goal.returns-clause-tracks
returns-clause-tracks c h r i p posted n t =
    let left = c.end_numbered.ensures.left in
    end_taken h r _ (subst (Tracks h r) (sym c.self.view_is) t) i p posted c.args.id.number n _ refl refl (all_ascending (c.end_numbered.ensures.pool _ c.self.invariant.of_waiting)) (λ y m. (left y).0 m) (λ y m ne. (left y).1 (m, ne)) refl
