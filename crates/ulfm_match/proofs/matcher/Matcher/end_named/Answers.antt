use Rattle.std.proofs.Common.{◌≡◌, ℕ, false, ap, refl, subst, sym}
use Rattle.ulfm_match.proofs.Common.{Pattern, names, Matching, Tracks}
use Rattle.ulfm_match.proofs.Members.{filter_keeps}
use Rattle.ulfm_match.proofs.Ends.{named_filtered, spares, is_spared}
use Rattle.ulfm_match.proofs.matcher.Matcher.end_named.Goals as goal

pub invariant_of-self : goal.invariant_of-self
invariant_of-self c =
    let i = c.self.invariant in
    record {
      of_waiting = c.end_receives.ensures.pool _ i.of_waiting;
      of_kept = i.of_kept;
      room = λ r. let m = i.room r in (c.end_receives.ensures.place m.0, m.1);
    }

pub returns-clause-others_wait : goal.returns-clause-others_wait
returns-clause-others_wait c =
    filter_keeps (λ (y : ℕ × Pattern). names y.1.source c.args.rank.number ≡ false) _ _ _ _ (ap (λ (s : Matching). s.waiting) c.self.view_is)
    c.end_receives.ensures.left
    (λ y. spares (names y.1.source c.args.rank.number)) (λ y. is_spared (names y.1.source c.args.rank.number))

pub returns-clause-tracks : goal.returns-clause-tracks
returns-clause-tracks c h r es ends t =
    named_filtered c.args.rank.number h r es _ _ ends (subst (Tracks h r) (sym c.self.view_is) t) refl refl refl
    c.end_receives.ensures.left
