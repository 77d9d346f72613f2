use Rattle.std.proofs.Common.{◌≢◌, ℕ, ap, refl, subst, sym, ◌∙◌}
use Rattle.ulfm_match.proofs.Common.{Pattern, Letter, Matching, Tracks, and_parts, is_cleared}
use Rattle.ulfm_match.proofs.Members.{filter_keeps}
use Rattle.ulfm_base.proofs.Tables.{marked_here, marked_there}
use Rattle.ulfm_match.proofs.EndSteps.{clear_filtered, other_context, passes_context}
use Rattle.ulfm_match.proofs.matcher.Matcher.clear.Goals as goal

pub put-requires : goal.put-requires
put-requires c = (and_parts c.self.inside.ready c.self.inside.cleared.room (ap (λ (s : Matching). s.prepared) c.self.view_is ∙ c.requires.prepared)).1

pub invariant_of-self : goal.invariant_of-self
invariant_of-self c =
    let i = c.self.invariant in
    record {
      of_waiting = c.clear_receives.ensures.pool _ i.of_waiting;
      of_kept = c.clear_letters.ensures.pool _ i.of_kept;
      room = λ r. let m = i.room r in (c.clear_receives.ensures.place m.0, c.clear_letters.ensures.place m.1);
    }

pub returns-clause-others_wait : goal.returns-clause-others_wait
returns-clause-others_wait c =
    filter_keeps (λ (y : ℕ × Pattern). y.1.context.number ≢ c.args.context.number) _ _ _ _ (ap (λ (s : Matching). s.waiting) c.self.view_is)
    c.clear_receives.ensures.left
    (λ y. other_context y.1.context.number c.args.context.number) (λ y. passes_context y.1.context.number c.args.context.number)

pub returns-clause-others_are_kept : goal.returns-clause-others_are_kept
returns-clause-others_are_kept c =
    filter_keeps (λ (y : ℕ × Letter). y.1.envelope.context.number ≢ c.args.context.number) _ _ _ _ (ap (λ (s : Matching). s.kept) c.self.view_is)
    c.clear_letters.ensures.left
    (λ y. other_context y.1.envelope.context.number c.args.context.number) (λ y. passes_context y.1.envelope.context.number c.args.context.number)

pub returns-clause-cleared : goal.returns-clause-cleared
returns-clause-cleared c = marked_here c.args.context.number _ _ tt c.put.ensures.values

pub returns-clause-others_stay : goal.returns-clause-others_stay
returns-clause-others_stay c d apart = marked_there c.args.context.number _ _ tt c.put.ensures.values d apart ∙ ap (λ (s : Matching). is_cleared s d) c.self.view_is

pub returns-clause-tracks : goal.returns-clause-tracks
returns-clause-tracks c h r t =
    clear_filtered h r _ (subst (Tracks h r) (sym c.self.view_is) t) c.args.context.number _ (marked_here c.args.context.number _ _ tt c.put.ensures.values) (marked_there c.args.context.number _ _ tt c.put.ensures.values) refl
    c.clear_receives.ensures.left
    c.clear_letters.ensures.left
