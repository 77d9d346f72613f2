use Rattle.std.proofs.Common.{◌≡◌, ℕ, ◌∙◌, ap, sym, None, List}
use Rattle.ulfm_base.specs.Context.{nth_shrink}
use Rattle.ulfm_base.specs.Topic.{round_of}
use Rattle.ulfm_script.proofs.Common.{last_shrink, rank_in, State, Topic}
use Rattle.ulfm_script.proofs.Adopting.{adopted_about, adopter_is_member, member_found}
use Rattle.ulfm_script.proofs.joint.adopt_shrink.Goals as goal

pub unreachable-requires : goal.unreachable-requires
unreachable-requires c =
    let me : c.me.result.number ≡ c.args.rank.now.state.me = c.me.ensures.number ∙ ap (λ (r : State). r.me) c.in-Ok.ensures.state in
    let none : rank_in c.args.held.fresh c.args.rank.now.state.me ≡ None =
    ap (λ (k : ℕ). rank_in c.args.held.fresh k) (sym me) ∙ ap (λ (group : List ℕ). rank_in group c.me.result.number) (sym c.copied-group.ensures) ∙ sym c.rank_of.ensures ∙ c.in-None.is in
    member_found c.args.held.fresh c.args.rank.now.state.me (adopter_is_member c.args.rank.now.state (last_shrink c.args.rank.now.state.log c.args.context) c.args.held c.in-Ok.ensures.accepted) none

pub returns-in-Some-clause-answers : goal.returns-in-Some-clause-answers
returns-in-Some-clause-answers c =
    let r = c.args.rank.now.state in
    let about : c.args.held.topic ≡ last_shrink r.log c.args.context = adopted_about r (last_shrink r.log c.args.context) c.args.held c.in-Ok.ensures.accepted in
    let me : c.me.result.number ≡ r.me = c.me.ensures.number ∙ ap (λ (s : State). s.me) c.in-Ok.ensures.state in (
      c.in-Ok.ensures.accepted,
      c.in-Ok.ensures.made ∙ ap (λ (t : Topic). nth_shrink (round_of t.purpose) c.args.context.number) (sym about),
      c.copied-group.ensures,
      ap (λ (k : ℕ). rank_in c.args.held.fresh k) (sym me) ∙ ap (λ (group : List ℕ). rank_in group c.me.result.number) (sym c.copied-group.ensures) ∙ sym c.rank_of.ensures ∙ c.in-Some.is,
      c.in-Ok.ensures.state,
    )
