use Rattle.ulfm_log.proofs.Sifted.{told_adopted}
use Rattle.std.proofs.Common.{◌≡◌, ◌++◌, ◌∷◌, [], refl, ap, subst, ◌∙◌, arith, Some}
use Rattle.ulfm_rank.proofs.Common.{rounds_of, Topic, decided_comm, Adopted, find_group, group_of, State, RankView}
use Rattle.std.proofs.lemmas.Result.{err_from_is_err_and}
use Rattle.ulfm_rank.specs.Checks.{adopt_checks, Fails}
use Rattle.ulfm_rank.proofs.Adoptable.{never_starved}
use Rattle.ulfm_rank.proofs.Following.{follows_adopted}
use Rattle.ulfm_log.specs.Decisive.{is_current}
use Rattle.ulfm_log.proofs.Made.{found_group}
use Rattle.ulfm_rank.proofs.Seen.{stop_places_few}
use Rattle.ulfm_rank.proofs.Whole.{holds_roomy, holds_same}
use Rattle.ulfm_rank.proofs.Known.{knows_itself}
use Rattle.ulfm_log.proofs.Counts.{rounds_itself}
use Rattle.ulfm_rank.proofs.rank.Rank.adopt_on.Goals as goal

pub returns-in_err-check_adoption-clause-room_lacked : goal.returns-in_err-check_adoption-clause-room_lacked
returns-in_err-check_adoption-clause-room_lacked c =
    let p = err_from_is_err_and c.from_residual.result c.from_residual.ensures.1 in
    rw (p.1, p.2) (λ starved. absurd (never_starved _ _ _ _ _ (subst (Fails (adopt_checks c.args.self.now.state c.args.topic c.args.decision)) starved c.in_err-check_adoption.ensures.refused)))

pub invariant_of-self-2 : goal.invariant_of-self-2
invariant_of-self-2 c =
    let a = c.self.inside in
    let d = c.args.decision in
    let seen = ap (λ (v : RankView). v.state) c.self.view_is in
    let about = c.in_ok-check_adoption.ensures.about in
    let longer = c.push_reserved.ensures.items ∙ ap (λ l. l ++ Adopted c.hold-held.result ∷ []) c.reserve.ensures.items ∙ ap (λ x. a.log.items ++ Adopted x ∷ []) c.hold-held.ensures in
    let found : find_group c.args.decision.topic.context.number c.self.inside.communicators.made ≡ Some c.args.decision.old =
    found_group d.topic.context.number c.self.invariant.follows.communicators ∙ ap (λ (t : Topic). group_of a.ranks a.log.items t.context.number) about ∙ ap (λ (s : State). group_of s.ranks s.log c.args.topic.context.number) seen ∙ c.in_ok-check_adoption.ensures.group in
    record {
      follows = rw longer (follows_adopted c.self.invariant.follows c.args.decision c.adopt.new.self found (c.adopt.ensures.made ∙ ap (λ l. l ++ decided_comm d.topic.purpose d.topic.context.number d.fresh) c.make_place-2.ensures.has_the_same.made) (c.adopt.ensures.dups_stay ∙ c.make_place-2.ensures.has_the_same.dups));
      places = omega (arith, c.in_ok-reserve.ensures.ok, c.push_reserved.ensures.len, c.push_reserved.ensures.capacity, c.len.ensures.len, stop_places_few a.stopped);
      tells = told_adopted _ _ _ _ _ longer c.self.invariant.tells (ap (is_current (rounds_of a.log.items)) about ∙ ap (λ (s : State). is_current (rounds_of s.log) c.args.topic) seen ∙ c.requires.current) (c.tell.ensures.items ∙ ap (λ l. l ++ c.adopted.result ∷ []) c.make_place.ensures.items ∙ ap (λ e. a.told.items ++ e ∷ []) c.adopted.ensures);
      countable = omega (arith, c.push_reserved.ensures.capacity, c.reserve.ensures.countable);
    }

pub invariant_of-self-in_err-make_place : goal.invariant_of-self-in_err-make_place
invariant_of-self-in_err-make_place c = holds_same c.self.inside c.self.invariant refl refl refl refl refl refl refl refl refl refl refl c.reserve.ensures.items c.make_place.ensures.items refl c.reserve.ensures.capacity c.reserve.ensures.countable

pub invariant_of-self-in_err-make : goal.invariant_of-self-in_err-make
invariant_of-self-in_err-make c = holds_same c.self.inside c.self.invariant refl refl refl refl refl refl refl refl refl refl refl c.reserve.ensures.items c.make_place.ensures.items refl c.reserve.ensures.capacity c.reserve.ensures.countable

pub invariant_of-self-in_err-make_place-2 : goal.invariant_of-self-in_err-make_place-2
invariant_of-self-in_err-make_place-2 c = holds_roomy c.self.inside c.self.invariant refl refl refl (knows_itself refl) c.make_place-2.ensures.has_the_same refl refl refl refl refl refl c.reserve.ensures.items c.make_place.ensures.items (rounds_itself refl) c.reserve.ensures.capacity c.reserve.ensures.countable
