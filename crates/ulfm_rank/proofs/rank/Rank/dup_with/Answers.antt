use Rattle.ulfm_log.proofs.Sifted.{quiet, silent}
use Rattle.std.proofs.Common.{◌≡◌, ◌*◌, ◌++◌, ◌∷◌, [], ℕ, suc, List, cond, eqb, refl, ap, sym, ◌∙◌, arith, Some}
use Rattle.ulfm_base.proofs.Children.{child_past}
use Rattle.ulfm_base.specs.Table.{count_at}
use Rattle.ulfm_rank.proofs.Common.{Duplicated, dups_of, find_group, group_of, State, RankView}
use Rattle.ulfm_rank.proofs.Following.{follows_duplicated}
use Rattle.ulfm_rank.proofs.Known.{knows_itself}
use Rattle.ulfm_rank.proofs.Seen.{stop_places_few}
use Rattle.ulfm_log.proofs.Made.{found_group}
use Rattle.ulfm_rank.proofs.Whole.{holds_roomy}
use Rattle.ulfm_log.proofs.Counts.{rounds_itself}
use Rattle.ulfm_rank.proofs.rank.Rank.dup_with.Goals as goal

pub duplicate-requires-clause-countable : goal.duplicate-requires-clause-countable
duplicate-requires-clause-countable c =
    let made = c.in_ok-count in
    omega (arith, child_past c.args.comm.context.number (3 * made.count), made.ensures.context, made.context.in_range)

pub invariant_of-self-2 : goal.invariant_of-self-2
invariant_of-self-2 c =
    let a = c.self.inside in
    let x = c.args.comm.context.number in
    let made = c.in_ok-count in
    let seen = ap (λ (v : RankView). v.state) c.self.view_is in
    let room = c.make_place.ensures.has_the_same in
    let now_log = c.push_reserved.ensures.items ∙ ap (λ l. l ++ Duplicated c.args.comm.context made.count ∷ []) c.reserve.ensures.items in
    let found : find_group x a.communicators.made ≡ Some made.group =
    found_group x c.self.invariant.follows.communicators ∙ ap (λ (s : State). group_of s.ranks s.log x) seen ∙ made.ensures.group in
    let next : made.count ≡ dups_of a.log.items x = made.ensures.count ∙ ap (λ (s : State). dups_of s.log x) (sym seen) in
    let longer = c.duplicate.ensures.made ∙ ap (λ l. l ++ (made.context.number, made.group) ∷ []) room.made ∙ ap (λ k. a.communicators.made ++ (k, made.group) ∷ []) made.ensures.context in
    record {
      follows = rw now_log (follows_duplicated c.self.invariant.follows c.args.comm.context made.group made.count c.duplicate.new.self found next longer
          (λ k. c.duplicate.ensures.counts_this_one k ∙ ap (λ (dups : List (ℕ × ℕ)). cond (eqb x k) (suc made.count) (count_at dups k)) room.dups));
      places = omega (arith, c.in_ok-reserve.ensures.ok, c.push_reserved.ensures.len, c.push_reserved.ensures.capacity, c.len.ensures.len, stop_places_few a.stopped);
      tells = quiet _ _ _ _ now_log c.self.invariant.tells silent;
      countable = omega (arith, c.push_reserved.ensures.capacity, c.reserve.ensures.countable);
    }

pub invariant_of-self-in_err-make_place : goal.invariant_of-self-in_err-make_place
invariant_of-self-in_err-make_place c = holds_roomy c.self.inside c.self.invariant refl refl refl (knows_itself refl) c.make_place.ensures.has_the_same refl refl refl refl refl refl c.reserve.ensures.items refl (rounds_itself refl) c.reserve.ensures.capacity c.reserve.ensures.countable
