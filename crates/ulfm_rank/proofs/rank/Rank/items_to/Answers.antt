use Rattle.std.proofs.Common.{◌≡◌, ◌<◌, false, length, ap, sym, ◌∙◌, arith}
use Rattle.ulfm_rank.proofs.Common.{is_stopped, State, RankView}
use Rattle.ulfm_rank.proofs.Seen.{left}
use Rattle.ulfm_rank.proofs.rank.Rank.items_to.Goals as goal

pub items-requires : goal.items-requires
items-requires c = omega (arith, c.requires.inside, c.self.invariant.follows.outboxes.size, ap (λ (v : RankView). v.state.ranks) c.self.view_is)

pub returns : goal.returns
returns c =
    let seen = ap (λ (v : RankView). v.state) c.self.view_is in
    let boxes = c.self.inside.outboxes.boxes in
    let held = c.self.invariant.follows.outboxes in
    let inside : c.args.dest < length boxes = omega (arith, c.requires.inside, held.size, ap (λ (s : State). s.ranks) seen) in
    let running : is_stopped c.self.inside.log.items ≡ false = ap (λ (s : State). is_stopped s.log) seen ∙ c.requires.running in
    c.items.ensures ∙ sym (left boxes c.args.dest seen held inside running)
