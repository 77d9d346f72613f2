use Rattle.std.proofs.Common.{◌≡◌, ◌<◌, false, length, ap, sym, ◌∙◌, arith}
use Rattle.ulfm_rank.proofs.Common.{is_stopped, State, RankView}
use Rattle.ulfm_rank.proofs.Seen.{all_out, none_left}
use Rattle.ulfm_rank.proofs.rank.Rank.is_outbox_empty.Goals as goal

pub returns-then-not-self : goal.returns-then-not-self
returns-then-not-self c =
    let seen = ap (λ (v : RankView). v.state) c.self.view_is in
    let boxes = c.self.inside.outboxes.boxes in
    let held = c.self.invariant.follows.outboxes in
    let inside : c.args.dest < length boxes = omega (arith, c.requires, held.size, ap (λ (s : State). s.ranks) seen) in
    let running : is_stopped c.self.inside.log.items ≡ false = sym c.self.invariant.follows.halted ∙ c.if-not-self.true in (
      λ t. all_out boxes c.args.dest seen held inside running (c.is_drained.ensures.0 t),
      λ e. c.is_drained.ensures.1 (none_left boxes c.args.dest seen held inside running e),
    )
