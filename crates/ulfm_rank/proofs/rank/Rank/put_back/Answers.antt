use Rattle.std.proofs.Common.{◌≡◌, ◌<◌, true, false, length, set, ap, sym, subst, ◌∙◌, arith}
use Rattle.ulfm_rank.proofs.Common.{is_stopped, has_way_back, State, RankView, box_at, with_item_back, HasOutboxes}
use Rattle.ulfm_rank.proofs.Seen.{returns_item, returns_notice, outbox_back, outboxes-marked}
use Rattle.ulfm_rank.proofs.rank.Rank.put_back.Goals as goal

pub returns-then-self-clause-state : goal.returns-then-self-clause-state
returns-then-self-clause-state c =
    let seen = ap (λ (v : RankView). v.state) c.self.view_is in
    let stopped : is_stopped c.self.inside.log.items ≡ true = sym c.self.invariant.follows.halted ∙ c.if-self.true in
    rw c.set_notice_out.ensures.boxes (returns_notice c.self.inside.outboxes.boxes c.args.dest seen stopped)

pub invariant_of-self-2 : goal.invariant_of-self-2
invariant_of-self-2 c =
    let a = c.self.inside in
    let seen = ap (λ (v : RankView). v.state) c.self.view_is in
    let boxes = a.outboxes.boxes in
    let held = c.self.invariant.follows.outboxes in
    let inside : c.args.dest < length boxes = omega (arith, c.requires.inside, held.size, ap (λ (s : State). s.ranks) seen) in
    let b = box_at boxes c.args.dest in
    let w = held.within c.args.dest inside in
    let running : is_stopped a.log.items ≡ false = sym c.self.invariant.follows.halted ∙ c.if-self.false in
    let back = outbox_back boxes c.args.dest seen held inside running c.requires.taken in
    let marked : HasOutboxes a.ranks a.me.number a.log.items (set boxes c.args.dest (with_item_back b c.args.item)) =
    outboxes-marked c.args.dest (with_item_back b c.args.item) held inside back (omega (arith, w)) (λ s. held.no_notice s c.args.dest inside) (λ e. ap (λ k. (box_at boxes k).notice_out) (sym e) ∙ held.no_own_notice) in
    record {
      follows = record {
        small = c.self.invariant.follows.small;
        halted = c.self.invariant.follows.halted;
        in_step = c.self.invariant.follows.in_step;
        faults = c.self.invariant.follows.faults;
        communicators = c.self.invariant.follows.communicators;
        outboxes = rw c.put_back.ensures.boxes marked;
      };
      places = c.self.invariant.places;
      tells = c.self.invariant.tells;
      countable = c.self.invariant.countable;
    }

pub returns-clause-state : goal.returns-clause-state
returns-clause-state c =
    let seen = ap (λ (v : RankView). v.state) c.self.view_is in
    let running : is_stopped c.self.inside.log.items ≡ false = sym c.self.invariant.follows.halted ∙ c.if-self.false in
    rw c.put_back.ensures.boxes (returns_item c.self.inside.outboxes.boxes c.args.dest seen c.args.item running)

pub put_back-requires-clause-lent : goal.put_back-requires-clause-lent
put_back-requires-clause-lent c =
    let running : is_stopped c.self.inside.log.items ≡ false = sym c.self.invariant.follows.halted ∙ c.if-self.false in
    rw running at (subst (λ (v : RankView). has_way_back v.state v.lent c.args.dest ≡ true) (sym c.self.view_is) c.requires.way_back)
