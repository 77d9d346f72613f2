use Rattle.std.proofs.Common.{◌≡◌, ◌<◌, true, false, length, ap, sym, ◌∙◌, arith}
use Rattle.ulfm_rank.proofs.Common.{is_stopped, State, RankView, IfSome_then, or_left, or_right}
use Rattle.ulfm_rank.proofs.Seen.{leaves_next, leaves_notice, out_few, outboxes-taken, all_out, IfSome_both, IfNone_weaker}
use Rattle.ulfm_rank.proofs.rank.Rank.take_out.Goals as goal

pub invariant_of-self : goal.invariant_of-self
invariant_of-self c =
    let a = c.self.inside in
    let seen = ap (λ (v : RankView). v.state) c.self.view_is in
    let boxes = a.outboxes.boxes in
    let held = c.self.invariant.follows.outboxes in
    let inside : c.args.dest < length boxes = omega (arith, c.requires, held.size, ap (λ (s : State). s.ranks) seen) in
    record {
      follows = record {
        small = c.self.invariant.follows.small;
        halted = c.self.invariant.follows.halted;
        in_step = c.self.invariant.follows.in_step;
        faults = c.self.invariant.follows.faults;
        communicators = c.self.invariant.follows.communicators;
        outboxes = outboxes-taken a.outboxes c.take_next.new.self c.args.dest c.take_next.result held inside c.take_next.ensures.first c.take_next.ensures.taken c.take_next.ensures.unchanged;
      };
      places = c.self.invariant.places;
      tells = c.self.invariant.tells;
      countable = c.self.invariant.countable;
    }

pub returns-then-not-self-clause-leaves : goal.returns-then-not-self-clause-leaves
returns-then-not-self-clause-leaves c =
    let a = c.self.inside in
    let seen = ap (λ (v : RankView). v.state) c.self.view_is in
    let boxes = a.outboxes.boxes in
    let held = c.self.invariant.follows.outboxes in
    let inside : c.args.dest < length boxes = omega (arith, c.requires, held.size, ap (λ (s : State). s.ranks) seen) in
    let running : is_stopped a.log.items ≡ false = sym c.self.invariant.follows.halted ∙ c.if-not-self.true in
    IfSome_both c.take_next.result c.take_next.ensures.first c.take_next.ensures.taken (λ item found change.
    rw change (leaves_next boxes c.args.dest seen held inside running found))

pub returns-then-not-self-clause-none : goal.returns-then-not-self-clause-none
returns-then-not-self-clause-none c =
    let a = c.self.inside in
    let seen = ap (λ (v : RankView). v.state) c.self.view_is in
    let boxes = a.outboxes.boxes in
    let held = c.self.invariant.follows.outboxes in
    let inside : c.args.dest < length boxes = omega (arith, c.requires, held.size, ap (λ (s : State). s.ranks) seen) in
    let running : is_stopped a.log.items ≡ false = sym c.self.invariant.follows.halted ∙ c.if-not-self.true in
    IfNone_weaker c.take_next.result c.take_next.ensures.none (all_out boxes c.args.dest seen held inside running)

pub returns-clause-leaves : goal.returns-clause-leaves
returns-clause-leaves c =
    let seen = ap (λ (v : RankView). v.state) c.self.view_is in
    let boxes = c.self.inside.outboxes.boxes in
    let held = c.self.invariant.follows.outboxes in
    let inside : c.args.dest < length boxes = omega (arith, c.requires, held.size, ap (λ (s : State). s.ranks) seen) in
    let stopped : is_stopped c.self.inside.log.items ≡ true = sym c.self.invariant.follows.halted ∙ c.if-not-self.false in
    rw c.set_notice_out.ensures.boxes (leaves_notice boxes c.args.dest seen held inside stopped (sym c.is_notice_out.ensures ∙ c.if-is_notice_out.false) (λ e. c.if-dest-self.false (sym e)))

pub take_next-requires-clause-countable : goal.take_next-requires-clause-countable
take_next-requires-clause-countable c =
    let a = c.self.inside in
    let held = c.self.invariant.follows.outboxes in
    let seen = ap (λ (v : RankView). v.state) c.self.view_is in
    let inside : c.args.dest < length a.outboxes.boxes = omega (arith, c.requires, held.size, ap (λ (s : State). s.ranks) seen) in
    omega (arith, out_few a.outboxes.boxes c.args.dest seen held inside, c.self.invariant.places, c.self.invariant.countable)

pub returns-then-not-self-clause-way_back : goal.returns-then-not-self-clause-way_back
returns-then-not-self-clause-way_back c = IfSome_then c.take_next.result c.take_next.ensures.lent (λ item there. or_right (is_stopped c.self.inside.log.items) _ there)

pub returns-clause-way_back : goal.returns-clause-way_back
returns-clause-way_back c = or_left (is_stopped c.self.inside.log.items) _ (sym c.self.invariant.follows.halted ∙ c.if-not-self.false)
