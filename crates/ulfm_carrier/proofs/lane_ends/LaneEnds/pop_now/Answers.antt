use Rattle.std.proofs.Common.{◌≡◌, ◌<◌, ◌+◌, ◌%◌, ◌++◌, ◌∷◌, inl, inr, [], get_or, map, length, refl, ap, sym, ◌∙◌, arith, subst}
use Rattle.std.proofs.lemmas.Nat.{mod_below}
use Rattle.ulfm_carrier.proofs.Common.{cases_lt, lane_pushed, lane_taken, seen_from, seen_in}
use Rattle.ulfm_carrier.proofs.Turns.{turns_apart, turn_of, none_seen}
use Rattle.ulfm_carrier.proofs.lane_ends.LaneEnds.pop_now.Goals as goal

pub pop_from-requires-clause-source : goal.pop_from-requires-clause-source
pop_from-requires-clause-source c =
    let was = c.loop-step.invariant in let low = mod_below (c.args.self.now.next + c.loop-step.step) c.len-count.result (omega (arith, c.loop-step-test.true)) in
    omega (arith, low, c.place_in_turn-peer.ensures, was.many, was.ready.rings.square, c.loop-step.self.outs.ok)

pub returns-in-Some : goal.returns-in-Some
returns-in-Some c =
    let e = c.args.self.now in let was = c.loop-step.invariant in let found = c.in-Some.ensures in let count = c.len-count.result in
    let low = mod_below (e.next + c.loop-step.step) count (omega (arith, c.loop-step-test.true)) in
    let many : count ≡ length e.ins.items = omega (arith, c.len-count.ensures, e.ins.ok) in
    let before_me : c.loop-step.self.me.number ≡ e.me.number = ap (λ r. r.number) was.me in
    let peer = c.place_in_turn-peer.result in let is_peer = c.place_in_turn-peer.ensures in
    let ready = found.name.3 in record {
      name = (
        found.name.0 ∙ was.name,
        found.name.1 ∙ was.me,
        found.name.2 ∙ was.rows,
        record {
          rings = record { square = ready.rings.square; inside = ready.rings.inside; few = ready.rings.few; live = ready.rings.live; empty = ready.rings.empty; room = ready.rings.room };
          own_ring = ready.own_ring;
          no_inbox = ready.no_inbox;
          inbox_for_each = ready.inbox_for_each;
        },
      );
      pushed = λ p. found.pushed p ∙ was.pushed p;
      sender = (omega (arith, low, is_peer, was.many, was.ready.rings.square, was.rows, c.loop-step.self.outs.ok, e.outs.ok), found.sender);
      taken = (found.taken.0 ∙ ap (λ l. l ++ c.in-Some.item ∷ []) (was.taken peer), λ p apart. found.taken.1 p apart ∙ was.taken p);
      nothing_seen = tt;
      own = tt;
      in_turn = record {
        passed = c.loop-step.step;
        turn = is_peer ∙ ap (λ n. (e.next + c.loop-step.step) % n) many;
        nothing_seen = λ j less.
            let place = (e.next + j) % count in
            let apart = turns_apart e.next j c.loop-step.step count less c.loop-step-test.true in
            ap (λ n. get_or (map seen_in c.pop_from.new.self.ins.items) ((e.next + j) % n) []) (sym many) ∙ found.others_seen place (λ x. apart (x ∙ is_peer)) ∙ was.nothing_seen j less;
        next = refl;
      };
      same_turn = tt;
      rooms = λ p. omega (arith, was.rooms p, found.rooms p);
      other_rooms = λ p apart. found.other_rooms p (λ x. apart (x ∙ before_me)) ∙ was.other_rooms p apart;
    }

pub loop-step-preserved : goal.loop-step-preserved
loop-step-preserved c =
    let e = c.args.self.now in let me = e.me.number in let was = c.loop-step.invariant in
    let before = c.loop-step.self in let now = c.pop_from.new.self in let found = c.in_default.ensures in
    let count = c.len-count.result in
    let peer = c.place_in_turn-peer.result in let is_peer = c.place_in_turn-peer.ensures in
    let before_me : before.me.number ≡ me = ap (λ r. r.number) was.me in record {
      name = found.name.0 ∙ was.name;
      me = found.name.1 ∙ was.me;
      rows = found.name.2 ∙ was.rows;
      ready = found.name.3;
      next = found.next ∙ was.next;
      many = found.name.3.rings.square ∙ omega (arith, found.name.2, now.outs.ok, before.outs.ok) ∙ sym was.ready.rings.square ∙ was.many;
      nothing_seen = λ j low. elim (cases_lt j c.loop-step.step) [
        | inl below ↦ found.others_seen ((e.next + j) % count) (λ x. turns_apart e.next j c.loop-step.step count below c.loop-step-test.true (x ∙ is_peer)) ∙ was.nothing_seen j below
        | inr late ↦ let last : j ≡ c.loop-step.step = omega (arith, late, low) in ap (λ i. seen_from now ((e.next + i) % count)) last ∙ ap (λ p. seen_from now p) (sym is_peer) ∙ found.nothing_seen
      ];
      own = λ j low is. elim (cases_lt j c.loop-step.step) [
        | inl below ↦ found.pushed me ∙ was.own j below is ∙ sym (found.taken me)
        | inr late ↦
            let last : j ≡ c.loop-step.step = omega (arith, late, low) in
            let here : peer ≡ me = is_peer ∙ ap (λ i. (e.next + i) % count) (sym last) ∙ is in
            subst (λ i. lane_pushed now i ≡ lane_taken now i) here (found.own (here ∙ sym before_me))
      ];
      taken = λ p. found.taken p ∙ was.taken p;
      pushed = λ p. found.pushed p ∙ was.pushed p;
      rooms = λ p. omega (arith, was.rooms p, found.rooms p);
      other_rooms = λ p apart. found.other_rooms p (λ x. apart (x ∙ before_me)) ∙ was.other_rooms p apart;
    }

pub returns : goal.returns
returns c =
    let e = c.args.self.now in let was = c.loop-step.invariant in let count = c.len-count.result in
    let inside : e.me.number < count = omega (arith, c.requires.ready.rings.inside, c.requires.ready.rings.square, c.len-count.ensures, e.ins.ok) in
    let turn = turn_of e.next count e.me.number inside in record {
      name = (was.name, was.me, was.rows, was.ready);
      pushed = was.pushed;
      sender = tt;
      taken = was.taken;
      nothing_seen = none_seen c.loop-step.self e.next was.many (λ j low. was.nothing_seen j (omega (arith, low, c.loop-step-test.false)));
      own = was.own turn.0 (omega (arith, turn.1, c.loop-step-test.false)) turn.2;
      in_turn = tt;
      same_turn = was.next;
      rooms = was.rooms;
      other_rooms = was.other_rooms;
    }
