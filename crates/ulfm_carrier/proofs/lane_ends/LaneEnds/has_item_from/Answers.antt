use Rattle.std.proofs.Common.{◌≡◌, ◌<◌, ◌↔◌, ◌++◌, [], length, map, get_or, ap, sym, ◌∙◌, refl, arith, subst, IsTrue}
use mathlib.Core.List.{IsPrefix}
use Rattle.ulfm_carrier.proofs.Common.{item_from, lane_pushed, lane_taken, map-set_same, outlet_name, seen_from, seen_in, taken_by}
use Rattle.ulfm_carrier.proofs.Places.{at_read, prefix_here, view_here, view_other}
use Rattle.ulfm_carrier.proofs.Rings.{inlet_names, ready_both}
use Rattle.ulfm_carrier.proofs.lane_ends.LaneEnds.has_item_from.Goals as goal

-- The ring is that from the rank to itself.

pub returns-then-peer-self-clause-found : goal.returns-then-peer-self-clause-found
returns-then-peer-self-clause-found c =
    subst (λ k. IsTrue c.has_item_of_its_own.result ↔ (0 < length (seen_from c.has_item_of_its_own.new.self k))) (sym c.if-peer-self.true) c.has_item_of_its_own.ensures.found

pub returns-then-peer-self-clause-own : goal.returns-then-peer-self-clause-own
returns-then-peer-self-clause-own c = λ _.
    let now = c.has_item_of_its_own.new.self in
    subst (λ k. lane_pushed now k ≡ lane_taken now k ++ map (item_from c.args.self.now.me) (seen_from now k)) (sym c.if-peer-self.true) c.has_item_of_its_own.ensures.own

pub returns-then-peer-self-clause-stays : goal.returns-then-peer-self-clause-stays
returns-then-peer-self-clause-stays c =
    let before = c.args.self.now in let now = c.has_item_of_its_own.new.self in
    subst (λ k. IsPrefix (seen_from before k) (seen_from now k)) (sym c.if-peer-self.true) c.has_item_of_its_own.ensures.stays

pub returns-then-peer-self-clause-others_seen : goal.returns-then-peer-self-clause-others_seen
returns-then-peer-self-clause-others_seen c = λ p apart. c.has_item_of_its_own.ensures.others_seen p (λ is. apart (is ∙ sym c.if-peer-self.true))

-- It is another.

pub returns : goal.returns
returns c =
    let e = c.args.self.now in let peer = c.args.peer in let i = c.index_mut-inlet.result.now in
    let j = c.has_item.new.self in let here = c.index_mut-inlet.ensures.value in let looked = c.has_item.ensures in
    let low : peer < length e.ins.items = omega (arith, c.requires.peer, e.outs.ok, c.requires.ready.rings.square) in
    let is = c.requires.ready.rings.live peer i (at_read e.ins.items peer low here) in
    let same = inlet_names e.ins.items peer i j here looked.name.0 in
    record {
      name = (
        (λ n. record { place = e.me.number; outs = map outlet_name e.outs.items; ins = same n }),
        refl,
        refl,
        ready_both e e.outs _ _ peer i j refl refl here looked.name.0 looked.name.1 (ap (λ r. r.number) looked.same.0 ∙ is.0, looked.same.1 ∙ is.1) c.requires.ready,
      );
      next = refl;
      found = subst (λ seen. IsTrue c.has_item.result ↔ (0 < length seen)) (sym (view_here seen_in e.ins.items peer j [] low)) looked.found;
      own = λ same. absurd (c.if-peer-self.false same);
      stays = prefix_here seen_in e.ins.items peer j low here looked.stays;
      others_seen = λ p apart. view_other seen_in e.ins.items peer p j [] apart;
      taken = λ p. ap (λ l. get_or l p []) (map-set_same taken_by e.ins.items peer j i (looked.same.2 ∙ ap taken_by here));
      pushed = λ p. refl;
      rooms = λ p. omega arith;
      other_rooms = λ p apart. refl;
    }
