use Rattle.std.proofs.Common.{◌≡◌, ◌<◌, ◌↔◌, [], length, map, get_or, ap, sym, ◌∙◌, refl, arith, subst, IsTrue}
use Rattle.ulfm_carrier.proofs.Common.{known_free, map-set_same, outlet_name, same_rank, seen_in, taken_by}
use Rattle.ulfm_carrier.proofs.Owned.{rooms_grow, own_rest}
use Rattle.ulfm_carrier.proofs.Places.{at_read, prefix_here, view_here, view_other}
use Rattle.ulfm_carrier.proofs.Rings.{inlet_names, ready_both, sent_same, own_pair}
use Rattle.ulfm_carrier.proofs.lane_ends.LaneEnds.has_item_of_its_own.Goals as goal

pub has_item_beside-requires : goal.has_item_beside-requires
has_item_beside-requires c =
    let e = c.args.self.now in let me = e.me.number in let r = c.requires.ready in
    let inlet = at_read e.ins.items me (omega (arith, r.rings.inside, r.rings.square)) c.index_mut-inlet.ensures.value in
    record { pair = own_pair e r (at_read e.outs.items me r.rings.inside c.index_mut.ensures.value) inlet; live = (r.rings.live me c.index_mut-inlet.result.now inlet).1 }

pub returns : goal.returns
returns c =
    let e = c.args.self.now in let r = c.requires.ready in let me = e.me.number in
    let i = c.index_mut-inlet.result.now in let j = c.has_item_beside.new.self in let p = c.index_mut.result.now in
    let q = c.has_item_beside.new.out in let out = c.index_mut.ensures.value in
    let here = c.index_mut-inlet.ensures.value in let looked = c.has_item_beside.ensures in
    let inside : me < length e.ins.items = omega (arith, r.rings.inside, r.rings.square) in
    let is = r.rings.live me i (at_read e.ins.items me inside here) in
    let outs : map outlet_name _ ≡ map outlet_name e.outs.items = map-set_same outlet_name e.outs.items me q p (looked.out.0 ∙ ap outlet_name out) in
    let ins = inlet_names e.ins.items me i j here looked.name.0 in record {
      name = (
        (λ n. record { place = me; outs = outs n; ins = ins n }),
        refl,
        refl,
        ready_both e _ _ _ me i j outs refl here looked.name.0 looked.name.1 (ap (λ a. a.number) looked.same.0 ∙ is.0, looked.same.1) r,
      );
      next = refl;
      found = subst (λ seen. IsTrue c.has_item_beside.result ↔ (0 < length seen)) (sym (view_here seen_in e.ins.items me j [] inside)) looked.found;
      own = own_rest e.me e.outs.items e.ins.items me p q i j r.rings.inside inside out here (same_rank i.source e.me is.0) looked.out.1 looked.same.2 looked.all;
      stays = prefix_here seen_in e.ins.items me j inside here looked.stays;
      others_seen = λ n apart. view_other seen_in e.ins.items me n j [] apart;
      taken = λ n. ap (λ l. get_or l n []) (map-set_same taken_by e.ins.items me j i (looked.same.2 ∙ ap taken_by here));
      pushed = λ n. ap (λ l. get_or l n []) (sent_same e.me me e.outs.items p q out looked.out.1);
      rooms = rooms_grow e.outs.items me p q r.rings.inside out looked.out.2;
      other_rooms = λ n apart. view_other known_free e.outs.items me n q 0 apart;
    }
