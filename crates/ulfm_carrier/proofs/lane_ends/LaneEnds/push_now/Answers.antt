use Rattle.std.proofs.Common.{map, ◌<◌, ◌++◌, ◌∷◌, [], get_or, ap, ◌∙◌, refl, arith, length}
use Rattle.ulfm_carrier.proofs.Common.{inlet_name, known_free, pushed_into, sent}
use Rattle.ulfm_carrier.proofs.Places.{at_read, view_here, view_or, view_other}
use Rattle.ulfm_carrier.proofs.Rings.{outlet_names, same_twice, sent_more, sent_same, ready_outs}
use Rattle.ulfm_carrier.proofs.lane_ends.LaneEnds.push_now.Goals as goal

-- the ring is full
pub returns-then-is_full : goal.returns-then-is_full
returns-then-is_full c =
    let e = c.args.self.now in let outs = e.outs.items in let d = c.args.dest in let p = c.index_mut-out.result.now in
    let q = c.is_full.new.self in let here = c.index_mut-out.ensures.value in let looked = c.is_full.ensures.looked in
    let none = c.is_full.ensures.value.0 c.if-is_full.true in
    let low : d < length outs = omega (arith, c.requires.dest, e.outs.ok) in
    let same = outlet_names outs d p q here looked.0 in
    let was = view_or known_free outs d 0 (at_read outs d low here) in record {
      name = ((λ i. record { place = e.me.number; outs = same i; ins = map inlet_name e.ins.items }), refl, refl, ready_outs e _ same c.requires.ready);
      taken = λ n. refl;
      others = λ n apart. view_other (pushed_into e.me) outs d n q [] apart;
      pushed = (refl, ap (λ l. get_or l d []) (sent_same e.me d outs p q here looked.1));
      full = view_here known_free outs d q 0 low ∙ none;
      succeeds = λ room. absurd (omega (arith, room, was, none, looked.2));
      one_place = tt;
      other_rooms = λ n apart. view_other known_free outs d n q 0 apart;
      inbox = (refl, refl);
    }

-- the item is pushed
pub returns : goal.returns
returns c =
    let e = c.args.self.now in let outs = e.outs.items in let d = c.args.dest in let p = c.index_mut-out.result.now in
    let q = c.push_reserved.new.self in let here = c.index_mut-out.ensures.value in
    let looked = c.is_full.ensures.looked in let pushed = c.push_reserved.ensures in
    let low : d < length outs = omega (arith, c.requires.dest, e.outs.ok) in
    let same = outlet_names outs d p q here (same_twice p c.is_full.new.self q looked.0 pushed.ring) in
    let now = view_here known_free outs d q 0 low in
    let was = view_or known_free outs d 0 (at_read outs d low here) in record {
      name = ((λ i. record { place = e.me.number; outs = same i; ins = map inlet_name e.ins.items }), refl, refl, ready_outs e _ same c.requires.ready);
      taken = λ n. refl;
      others = λ n apart. view_other (pushed_into e.me) outs d n q [] apart;
      pushed = sent_more e.me d outs p q c.args.item low here c.requires.item (pushed.sent.0 ∙ ap (λ l. l ++ c.of.result ∷ []) looked.1 ∙ ap (λ x. sent p ++ x ∷ []) c.of.ensures);
      full = tt;
      succeeds = λ _. refl;
      one_place = omega (arith, now, was, looked.2, pushed.sent.1);
      other_rooms = λ n apart. view_other known_free outs d n q 0 apart;
      inbox = (refl, refl);
    }
