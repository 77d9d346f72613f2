use Rattle.std.proofs.Common.{◌≡◌, ◌<◌, length, map, ap, sym, ◌∙◌, arith, length-set}
use Rattle.rtrb.specs.Ring.{received, consumer_capacity}
use Rattle.ulfm_carrier.proofs.Common.{item_from, LaneEnds, shown}
use Rattle.ulfm_carrier.specs.Lanes.{outlet_name, inlet_name, reader_name}
use Rattle.ulfm_carrier.specs.inside.Wiring.{IsNewInlet}
use Rattle.ulfm_carrier.proofs.Wires.{adds}
use Rattle.ulfm_carrier.proofs.Wired.{wired_more}
use Rattle.ulfm_carrier.proofs.wiring.join.Goals as goal

pub returns-clause-wired : goal.returns-clause-wired
returns-clause-wired c =
    let all = c.args.ends.now.items in let s = c.args.source.number in let d = c.args.dest in
    let out = c.in_ok-out.out in let ring = c.in_ok-out.ring in let inlet = c.new-2.result in
    let made = c.in_ok-out.ensures in let new = c.new-2.ensures in let sender = c.index_mut-sender.result.now in
    let sent : LaneEnds = record sender { outs = c.push.new.self } in
    let receiver = c.index_mut-receiver.result.now in
    let received' : LaneEnds = record receiver { ins = c.push-2.new.self } in
    let low_s : s < length all = omega (arith, c.requires.source, c.args.ends.now.ok) in
    let low_d : d < length all = omega (arith, c.requires.dest, c.args.ends.now.ok) in
    let is_new : IsNewInlet c.args.capacity s inlet = (
      (ap (λ r. r.number) new.source, new.live),
      ap (λ g. map (item_from inlet.source) (shown g (received inlet.ring))) new.live ∙ ap (λ r. map (item_from inlet.source) (received r)) new.ring ∙ ap (map (item_from inlet.source)) made.consumer.0,
      ap (λ r. consumer_capacity r) new.ring ∙ made.consumer.2,
    ) in
    let pair : outlet_name out ≡ inlet_name inlet = (λ i. record { words = sym made.pair.0 i; slots = sym made.pair.1 i; names = sym made.pair.2 i; heap = sym made.pair.3 i }) ∙ ap (λ r. reader_name r) (sym new.ring) in
    wired_more _ c.args.capacity s d out inlet (made.producer.0, made.producer.1) is_new all _ pair (length-set _ d received' ∙ length-set all s sent)
    (adds all s d out inlet low_s low_d sender receiver c.push.new.self c.push-2.new.self c.index_mut-sender.ensures.value c.in_ok-push.ensures.items c.index_mut-receiver.ensures.value c.in_ok-push-2.ensures.items)
    c.requires.wired
