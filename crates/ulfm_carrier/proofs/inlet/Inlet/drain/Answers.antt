use Rattle.std.proofs.Common.{◌++◌, map, ap, ◌∙◌, arith}
use Rattle.ulfm_carrier.proofs.Common.{item_from, known_items, signed}
use Rattle.ulfm_carrier.proofs.Drained.{sent_rest, all_moved, tagged_twice}
use Rattle.ulfm_carrier.proofs.inlet.Inlet.drain.Goals as goal

pub returns-clause-left : goal.returns-clause-left
returns-clause-left c =
    let inlet = c.args.self.now in let looked = c.slots_beside-count.new.self in
    let ahead = known_items looked in (
      map (item_from inlet.source) ahead,
      sent_rest inlet.source inlet.gathered ahead c.requires.live c.slots_beside-count.ensures.producer.1
          c.slots_beside-count.ensures.looked.1 c.slots_beside-count.ensures.fifo,
      all_moved (signed inlet.source) c.loop.left.items _ (known_items c.loop.self.ring) (omega (arith, c.loop.invariant.count, c.loop-test.false)) c.loop.invariant.left
          ∙ ap (λ l. c.args.left.now.items ++ l) (tagged_twice inlet.source ahead),
    )
