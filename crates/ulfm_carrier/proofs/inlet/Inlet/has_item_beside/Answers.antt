use Rattle.ulfm_carrier.proofs.Common.{known_items}
use Rattle.ulfm_carrier.proofs.Drained.{sent_rest}
use Rattle.ulfm_carrier.proofs.inlet.Inlet.has_item_beside.Goals as goal

pub returns-clause-all : goal.returns-clause-all
returns-clause-all c =
    let inlet = c.args.self.now in let looked = c.slots_beside.new.self in
    sent_rest inlet.source inlet.gathered (known_items looked) c.requires.live c.slots_beside.ensures.producer.1 c.slots_beside.ensures.looked.1 c.slots_beside.ensures.fifo
