use Rattle.std.proofs.Common.{◌≡◌, ◌+◌, ◌++◌, map, length, vec_len, vec_capacity}
use Rattle.rtrb.specs.Ring.{received, known_items, SameConsumer}
use Rattle.ulfm_carrier.proofs.Common.{signed}
use Rattle.ulfm_carrier.proofs.inlet.Inlet.drain.Given as goal

abbrev pub invariant-loop : goal.invariant-loop
invariant-loop l = record {
  ring : SameConsumer l.initial.self.ring l.self.ring;
  source : l.self.source ≡ l.initial.self.source;
  count : l.counter + length (known_items l.self.ring) ≡ l.count;
  received : received l.self.ring ++ known_items l.self.ring ≡ received l.initial.self.ring ++ known_items l.initial.self.ring;
  left : l.left.items ++ map (signed l.initial.self.source) (known_items l.self.ring) ≡ l.initial.left.items ++ map (signed l.initial.self.source) (known_items l.initial.self.ring);
  filled : vec_len l.left + length (known_items l.self.ring) ≡ vec_len l.initial.left + l.count;
  room : vec_capacity l.left ≡ vec_capacity l.initial.left;
}
