use Rattle.std.proofs.Common.{refl}
use Rattle.ulfm_rank.proofs.Whole.{comms_itself, holds_roomy, holds_same}
use Rattle.ulfm_log.proofs.Counts.{rounds_itself}
use Rattle.ulfm_rank.proofs.rank.Rank.prepare.Goals as goal

pub invariant_of-self-in_err-reserve-2 : goal.invariant_of-self-in_err-reserve-2
invariant_of-self-in_err-reserve-2 c = holds_same c.self.inside c.self.invariant refl refl refl refl refl refl refl refl refl c.reserve-2.ensures.entries refl c.reserve.ensures.items refl refl c.reserve.ensures.capacity c.reserve.ensures.countable

pub invariant_of-self-in_err-prepare : goal.invariant_of-self-in_err-prepare
invariant_of-self-in_err-prepare c = holds_same c.self.inside c.self.invariant refl refl refl refl refl c.prepare.ensures.waiting c.prepare.ensures.kept c.prepare.ensures.count c.prepare.ensures.cleared c.reserve-2.ensures.entries refl c.reserve.ensures.items refl refl c.reserve.ensures.capacity c.reserve.ensures.countable

pub invariant_of-self-2 : goal.invariant_of-self-2
invariant_of-self-2 c = holds_roomy c.self.inside c.self.invariant refl refl refl c.make_place-2.ensures.knows_the_same c.make_place-4.ensures.has_the_same c.prepare.ensures.waiting c.prepare.ensures.kept c.prepare.ensures.count c.prepare.ensures.cleared c.reserve-2.ensures.entries c.reserve-3.ensures.boxes c.reserve.ensures.items c.make_place.ensures.items c.make_place-3.ensures.counts c.reserve.ensures.capacity c.reserve.ensures.countable

pub invariant_of-self-in_err-make_place : goal.invariant_of-self-in_err-make_place
invariant_of-self-in_err-make_place c = holds_same c.self.inside c.self.invariant refl refl refl refl refl c.prepare.ensures.waiting c.prepare.ensures.kept c.prepare.ensures.count c.prepare.ensures.cleared c.reserve-2.ensures.entries refl c.reserve.ensures.items c.make_place.ensures.items refl c.reserve.ensures.capacity c.reserve.ensures.countable

pub invariant_of-self-in_err-make : goal.invariant_of-self-in_err-make
invariant_of-self-in_err-make c = holds_same c.self.inside c.self.invariant refl refl refl refl refl c.prepare.ensures.waiting c.prepare.ensures.kept c.prepare.ensures.count c.prepare.ensures.cleared c.reserve-2.ensures.entries refl c.reserve.ensures.items c.make_place.ensures.items refl c.reserve.ensures.capacity c.reserve.ensures.countable

pub invariant_of-self-in_err-make_place-2 : goal.invariant_of-self-in_err-make_place-2
invariant_of-self-in_err-make_place-2 c = holds_roomy c.self.inside c.self.invariant refl refl refl c.make_place-2.ensures.knows_the_same (comms_itself refl) c.prepare.ensures.waiting c.prepare.ensures.kept c.prepare.ensures.count c.prepare.ensures.cleared c.reserve-2.ensures.entries refl c.reserve.ensures.items c.make_place.ensures.items (rounds_itself refl) c.reserve.ensures.capacity c.reserve.ensures.countable

pub invariant_of-self-in_err-make_place-3 : goal.invariant_of-self-in_err-make_place-3
invariant_of-self-in_err-make_place-3 c = holds_roomy c.self.inside c.self.invariant refl refl refl c.make_place-2.ensures.knows_the_same (comms_itself refl) c.prepare.ensures.waiting c.prepare.ensures.kept c.prepare.ensures.count c.prepare.ensures.cleared c.reserve-2.ensures.entries refl c.reserve.ensures.items c.make_place.ensures.items c.make_place-3.ensures.counts c.reserve.ensures.capacity c.reserve.ensures.countable

pub invariant_of-self-in_err-make_place-4 : goal.invariant_of-self-in_err-make_place-4
invariant_of-self-in_err-make_place-4 c = holds_roomy c.self.inside c.self.invariant refl refl refl c.make_place-2.ensures.knows_the_same c.make_place-4.ensures.has_the_same c.prepare.ensures.waiting c.prepare.ensures.kept c.prepare.ensures.count c.prepare.ensures.cleared c.reserve-2.ensures.entries refl c.reserve.ensures.items c.make_place.ensures.items c.make_place-3.ensures.counts c.reserve.ensures.capacity c.reserve.ensures.countable
