use Rattle.ulfm_log.proofs.Sifted.{quiet, silent}
use Rattle.std.proofs.Common.{◌++◌, ◌∷◌, [], refl, ap, ◌∙◌, arith}
use Rattle.ulfm_rank.proofs.Common.{Acknowledged}
use Rattle.ulfm_rank.proofs.Following.{follows_acknowledged}
use Rattle.ulfm_rank.proofs.Seen.{stop_places_few}
use Rattle.ulfm_rank.proofs.Whole.{comms_itself, follows_facts, holds_roomy}
use Rattle.ulfm_log.proofs.Counts.{rounds_itself}
use Rattle.ulfm_rank.proofs.rank.Rank.ack_failed.Goals as goal

pub invariant_of-self-2 : goal.invariant_of-self-2
invariant_of-self-2 c =
    let now_log = c.push_reserved.ensures.items ∙ ap (λ l. l ++ Acknowledged c.args.comm.context c.ack-total.result ∷ []) c.reserve.ensures.items in
    record {
      follows = rw now_log (follows_acknowledged (follows_facts c.make_place.new.self c.make_place.ensures.knows_the_same c.self.invariant.follows) c.args.comm.context c.ack-total.result c.ack-total.new.self c.ack-total.ensures.sets_this_total_alone c.ack-total.ensures.known_stay c.ack-total.ensures.marks_stay);
      places = omega (arith, c.in_ok-reserve.ensures.ok, c.push_reserved.ensures.len, c.push_reserved.ensures.capacity, c.len.ensures.len, stop_places_few c.self.inside.stopped);
      tells = quiet _ _ _ _ now_log c.self.invariant.tells silent;
      countable = omega (arith, c.push_reserved.ensures.capacity, c.reserve.ensures.countable);
    }

pub invariant_of-self-in_err-make_place : goal.invariant_of-self-in_err-make_place
invariant_of-self-in_err-make_place c = holds_roomy c.self.inside c.self.invariant refl refl refl c.make_place.ensures.knows_the_same (comms_itself refl) refl refl refl refl refl refl c.reserve.ensures.items refl (rounds_itself refl) c.reserve.ensures.capacity c.reserve.ensures.countable
