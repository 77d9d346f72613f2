use Rattle.ulfm_log.proofs.Sifted.{quiet, silent}
use Rattle.std.proofs.Common.{◌≡◌, refl, arith}
use Rattle.ulfm_rank.proofs.Common.{stop_places}
use Rattle.ulfm_rank.proofs.Following.{follows_stopped}
use Rattle.ulfm_rank.proofs.rank.Rank.stop.Goals as goal

pub invariant_of-self : goal.invariant_of-self
invariant_of-self c = record {
  follows = rw c.push_reserved.ensures.items (follows_stopped c.self.invariant.follows);
  places = let p = c.self.invariant.places in let q : stop_places c.self.inside.stopped ≡ 1 = rw c.if-self.false refl in omega (arith, p, q, c.push_reserved.ensures.len, c.push_reserved.ensures.capacity);
  tells = quiet _ _ _ _ c.push_reserved.ensures.items c.self.invariant.tells silent;
  countable = omega (arith, c.push_reserved.ensures.capacity, c.self.invariant.countable);
}
