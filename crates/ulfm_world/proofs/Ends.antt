-- A replay from its start to rest.
use Rattle.std.proofs.Common.{◌≡◌, ℕ, ◌<◌, Bool, List, [], length, refl, ap, sym, subst, ◌∙◌, arith, inl, inr}
use Rattle.ulfm_world.proofs.Common.{WorldRank, Item, is_stopped, Player, World, rank_at, inbox_at, start_world, IsAtRest, cases_Bool, JobView, Follows, Moves, IsStuck, IsUnderway, AllHaveFinished, GoesThrough, PerInbox, PerPair, Room, places, taken_places}
use Rattle.ulfm_script.proofs.Reacting.{finished-running, finished-stopped, goes-start}
use Rattle.ulfm_world.proofs.Starts.{player-start, length-start}
use Rattle.ulfm_world.proofs.Runs.{reaches-then}
use Rattle.ulfm_world.proofs.Rightly.{rightly-start}

pub came-start : (j : JobView) (w : World) → w ≡ start_world j.ranks (PerInbox j.capacity) → IsUnderway j w
came-start j w is =
    let n = j.ranks in
    subst (λ (x : World). IsUnderway j x) (sym is) (record {
      reaches = ([], refl);
      size = length-start n n;
      room = refl;
      follows = λ r k.
          subst (λ (p : Player). GoesThrough j r p) (sym (player-start n n r (omega (arith, k, length-start n n)))) (goes-start j r r n);
      answers = rightly-start n (PerInbox j.capacity);
    })

pub came-moves : (j : JobView) (v w : World) (a : Bool) → IsUnderway j v → Moves j v w a → IsUnderway j w
came-moves j v w a h k = record {
  reaches = reaches-then _ v w h.reaches k.reaches;
  size = k.size ∙ h.size;
  room = k.room ∙ h.room;
  follows = k.follows h.follows;
  answers = k.answers h.follows h.answers;
}

-- an empty inbox has all its places
pub taken-none : (room : Room) (s : ℕ) → taken_places room s [] ≡ 0
taken-none (PerInbox n) s = refl
taken-none (PerPair n) s = refl

pub stuck-rest : (j : JobView) (w : World) → 0 < places w.room → ((r : ℕ) → r < length w.players → IsStuck j w r) → IsAtRest w
stuck-rest j w roomy h = record {
  served = λ d k running. record {
    inbox = (h d k).takes running;
    outboxes = λ s i. elim ((h s i).pushes d k) [
      | inl empty ↦ empty
      | inr full ↦
          let none : taken_places w.room s (inbox_at w d) ≡ 0 = ap (λ (xs : List (WorldRank × Item)). taken_places w.room s xs) ((h d k).takes running) ∙ taken-none w.room s in
          absurd (omega (arith, full, none, roomy))
    ];
  };
}

pub stuck-answered : (j : JobView) (w : World) → Follows j w → ((r : ℕ) → r < length w.players → IsStuck j w r) → AllHaveFinished j w
stuck-answered j w f h r k = elim (cases_Bool (is_stopped (rank_at w r).log)) [
  | inl stopped ↦ finished-stopped (f r k) stopped
  | inr running ↦ finished-running (f r k) running ((h r k).polls running)
]

pub ruleset rests = (came-start, came-moves)
