-- Why a poll of a replay can be refused.
use Rattle.std.proofs.Common.{◌≡◌, ℕ, ◌<◌, false, length, refl, ap, sym, ◌∙◌, arith, inl, inr, length-set, Some, None}
use Rattle.ulfm_world.proofs.Common.{is_stopped, Step, JobView, Call, Leave, Skip, false≢true, opens_add, stopped-adds, World, player_at, with_players, with_player, Happens, IsRunning, IsRefused, Player, IsCalled, awaits_decision, Follows, is_played, next-free}
use Rattle.ulfm_world.specs.declared.event.Refused.{Refused}
use Rattle.ulfm_world.specs.declared.event.Refused.TheVariants.{NotReady, Stopped, OutOfMemory, NoSuchRank}
use Rattle.ulfm_script.specs.Meant.{next_step, played_script}
use Rattle.ulfm_script.proofs.MeantAlong.{next-played}
use Rattle.ulfm_script.proofs.Reacting.{idle_none}
use Rattle.ulfm_world.proofs.Changed.{player-same}

-- the next step of a running player is refused by out of memory alone
pub refused-starves : (j : JobView) (w : World) (r : ℕ) (asked : Step) (why : Refused) → r < length w.players → Follows j w → IsRunning w r → next_step j r (player_at w r).done ≡ Some asked → IsRefused w (Call r asked) why → why ≡ OutOfMemory
refused-starves j w r asked NoSuchRank i f running next k = absurd (omega (arith, i, k))
refused-starves j w r asked Stopped i f running next k = absurd (false≢true (sym running ∙ k.1))
refused-starves j w r asked NotReady i f running next k = absurd (k.1 (next-free (played_script j r (player_at w r).done) j.turns (player_at w r) asked (f r i).follows (next-played j r (player_at w r).done ∙ next)))
refused-starves j w r asked OutOfMemory i f running next k = refl
refused-starves j w r asked _ i f running next k = absurd k

-- so is the skip of a step that isn't to be played
pub skip-starves : (j : JobView) (w : World) (r : ℕ) (asked : Step) (why : Refused) → r < length w.players → Follows j w → IsRunning w r → is_played j.conditions r (player_at w r).done ≡ false → IsRefused w (Skip r asked) why → why ≡ OutOfMemory
skip-starves j w r asked NoSuchRank i f running idle k = absurd (omega (arith, i, k))
skip-starves j w r asked Stopped i f running idle k = absurd (false≢true (sym running ∙ k.1))
skip-starves j w r asked NotReady i f running idle k = absurd (k.1 (idle_none (f r i) idle))
skip-starves j w r asked OutOfMemory i f running idle k = refl
skip-starves j w r asked _ i f running idle k = absurd k

-- a poll that was spent and left its step open didn't stop the rank
spent_open : {old : Player} {asked : Step} {new : Player} → is_stopped old.rank.log ≡ false → IsCalled old asked new → 0 < new.polls → (is_stopped new.rank.log ≡ false) × (new.current ≡ Some asked)
spent_open running (inl a) spent = absurd (omega (arith, spent, ap (λ (p : Player). p.polls) a.only))
spent_open {old} {asked} running (inr o) spent = (
  ap (λ (p : Player). is_stopped p.rank.log) o.only ∙ stopped-adds old.rank false o.rank running (opens_add (awaits_decision old.current) old.done old.rank asked o.rank o.stays),
  ap (λ (p : Player). p.current) o.only,
)

-- a step that a poll left open can be given up
pub leave-goes : (w mid : World) (r : ℕ) (asked : Step) (why : Refused) → Happens w (Call r asked) mid → 0 < (player_at mid r).polls → IsRefused mid (Leave r) why → ⊥
leave-goes w mid r asked why t spent k =
    let c = t.1 in
    let mid_is : mid ≡ with_player w r c.after = t.2 ∙ ap (with_players w) c.only in
    let mid_at : player_at mid r ≡ c.after = ap (λ (x : World). player_at x r) mid_is ∙ player-same w.players r r c.after refl c.inside in
    let size : length mid.players ≡ length w.players = ap (λ (x : World). length x.players) mid_is ∙ length-set w.players r c.after in
    let stays = spent_open c.running c.called (omega (arith, spent, ap (λ (p : Player). p.polls) mid_at)) in
    goes why (omega (arith, size, c.inside)) (ap (λ (p : Player). is_stopped p.rank.log) mid_at ∙ stays.0) (ap (λ (p : Player). p.current) mid_at ∙ stays.1) k
  where
    goes : (x : Refused) → r < length mid.players → IsRunning mid r → (player_at mid r).current ≡ Some asked → IsRefused mid (Leave r) x → ⊥
    goes NoSuchRank inside running open_step k = omega (arith, inside, k)
    goes Stopped inside running open_step k = false≢true (sym running ∙ k.1)
    goes NotReady inside running open_step k =
        let both : None ≡ Some asked = sym k.1 ∙ open_step in
        let bad : ⊥ = cc in
        bad
    goes _ inside running open_step k = k

pub ruleset refusals = (refused-starves, skip-starves)
