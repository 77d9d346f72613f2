-- How the parts of a replay join: something moves, or nothing does.
use Rattle.std.proofs.Common.{◌≡◌, ℕ, ◌+◌, ◌<◌, ◌≤◌, Bool, true, false, cond, [], length, Some, None, refl, sym, subst, ◌∙◌, arith, below_more}
use Rattle.ulfm_world.proofs.Common.{JobView, script_at, World, player_at, IsRunning, false≢true, Follows, measure, Moves, IsStuck, IsStuckAt}
use Rattle.ulfm_world.specs.inside.Turns.{Onward}
use Rattle.ulfm_world.proofs.Runs.{reaches-then}

pub moves-none : (j : JobView) (w : World) → Moves j w w false
moves-none j w = record { reaches = ([], refl); size = refl; room = refl; follows = λ f. f; answers = λ f h. h; falls = λ e. absurd (false≢true e); stays = λ e. refl }

never_more : (j : JobView) (a : Bool) (u : World) {v : World} → Moves j u v a → Follows j u → measure j v ≤ measure j u
never_more j true u h f = omega (arith, h.falls refl f)
never_more j false u h f = subst (λ (x : World). measure j x ≤ measure j u) (sym (h.stays refl)) (omega arith)

-- something moved in the second part
pub moves-on : (j : JobView) (a : Bool) (u v w : World) → Moves j u v a → Moves j v w true → Moves j u w true
moves-on j a u v w h k = record {
  reaches = reaches-then u v w h.reaches k.reaches;
  size = k.size ∙ h.size;
  room = k.room ∙ h.room;
  follows = λ f. k.follows (h.follows f);
  answers = λ f right. k.answers (h.follows f) (h.answers f right);
  falls = λ _ f. omega (arith, k.falls refl (h.follows f), never_more j a u h f);
  stays = λ e. absurd (false≢true (sym e));
}

-- nothing moved in the second part
pub moves-not : (j : JobView) (a : Bool) (u v w : World) → Moves j u v a → Moves j v w false → Moves j u w a
moves-not j a u v w h k = subst (λ (x : World). Moves j u x a) (sym (k.stays refl)) h

-- something moved in the first part
pub moves-first : (j : JobView) (b : Bool) (u v w : World) → Moves j u v true → Moves j v w b → Moves j u w true
moves-first j true u v w h k = moves-on j true u v w h k
moves-first j false u v w h k = moves-not j true u v w h k

-- what moves, moves on
pub onward : (j : JobView) (m : Bool) (u v : World) → Moves j u v m → Onward j u v m
onward j true u v h = record { size = h.size; follows = h.follows; stays = h.stays; leads = λ first any x. moves-on j any first u v x h }
onward j false u v h = record { size = h.size; follows = h.follows; stays = h.stays; leads = λ first any x. moves-not j any first u v x h }

-- a turn moves: its parts before the poll, and the poll
pub turned : {j k : JobView} (i : JobView) (m p : Bool) (u v w : World) → i ≡ j → k ≡ i → Onward i u v m → Moves k v w p → Moves j u w (cond p true m)
turned i m true u v w e f h x = subst (λ (y : JobView). Moves y u w true) e (moves-on i _ u v w (h.leads u false (moves-none i u)) (subst (λ (y : JobView). Moves y v w true) f x))
turned i m false u v w e f h x = subst (λ (y : JobView). Moves y u w m) e (moves-not i m u v w (went m (h.leads u false (moves-none i u))) (subst (λ (y : JobView). Moves y v w false) f x))
  where
    went : (b : Bool) → Moves i u v (cond b true false) → Moves i u v b
    went true g = g
    went false g = g

-- a rank whose poll found nothing is where it was
pub turned-stuck : (j k : JobView) (r s : ℕ) (v w : World) → k ≡ j → s ≡ r → Moves k v w false → ((d : ℕ) → d < length v.players → IsStuckAt v s (Some d)) → IsStuckAt v s None → (IsRunning w s → length (script_at k s) ≤ length (player_at w s).done) → IsStuck j w r
turned-stuck j k r s v w e f m pushes takes polls =
    let stuck = subst (λ (x : World). ((d : ℕ) → d < length x.players → IsStuckAt x s (Some d)) × IsStuckAt x s None) (sym (m.stays refl)) (pushes, takes) in
    subst (λ (y : JobView). IsStuck y w r) e (subst (λ y. IsStuck k w y) f (record { pushes = stuck.0; takes = stuck.1; polls = polls }))

pub ruleset going = (moves-none, moves-on, moves-not)

-- one more turn of a loop, in which something moved
pub loop_then : (j : JobView) {b : Bool} (a c : Bool) (u v w : World) (P : World → ℕ → Type 0) (i : ℕ) → Moves j u v a → Moves j v w b → b ≡ true → c ≡ true → Moves j u w c × (c ≡ false → (k : ℕ) → k < i + 1 → P w k)
loop_then j a c u v w P i h k e f =
    let B : Bool → Type 0 = λ (x : Bool). Moves j v w x in
    (subst (λ (x : Bool). Moves j u w x) (sym f) (moves-on j a u v w h (subst B e k)), λ still. absurd (false≢true (sym still ∙ f)))

-- one in which nothing moved
pub loop_else : (j : JobView) {b : Bool} (a c : Bool) (u v w : World) (P : World → ℕ → Type 0) (i : ℕ) → Moves j u v a → (a ≡ false → (k : ℕ) → k < i → P v k) → Moves j v w b → b ≡ false → c ≡ a → P w i → Moves j u w c × (c ≡ false → (k : ℕ) → k < i + 1 → P w k)
loop_else j a c u v w P i h below k e f here =
    let still : Moves j v w false = subst (λ (x : Bool). Moves j v w x) e k in
    (subst (λ (x : Bool). Moves j u w x) (sym f) (moves-not j a u v w h still), λ quiet. below_more (P w) i (subst (λ (x : World). (y : ℕ) → y < i → P x y) (sym (still.stays refl)) (below (sym f ∙ quiet))) here)
