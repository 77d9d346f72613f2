-- The measure of a world after a change of one player or of one inbox.
use Rattle.std.proofs.Common.{◌≡◌, ◌≢◌, ℕ, ◌+◌, ◌*◌, ◌<◌, List, [], length, set, get_or, refl, ap, ◌∙◌, arith, length-set, get_or-set_other}
use Rattle.ulfm_world.specs.inside.Rounds.{fresh_of}
use Rattle.ulfm_world.proofs.Common.{WorldRank, Item, Player, JobView, script_at, World, player_in, player_at, inbox_at, with_player, sum_below, out_at, weight_of, inbox_weight, measure, State, outbox, mark_at, marked, no_mark, GoesOut}
use Rattle.ulfm_world.proofs.Sums.{sum-at}
use Rattle.ulfm_world.proofs.Changed.{player-same, player-other, inbox-same, inbox-other}

-- the players' part of a measure of n ranks
abbrev pub players_part : JobView → ℕ → World → ℕ
players_part j n w = sum_below n (λ x. weight_of (script_at j x) j.turns n (player_at w x))

-- the measure of a world of n ranks
pub measure-at : (j : JobView) (n : ℕ) (w : World) → length w.players ≡ n → measure j w ≡ players_part j n w + sum_below n (inbox_weight w)
measure-at j n w e = ap (λ m. sum_below m (λ x. weight_of (script_at j x) j.turns m (player_at w x)) + sum_below m (inbox_weight w)) e

-- a change of one player, whatever the inboxes are
pub players_part-set : (j : JobView) (n : ℕ) (w : World) (r : ℕ) (p : Player) → n ≡ length w.players → r < n →
    players_part j n (with_player w r p) + weight_of (script_at j r) j.turns n (player_at w r) ≡ players_part j n w + weight_of (script_at j r) j.turns n p
players_part-set j n w r p size inside =
    let W : ℕ → Player → ℕ = λ (x : ℕ) (q : Player). weight_of (script_at j x) j.turns n q in
    sum-at n r (λ x. W x (player_in (set w.players r p) x)) (λ x. W x (player_at w x)) inside (λ x k other. ap (W x) (player-other w.players r x p other))
    ∙ ap (λ k. players_part j n w + k) (ap (W r) (player-same w.players r r p refl (omega (arith, inside, size))))

-- a change of one inbox, whatever the players are
pub inboxes_part-set : (n : ℕ) (w w' : World) (d : ℕ) (items : List (WorldRank × Item)) → n ≡ length w.inboxes → d < n → w'.inboxes ≡ set w.inboxes d items →
    sum_below n (inbox_weight w') + length (inbox_at w d) ≡ sum_below n (inbox_weight w) + length items
inboxes_part-set n w w' d items size inside is =
    let at : (x : ℕ) → inbox_at w' x ≡ get_or (set w.inboxes d items) x [] = λ x. ap (λ (boxes : List (List (WorldRank × Item))). get_or boxes x []) is in
    sum-at n d (inbox_weight w') (inbox_weight w) inside (λ x k other. ap (λ (ys : List (WorldRank × Item)). length ys) (at x ∙ inbox-other w.inboxes d x items other))
    ∙ ap (λ (ys : List (WorldRank × Item)). sum_below n (inbox_weight w) + length ys) (at d ∙ inbox-same w.inboxes d d items refl (omega (arith, inside, size)))

-- a player that gets lighter makes the world lighter
pub measure-player : (j : JobView) (w : World) (r : ℕ) (p : Player) → r < length w.players → weight_of (script_at j r) j.turns (length w.players) p < weight_of (script_at j r) j.turns (length w.players) (player_at w r) → measure j (with_player w r p) < measure j w
measure-player j w r p inside lighter =
    let n = length w.players in
    omega (arith, measure-at j n (with_player w r p) (length-set w.players r p), measure-at j n w refl, players_part-set j n w r p refl inside, lighter)

-- what leaves an outbox
pub leaves_weight : (n : ℕ) {old new : State} (d : ℕ) {item : Item} → d < n → GoesOut old new d item → out_at n new + 2 ≡ out_at n old
leaves_weight n {old} {new} d inside k =
    let here : 2 * length (outbox new d) + 2 ≡ 2 * length (outbox old d) = omega (arith, ap (λ (xs : List Item). length xs) k.front) in
    let sums : out_at n new + 2 * length (outbox old d) ≡ out_at n old + 2 * length (outbox new d) =
    sum-at n d (λ x. 2 * length (outbox new x)) (λ x. 2 * length (outbox old x)) inside (λ x h other. ap (λ (xs : List Item). 2 * length xs) (elsewhere x other)) in
    omega (arith, here, sums)
  where
    elsewhere : (x : ℕ) → x ≢ d → outbox new x ≡ outbox old x
    elsewhere x other = rw k.marked (rw (get_or-set_other old.marks d x (marked old (mark_at old d)) no_mark other) refl)

pub leaves_fresh : (contexts : List ℕ) {old new : State} (d : ℕ) {item : Item} → GoesOut old new d item → fresh_of contexts new.log ≡ fresh_of contexts old.log
leaves_fresh contexts d k = ap (λ (s : State). fresh_of contexts s.log) k.marked
