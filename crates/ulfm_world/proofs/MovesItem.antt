-- What a push and a take move.
use Rattle.std.proofs.Common.{◌≡◌, ℕ, ◌+◌, ◌<◌, true, List, [], ◌∷◌, ◌++◌, length, set, refl, ap, sym, subst, ◌∙◌, arith, length-append, length-set, inl, inr}
use Rattle.ulfm_world.proofs.Common.{WorldRank, Item, Took, is_stopped, State, logged, Player, with_rank, JobView, Push, Take, World, player_in, player_at, rank_at, inbox_at, with_player, with_inbox, Pushes, Takes, IsWorld, false≢true, cases_eq, Follows, Moves, GoesThrough, stopped-push, or-false}
use Rattle.ulfm_script.proofs.Reacting.{goes-rank}
use Rattle.ulfm_world.specs.inside.Rounds.{all_contexts}
use Rattle.ulfm_world.proofs.Weights.{among_all, out-took}
use Rattle.ulfm_world.proofs.Changed.{player-same, player-other}
use Rattle.ulfm_world.proofs.Measures.{measure-at, players_part-set, inboxes_part-set, leaves_weight, leaves_fresh}
use Rattle.ulfm_world.proofs.Runs.{reaches-one}
use Rattle.ulfm_world.proofs.Rightly.{rightly-pushes, rightly-takes}

-- a change of one player's rank that keeps whether it stopped
pub follows-set : (j : JobView) (w w' : World) (r : ℕ) (after : State) → r < length w.players → w'.players ≡ set w.players r (with_rank (player_at w r) after) → is_stopped after.log ≡ is_stopped (rank_at w r).log → Follows j w → Follows j w'
follows-set j w w' r after inside is stop f x k =
    let p = with_rank (player_at w r) after in
    let F : Player → Type 0 = λ (q : Player). GoesThrough j x q in
    let l : length w'.players ≡ length w.players = ap (λ (ps : List Player). length ps) is ∙ length-set w.players r p in
    let at : player_at w' x ≡ player_in (set w.players r p) x = ap (λ (ps : List Player). player_in ps x) is in
    subst F (sym at) (elim (cases_eq x r) [
      | inl same ↦
          subst F (sym (player-same w.players r x p same inside)) (subst (λ (y : ℕ). GoesThrough j y p) (sym same) (goes-rank after stop (f r inside)))
      | inr other ↦ subst F (sym (player-other w.players r x p other)) (f x (omega (arith, k, l)))
    ])

pub moves-push : (j : JobView) (w : World) (s d : ℕ) {w' : World} → IsWorld w → Pushes w s d w' → Moves j w w' true
moves-push j w s d h t =
    let n = length w.players in
    let p = with_rank (player_at w s) t.after in
    let xs = inbox_at w d ++ (t.sender, t.item) ∷ [] in
    let made = with_inbox (with_player w s p) d xs in
    let same_size = length-set w.players s p in
    let parts = players_part-set j n w s p refl t.inside_s in
    let boxes = inboxes_part-set n w made d xs (sym h.as_many) t.inside_d refl in
    let lighter = leaves_weight n d t.inside_d t.leaves in
    let fresh = leaves_fresh all_contexts d t.leaves in
    let one : length xs ≡ length (inbox_at w d) + 1 = omega (arith, length-append (inbox_at w d) ((t.sender, t.item) ∷ [])) in
    let stop : is_stopped t.after.log ≡ is_stopped (rank_at w s).log = ap (λ (r : State). is_stopped r.log) t.leaves.marked in
    rw t.only (record {
      reaches = reaches-one w (Push s d) made (rw t.only at t);
      size = same_size;
      room = refl;
      follows = follows-set j w made s t.after t.inside_s refl stop;
      answers = λ _ right. rightly-pushes w s d made (rw t.only at t) right;
      falls = λ _ f. omega (arith, measure-at j n made same_size, measure-at j n w refl, parts, boxes, lighter, fresh, one);
      stays = λ e. absurd (false≢true (sym e));
    })

stopped_took : (r : State) (source : WorldRank) (item : Item) → is_stopped (logged r (Took source item)).log ≡ is_stopped r.log
stopped_took r source item = stopped-push r.log (Took source item) ∙ or-false (is_stopped r.log)

pub moves-take : (j : JobView) (w : World) (r : ℕ) (w' : World) → IsWorld w → Takes w r [] w' → Moves j w w' true
moves-take j w r w' h t =
    let n = length w.players in
    let after = logged (rank_at w r) (Took t.source t.item) in
    let p = with_rank (player_at w r) after in
    let made = with_inbox (with_player w r p) r t.rest in
    let same_size = length-set w.players r p in
    let parts = players_part-set j n w r p refl t.inside in
    let boxes = inboxes_part-set n w made r t.rest (sym h.as_many) t.inside refl in
    let lighter = out-took all_contexts n t.source t.item (λ c is. among_all c) (h.sound r t.inside) (sym (h.counted r t.inside)) t.running in
    let one : length (inbox_at w r) ≡ length t.rest + 1 = omega (arith, ap (λ (ys : List (WorldRank × Item)). length ys) t.found) in
    rw t.only (record {
      reaches = reaches-one w (Take r) made (rw t.only at t);
      size = same_size;
      room = refl;
      follows = follows-set j w made r after t.inside refl (stopped_took (rank_at w r) t.source t.item);
      answers = λ _ right. rightly-takes w r [] made (rw t.only at t) right;
      falls = λ _ f. omega (arith, measure-at j n made same_size, measure-at j n w refl, parts, boxes, lighter, one);
      stays = λ e. absurd (false≢true (sym e));
    })
