-- What a poll moves, and a step that is given up or skipped.
use Rattle.std.proofs.Common.{◌≡◌, ℕ, ◌+◌, ◌-◌, ◌*◌, ◌<◌, ◌≤◌, true, false, cond, List, [], ◌∷◌, length, set, refl, ap, sym, subst, ◌∙◌, arith, inl, inr, ◌⊎◌, length-set, Option, Some, None, is_none, set-set}
use Rattle.ulfm_board.specs.Known.{Known}
use Rattle.ulfm_world.proofs.Common.{Context, Step, Call, Decide, Leave, Skip, IsWorld, is_stopped, false≢true, cases_eq, World, player_in, player_at, with_players, with_player, with_decided, Happens, Reaches, IsRunning, Player, GivesUpStep, JobView, IsJob, script_at, AllAnswersFollowSoFar, Follows, Moves, weight_of, GoesThrough, is_played, ready-decided, advance-decided, IsState, Answered, NotYet, IsUndecided}
use Rattle.ulfm_world.specs.declared.event.Outcome.{Outcome}
use Rattle.ulfm_world.proofs.Changed.{player-same, player-other}
use Rattle.ulfm_job.specs.Job.{turns_at}
use Rattle.ulfm_answer.specs.declared.answer.StepReport.{StepReport}
use Rattle.ulfm_script.proofs.MeantAlong.{length-played}
use Rattle.ulfm_script.specs.Meant.{played_script}
use Rattle.ulfm_script.proofs.Advance.{Ready, Advances, advance-called, advance-left, advance-skipped, left-polls}
use Rattle.ulfm_script.proofs.Reacting.{goes-called, goes-decided, goes-skipped}
use Rattle.ulfm_report_laws.proofs.Spent.{goes-spent}
use Rattle.ulfm_world.proofs.Measures.{measure-player}
use Rattle.ulfm_world.specs.inside.Rounds.{all_contexts, fresh_of, out_at}
use Rattle.ulfm_world.proofs.Weights.{adds_weight}
use Rattle.ulfm_world.proofs.Runs.{reaches-one}
use Rattle.ulfm_world.proofs.Rightly.{rightly-calls, rightly-leaves, rightly-skips, rightly-decides}

-- less is left to a player that goes on, with what it may still send
pub weight-advances : {script : List Step} {turns n : ℕ} {old : Player} (new : Player) → IsState old.rank → n ≡ old.rank.ranks → is_stopped old.rank.log ≡ false → Advances script turns old new → weight_of script turns n new < weight_of script turns n old
weight-advances {n} {old} new sound size running a = omega (arith, a.falls, adds_weight all_contexts n sound size running a.adds)

-- what a player has left doesn't depend on which communicators its steps are on
weight-played : (j : JobView) (r : ℕ) (done : List StepReport) (n : ℕ) (p : Player) → weight_of (played_script j r done) j.turns n p ≡ weight_of (script_at j r) j.turns n p
weight-played j r done n p = ap (λ (k : ℕ). 17 * ((j.turns + 1) * (k - length p.done) - p.polls) + (out_at n p.rank + fresh_of all_contexts p.rank.log)) (length-played j r done)

-- what a player moves, the world moves, whatever is decided then
pub moves-player : (j : JobView) (w : World) (r : ℕ) {p : Player} (decided : Known) → r < length w.players → IsWorld w → IsRunning w r → Follows j w → Advances (played_script j r (player_at w r).done) j.turns (player_at w r) p → GoesThrough j r p → (AllAnswersFollowSoFar w → AllAnswersFollowSoFar (with_decided (with_player w r p) decided)) → Reaches w (with_decided (with_player w r p) decided) → Moves j w (with_decided (with_player w r p) decided) true
moves-player j w r {p} decided i h running f a goes rightly reaches =
    let l = length-set w.players r p in
    record {
      reaches = reaches;
      size = l;
      room = refl;
      follows = λ _ x k. follows_on x (omega (arith, k, l));
      answers = λ _ right. rightly right;
      falls = λ _ _. measure-player j w r p i (lighter (weight-advances p (h.sound r i) (sym (h.counted r i)) running a));
      stays = λ e. absurd (false≢true (sym e));
    }
  where
    n : ℕ
    n = length w.players

    done : List StepReport
    done = (player_at w r).done

    lighter : weight_of (played_script j r done) j.turns n p < weight_of (played_script j r done) j.turns n (player_at w r) → weight_of (script_at j r) j.turns n p < weight_of (script_at j r) j.turns n (player_at w r)
    lighter less =
        subst (λ (k : ℕ). weight_of (script_at j r) j.turns n p < k) (weight-played j r done n (player_at w r))
        (subst (λ (k : ℕ). k < weight_of (played_script j r done) j.turns n (player_at w r)) (weight-played j r done n p) less)

    follows_on : (x : ℕ) → x < length w.players → GoesThrough j x (player_in (set w.players r p) x)
    follows_on x k =
        let F : Player → Type 0 = λ (q : Player). GoesThrough j x q in
        elim (cases_eq x r) [
          | inl same ↦ subst F (sym (player-same w.players r x p same i)) (subst (λ (y : ℕ). GoesThrough j y p) (sym same) goes)
          | inr other ↦ subst F (sym (player-other w.players r x p other)) (f x k)
        ]

-- one call that is answered, or leaves the step open with polls to spare
pub moves-call : {j : JobView} {w : World} (r : ℕ) {asked : Step} (w' : World) → IsJob j → IsWorld w → r < length w.players → Follows j w → Ready (played_script j r (player_at w r).done) j.turns (player_at w r) asked → is_played j.conditions r (player_at w r).done ≡ true → IsUndecided (player_at w r) → Happens w (Call r asked) w' → ((player_at w' r).current ≡ None) ⊎ ((player_at w' r).polls < j.turns) → Moves j w w' true
moves-call {j} {w} r {asked} w' job h i f ready played undecided t few =
    let c = t.1 in
    let made = with_player w r c.after in
    let is : w' ≡ made = t.2 ∙ ap (with_players w) c.only in
    let F : Player → Type 0 = λ (p : Player). (p.current ≡ None) ⊎ (p.polls < j.turns) in
    let low : F c.after = subst F (player-same w.players r r c.after refl i) (subst (λ (x : World). F (player_at x r)) is few) in
    let a = advance-called (played_script j r (player_at w r).done) j.turns (player_at w r) asked c.after (omega (arith, job.most_turns)) ready c.called low in
    rw is (moves-player j w r w.decided i h ready.running f a (goes-called a.follows (f r i) played c.called) (λ right. rw is at (rightly-calls j w r w' f ready.next undecided t right)) (rw is at (reaches-one w (Call r asked) w' t)))

-- a poll that answered its step left none open
pub none_open : (o : Option Step) {outcome : Outcome} → outcome ≡ cond (is_none o) Answered NotYet → outcome ≡ Answered → o ≡ None
none_open None e f = refl
none_open (Some asked) e f = absurd (cc)

-- one call that leaves its step open, which is then given up
pub moves-leave : {j : JobView} {w : World} (r : ℕ) {asked : Step} (mid w' : World) → IsJob j → IsWorld w → r < length w.players → Follows j w → Ready (played_script j r (player_at w r).done) j.turns (player_at w r) asked → is_played j.conditions r (player_at w r).done ≡ true → IsUndecided (player_at w r) → Happens w (Call r asked) mid → Happens mid (Leave r) w' → turns_at j r (length (player_at w r).done) ≤ (player_at mid r).polls → Moves j w w' true
moves-leave {j} {w} r {asked} mid w' job h i f ready played undecided t u last =
    let c = t.1 in let g = u.1 in
    let mid_is : mid ≡ with_player w r c.after = t.2 ∙ ap (with_players w) c.only in
    let mid_at : player_at mid r ≡ c.after = ap (λ (x : World). player_at x r) mid_is ∙ player-same w.players r r c.after refl i in
    let L : Player → Type 0 = λ (p : Player). GivesUpStep p g.after in
    let current : c.after.current ≡ Some g.left.step = ap (λ (p : Player). p.current) (sym mid_at) ∙ g.left.was_open in
    let is : w' ≡ with_player w r g.after =
    u.2 ∙ ap (with_players mid) g.only
    ∙ ap (λ (x : World). with_player x r g.after) mid_is
    ∙ ap (with_players w) (set-set w.players r c.after g.after) in
    let left : GivesUpStep c.after g.after = subst L mid_at g.left in
    let a = advance-left (played_script j r (player_at w r).done) j.turns (player_at w r) asked c.after g.after g.left.step (omega (arith, job.most_turns)) ready c.called current left in
    let polls = left-polls j r (player_at w r) asked c.after (omega (arith, job.most_turns)) ready.few c.called (subst (λ (p : Player). turns_at j r (length (player_at w r).done) ≤ p.polls) mid_at last) in
    rw is (moves-player j w r w.decided i h ready.running f a (goes-spent a.follows (f r i) played c.called left polls) (λ right. rw is at (rightly-leaves mid r w' u (rightly-calls j w r mid f ready.next undecided t right))) (subst (λ (x : World). Reaches w x) is (Call r asked ∷ Leave r ∷ [], (mid, inl t, (w', inl u, refl)))))

-- a step that is skipped, since it isn't to be played
pub moves-skip : {j : JobView} {w : World} (r : ℕ) {asked : Step} (w' : World) → IsWorld w → r < length w.players → Follows j w → Ready (played_script j r (player_at w r).done) j.turns (player_at w r) asked → is_played j.conditions r (player_at w r).done ≡ false → Happens w (Skip r asked) w' → Moves j w w' true
moves-skip {j} {w} r {asked} w' h i f ready idle t =
    let s = t.1 in
    let is : w' ≡ with_player w r s.after = t.2 ∙ ap (with_players w) s.only in
    let a = advance-skipped (played_script j r (player_at w r).done) j.turns (player_at w r) asked s.after ready s.skipped in
    rw is (moves-player j w r w.decided i h ready.running f a (goes-skipped a.follows (f r i) idle s.skipped) (λ right. rw is at (rightly-skips w r asked w' t right)) (rw is at (reaches-one w (Skip r asked) w' t)))

-- a step that is decided
pub moves-decide : (j : JobView) (w : World) (r : ℕ) (comm : Context) (w' : World) → IsWorld w → Follows j w → Happens w (Decide r comm) w' → Moves j w w' true
moves-decide j w r comm w' h f t =
    let s = t.2 in
    let is : w' ≡ with_decided (with_player w r s.after) t.1 = t.3 ∙ ap (λ (ps : List Player). with_decided (with_players w ps) t.1) s.only in
    let ready : (asked : Step) → (player_at w r).current ≡ Some asked → Ready (played_script j r (player_at w r).done) j.turns (player_at w r) asked = λ asked waits. ready-decided (played_script j r (player_at w r).done) j.turns (player_at w r) asked (f r s.inside).follows s.running waits in
    let a = advance-decided (played_script j r (player_at w r).done) j.turns (player_at w r) comm None w.decided t.1 s.after ready s.decided in
    rw is (moves-player j w r t.1 s.inside h s.running f a (goes-decided a.follows (f r s.inside) s.decided) (λ right. rw is at (rightly-decides w r comm w' t right)) (rw is at (reaches-one w (Decide r comm) w' t)))
