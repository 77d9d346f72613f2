-- One poll of a rank's next step.
use Rattle.std.proofs.Common.{◌≡◌, ℕ, ◌+◌, ◌<◌, ◌≤◌, true, false, Bool, List, length, refl, ap, sym, subst, ◌∙◌, arith, ◌⊎◌, Option, Some, None, MatchOption, slice_get}
use Rattle.ulfm_base.specs.declared.context.Context.{Context}
use Rattle.ulfm_script.specs.declared.called.Called.{Called}
use Rattle.ulfm_script.specs.declared.called.Called.TheVariants.{Answered, NotYet}
use Rattle.ulfm_script.specs.Deciding.{Known, IsDecided, IsReadyToDecide}
use Rattle.ulfm_script.specs.Player.{Polls as PollsBy, Player, PlayerView, IsCalled, GivesUpStep, SkipsStep}
use Rattle.ulfm_job.specs.declared.condition.Condition.{Condition}
use Rattle.ulfm_rank.specs.inside.Quiet.{Quiet}
use Rattle.ulfm_answer.specs.Reacting.{is_played}
use Rattle.ulfm_script.proofs.MeantAlong.{fewer-played, next-played}
use Rattle.ulfm_script.proofs.Polls.{quiet-called}
use Rattle.ulfm_script.specs.Meant.{next_step, played_script}
use Rattle.ulfm_job.specs.Job.{decides_on, turns_at}
use Rattle.ulfm_script.proofs.Advance.{ready-at, advance-called, advance-left, advance-skipped, left-polls}
use Rattle.ulfm_script.proofs.Progress.{polls_small}
use Rattle.ulfm_script.proofs.Reacting.{goes-called, goes-decided, goes-skipped}
use Rattle.ulfm_report_laws.proofs.Spent.{goes-spent}
use Rattle.ulfm_script.proofs.Decisions.{ready-decided, advance-decided, quiet-decided}
use Rattle.ulfm_run.proofs.Common.{GoesThrough, is_stopped, IsState, polls_left, same_Some, SkipsOn, State, Polls, Step, JobView, IsJob, script_at}

-- a step that stands open and is ready is the next one, so the next one is decided on this communicator
pub ready-next : {job : JobView} (me : ℕ) (p : Player) {asked : Step} (comm : Context) → GoesThrough job me p → next_step job me p.done ≡ Some asked → IsReadyToDecide p comm → decides_on asked ≡ Some comm
ready-next {job} me p {asked} comm through next ready =
    let here : slice_get (played_script job me p.done) (length p.done) ≡ Some ready.asked = (subst (λ (o : Option Step). MatchOption o (p.polls ≡ 0) (λ asked. (slice_get (played_script job me p.done) (length p.done) ≡ Some asked) × (p.polls < job.turns))) ready.waits through.follows.current).0 in
    subst (λ (s : Step). decides_on s ≡ Some comm) (same_Some ready.asked asked (sym here ∙ next-played job me p.done ∙ next)) ready.on

-- one call that is answered, or leaves the step open with polls to spare
pub polls-call : {job : JobView} (me : ℕ) (v w : PlayerView) {asked : Step} → IsJob job → IsState v.player.rank → GoesThrough job me v.player → is_stopped v.player.rank.log ≡ false → next_step job me v.player.done ≡ Some asked → is_played job.conditions me v.player.done ≡ true →
    IsCalled v.player asked w.player → (w.player.current ≡ None) ⊎ (w.player.polls < job.turns) → w.room + length w.player.done ≡ v.room + length v.player.done → Polls job me v w
polls-call {job} me v w {asked} is_job sound follows running next played called few room =
    let a = advance-called (played_script job me v.player.done) job.turns v.player asked w.player (omega (arith, is_job.most_turns)) (ready-at job me v.player asked is_job follows.follows running next) called few in
    record { quiet = quiet-called v.player asked w.player sound running called; follows = goes-called a.follows follows played called; room = room; falls = fewer-played job me v.player.done v.player w.player a.falls }

-- a poll that answered its step left none open
pub answered_none : (told : Called) (old : Player) (asked : Step) (new : Player) → told ≡ Answered → PollsBy told old asked new → new.current ≡ None
answered_none Answered old asked new e h = ap (λ (p : Player). p.current) h.only
answered_none NotYet old asked new e h = absurd (cc)

-- one call that leaves its step open, which is then given up
pub polls-leave : {job : JobView} (me : ℕ) (v u w : PlayerView) {asked : Step} → IsJob job → IsState v.player.rank → GoesThrough job me v.player → is_stopped v.player.rank.log ≡ false → next_step job me v.player.done ≡ Some asked → is_played job.conditions me v.player.done ≡ true →
    IsCalled v.player asked u.player → GivesUpStep u.player w.player → turns_at job me (length v.player.done) ≤ u.player.polls → w.room + length w.player.done ≡ v.room + length v.player.done → Polls job me v w
polls-leave {job} me v u w {asked} is_job sound follows running next played called left last room =
    let a = advance-left (played_script job me v.player.done) job.turns v.player asked u.player w.player left.step (omega (arith, is_job.most_turns)) (ready-at job me v.player asked is_job follows.follows running next) called left.was_open left in
    let polls = left-polls job me v.player asked u.player (omega (arith, is_job.most_turns)) (polls_small (played_script job me v.player.done) job.turns v.player follows.follows is_job.some_turn) called last in
    let Q : State → Type 0 = λ (r : State). Quiet v.player.rank r in
    let same : w.player.rank ≡ u.player.rank = ap (λ (p : Player). p.rank) left.only in
    record { quiet = subst Q (sym same) (quiet-called v.player asked u.player sound running called); follows = goes-spent a.follows follows played called left polls; room = room; falls = fewer-played job me v.player.done v.player w.player a.falls }

-- an open step that is decided
pub polls-decide : (job : JobView) (me : ℕ) (v w : PlayerView) (comm : Context) (board : Option (List ℕ)) (known later : Known) → IsState v.player.rank → GoesThrough job me v.player → is_stopped v.player.rank.log ≡ false →
    IsDecided v.player comm board known w.player later → w.room + length w.player.done ≡ v.room + length v.player.done → Polls job me v w
polls-decide job me v w comm board known later sound follows running d room =
    let a = advance-decided (played_script job me v.player.done) job.turns v.player comm board known later w.player (λ asked waits. ready-decided (played_script job me v.player.done) job.turns v.player asked follows.follows running waits) d in
    record { quiet = quiet-decided v.player comm board known later w.player sound d; follows = goes-decided a.follows follows d; room = room; falls = fewer-played job me v.player.done v.player w.player a.falls }

-- what a player tells of its next step holds of the step of its rank
pub asked_played : (job : JobView) (me : ℕ) (p : Player) {conditions : List Condition} {told : Bool} → p.rank.me ≡ me → conditions ≡ job.conditions → told ≡ is_played conditions p.rank.me p.done → is_played job.conditions me p.done ≡ told
asked_played job me p mine same told = ap (λ r. is_played job.conditions r p.done) (sym mine) ∙ ap (λ (xs : List Condition). is_played xs p.rank.me p.done) (sym same) ∙ sym told

-- no step is skipped yet
pub skips-none : {job : JobView} {me : ℕ} (v : PlayerView) → GoesThrough job me v.player → SkipsOn job me v v
skips-none v follows = record { same_rank = refl; follows = follows; room = refl; left = omega arith }

-- one step more is skipped
pub skips-one : {job : JobView} (me : ℕ) (u v w : PlayerView) {asked : Step} → IsJob job → SkipsOn job me u v → is_stopped u.player.rank.log ≡ false → next_step job me v.player.done ≡ Some asked → is_played job.conditions me v.player.done ≡ false →
    SkipsStep v.player asked w.player → w.room + length w.player.done ≡ v.room + length v.player.done → SkipsOn job me u w × (polls_left (script_at job me) job.turns w.player < polls_left (script_at job me) job.turns v.player)
skips-one {job} me u v w {asked} is_job h running next idle skipped room =
    let runs : is_stopped v.player.rank.log ≡ false = ap (λ (r : State). is_stopped r.log) h.same_rank ∙ running in
    let a = advance-skipped (played_script job me v.player.done) job.turns v.player asked w.player (ready-at job me v.player asked is_job h.follows.follows runs next) skipped in
    let falls = fewer-played job me v.player.done v.player w.player a.falls in
    let on : SkipsOn job me u w = record {
      same_rank = ap (λ (p : Player). p.rank) skipped.only ∙ h.same_rank;
      follows = goes-skipped a.follows h.follows idle skipped;
      room = room ∙ h.room;
      left = omega (arith, falls, h.left);
    } in
    (on, falls)

-- a poll after one that found nothing to decide
pub polls-after : {job : JobView} {me : ℕ} (v : PlayerView) {u w : PlayerView} → u.player ≡ v.player → u.room + length u.player.done ≡ v.room + length v.player.done → Polls job me u w → Polls job me v w
polls-after {job} {me} v {w} same room h =
    let Q : Player → Type 0 = λ (p : Player). Quiet p.rank w.player.rank in
    let L : Player → Type 0 = λ (p : Player). polls_left (script_at job me) job.turns w.player < polls_left (script_at job me) job.turns p in
    record { quiet = subst Q same h.quiet; follows = h.follows; room = h.room ∙ room; falls = subst L same h.falls }
