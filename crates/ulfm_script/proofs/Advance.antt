-- What a poll moves at a player, and what falls with it.
use Rattle.std.proofs.Common.{◌≡◌, ℕ, ◌^◌, ◌<◌, ◌≤◌, Bool, true, false, List, length, refl, ap, sym, subst, ◌∙◌, arith, inl, inr, ◌⊎◌, Option, Some, None, MatchOption, slice_get, if◌then◌else◌}
use Rattle.ulfm_job.specs.Job.{JobView, IsJob, is_stop_step, may_leave, turns_at}
use Rattle.ulfm_script.proofs.Common.{is_stopped, Shrink, Agree, State, SkipsStep, Step, StepAnswer, StepReport, Skipped, Unfinished, Wait, Player, AnswersStep, StaysOpen, awaits_decision, IsCalled, GivesUpStep, PollAnswers, PollOpens, with_rank, answered, polled, step_report, FollowsSoFar, polls_left, same_Some, slice_get_within}
use Rattle.ulfm_answer.specs.Report.{is_skipped, is_unfinished}
use Rattle.ulfm_script.specs.Script.{IsPolled, IsPatient, is_played_stop}
use Rattle.ulfm_script.proofs.Polls.{Adds, answers_add, opens_add, opens_go_on, stopped-adds}
use Rattle.ulfm_script.proofs.MeantAlong.{next-played}
use Rattle.ulfm_script.specs.Meant.{next_step, played_script}
use Rattle.ulfm_script.proofs.Progress.{closed, follows-closed, follows-polled, left-closed, left_polled, polls_small}

-- what a player has before a poll of its next step
pub record Ready (script : List Step) (turns : ℕ) (p : Player) (asked : Step) : Type 0 where
  pub follows : FollowsSoFar script turns p
  pub running : is_stopped p.rank.log ≡ false
  pub few : p.polls < turns
  pub next : slice_get script (length p.done) ≡ Some asked
  pub inside : length p.done < length script

-- a running player that has a step left is ready for its next poll
pub ready-at : (job : JobView) (me : ℕ) (p : Player) (asked : Step) → IsJob job → FollowsSoFar (played_script job me p.done) job.turns p → is_stopped p.rank.log ≡ false → next_step job me p.done ≡ Some asked → Ready (played_script job me p.done) job.turns p asked
ready-at job me p asked is_job h running next = record {
  follows = h;
  running = running;
  few = polls_small (played_script job me p.done) job.turns p h is_job.some_turn;
  next = next-played job me p.done ∙ next;
  inside = slice_get_within (played_script job me p.done) (length p.done) asked (next-played job me p.done ∙ next);
}

-- it goes on through its script, fewer polls are left, and its log has one more entry of its own at most
pub record Advances (script : List Step) (turns : ℕ) (old new : Player) : Type 0 where
  pub follows : FollowsSoFar script turns new
  pub falls : polls_left script turns new < polls_left script turns old
  pub stops : Bool
  pub adds : Adds old.rank stops new.rank

-- an answered step
pub advance-closed : (script : List Step) (turns : ℕ) (old : Player) (r : State) (x : StepReport) → Ready script turns old x.step → Adds old.rank (is_played_stop x) r → IsPatient turns x → Advances script turns old (closed old r x)
advance-closed script turns old r x h adds patient = record {
  follows = follows-closed script turns old r x h.follows h.running h.next (stopped-adds old.rank (is_played_stop x) r h.running adds) patient;
  falls = left-closed script turns old r x h.few h.inside;
  stops = is_played_stop x;
  adds = adds;
}

-- the answer gives no step up and skips none
abbrev pub IsGiven : StepAnswer → Type 0
IsGiven answer = (answer ≡ Unfinished → ⊥) × (answer ≡ Skipped → ⊥)

-- so is each answer of a poll
pub given_by_poll : (done : List StepReport) (r : State) (asked : Step) (answer : StepAnswer) (new : State) → AnswersStep done r asked answer new → IsGiven answer
given_by_poll done r asked answer new h = (λ e. left asked (rw e at h), λ e. skips asked (rw e at h))
  where
    left : (s : Step) → AnswersStep done r s Unfinished new → ⊥
    left (Wait req) h = h
    left _ h = h

    skips : (s : Step) → AnswersStep done r s Skipped new → ⊥
    skips (Wait req) h = h
    skips _ h = h

pub not_skipped : (answer : StepAnswer) → (answer ≡ Skipped → ⊥) → is_skipped answer ≡ false
not_skipped Skipped h = absurd (h refl)
not_skipped _ h = refl

pub not_unfinished : (answer : StepAnswer) → (answer ≡ Unfinished → ⊥) → is_unfinished answer ≡ false
not_unfinished Unfinished h = absurd (h refl)
not_unfinished _ h = refl

-- a stop that isn't skipped is played
pub plays : (x : StepReport) → is_skipped x.answer ≡ false → is_played_stop x ≡ is_stop_step x.step
plays x h = rw h refl

pub polled_in_time : (turns polls : ℕ) (answer : StepAnswer) → IsGiven answer → polls < turns → IsPolled turns answer polls
polled_in_time turns polls Unfinished h few = absurd (h.0 refl)
polled_in_time turns polls Skipped h few = absurd (h.1 refl)
polled_in_time turns polls _ h few = few

-- a step that a poll or a decision answers
pub advance-given : (script : List Step) (turns : ℕ) (old : Player) (r : State) (asked : Step) (answer : StepAnswer) → Ready script turns old asked → Adds old.rank (is_stop_step asked) r → IsGiven answer → Advances script turns old (closed old r (step_report asked answer (length old.rank.log) old.polls))
advance-given script turns old r asked answer h adds given =
    let x = step_report asked answer (length old.rank.log) old.polls in
    advance-closed script turns old r x h (subst (λ b. Adds old.rank b r) (sym (plays x (not_skipped answer given.1))) adds) (polled_in_time turns old.polls answer given h.few)

advance-answers : (script : List Step) (turns : ℕ) (old : Player) (asked : Step) (new : Player) → Ready script turns old asked → PollAnswers old asked new → Advances script turns old new
advance-answers script turns old asked new h a =
    rw a.only (advance-given script turns old a.rank asked a.answer h (answers_add old.done old.rank asked a.answer a.rank h.running a.answers) (given_by_poll old.done old.rank asked a.answer a.rank a.answers))

advance-polled : (script : List Step) (turns : ℕ) (old : Player) (r : State) (asked : Step) (at : ℕ) → turns < 2 ^ 32 → Ready script turns old asked → Adds old.rank false r → (polled (with_rank old r) asked at).polls < turns → Advances script turns old (polled (with_rank old r) asked at)
advance-polled script turns old r asked at counted h adds few = record {
  follows = follows-polled script turns old r asked at h.follows h.running (stopped-adds old.rank false r h.running adds) h.next few;
  falls = left_polled turns (length script) (length old.done) old.polls h.inside h.few counted;
  stops = false;
  adds = adds;
}

-- one poll that is answered, or leaves the step open with polls to spare
pub advance-called : (script : List Step) (turns : ℕ) (old : Player) (asked : Step) (new : Player) → turns < 2 ^ 32 → Ready script turns old asked → IsCalled old asked new → (new.current ≡ None) ⊎ (new.polls < turns) → Advances script turns old new
advance-called script turns old asked new counted h (inl a) few = advance-answers script turns old asked new h a
advance-called script turns old asked new counted h (inr o) few =
    let low : (polled (with_rank old o.rank) asked (length old.rank.log)).polls < turns = elim (rw o.only at few) [ inl none ↦ (let bad : ⊥ = cc in absurd bad) | inr below ↦ below ] in
    rw o.only (advance-polled script turns old o.rank asked (length old.rank.log) counted h (opens_add (awaits_decision old.current) old.done old.rank asked o.rank o.stays) low)

-- a step that may stay open is no stop
goes_on : (script : List Step) (turns k polls : ℕ) (current : Option Step) (done : List StepReport) (r : State) (asked : Step) (new : State) → MatchOption current (polls ≡ 0) (λ s. (slice_get script k ≡ Some s) × (polls < turns)) → slice_get script k ≡ Some asked → StaysOpen (awaits_decision current) done r asked new → is_stop_step asked ≡ false
goes_on script turns k polls None done r asked new h next o = opens_go_on done r asked new o
goes_on script turns k polls (Some (Shrink comm again)) done r asked new h next o = ap is_stop_step (same_Some asked (Shrink comm again) (sym next ∙ h.0))
goes_on script turns k polls (Some (Agree flag comm)) done r asked new h next o = ap is_stop_step (same_Some asked (Agree flag comm) (sym next ∙ h.0))
goes_on script turns k polls (Some s) done r asked new h next o = opens_go_on done r asked new o

advance-opens : (script : List Step) (turns : ℕ) (old : Player) (asked : Step) (mid new : Player) → turns < 2 ^ 32 → Ready script turns old asked → PollOpens old asked mid → GivesUpStep mid new → Advances script turns old new
advance-opens script turns old asked mid new counted h o left =
    let same : asked ≡ left.step = same_Some asked left.step (rw o.only at left.was_open) in
    let now : new ≡ answered (polled (with_rank old o.rank) asked (length old.rank.log)) asked Unfinished (length old.rank.log) = rw (← same, o.only) at left.only in
    let all : (polled (with_rank old o.rank) asked (length old.rank.log)).polls ≤ turns = omega (arith, h.few) in
    let adds : Adds old.rank false o.rank = opens_add (awaits_decision old.current) old.done old.rank asked o.rank o.stays in
    let goes : is_stop_step asked ≡ false = goes_on script turns (length old.done) old.polls old.current old.done old.rank asked o.rank h.follows.current h.next o.stays in
    rw now (advance-closed script turns old o.rank (step_report asked Unfinished (length old.rank.log) (polled (with_rank old o.rank) asked (length old.rank.log)).polls) h (rw goes adds) all)

-- a poll that leaves the step open, which is then given up
pub advance-left : (script : List Step) (turns : ℕ) (old : Player) (asked : Step) (mid new : Player) (s : Step) → turns < 2 ^ 32 → Ready script turns old asked → IsCalled old asked mid → mid.current ≡ Some s → GivesUpStep mid new → Advances script turns old new
advance-left script turns old asked mid new s counted h (inr o) e left = advance-opens script turns old asked mid new counted h o left
advance-left script turns old asked mid new s counted h (inl a) e left =
    let none : None ≡ Some s = rw a.only at e in
    let bad : ⊥ = cc in
    absurd bad

-- a step that is given up after so many polls got all that the job grants, or may be given up before
pub left-polls : (j : JobView) (r : ℕ) (old : Player) (asked : Step) (mid : Player) → j.turns < 2 ^ 32 → old.polls < j.turns → IsCalled old asked mid → turns_at j r (length old.done) ≤ mid.polls → (mid.polls ≡ j.turns) ⊎ (may_leave j r (length old.done) ≡ true)
left-polls j r old asked mid counted few called last = by (may_leave j r (length old.done)) refl
  where
    all : j.turns ≤ mid.polls → IsCalled old asked mid → mid.polls ≡ j.turns
    all most (inl a) = absurd (omega (arith, most, few, ap (λ (p : Player). p.polls) a.only))
    all most (inr o) = omega (arith, most, few, counted, ap (λ (p : Player). p.polls) o.only)

    by : (b : Bool) → may_leave j r (length old.done) ≡ b → (mid.polls ≡ j.turns) ⊎ (may_leave j r (length old.done) ≡ true)
    by true is = inr is
    by false is = inl (all (subst (λ (b : Bool). (if b then 1 else j.turns) ≤ mid.polls) is last) called)

-- a step that is skipped
pub advance-skipped : (script : List Step) (turns : ℕ) (old : Player) (asked : Step) (new : Player) → Ready script turns old asked → SkipsStep old asked new → Advances script turns old new
advance-skipped script turns old asked new h s =
    let none : old.polls ≡ 0 = rw s.none_open at h.follows.current in
    rw s.only (advance-closed script turns old old.rank (step_report asked Skipped (length old.rank.log) old.polls) h (inl (refl, refl)) none)
