-- A player that plays a step exactly where it is to be played.
use Rattle.std.proofs.Common.{◌≡◌, ◌⊎◌, ℕ, ◌+◌, ◌≤◌, true, false, not, List, [], ◌∷◌, ◌++◌, length, take, refl, ap, ap₂, sym, subst, ◌∙◌, arith, length-append, inl, inr, MatchOption, Option, Some, None}
use Rattle.std.proofs.lemmas.Bool.{false≢true}
use Rattle.std.proofs.lemmas.List.{take-append-le}
use Rattle.std.proofs.Math.Seq.{take-append_seam}
use Rattle.ulfm_job.specs.Job.{JobView, script_at, may_leave}
use Rattle.ulfm_job.specs.declared.condition.Condition.{Condition}
use Rattle.ulfm_base.proofs.Longer.{get_cases}
use Rattle.ulfm_script.proofs.Common.{⊤, Context, FollowsSoFar, GoesThrough, IsCalled, is_stopped, Known, Player, slice_get_within, SkipsStep, start_player, State, Step, StepReport, with_rank}
use Rattle.ulfm_script.specs.Deciding.{IsDecided}
use Rattle.ulfm_answer.specs.Reacting.{is_played, SkipsRightly}
use Rattle.ulfm_answer.specs.Report.{is_skipped, is_unfinished}
use Rattle.ulfm_script.specs.Script.{GivesUpRightly, HasFinished}
use Rattle.ulfm_script.proofs.Advance.{given_by_poll, not_skipped, not_unfinished}
use Rattle.ulfm_script.proofs.Decisions.{given_by_decision}
use Rattle.ulfm_script.proofs.MeantAlong.{length-played, prefix-played}
use Rattle.ulfm_script.specs.Meant.{played_script}
use Rattle.ulfm_script.proofs.Progress.{answered_running, follows-moved, follows-rank, follows-start, none_open}

-- one more step, skipped exactly where it isn't to be played
skips-push : (conditions : List Condition) (r : ℕ) (done : List StepReport) (x : StepReport) → SkipsRightly conditions r done → is_skipped x.answer ≡ not (is_played conditions r done) → SkipsRightly conditions r (done ++ x ∷ [])
skips-push conditions r done x h e k report g = elim (get_cases done x k report g) [
  | inl old ↦
      let same : take k (done ++ x ∷ []) ≡ take k done = take-append-le k done (x ∷ []) (omega (arith, slice_get_within done k report old)) in
      h k report old ∙ ap (λ before. not (is_played conditions r before)) (sym same)
  | inr last ↦
      let same : take k (done ++ x ∷ []) ≡ done = ap (λ n. take n (done ++ x ∷ [])) last.0 ∙ take-append_seam done (x ∷ []) in
      ap (λ (y : StepReport). is_skipped y.answer) (sym last.1) ∙ e ∙ ap (λ before. not (is_played conditions r before)) (sym same)
]

-- one more step, given up after all polls or where it may be given up before, or not given up
pub gives-push : (j : JobView) (r : ℕ) (done : List StepReport) (x : StepReport) → GivesUpRightly j r done → (is_unfinished x.answer ≡ true → (x.polls ≡ j.turns) ⊎ (may_leave j r (length done) ≡ true)) → GivesUpRightly j r (done ++ x ∷ [])
gives-push j r done x h e k report g given = elim (get_cases done x k report g) [
  | inl old ↦ h k report old given
  | inr last ↦
      subst (λ (n : ℕ). (report.polls ≡ j.turns) ⊎ (may_leave j r n ≡ true)) (sym last.0)
      (subst (λ (y : StepReport). (y.polls ≡ j.turns) ⊎ (may_leave j r (length done) ≡ true)) last.1 (e (ap (λ (y : StepReport). is_unfinished y.answer) last.1 ∙ given)))
]

-- a player between two steps goes through its script as it is played by one more answer
pub follows-on : (j : JobView) (r : ℕ) (old new : Player) (x : StepReport) → FollowsSoFar (played_script j r old.done) j.turns new → new.done ≡ old.done ++ x ∷ [] → new.current ≡ None → FollowsSoFar (played_script j r new.done) j.turns new
follows-on j r old new x follows done none =
    let many : length new.done ≡ length old.done + 1 = ap length done ∙ length-append old.done (x ∷ []) in
    let same : take (length new.done) (played_script j r new.done) ≡ take (length new.done) (played_script j r old.done) =
    ap₂ (λ (n : ℕ) (ds : List StepReport). take n (played_script j r ds)) many done ∙ prefix-played j r old.done (x ∷ []) ∙ ap (λ (n : ℕ). take n (played_script j r old.done)) (sym many) in
    follows-moved (played_script j r old.done) (played_script j r new.done) j.turns new follows none (length-played j r new.done ∙ sym (length-played j r old.done)) same

-- a player still goes through its script with one more answer, and no step open
goes-closed : {j : JobView} {r : ℕ} {old new : Player} (x : StepReport) → FollowsSoFar (played_script j r old.done) j.turns new → GoesThrough j r old → new.done ≡ old.done ++ x ∷ [] → new.current ≡ None → is_unfinished x.answer ≡ false → is_skipped x.answer ≡ not (is_played j.conditions r old.done) → GoesThrough j r new
goes-closed {j} {r} {old} {new} x follows h done none kept e = record {
  follows = follows-on j r old new x follows done none;
  gives = subst (GivesUpRightly j r) (sym done) (gives-push j r old.done x h.gives (λ given. absurd (false≢true (sym kept ∙ given))));
  skips = subst (SkipsRightly j.conditions r) (sym done) (skips-push j.conditions r old.done x h.skips e);
  playing = rw none tt;
}

-- a step is played where one is to be
goes-played : {j : JobView} {r : ℕ} {old new : Player} (x : StepReport) → FollowsSoFar (played_script j r old.done) j.turns new → GoesThrough j r old → new.done ≡ old.done ++ x ∷ [] → new.current ≡ None → is_unfinished x.answer ≡ false → is_skipped x.answer ≡ false → is_played j.conditions r old.done ≡ true → GoesThrough j r new
goes-played x follows h done none kept given played = goes-closed x follows h done none kept (given ∙ sym (ap not played))

-- a player that goes on, with the same answers and the same step open, or one that is to be played
pub goes-open : {j : JobView} {r : ℕ} {old new : Player} → FollowsSoFar (played_script j r old.done) j.turns new → GoesThrough j r old → new.done ≡ old.done → is_played j.conditions r old.done ≡ true → GoesThrough j r new
goes-open {j} {r} {old} {new} follows h done played = record {
  follows = subst (λ (ds : List StepReport). FollowsSoFar (played_script j r ds) j.turns new) (sym done) follows;
  gives = subst (GivesUpRightly j r) (sym done) h.gives;
  skips = subst (SkipsRightly j.conditions r) (sym done) h.skips;
  playing = plays new.current;
}
  where
    now : is_played j.conditions r new.done ≡ true
    now = ap (is_played j.conditions r) done ∙ played

    plays : (o : Option Step) → MatchOption o ⊤ (λ asked. is_played j.conditions r new.done ≡ true)
    plays None = tt
    plays (Some asked) = now

-- an open step is to be played
pub open_played : {j : JobView} {r : ℕ} {p : Player} {asked : Step} → GoesThrough j r p → p.current ≡ Some asked → is_played j.conditions r p.done ≡ true
open_played {asked} h e = rw e at h.playing

-- a poll by a call of a step that is to be played
pub goes-called : {j : JobView} {r : ℕ} {old : Player} {asked : Step} {new : Player} → FollowsSoFar (played_script j r old.done) j.turns new → GoesThrough j r old → is_played j.conditions r old.done ≡ true → IsCalled old asked new → GoesThrough j r new
goes-called {old} {asked} follows h played (inl a) =
    let given = given_by_poll old.done old.rank asked a.answer a.rank a.answers in
    goes-played _ follows h (ap (λ (p : Player). p.done) a.only) (ap (λ (p : Player). p.current) a.only) (not_unfinished a.answer given.0) (not_skipped a.answer given.1) played
goes-called follows h played (inr o) = goes-open follows h (ap (λ (p : Player). p.done) o.only) played

-- an open step is decided
pub goes-decided : {j : JobView} {r : ℕ} {old : Player} {comm : Context} {board : Option (List ℕ)} {known later : Known} {new : Player} → FollowsSoFar (played_script j r old.done) j.turns new → GoesThrough j r old → IsDecided old comm board known new later → GoesThrough j r new
goes-decided {old} {board} {known} {later} follows h d =
    let given = given_by_decision board known later old.rank d.asked d.answer d.rank d.decision in
    goes-played _ follows h (ap (λ (p : Player). p.done) d.only) (ap (λ (p : Player). p.current) d.only) (not_unfinished d.answer given.0) (not_skipped d.answer given.1) (open_played h d.waits)

-- a step that isn't to be played is skipped
pub goes-skipped : {j : JobView} {r : ℕ} {old : Player} {asked : Step} {new : Player} → FollowsSoFar (played_script j r old.done) j.turns new → GoesThrough j r old → is_played j.conditions r old.done ≡ false → SkipsStep old asked new → GoesThrough j r new
goes-skipped follows h idle s = goes-closed _ follows h (ap (λ (p : Player). p.done) s.only) (ap (λ (p : Player). p.current) s.only) refl (sym (ap not idle))

-- no step stands open where the next one isn't to be played
pub idle_none : {j : JobView} {r : ℕ} {p : Player} → GoesThrough j r p → is_played j.conditions r p.done ≡ false → p.current ≡ None
idle_none {j} {r} {p} h idle = none p.current h.playing
  where
    none : (o : Option Step) → MatchOption o ⊤ (λ asked. is_played j.conditions r p.done ≡ true) → o ≡ None
    none None k = refl
    none (Some asked) k = let bad : true ≡ false = sym k ∙ idle in absurd (cc)

-- a player whose rank alone changed, and runs or has stopped as before
pub goes-rank : {j : JobView} {r : ℕ} {p : Player} (s : State) → is_stopped s.log ≡ is_stopped p.rank.log → GoesThrough j r p → GoesThrough j r (with_rank p s)
goes-rank {j} {r} {p} s stop h = record { follows = follows-rank (played_script j r p.done) j.turns p s stop h.follows; gives = h.gives; skips = h.skips; playing = h.playing }

-- a player that starts
pub goes-start : (j : JobView) (r me n : ℕ) → GoesThrough j r (start_player me n)
goes-start j r me n = record { follows = follows-start (played_script j r []) j.turns me n; gives = λ k report g given. absurd (let low = slice_get_within [] k report g in omega arith); skips = λ k report g. absurd (let low = slice_get_within [] k report g in omega arith); playing = tt }

-- a player that stopped finished its script
pub finished-stopped : {j : JobView} {r : ℕ} {p : Player} → GoesThrough j r p → is_stopped p.rank.log ≡ true → HasFinished j r p
finished-stopped h stopped = record { steps = (h.follows.stopped stopped).0; patient = h.follows.patient; gives = h.gives; skips = h.skips; closed = (h.follows.stopped stopped).1 }

-- so did one that runs and has no step left
pub finished-running : {j : JobView} {r : ℕ} {p : Player} → GoesThrough j r p → is_stopped p.rank.log ≡ false → length (script_at j r) ≤ length p.done → HasFinished j r p
finished-running {j} {r} {p} h running all = record {
  steps = answered_running (played_script j r p.done) j.turns p h.follows running (omega (arith, all, length-played j r p.done));
  patient = h.follows.patient;
  gives = h.gives;
  skips = h.skips;
  closed = none_open (played_script j r p.done) j.turns p h.follows (omega (arith, all, length-played j r p.done));
}
