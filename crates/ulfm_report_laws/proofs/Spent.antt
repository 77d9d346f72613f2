-- A step that is given up behind a poll.
use Rattle.std.proofs.Common.{◌≡◌, ◌⊎◌, ℕ, true, false, not, List, [], ◌∷◌, ◌++◌, length, take, refl, ap, sym, subst, ◌∙◌, arith, inl, inr, None, Some}
use Rattle.std.proofs.lemmas.List.{take-append-le}
use Rattle.std.proofs.Math.Seq.{take-append_seam}
use Rattle.ulfm_base.proofs.Longer.{get_cases}
use Rattle.ulfm_job.specs.Job.{JobView, may_leave}
use Rattle.ulfm_job.specs.declared.condition.Condition.{Condition}
use Rattle.ulfm_job.specs.declared.step.Step.{Step}
use Rattle.ulfm_script.specs.Meant.{played_script}
use Rattle.ulfm_script.specs.Player.{Player, IsCalled, GivesUpStep, step_report}
use Rattle.ulfm_answer.specs.Reacting.{is_played, SkipsRightly}
use Rattle.ulfm_answer.specs.Report.{is_skipped}
use Rattle.ulfm_script.specs.Script.{GivesUpRightly}
use Rattle.ulfm_answer.specs.declared.answer.StepAnswer.TheVariants.{Unfinished}
use Rattle.ulfm_answer.specs.declared.answer.StepReport.{StepReport}
use Rattle.ulfm_script.specs.inside.Underway.{FollowsSoFar, GoesThrough}
use Rattle.ulfm_script.proofs.Reacting.{follows-on, gives-push}
use Rattle.std.proofs.lemmas.Option.{none-some, slice_get_within}

-- steps that were skipped rightly still are, behind one that was to be played and wasn't skipped
spent : (conditions : List Condition) (r : ℕ) (done : List StepReport) (x : StepReport) → SkipsRightly conditions r done → is_played conditions r done ≡ true → is_skipped x.answer ≡ false → SkipsRightly conditions r (done ++ x ∷ [])
spent conditions r done x h played given k report g = elim (get_cases done x k report g) [
  | inl before ↦
      let same : take k (done ++ x ∷ []) ≡ take k done = take-append-le k done (x ∷ []) (omega (arith, slice_get_within done k report before)) in
      h k report before ∙ ap (λ (reports : List StepReport). not (is_played conditions r reports)) (sym same)
  | inr last ↦
      let same : take k (done ++ x ∷ []) ≡ done = ap (λ n. take n (done ++ x ∷ [])) last.0 ∙ take-append_seam done (x ∷ []) in
      ap (λ (y : StepReport). is_skipped y.answer) (sym last.1) ∙ given ∙ sym (ap not played) ∙ ap (λ (reports : List StepReport). not (is_played conditions r reports)) (sym same)
]

-- a step that a poll left open is given up as one that was to be played, after all polls or where it may be given up before
pub goes-spent : {j : JobView} {r : ℕ} {old mid new : Player} {asked : Step} → FollowsSoFar (played_script j r old.done) j.turns new → GoesThrough j r old → is_played j.conditions r old.done ≡ true → IsCalled old asked mid → GivesUpStep mid new → (mid.polls ≡ j.turns) ⊎ (may_leave j r (length old.done) ≡ true) → GoesThrough j r new
goes-spent follows h played (inl a) left polls =
    let none : None ≡ Some left.step = sym (ap (λ (p : Player). p.current) a.only) ∙ left.was_open in
    absurd (none-some left.step none)
goes-spent {j} {r} {old} {mid} {new} follows h played (inr o) left polls =
    let x = step_report left.step Unfinished mid.at mid.polls in
    let done : new.done ≡ old.done ++ x ∷ [] = ap (λ (p : Player). p.done) left.only ∙ ap (λ (p : Player). p.done ++ x ∷ []) o.only in
    record {
      follows = follows-on j r old new x follows done (ap (λ (p : Player). p.current) left.only);
      gives = subst (GivesUpRightly j r) (sym done) (gives-push j r old.done x h.gives (λ given. polls));
      skips = subst (SkipsRightly j.conditions r) (sym done) (spent j.conditions r old.done x h.skips played refl);
      playing = rw (ap (λ (p : Player). p.current) left.only) tt;
    }
