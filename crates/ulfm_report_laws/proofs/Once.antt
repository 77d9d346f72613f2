-- A rank enters each topic once.
use Rattle.std.proofs.Common.{◌≡◌, ℕ, ◌<◌, List, [], ◌∷◌, ◌++◌, ap, sym, subst, ◌∙◌, inl, inr, Some, is_some, slice_get}
use Rattle.ulfm_log.specs.declared.entry.Entry.TheVariants.{Entered}
use Rattle.ulfm_log.specs.Proposal.{has_entered}
use Rattle.ulfm_report_laws.proofs.Common.{Entrance, Entry, false≢true, none-some, Known, get_cases, AnswersFollow, Report, Fits, each_logged, EntersEachOnce, Keeps, EntersOnce, keeps-start, keeps-push}

-- a rank that entered a topic adds no second entrance into it
entered_again : (n me : ℕ) (log : List Entry) (k : ℕ) (one other : Entrance) → EntersOnce log → slice_get log k ≡ Some (Entered one) → one.topic ≡ other.topic → Fits n me log (Entered other) → ⊥
entered_again n me log k one other h stands same fits = false≢true (sym fits.1 ∙ ap (has_entered log) (sym same) ∙ ap is_some (h k one stands).0)

pub once-start : EntersEachOnce []
once-start k m one other h = absurd (none-some (Entered one) h)

pub once-push : (n me : ℕ) (log : List Entry) (e : Entry) → EntersOnce log → EntersEachOnce log → Fits n me log e → EntersEachOnce (log ++ e ∷ [])
once-push n me log e h once fits k m one other first second same =
    let F : Entry → Type 0 = λ x. Fits n me log x in
    elim (get_cases log e k (Entered one) first) [
      | inl was ↦ elim (get_cases log e m (Entered other) second) [
        | inl both ↦ once k m one other was both same
        | inr now ↦ absurd (entered_again n me log k one other h was same (subst F now.1 fits))
      ]
      | inr now ↦ elim (get_cases log e m (Entered other) second) [
        | inl was ↦ absurd (entered_again n me log m other one h was (sym same) (subst F now.1 fits))
        | inr both ↦ now.0 ∙ sym both.0
      ]
    ]

-- a rank with right answers entered each topic once
pub once_of : (known : Known) (told : Report) → AnswersFollow known told → told.rank.me < told.rank.ranks → EntersEachOnce told.rank.log
once_of known told h low =
    let n = told.rank.ranks in let me = told.rank.me in
    (each_logged known told (λ log. Keeps n me log × EntersEachOnce log)
    (λ log e may k. (keeps-push n me log e k.0 may.fits, once-push n me log e k.0.enters_once k.1 may.fits)) (keeps-start n me low, once-start) h).1
