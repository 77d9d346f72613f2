-- The answered steps of a rank are true of its log, and each request is answered once.
use Rattle.std.proofs.Common.{◌≡◌, ℕ, ◌<◌, inl, inr, List, [], ◌∷◌, ◌++◌, length, ap, sym, ◌∙◌, subst, arith, Some, slice_get}
use Rattle.ulfm_report_laws.proofs.Common.{count_before, Entry, history_of, events_by, StepReport, closes, slice_get_within, history-push, get_cases, count_rises}
use Rattle.ulfm_report_laws.proofs.Numbers.{number_at, number_of, number_cases, number_within}
use Rattle.ulfm_report_laws.proofs.Tells.{Tells, tells-logged, tells-answered}

-- each answer is true, receives have rising numbers, and each is closed once
pub record IsOrderly (n : ℕ) (log : List Entry) (done : List StepReport) : Type 0 where
  pub tells : (k : ℕ) (x : StepReport) → slice_get done k ≡ Some x → Tells n log done x.step x.answer
  pub below : (k number : ℕ) → number_at done k ≡ Some number → number < count_before (history_of log) (length (history_of log))
  pub rises : (j k number other : ℕ) → j < k → number_at done j ≡ Some number → number_at done k ≡ Some other → number < other
  pub once : (j k req : ℕ) (x y : StepReport) → j < k → slice_get done j ≡ Some x → slice_get done k ≡ Some y → closes x.step x.answer ≡ Some req → closes y.step y.answer ≡ Some req → ⊥

-- the log grows
pub orderly-logged : {n : ℕ} {log : List Entry} (e : Entry) {done : List StepReport} → IsOrderly n log done → IsOrderly n (log ++ e ∷ []) done
orderly-logged {n} {log} e {done} h = record {
  tells = λ k x g. tells-logged n log e done x.step x.answer (h.tells k x g);
  below = λ k id g.
      let up = count_rises (history_of log) (events_by log (history_of log) e) in
      subst (λ es. id < count_before es (length es)) (sym (history-push log e)) (omega (arith, up, h.below k id g));
  rises = h.rises;
  once = h.once;
}

-- one more answer
pub orderly-answered : {n : ℕ} {log : List Entry} {done : List StepReport} (x : StepReport) → IsOrderly n log done → Tells n log (done ++ x ∷ []) x.step x.answer
    → ((number : ℕ) → number_of x.answer ≡ Some number → (number < count_before (history_of log) (length (history_of log))) × ((k other : ℕ) → number_at done k ≡ Some other → other < number))
    → ((req k : ℕ) (y : StepReport) → closes x.step x.answer ≡ Some req → slice_get done k ≡ Some y → closes y.step y.answer ≡ Some req → ⊥)
    → IsOrderly n log (done ++ x ∷ [])
orderly-answered {n} {log} {done} x h new fresh first = record {
  tells = λ k y g.
      elim (get_cases done x k y g) [
        | inl o ↦ tells-answered n log done x y.step y.answer (h.tells k y o)
        | inr e ↦ subst (λ z. Tells n log (done ++ x ∷ []) z.step z.answer) e.1 new
      ];
  below = λ k id g. elim (number_cases done x k g) [ inl o ↦ h.below k id o | inr e ↦ (fresh id e.1).0 ];
  rises = λ j k id jd l g f.
      elim (number_cases done x k f) [
        | inl o ↦
            let lk = number_within done k o in
            elim (number_cases done x j g) [ inl p ↦ h.rises j k id jd l p o | inr q ↦ absurd (let same = q.0 in omega (arith, l, lk, same)) ]
        | inr e ↦
            let top = e.0 in
            elim (number_cases done x j g) [ inl p ↦ (fresh jd e.1).1 j id p | inr q ↦ absurd (let same = q.0 in omega (arith, l, top, same)) ]
      ];
  once = λ j k req y z l gy gz cy cz.
      elim (get_cases done x k z gz) [
        | inl o ↦
            let lk = slice_get_within done k z o in
            elim (get_cases done x j y gy) [ inl p ↦ h.once j k req y z l p o cy cz | inr q ↦ absurd (let same = q.0 in omega (arith, l, lk, same)) ]
        | inr e ↦
            let top = e.0 in
            elim (get_cases done x j y gy) [
              | inl p ↦ first req j y (ap (λ w. closes w.step w.answer) e.1 ∙ cz) p cy
              | inr q ↦ absurd (let same = q.0 in omega (arith, l, top, same))
            ]
      ];
}
