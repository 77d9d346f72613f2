-- Times of places, and one more.
use Rattle.std.proofs.Common.{◌≡◌, ℕ, Bool, true, false, cond, eqb, ◌&&◌, refl, ap, ◌∙◌}
use Rattle.std.proofs.lemmas.Bool.{eq-eqb, eqb-true}

-- times with one more, for place f of the rank d
abbrev pub with_time : (ℕ → ℕ → ℕ) → ℕ → ℕ → ℕ → ℕ → ℕ → ℕ
with_time time d f now r k = cond (eqb r d && eqb k f) now (time r k)

pub time_here : (time : ℕ → ℕ → ℕ) (d f now r k : ℕ) → r ≡ d → k ≡ f → with_time time d f now r k ≡ now
time_here time d f now r k one two = ap (λ b. cond (b && eqb k f) now (time r k)) (eq-eqb r d one) ∙ ap (λ b. cond b now (time r k)) (eq-eqb k f two)

pub time_else : (time : ℕ → ℕ → ℕ) (d f now r k : ℕ) → (r ≡ d → k ≡ f → ⊥) → with_time time d f now r k ≡ time r k
time_else time d f now r k other = pick (eqb r d) (eqb k f) (λ a b. other (eqb-true r d a) (eqb-true k f b))
  where
    pick : (a b : Bool) → (a ≡ true → b ≡ true → ⊥) → cond (a && b) now (time r k) ≡ time r k
    pick true true apart = absurd (apart refl refl)
    pick true false apart = refl
    pick false b apart = refl
