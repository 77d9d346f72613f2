-- A script as it is played, while answers come.
use Rattle.std.proofs.Common.{◌≡◌, ℕ, zero, suc, ◌+◌, ◌-◌, ◌*◌, ◌<◌, ◌≤◌, inl, inr, subst, List, [], ◌∷◌, ◌++◌, length, take, refl, sym, ap, ap₂, ◌∙◌, arith, Option, Some, None, is_some, slice_get}
use Rattle.std.proofs.lemmas.List.{take-append-le}
use Rattle.std.proofs.Math.Seq.{take-append_seam, take-length}
use Rattle.std.proofs.lemmas.Option.{none-some, same_Some, slice_get_cases, slice_get_within}
use Rattle.std.specs.Option.{option_map}
use Rattle.ulfm_base.specs.declared.context.Context.{Context}
use Rattle.ulfm_job.specs.Job.{JobView, decides_on, is_decided_together, script_at}
use Rattle.ulfm_job.specs.Naming.{naming_at, played_on}
use Rattle.ulfm_job.proofs.OnComm.{decides-on}
use Rattle.ulfm_script.proofs.Common.{Step, StepReport}
use Rattle.ulfm_script.specs.Meant.{meant, meant_by, meant_from, next_step, played_script}
use Rattle.ulfm_script.specs.Player.{Player}
use Rattle.ulfm_script.specs.inside.Underway.{polls_left}

-- there are as many steps
pub length-meant : (j : JobView) (r : ℕ) (done : List StepReport) (k : ℕ) (script : List Step) → length (meant_from j r done k script) ≡ length script
length-meant j r done k [] = refl
length-meant j r done k (asked ∷ script) = ap suc (length-meant j r done (k + 1) script)

pub length-played : (j : JobView) (r : ℕ) (done : List StepReport) → length (played_script j r done) ≡ length (script_at j r)
length-played j r done = length-meant j r done 0 (script_at j r)

-- those up to the next one don't depend on later answers
prefix-meant : (j : JobView) (r : ℕ) (done more : List StepReport) (k n : ℕ) (script : List Step) → k + n ≤ length done + 1 → take n (meant_from j r (done ++ more) k script) ≡ take n (meant_from j r done k script)
prefix-meant j r done more k zero script le = refl
prefix-meant j r done more k (suc n) [] le = refl
prefix-meant j r done more k (suc n) (asked ∷ script) le =
    let same : take k (done ++ more) ≡ take k done = take-append-le k done more (omega (arith, le)) in
    ap₂ (λ (before : List StepReport) (steps : List Step). meant j r before k asked ∷ steps) same (prefix-meant j r done more (k + 1) n script (omega (arith, le)))

pub prefix-played : (j : JobView) (r : ℕ) (done more : List StepReport) → take (length done + 1) (played_script j r (done ++ more)) ≡ take (length done + 1) (played_script j r done)
prefix-played j r done more = prefix-meant j r done more 0 (length done + 1) (script_at j r) (omega arith)

get-meant : (j : JobView) (r : ℕ) (done : List StepReport) (k i : ℕ) (script : List Step) → slice_get (meant_from j r done k script) i ≡ option_map (meant j r (take (k + i) done) (k + i)) (slice_get script i)
get-meant j r done k i [] = refl
get-meant j r done k zero (asked ∷ script) = let same : k + 0 ≡ k = omega arith in ap (λ (n : ℕ). Some (meant j r (take n done) n asked)) (sym same)
get-meant j r done k (suc i) (asked ∷ script) =
    let same : (k + 1) + i ≡ k + suc i = omega arith in
    get-meant j r done (k + 1) i script ∙ ap (λ (n : ℕ). option_map (meant j r (take n done) n) (slice_get script i)) same

-- the next one is the next step
pub next-played : (j : JobView) (r : ℕ) (done : List StepReport) → slice_get (played_script j r done) (length done) ≡ next_step j r done
next-played j r done =
    let here : 0 + length done ≡ length done = omega arith in
    get-meant j r done 0 (length done) (script_at j r)
    ∙ ap (λ (n : ℕ). option_map (meant j r (take n done) n) (slice_get (script_at j r) (length done))) here
    ∙ ap (λ (before : List StepReport). option_map (meant j r before (length done)) (slice_get (script_at j r) (length done))) (take-length done)

-- also behind further answers
pub next-behind : (j : JobView) (r : ℕ) (done more : List StepReport) → slice_get (played_script j r (done ++ more)) (length done) ≡ next_step j r done
next-behind j r done more =
    let here : 0 + length done ≡ length done = omega arith in
    get-meant j r (done ++ more) 0 (length done) (script_at j r)
    ∙ ap (λ (n : ℕ). option_map (meant j r (take n (done ++ more)) n) (slice_get (script_at j r) (length done))) here
    ∙ ap (λ (before : List StepReport). option_map (meant j r before (length done)) (slice_get (script_at j r) (length done))) (take-append_seam done more)

-- there is one only where fewer steps were answered than the script has
pub next-within : (j : JobView) (r : ℕ) (done : List StepReport) (asked : Step) → next_step j r done ≡ Some asked → length done < length (script_at j r)
next-within j r done asked next =
    let low = slice_get_within (played_script j r done) (length done) asked (next-played j r done ∙ next) in
    omega (arith, low, length-played j r done)

-- there is none where all are answered
pub next-past : (j : JobView) (r : ℕ) (done : List StepReport) → next_step j r done ≡ None → length (script_at j r) ≤ length done
next-past j r done none = elim (slice_get_cases (script_at j r) (length done)).1 [
  | inl here ↦ absurd (none-some (meant j r done (length done) here.0) (sym none ∙ ap (option_map (meant j r done (length done))) here.2))
  | inr out ↦ out.0
]

-- how many polls are left doesn't depend on which communicators steps are on
pub left-played : (j : JobView) (r : ℕ) (done : List StepReport) (p : Player) → polls_left (played_script j r done) j.turns p ≡ polls_left (script_at j r) j.turns p
left-played j r done p = ap (λ (k : ℕ). (j.turns + 1) * (k - length p.done) - p.polls) (length-played j r done)

pub fewer-played : (j : JobView) (r : ℕ) (done : List StepReport) (old new : Player) → polls_left (played_script j r done) j.turns new < polls_left (played_script j r done) j.turns old → polls_left (script_at j r) j.turns new < polls_left (script_at j r) j.turns old
fewer-played j r done old new less =
    subst (λ (k : ℕ). polls_left (script_at j r) j.turns new < k) (left-played j r done old)
    (subst (λ (k : ℕ). k < polls_left (played_script j r done) j.turns old) (left-played j r done new) less)

-- it is the step of this number of the script, as it is played
pub next-from : (j : JobView) (r : ℕ) (done : List StepReport) (asked : Step) → next_step j r done ≡ Some asked → (step : Step) × (slice_get (script_at j r) (length done) ≡ Some step) × (meant j r done (length done) step ≡ asked)
next-from j r done asked next = by (slice_get (script_at j r) (length done)) refl
  where
    by : (o : Option Step) → slice_get (script_at j r) (length done) ≡ o → (step : Step) × (slice_get (script_at j r) (length done) ≡ Some step) × (meant j r done (length done) step ≡ asked)
    by None past = absurd (none-some asked (sym (ap (option_map (meant j r done (length done))) past) ∙ next))
    by (Some step) is = (step, is, same_Some (meant j r done (length done) step) asked (sym (ap (option_map (meant j r done (length done))) is) ∙ next))

-- ranks decide it together where they do the script's one
together-on : (on : Option Context) (asked : Step) → is_some (decides_on (played_on on asked)) ≡ is_some (decides_on asked)
together-on None asked = refl
together-on (Some c) asked = ap (λ (o : Option Context). is_some o) (decides-on c asked) ∙ by (decides_on asked)
  where
    by : (o : Option Context) → is_some (option_map (λ (d : Context). c) o) ≡ is_some o
    by None = refl
    by (Some d) = refl

pub together-played : (j : JobView) (r : ℕ) (done : List StepReport) → is_decided_together (next_step j r done) ≡ is_decided_together (slice_get (script_at j r) (length done))
together-played j r done = by (slice_get (script_at j r) (length done))
  where
    by : (o : Option Step) → is_decided_together (option_map (meant j r done (length done)) o) ≡ is_decided_together o
    by None = refl
    by (Some asked) = together-on (option_map (meant_by done) (naming_at j r (length done))) asked
