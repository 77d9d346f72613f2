-- Rows that a whole list has of answers that come together.
use Rattle.std.proofs.Common.{◌≡◌, ◌==◌, ◌&&◌, ℕ, suc, Bool, true, List, [], ◌∷◌, Contains, length, slice_get, refl, ap, sym, ◌∙◌, inl, inr, arith, Option, Some, None}
use Rattle.std.proofs.lemmas.Bool.{and_from, and_parts, eq-eqb, false≢true, cases_lt}
use Rattle.std.proofs.lemmas.List.{get_or_past}
use Rattle.std.proofs.lemmas.List.Folds.{list_any_at}
use Rattle.std.specs.List.{list_all, list_any}
use Rattle.ulfm_job.specs.Job.{JobView}
use Rattle.ulfm_job.specs.declared.clause.Clause.{Clause}
use Rattle.ulfm_reduction_laws.specs.Obeying.{ComesTo}
use Rattle.ulfm_reduction_laws.specs.Late.{IsEnd}
use Rattle.ulfm_script.specs.Player.{Player}
use Rattle.ulfm_answer.specs.Reacting.{begins_in, holds_of}
use Rattle.ulfm_answer.proofs.ReadBack.{codes_are_read}
use Rattle.ulfm_answer.specs.Told.{answer_code, read_code, told_of}
use Rattle.ulfm_answer.specs.declared.answer.StepReport.{StepReport}
use Rattle.ulfm_answer.specs.declared.told_answer.ToldAnswer.{ToldAnswer}
use Rattle.ulfm_world.specs.World.{World, IsInside, no_player, player_at}
use Rattle.ulfm_outcomes_spec.specs.Goals.{IsPossible, StandsOpen, is_answered}
use Rattle.ulfm_outcomes_spec.specs.Outcomes.{IsWholeList}
use Rattle.ulfm_outcomes_list.specs.declared.goals.Goals.{Goals}
use Rattle.ulfm_outcomes_list.specs.declared.open_step.OpenStep.{OpenStep}
use Rattle.ulfm_outcomes_spec.proofs.Open.{some_there}
use Rattle.ulfm_outcomes_list.specs.Goals.{begins_told, has_each, tells, tells_open}

-- an answered step is that of a rank of the world
inside : (w : World) (c : Clause) → is_answered w c ≡ true → IsInside w c.rank
inside w c is = elim (cases_lt c.rank (length w.players)) [
  | inl low ↦ low
  | inr past ↦ absurd (false≢true (sym (ap (λ (p : Player). holds_of p.done c) (get_or_past w.players c.rank no_player past)) ∙ is))
]

-- all items pass
all_at : {X : Type 0} (p : X → Bool) (xs : List X) → ((x : X) → Contains xs x → p x ≡ true) → list_all p xs ≡ true
all_at p [] each = refl
all_at p (x ∷ xs) each = and_from (p x) (list_all p xs) (each x (0, omega arith, refl)) (all_at p xs (λ y there. each y (suc there.0, (let low = there.1 in omega (arith, low)), there.2)))

module _ (j : JobView) (key : World → List ℕ) (limit : ℕ) (keys found : List (List ℕ)) (whole : IsWholeList key j limit keys found) (w : World) (comes : ComesTo j w) where
  here : (p : List ℕ → Bool) (row : List ℕ) → Contains found row → p row ≡ true → list_any p found ≡ true
  here p row there is = list_any_at p found there.0 row there.1 (ap p there.2 ∙ is)

  -- an answer that the world has stands in the list
  told : (c : Clause) → is_answered w c ≡ true → list_any (tells c) found ≡ true
  told c is = by (slice_get (player_at w c.rank).done c.step) refl is
    where
      by : (o : Option StepReport) → slice_get (player_at w c.rank).done c.step ≡ o → begins_in o c.words ≡ true → list_any (tells c) found ≡ true
      by None at h = absurd (false≢true h)
      by (Some report) at h =
          here (tells c) (c.rank ∷ c.step ∷ answer_code report.answer)
          (whole.complete c.rank c.step (told_of report.answer) (record { world = w; comes = comes; inside = inside w c is; report = report; answered = at; says = refl }))
          (and_from ((c.rank == c.rank) && (c.step == c.step)) (begins_told (read_code (answer_code report.answer)) c.words) (and_from (c.rank == c.rank) (c.step == c.step) (eq-eqb c.rank c.rank refl) (eq-eqb c.step c.step refl))
          (ap (λ (o : Option ToldAnswer). begins_told o c.words) (codes_are_read (told_of report.answer)) ∙ h))

  each_told : (cs : List Clause) → list_all (is_answered w) cs ≡ true → list_all (λ (c : Clause). list_any (tells c) found) cs ≡ true
  each_told [] all = refl
  each_told (c ∷ cs) all =
      let parts = and_parts (is_answered w c) (list_all (is_answered w) cs) all in
      and_from (list_any (tells c) found) (list_all (λ (c : Clause). list_any (tells c) found) cs) (told c parts.0) (each_told cs parts.1)

  -- and so does a step that it leaves open for ever
  left : IsEnd j w → (o : OpenStep) → StandsOpen w o → list_any (tells_open o) found ≡ true
  left ends o stands =
      here (tells_open o) (o.rank ∷ o.step ∷ [])
      (whole.stuck o.rank o.step (record { world = w; comes = comes; ends = ends; live = stands.live; waits = stands.waits; step = stands.step }))
      (and_from (o.rank == o.rank) (o.step == o.step) (eq-eqb o.rank o.rank refl) (eq-eqb o.step o.step refl))

-- what comes together stands in a whole list
pub each_listed : (j : JobView) (key : World → List ℕ) (limit : ℕ) (keys found : List (List ℕ)) (goals : Goals) → IsWholeList key j limit keys found → IsPossible j goals → has_each found goals ≡ true
each_listed j key limit keys found goals whole p =
    and_from (list_all (λ (c : Clause). list_any (tells c) found) goals.answers.items) (list_all (λ (o : OpenStep). list_any (tells_open o) found) goals.left.items)
    (each_told j key limit keys found whole p.world p.comes goals.answers.items p.shows.answers)
    (all_at (λ (o : OpenStep). list_any (tells_open o) found) goals.left.items (λ o there. left j key limit keys found whole p.world p.comes (p.ends (some_there goals.left.items o there)) o (p.shows.left o there)))
