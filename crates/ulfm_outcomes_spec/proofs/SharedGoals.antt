-- Where players answered the same, they show the same; so what shared inboxes show rings show too.
use Rattle.std.proofs.Common.{◌≡◌, ℕ, ◌&&◌, Bool, true, false, List, [], ◌∷◌, length, refl, ap, sym, subst, ◌∙◌, arith, inl, inr, slice_get, true≢false}
use Rattle.std.proofs.lemmas.Bool.{cases_lt}
use Rattle.std.proofs.lemmas.List.{get_or_past}
use Rattle.std.specs.List.{list_all}
use Rattle.ulfm_log.specs.Facts.{is_stopped}
use Rattle.ulfm_log.specs.declared.entry.Entry.{Entry}
use Rattle.ulfm_job.specs.declared.clause.Clause.{Clause}
use Rattle.ulfm_script.specs.Player.{Player}
use Rattle.ulfm_answer.specs.Reacting.{holds_of}
use Rattle.ulfm_answer.specs.declared.answer.StepReport.{StepReport}
use Rattle.ulfm_world.specs.Rings.{on_rings}
use Rattle.ulfm_world.specs.World.{World, no_player, player_at}
use Rattle.ulfm_reduction_laws.specs.Laws.{AnswerTheSame}
use Rattle.ulfm_reduction_laws.proofs.Shared.{rings_give_shared, shared_ends_are_ends}
use Rattle.ulfm_outcomes_spec.specs.Goals.{IsPossible, SharedShowsNoMore, Shows, StandsOpen, differs_in, is_answered, is_answered_otherwise, is_some_open}
use Rattle.ulfm_outcomes_list.specs.declared.goals.Goals.{Goals}
use Rattle.ulfm_outcomes_list.specs.declared.open_step.OpenStep.{OpenStep}

module _ (v w : World) (same : AnswerTheSame v w) where
  pub same_done : (r : ℕ) → (player_at w r).done ≡ (player_at v r).done
  same_done r = elim (cases_lt r (length v.players)) [
    | inl low ↦ (same.each r low).done
    | inr past ↦ ap (λ (p : Player). p.done) (get_or_past w.players r no_player (omega (arith, past, same.as_many)) ∙ sym (get_or_past v.players r no_player past))
  ]

  same_answers : (cs : List Clause) → list_all (is_answered w) cs ≡ list_all (is_answered v) cs
  same_answers [] = refl
  same_answers (c ∷ cs) = ap (λ (done : List StepReport). holds_of done c && list_all (is_answered w) cs) (same_done c.rank) ∙ ap (λ (b : Bool). is_answered v c && b) (same_answers cs)

  same_others : (cs : List Clause) → list_all (is_answered_otherwise w) cs ≡ list_all (is_answered_otherwise v) cs
  same_others [] = refl
  same_others (c ∷ cs) =
      ap (λ (done : List StepReport). differs_in (slice_get done c.step) c.words && list_all (is_answered_otherwise w) cs) (same_done c.rank)
      ∙ ap (λ (b : Bool). is_answered_otherwise v c && b) (same_others cs)

  still_open : (o : OpenStep) → StandsOpen v o → StandsOpen w o
  still_open o stands =
      let there = same.each o.rank stands.live.0 in
      record {
        live = (omega (arith, stands.live.0, same.as_many), subst (λ (log : List Entry). is_stopped log ≡ false) (sym there.log) stands.live.1);
        waits = λ closed. stands.waits (sym there.current ∙ closed);
        step = ap (λ (done : List StepReport). length done) there.done ∙ stands.step;
      }

  -- goals that the world v shows are shown by the world w
  pub still_shown : (goals : Goals) → Shows goals v → Shows goals w
  still_shown goals shows = record {
    answers = same_answers goals.answers.items ∙ shows.answers;
    others = same_others goals.others.items ∙ shows.others;
    left = λ o there. still_open o (shows.left o there);
  }

-- a world shows the same where each pair of ranks has a ring
shown_on_rings : (goals : Goals) (w : World) → Shows goals w → Shows goals (on_rings w)
shown_on_rings goals w shows = record {
  answers = shows.answers;
  others = shows.others;
  left = λ o there. let stands = shows.left o there in record { live = stands.live; waits = stands.waits; step = stands.step };
}

-- what a schedule over shared inboxes shows, one over rings does
pub shared_shows_no_more : SharedShowsNoMore
shared_shows_no_more j goals few p = by (is_some_open goals.left.items) refl
  where
    shows : Shows goals (on_rings p.world)
    shows = shown_on_rings goals p.world p.shows

    by : (b : Bool) → is_some_open goals.left.items ≡ b → IsPossible j goals
    by false none = record {
      world = on_rings p.world;
      comes = rings_give_shared j p.world few p.comes;
      shows = shows;
      ends = λ some. absurd (true≢false (sym some ∙ none));
    }
    by true some =
        let ended = shared_ends_are_ends j p.world few p.comes (p.ends some) in
        record { world = ended.world; comes = ended.comes; shows = still_shown (on_rings p.world) ended.world ended.same goals shows; ends = λ _. ended.ends }
