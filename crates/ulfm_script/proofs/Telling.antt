-- What a player did, as a report whose answers are right.
use Rattle.std.proofs.Common.{◌≡◌, ◌⊎◌, refl, sym, subst, ◌∙◌, inl, inr, Option, Some, None}
use Rattle.ulfm_log.specs.State.{State}
use Rattle.ulfm_rank.specs.Paired.{IsPaired}
use Rattle.ulfm_script.specs.Answered.{AnswersFollow}
use Rattle.ulfm_script.specs.GivenUp.{given_up, given_up_by, TellTheSame}
use Rattle.ulfm_script.proofs.Alike.{tell_push}
use Rattle.ulfm_script.proofs.Common.{answered, AnswersFollowSoFar, Known, Player, Report, Step, step_report, Unfinished}
use Rattle.ulfm_script.proofs.Honestly.{honest-answers, honest-left}
use Rattle.ulfm_script.proofs.Shadows.{Shadowed}

-- a report whose answers are right, and which tells what the player did, with its open step as given up
pub record ToldOf (known : Known) (p : Player) : Type 0 where
  pub report : Report
  pub rank : report.rank ≡ p.rank
  pub steps : TellTheSame report.steps (given_up p).done
  pub follows : AnswersFollow known report

module _ (known : Known) (p : Player) (paired : IsPaired p.rank.log) (h : Shadowed known p) where
  on_log : IsPaired h.player.rank.log
  on_log = subst (λ (s : State). IsPaired s.log) (sym h.shadow.rank) paired

  told_closed : p.current ≡ None → ToldOf known p
  told_closed none =
      let told : Report = record { rank = h.player.rank; steps = h.player.done; starved = 0 } in
      record {
        report = told;
        rank = h.shadow.rank;
        steps = subst (λ (o : Option Step). TellTheSame h.player.done (given_up_by o p).done) (sym none) h.shadow.done;
        follows = honest-answers known h.player told h.follows (h.shadow.current ∙ none) refl refl on_log;
      }

  told_open : (asked : Step) → p.current ≡ Some asked → ToldOf known p
  told_open asked some =
      let q = h.player in
      let q' = answered q asked Unfinished q.at in
      let own : AnswersFollowSoFar known q' = honest-left known q q' h.follows (record { step = asked; was_open = h.shadow.current ∙ some; only = refl }) in
      let told : Report = record { rank = q.rank; steps = q'.done; starved = 0 } in
      let same : TellTheSame q'.done (answered p asked Unfinished p.at).done =
      tell_push q.done p.done (step_report asked Unfinished q.at q.polls) (step_report asked Unfinished p.at p.polls) h.shadow.done (record { step = refl; answer = refl; at = inl refl }) in
      record {
        report = told;
        rank = h.shadow.rank;
        steps = subst (λ (o : Option Step). TellTheSame q'.done (given_up_by o p).done) (sym some) same;
        follows = honest-answers known q' told own refl refl refl on_log;
      }

  -- so a player with a shadow has one
  pub told_so : ToldOf known p
  told_so = elim (some_or_none p.current) [ inl none ↦ told_closed none | inr some ↦ told_open some.0 some.1 ]
    where
      some_or_none : (o : Option Step) → (o ≡ None) ⊎ ((asked : Step) × (o ≡ Some asked))
      some_or_none None = inl refl
      some_or_none (Some asked) = inr (asked, refl)
