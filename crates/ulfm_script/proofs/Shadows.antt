-- A player beside another one, which does the same, but polls no shrink and no agreement again once it was entered: its answers are right, whatever
-- comes.
use Rattle.std.proofs.Common.{◌≡◌, ℕ, true, false, List, ◌⊎◌, length, refl, ap, sym, subst, ◌∙◌, inl, inr, MatchOption, Option, Some, None, is_some}
use Rattle.std.proofs.lemmas.Bool.{cases_Bool}
use Rattle.ulfm_log.specs.State.{State}
use Rattle.ulfm_script.specs.Deciding.{AnswersDecision, IsDecided}
use Rattle.ulfm_script.specs.GivenUp.{TellTheSame}
use Rattle.ulfm_script.specs.inside.SoFar.{IsUndecided, OnlyTakes}
use Rattle.ulfm_script.proofs.Adopted.{honest-decided}
use Rattle.ulfm_script.proofs.Alike.{answers_alike, opens_alike, tell_alike, tell_push}
use Rattle.ulfm_script.proofs.Calling.{honest-answered, honest-polled}
use Rattle.ulfm_script.proofs.Common.{answered, AnswersFollowSoFar, AnswersStep, awaits_decision, Context, false≢true, GivesUpStep, IsCalled, IsFree, is_stopped, Known, LeavesOpen, none-some, Player, PollAnswers, polled, PollOpens, same_Some, SkipsStep, Skipped, start_player, StaysOpen, Step, step_report, Unfinished, with_rank}
use Rattle.ulfm_script.proofs.Honestly.{honest-left, honest-moved, honest-skipped, honest-start}
use Rattle.ulfm_script.proofs.Moved.{ToldAlike}

-- The one player has the rank of the other one, the same step open, and the same answers. Where no step is open, none was polled.
pub record IsShadow (p q : Player) : Type 0 where
  pub rank : q.rank ≡ p.rank
  pub current : q.current ≡ p.current
  pub done : TellTheSame q.done p.done
  pub rests : q.current ≡ None → q.polls ≡ 0

-- a player has such a one beside it, whose answers are right so far
pub record Shadowed (known : Known) (p : Player) : Type 0 where
  pub player : Player
  pub shadow : IsShadow p player
  pub follows : AnswersFollowSoFar known player

-- the open step is the one that is asked for, if there is one
match_free : (current : Option Step) (polls : ℕ) (asked : Step) → (current ≡ None → polls ≡ 0) → (current ≡ None) ⊎ (current ≡ Some asked) → MatchOption current (polls ≡ 0) (λ o. o ≡ asked)
match_free None polls asked rests free = rests refl
match_free (Some o) polls asked rests (inl none) = absurd (none-some o (sym none))
match_free (Some o) polls asked rests (inr some) = same_Some o asked some

-- a step that ranks don't decide together has no proposal
none_joint : (p : Player) → awaits_decision p.current ≡ false → IsUndecided p
none_joint p free comm ready = false≢true (sym free ∙ ap awaits_decision ready.waits ∙ ap is_some ready.on)

-- ranks decide the open step together, so one is open
joint_open : (current : Option Step) (asked : Step) → awaits_decision current ≡ true → (current ≡ None) ⊎ (current ≡ Some asked) → current ≡ Some asked
joint_open current asked joint (inl none) = absurd (false≢true (sym (ap awaits_decision none) ∙ joint))
joint_open current asked joint (inr some) = some

-- what moves between a player and its end
pub shadow-moved : (known : Known) (p : Player) (r : State) → Shadowed known p → r.me ≡ p.rank.me → r.ranks ≡ p.rank.ranks → is_stopped r.log ≡ is_stopped p.rank.log → OnlyTakes p.rank.log r.log → Shadowed known (with_rank p r)
shadow-moved known p r h me ranks stops takes =
    let q = h.player in
    let same = sym h.shadow.rank in
    record {
      player = with_rank q r;
      shadow = record { rank = refl; current = h.shadow.current; done = h.shadow.done; rests = h.shadow.rests };
      follows = honest-moved known q (with_rank q r) h.follows refl (me ∙ ap (λ (s : State). s.me) same) (ranks ∙ ap (λ (s : State). s.ranks) same)
          (stops ∙ ap (λ (s : State). is_stopped s.log) same) (subst (λ (s : State). OnlyTakes s.log r.log) same takes);
    }

module _ (known : Known) (p : Player) (asked : Step) (p' : Player) (h : Shadowed known p) (running : is_stopped p.rank.log ≡ false) where
  abbrev q : Player
  q = h.player

  alike : ToldAlike p.done q.done
  alike = tell_alike q.done p.done h.shadow.done

  runs : is_stopped q.rank.log ≡ false
  runs = ap (λ (s : State). is_stopped s.log) h.shadow.rank ∙ running

  -- a poll that answers its step
  shadow-answered : PollAnswers p asked p' → Shadowed known p'
  shadow-answered a =
      let q' = answered (with_rank q a.rank) asked a.answer (length q.rank.log) in
      let own : PollAnswers q asked q' = record {
        first = ap awaits_decision h.shadow.current ∙ a.first;
        answer = a.answer;
        rank = a.rank;
        answers = subst (λ (s : State). AnswersStep q.done s asked a.answer a.rank) (sym h.shadow.rank) (answers_alike p.done q.done alike p.rank a.rank asked a.answer a.answers);
        only = refl;
      } in
      rw a.only (record {
        player = q';
        shadow = record {
          rank = refl;
          current = refl;
          done = tell_push q.done p.done (step_report asked a.answer (length q.rank.log) q.polls) (step_report asked a.answer (length p.rank.log) p.polls) h.shadow.done
              (record { step = refl; answer = refl; at = inr (ap (λ (s : State). length s.log) h.shadow.rank) });
          rests = λ none. refl;
        };
        follows = honest-answered known q asked q' h.follows runs own;
      })

  module _ (free : IsFree p asked) (o : PollOpens p asked p') where
    free_too : IsFree q asked
    free_too = elim free [ inl none ↦ inl (h.shadow.current ∙ none) | inr some ↦ inr (h.shadow.current ∙ some) ]

    -- a further poll of a shrink or an agreement
    shadow-again : awaits_decision p.current ≡ true → Shadowed known p'
    shadow-again joint =
        let stays : o.rank ≡ p.rank = subst (λ b. StaysOpen b p.done p.rank asked o.rank) joint o.stays in
        rw o.only (record {
          player = q;
          shadow = record {
            rank = h.shadow.rank ∙ sym stays;
            current = h.shadow.current ∙ joint_open p.current asked joint free;
            done = h.shadow.done;
            rests = h.shadow.rests;
          };
          follows = h.follows;
        })

    -- a first poll that leaves its step open, or a further one of a wait or a probe
    shadow-opened : awaits_decision p.current ≡ false → Shadowed known p'
    shadow-opened none =
        let q' = polled (with_rank q o.rank) asked (length q.rank.log) in
        let free_q : awaits_decision q.current ≡ false = ap awaits_decision h.shadow.current ∙ none in
        let left : LeavesOpen q.done q.rank asked o.rank = subst (λ (s : State). LeavesOpen q.done s asked o.rank) (sym h.shadow.rank)
        (opens_alike p.done q.done alike p.rank o.rank asked (subst (λ b. StaysOpen b p.done p.rank asked o.rank) none o.stays)) in
        let own : PollOpens q asked q' = record { rank = o.rank; stays = subst (λ b. StaysOpen b q.done q.rank asked o.rank) (sym free_q) left; only = refl } in
        rw o.only (record {
          player = q';
          shadow = record { rank = refl; current = refl; done = h.shadow.done; rests = λ closed. absurd (none-some asked (sym closed)) };
          follows = honest-polled known q asked q' h.follows runs (match_free q.current q.polls asked h.shadow.rests free_too) (none_joint q free_q) (inr own);
        })

-- one poll by a call
pub shadow-called : (known : Known) (p : Player) (asked : Step) (p' : Player) → Shadowed known p → is_stopped p.rank.log ≡ false → IsFree p asked → IsCalled p asked p' → Shadowed known p'
shadow-called known p asked p' h running free (inl a) = shadow-answered known p asked p' h running a
shadow-called known p asked p' h running free (inr o) = elim (cases_Bool (awaits_decision p.current)) [
  | inl joint ↦ shadow-again known p asked p' h running free o joint
  | inr none ↦ shadow-opened known p asked p' h running free o none
]

-- an open step is given up
pub shadow-left : (known : Known) (p p' : Player) → Shadowed known p → GivesUpStep p p' → Shadowed known p'
shadow-left known p p' h l =
    let q = h.player in
    let q' = answered q l.step Unfinished q.at in
    rw l.only (record {
      player = q';
      shadow = record { rank = h.shadow.rank; current = refl; done = tell_push q.done p.done (step_report l.step Unfinished q.at q.polls) (step_report l.step Unfinished p.at p.polls) h.shadow.done (record { step = refl; answer = refl; at = inl refl }); rests = λ none. refl };
      follows = honest-left known q q' h.follows (record { step = l.step; was_open = h.shadow.current ∙ l.was_open; only = refl });
    })

-- a step is skipped
pub shadow-skipped : (known : Known) (p : Player) (asked : Step) (p' : Player) → Shadowed known p → SkipsStep p asked p' → Shadowed known p'
shadow-skipped known p asked p' h s =
    let q = h.player in
    let q' = answered q asked Skipped (length q.rank.log) in
    rw s.only (record {
      player = q';
      shadow = record {
        rank = h.shadow.rank;
        current = refl;
        done = tell_push q.done p.done (step_report asked Skipped (length q.rank.log) q.polls) (step_report asked Skipped (length p.rank.log) p.polls) h.shadow.done
            (record { step = refl; answer = refl; at = inr (ap (λ (t : State). length t.log) h.shadow.rank) });
        rests = λ none. refl;
      };
      follows = honest-skipped known q asked q' h.follows (record { none_open = h.shadow.current ∙ s.none_open; only = refl });
    })

-- an open step is decided
pub shadow-decided : (board : Option (List ℕ)) (known later : Known) (p : Player) (comm : Context) (p' : Player) → Shadowed known p → is_stopped p.rank.log ≡ false → IsDecided p comm board known p' later → Shadowed later p'
shadow-decided board known later p comm p' h running d =
    let q = h.player in
    let q' = answered (with_rank q d.rank) d.asked d.answer (length q.rank.log) in
    let own : IsDecided q comm board known q' later = record {
      asked = d.asked;
      waits = h.shadow.current ∙ d.waits;
      on = d.on;
      answer = d.answer;
      rank = d.rank;
      decision = subst (λ (s : State). AnswersDecision board known later s d.asked d.answer d.rank) (sym h.shadow.rank) d.decision;
      only = refl;
    } in
    rw d.only (record {
      player = q';
      shadow = record {
        rank = refl;
        current = refl;
        done = tell_push q.done p.done (step_report d.asked d.answer (length q.rank.log) q.polls) (step_report d.asked d.answer (length p.rank.log) p.polls) h.shadow.done
            (record { step = refl; answer = refl; at = inr (ap (λ (s : State). length s.log) h.shadow.rank) });
        rests = λ none. refl;
      };
      follows = honest-decided board known later q comm q' h.follows (ap (λ (s : State). is_stopped s.log) h.shadow.rank ∙ running) own;
    })

-- a player that starts
pub shadow-start : (known : Known) (me n : ℕ) → Shadowed known (start_player me n)
shadow-start known me n = record {
  player = start_player me n;
  shadow = record { rank = refl; current = refl; done = tt; rests = λ none. refl };
  follows = honest-start known me n;
}
