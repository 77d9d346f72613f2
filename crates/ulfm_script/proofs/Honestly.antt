-- A player's answers stay right while its rank takes items, and with each answer more.
use Rattle.std.proofs.Common.{◌≡◌, ℕ, Bool, true, false, List, [], ◌++◌, length, refl, ap, sym, subst, ◌∙◌, arith, append-nil, All, Option, Some, None}
use Rattle.ulfm_rank.specs.Paired.{IsPaired}
use Rattle.ulfm_script.proofs.Common.{Entry, is_stopped, Known, Report, State, Step, StepReport, false≢true, Player, GivesUpStep, SkipsStep, Skipped, step_report, with_rank, is_joint, start_player}
use Rattle.ulfm_script.specs.Answered.{IsTook, OnlyTook, by_skip, AnswerFollows, EndsAtStop, AnswersFollow}
use Rattle.ulfm_script.specs.inside.SoFar.{EntersSince, Stands, StandsOpen, AnswersFollowSoFar, Learns, OnlyTakes}
use Rattle.ulfm_script.proofs.Beginnings.{Grew, stood-now, took-on, took-none, enters-on}
use Rattle.ulfm_script.proofs.Answers.{answered-grew, all-grew, answers-push}
use Rattle.ulfm_script.proofs.Progress.{closed}

pub learns-none : (r : State) (to : ℕ) (known : Known) → Learns r to known known
learns-none r to known = record { keeps = λ c d h. h; same = λ asked topic from at h up. refl }

since-on : (joint : Bool) (r s : State) (from : ℕ) (asked : Step) → (g : Grew r s) → All IsTook g.more → EntersSince joint r asked from → EntersSince joint s asked from
since-on true r s from asked g all h = (h.0, enters-on r s asked h.0 from g all h.1)
since-on false r s from asked g all h = took-on r.log s.log g.more from g.log all h

stands-on : (known : Known) (r s : State) (before : List StepReport) (from : ℕ) (current : Option Step) (at polls : ℕ) → (g : Grew r s) → All IsTook g.more → Stands known r before from current at polls → Stands known s before from current at polls
stands-on known r s before from None at polls g all h = took-on r.log s.log g.more from g.log all h
stands-on known r s before from (Some asked) at polls g all h = record {
  polled = h.polled;
  since = since-on (is_joint asked) r s from asked g all h.since;
  next = h.next;
  left = answered-grew known known r s at before from _ h.next (learns-none r at known) (omega arith) g h.left;
  took = took-on r.log s.log g.more h.next g.log all h.took;
}

honest-rank : (known : Known) (p : Player) (r : State) → AnswersFollowSoFar known p → r.me ≡ p.rank.me → r.ranks ≡ p.rank.ranks → is_stopped r.log ≡ is_stopped p.rank.log → OnlyTakes p.rank.log r.log → AnswersFollowSoFar known (with_rank p r)
honest-rank known p r h me ranks stops takes =
    let g : Grew p.rank r = record { me = me; ranks = ranks; more = takes.more; log = takes.only } in
    record {
      place = h.place;
      answers = all-grew known known p.rank r [] 0 p.done h.place (learns-none p.rank h.place known) g h.answers;
      stands = stands-on known p.rank r p.done h.place p.current p.at p.polls g takes.took h.stands;
      stop = λ s.
          let was : is_stopped p.rank.log ≡ true = sym stops ∙ s in
          let same : r.log ≡ p.rank.log = takes.only ∙ ap (λ (l : List Entry). p.rank.log ++ l) (takes.stopped was) ∙ append-nil p.rank.log in
          subst EndsAtStop (sym same) (h.stop was);
    }

-- what moves between a player and its end leaves its answers right
pub honest-moved : (known : Known) (p q : Player) → AnswersFollowSoFar known p → q ≡ with_rank p q.rank → q.rank.me ≡ p.rank.me → q.rank.ranks ≡ p.rank.ranks → is_stopped q.rank.log ≡ is_stopped p.rank.log → OnlyTakes p.rank.log q.rank.log → AnswersFollowSoFar known q
honest-moved known p q h only me ranks stops takes = rw only (honest-rank known p q.rank h me ranks stops takes)

-- so does an answered step, whose entry, if it adds one, is the log's last
pub honest-closed : (known later : Known) (p : Player) (r : State) (x : StepReport) → (h : AnswersFollowSoFar known p) → Learns p.rank h.place known later → Grew p.rank r → AnswerFollows later r p.done h.place x (length r.log) → (is_stopped r.log ≡ true → EndsAtStop r.log) → AnswersFollowSoFar later (closed p r x)
honest-closed known later p r x h k g a stop = record {
  place = length r.log;
  answers = answers-push later r p.done h.place x (length r.log) (all-grew known later p.rank r [] 0 p.done h.place k g h.answers) a;
  stands = took-none r.log;
  stop = stop;
}

-- an open step is given up
pub honest-left : (known : Known) (p q : Player) → AnswersFollowSoFar known p → GivesUpStep p q → AnswersFollowSoFar known q
honest-left known p q h l =
    let was : StandsOpen known p.rank p.done h.place l.step p.at p.polls = rw l.was_open at h.stands in
    rw l.only (record {
      place = was.next;
      answers = answers-push known p.rank p.done h.place _ was.next h.answers was.left;
      stands = was.took;
      stop = h.stop;
    })

-- a step is skipped
pub honest-skipped : (known : Known) (p : Player) (asked : Step) (q : Player) → AnswersFollowSoFar known p → SkipsStep p asked q → AnswersFollowSoFar known q
honest-skipped known p asked q h s =
    let took : OnlyTook p.rank.log h.place (length p.rank.log) = rw s.none_open at h.stands in
    rw s.only (record {
      place = length p.rank.log;
      answers = answers-push known p.rank p.done h.place (step_report asked Skipped (length p.rank.log) p.polls) (length p.rank.log) h.answers (record {
        old = p.rank;
        new = p.rank;
        stood = stood-now p.rank;
        stood_next = stood-now p.rank;
        onward = omega arith;
        how = by_skip (record { took = took; skipped = refl; only = refl });
      });
      stands = took-none p.rank.log;
      stop = h.stop;
    })

-- a player that starts
pub honest-start : (known : Known) (me n : ℕ) → AnswersFollowSoFar known (start_player me n)
honest-start known me n = record { place = 0; answers = refl; stands = took-none []; stop = λ s. absurd (false≢true s) }

-- a player with no step open has its answers
pub honest-answers : (known : Known) (p : Player) (report : Report) → AnswersFollowSoFar known p → p.current ≡ None → report.rank ≡ p.rank → report.steps ≡ p.done → IsPaired p.rank.log → AnswersFollow known report
honest-answers known p report h none rank steps paired =
    let took : OnlyTook p.rank.log h.place (length p.rank.log) = rw none at h.stands in
    record {
      last = h.place;
      answers = rw (rank, steps) h.answers;
      took = rw rank took;
      stop = rw rank h.stop;
      paired = rw rank paired;
    }
