-- What a poll by a call makes of a player whose answers are right.
use Rattle.std.proofs.Common.{◌≡◌, ℕ, ◌+◌, ◌-◌, ◌^◌, ◌<◌, min, Bool, true, false, List, [], ◌∷◌, ◌++◌, length, refl, ap, sym, subst, ◌∙◌, arith, inl, inr, length-append, MatchOption, Option, Some, None, slice_get}
use Rattle.ulfm_script.proofs.Common.{is_stop_step, is_stopped, same_Some, Shrink, Agree, EntersBy, Topic, topic_of, is_joint, State, Step, StepReport, Wait, Probe, false≢true, Player, IsCalled, PollAnswers, LeavesOpen, StaysOpen, awaits_decision, step_report}
use Rattle.ulfm_script.specs.Deciding.{Known, HasProposal}
use Rattle.ulfm_script.specs.Answered.{OnlyTook, EntersBetween, StoodAt, by_call, left_by_call, left_undecided}
use Rattle.ulfm_script.specs.inside.SoFar.{EntersSince, Since, Stands, StandsOpen, AnswersFollowSoFar, IsUndecided}
use Rattle.ulfm_script.proofs.Beginnings.{Grew, grew-long, stood-now, stood-before, took-grew, took-none}
use Rattle.ulfm_script.proofs.Honestly.{learns-none, honest-closed}
use Rattle.ulfm_script.proofs.Added.{grew-adds, ends-adds}
use Rattle.ulfm_script.proofs.Polls.{Adds, answers_add, opens_add}
use Rattle.ulfm_script.proofs.Answers.{all-grew}
use Rattle.ulfm_script.proofs.Rounds.{entered-topic, on_topic}

-- what a rank took since its last step, where no step stands open that ranks decide together
took-since : (known : Known) (r : State) (before : List StepReport) (from : ℕ) (current : Option Step) (at polls : ℕ) → Stands known r before from current at polls → awaits_decision current ≡ false → OnlyTook r.log from (length r.log)
took-since known r before from None at polls h free = h
took-since known r before from (Some asked) at polls h free = subst (λ joint. EntersSince joint r asked from) free h.since

-- a poll that answers its step
pub honest-answered : (known : Known) (p : Player) (asked : Step) (q : Player) → AnswersFollowSoFar known p → is_stopped p.rank.log ≡ false → PollAnswers p asked q → AnswersFollowSoFar known q
honest-answered known p asked q h running a =
    let adds : Adds p.rank (is_stop_step asked) a.rank = answers_add p.done p.rank asked a.answer a.rank running a.answers in
    let g : Grew p.rank a.rank = grew-adds p.rank (is_stop_step asked) a.rank adds in
    let took : OnlyTook p.rank.log h.place (length p.rank.log) = took-since known p.rank p.done h.place p.current p.at p.polls h.stands a.first in
    rw a.only (honest-closed known known p a.rank (step_report asked a.answer (length p.rank.log) p.polls) h (learns-none p.rank h.place known) g
    (record {
      old = p.rank;
      new = a.rank;
      stood = stood-before p.rank a.rank g;
      stood_next = stood-now a.rank;
      onward = grew-long p.rank a.rank g;
      how = by_call (record { took = took-grew p.rank.log a.rank.log g.more h.place (length p.rank.log) g.log took; answers = a.answers });
    })
    (ends-adds p.rank (is_stop_step asked) a.rank running adds))

-- what a rank did since its last step, once a call entered its topic
since-entered : (r s : State) (from : ℕ) (asked : Step) (topic : Topic) → OnlyTook r.log from (length r.log) → EntersBy r asked topic s → EntersBetween s asked topic from (length s.log)
since-entered r s from asked topic took e =
    let log : s.log ≡ r.log ++ _ ∷ [] = ap (λ (t : State). t.log) e.enters.only in
    let g : Grew r s = record { me = ap (λ (t : State). t.me) e.enters.only; ranks = ap (λ (t : State). t.ranks) e.enters.only; more = _; log = log } in
    let long : length s.log ≡ length r.log + 1 = omega (arith, ap length log, length-append r.log g.more) in
    record {
      place = length r.log;
      old = r;
      new = s;
      stood = stood-before r s g;
      stood_next = subst (λ n. StoodAt s n s) long (stood-now s);
      enters = e;
      took_before = took-grew r.log s.log g.more from (length r.log) log took;
      took_after = subst (λ n. OnlyTook s.log n (length s.log)) long (took-none s.log);
    }

-- what a rank did since its last step, once a call left the step open
since-opened : (r s : State) (before : List StepReport) (from : ℕ) (asked : Step) → OnlyTook r.log from (length r.log) → LeavesOpen before r asked s → Since s from asked
since-opened r s before from (Wait req) took o = rw o.only took
since-opened r s before from (Probe source tag comm) took o = rw o.2 took
since-opened r s before from (Shrink comm again) took o = (o.0, since-entered r s from (Shrink comm again) o.0 took o.1)
since-opened r s before from (Agree flag comm) took o = (o.0, since-entered r s from (Agree flag comm) o.0 took o.1)
since-opened r s before from _ took o = absurd o

-- a first poll that leaves its step open, or a later one of a wait
stands-opened : (known : Known) (r s : State) (before : List StepReport) (from : ℕ) (asked : Step) (polls : ℕ) → Grew r s → OnlyTook r.log from (length r.log) → LeavesOpen before r asked s → 0 < polls → (is_joint asked ≡ true → polls ≡ 1) → StandsOpen known s before from asked (length r.log) polls
stands-opened known r s before from asked polls g took o some first = record {
  polled = some;
  since = since-opened r s before from asked took o;
  next = length s.log;
  left = record {
    old = r;
    new = s;
    stood = stood-before r s g;
    stood_next = stood-now s;
    onward = grew-long r s g;
    how = left_by_call (record { took = took-grew r.log s.log g.more from (length r.log) g.log took; given_up = refl; opens = o; first = first });
  };
  took = took-none s.log;
}

-- a later poll of a step that ranks decide together, which had no proposal
stands-waiting : (known : Known) (r : State) (before : List StepReport) (from : ℕ) (asked : Step) (topic : Topic) (polls : ℕ) → is_joint asked ≡ true → EntersBetween r asked topic from (length r.log) → (HasProposal r topic → ⊥) → 1 < polls → StandsOpen known r before from asked (length r.log) polls
stands-waiting known r before from asked topic polls joint entered none later = record {
  polled = omega (arith, later);
  since = subst (λ b. EntersSince b r asked from) (sym joint) (topic, entered);
  next = length r.log;
  left = record {
    old = r;
    new = r;
    stood = stood-now r;
    stood_next = stood-now r;
    onward = omega arith;
    how = left_undecided (record { topic = topic; entered = entered; given_up = refl; later = later; undecided = none; only = refl });
  };
  took = took-none r.log;
}

-- the step stands open after a poll that left it so
stands-again : (joint : Bool) (known : Known) (p : Player) (asked : Step) (s : State) (from at : ℕ) → is_joint asked ≡ joint → EntersSince joint p.rank asked from → 0 < p.polls → ((topic : Topic) → topic_of p.rank.log asked ≡ Some topic → HasProposal p.rank topic → ⊥) → StaysOpen joint p.done p.rank asked s →
    StandsOpen known s p.done from asked (length p.rank.log) (min (p.polls + 1) (2 ^ 32 - 1))
stands-again true known p asked s from at is since polled u o =
    rw o (stands-waiting known p.rank p.done from asked since.0 (min (p.polls + 1) (2 ^ 32 - 1)) is since.1 (u since.0 (entered-topic p.rank p.rank asked since.0 from (length p.rank.log) (stood-now p.rank) since.1)) (omega (arith, polled)))
stands-again false known p asked s from at is since polled u o =
    stands-opened known p.rank s p.done from asked (min (p.polls + 1) (2 ^ 32 - 1)) (grew-adds p.rank false s (opens_add false p.done p.rank asked s o)) since o (omega arith)
    (λ joint. absurd (false≢true (sym is ∙ joint)))

stands-polled : (known : Known) (p : Player) (asked : Step) (s : State) (from : ℕ) (current : Option Step) (at : ℕ) → Stands known p.rank p.done from current at p.polls → MatchOption current (p.polls ≡ 0) (λ o. o ≡ asked) → ((topic : Topic) → current ≡ Some asked → topic_of p.rank.log asked ≡ Some topic → HasProposal p.rank topic → ⊥) → StaysOpen (awaits_decision current) p.done p.rank asked s →
    StandsOpen known s p.done from asked (length p.rank.log) (min (p.polls + 1) (2 ^ 32 - 1))
stands-polled known p asked s from None at h m u o =
    stands-opened known p.rank s p.done from asked (min (p.polls + 1) (2 ^ 32 - 1)) (grew-adds p.rank false s (opens_add false p.done p.rank asked s o)) h o (omega arith) (λ _. omega (arith, m))
stands-polled known p asked s from (Some old) at h m u o =
    let since : EntersSince (is_joint asked) p.rank asked from = subst (λ a. EntersSince (is_joint a) p.rank a from) m h.since in
    let stays : StaysOpen (is_joint asked) p.done p.rank asked s = subst (λ a. StaysOpen (is_joint a) p.done p.rank asked s) m o in
    stands-again (is_joint asked) known p asked s from at refl since h.polled (u' m) stays
  where
    u' : old ≡ asked → (topic : Topic) → topic_of p.rank.log asked ≡ Some topic → HasProposal p.rank topic → ⊥
    u' e topic about = u topic (ap (λ (a : Step). Some a) e) about

-- the step that stands open is the one that comes next
matches : (script : List Step) (k turns polls : ℕ) (current : Option Step) (asked : Step) → MatchOption current (polls ≡ 0) (λ s. (slice_get script k ≡ Some s) × (polls < turns)) → slice_get script k ≡ Some asked → MatchOption current (polls ≡ 0) (λ o. o ≡ asked)
matches script k turns polls None asked h next = h
matches script k turns polls (Some s) asked h next = same_Some s asked (sym h.0 ∙ next)

-- an open step that ranks decide together, and that has a proposal
undecided : {p : Player} {asked : Step} {topic : Topic} → IsUndecided p → p.current ≡ Some asked → topic_of p.rank.log asked ≡ Some topic → HasProposal p.rank topic → ⊥
undecided {p} {asked} {topic} u e about pr = u topic.context (record { asked = asked; waits = e; on = on_topic p.rank.log asked topic about; ready = record { topic = topic; about = about; proposes = pr } })

-- one poll by a call, of the step that stands open, or of one where none does
pub honest-polled : (known : Known) (p : Player) (asked : Step) (q : Player) → AnswersFollowSoFar known p → is_stopped p.rank.log ≡ false → MatchOption p.current (p.polls ≡ 0) (λ o. o ≡ asked) → IsUndecided p → IsCalled p asked q → AnswersFollowSoFar known q
honest-polled known p asked q h running current u (inl a) = honest-answered known p asked q h running a
honest-polled known p asked q h running current u (inr o) =
    let adds : Adds p.rank false o.rank = opens_add (awaits_decision p.current) p.done p.rank asked o.rank o.stays in
    rw o.only (record {
      place = h.place;
      answers = all-grew known known p.rank o.rank [] 0 p.done h.place (learns-none p.rank h.place known) (grew-adds p.rank false o.rank adds) h.answers;
      stands = stands-polled known p asked o.rank h.place p.current p.at h.stands current (λ topic e about pr. undecided u e about pr) o.stays;
      stop = ends-adds p.rank false o.rank running adds;
    })

-- of one that comes next in a script
pub honest-called : (known : Known) (script : List Step) (turns : ℕ) (p : Player) (asked : Step) (q : Player) → AnswersFollowSoFar known p → is_stopped p.rank.log ≡ false → MatchOption p.current (p.polls ≡ 0) (λ s. (slice_get script (length p.done) ≡ Some s) × (p.polls < turns)) → slice_get script (length p.done) ≡ Some asked → IsUndecided p → IsCalled p asked q → AnswersFollowSoFar known q
honest-called known script turns p asked q h running current next u called = honest-polled known p asked q h running (matches script (length p.done) turns p.polls p.current asked current next) u called
