-- A rank at work.
use Rattle.std.proofs.Common.{◌≡◌, ℕ, ◌+◌, ◌-◌, ◌<◌, true, false, List, length, map, refl, ap, sym, subst, ◌∙◌, arith, Bool, inl, inr, ◌⊎◌, All}
use Rattle.ulfm_answer.specs.declared.answer.StepReport.{StepReport}
use Rattle.ulfm_script.specs.Meant.{played_script}
use Rattle.ulfm_script.specs.Script.{reported_step, through_stop, GivesUpRightly, IsPatient, HasFinished}
use Rattle.ulfm_rank.specs.inside.Quiet.{Quiet}
use Rattle.ulfm_rank.proofs.Joining.{joined-quiet}
use Rattle.ulfm_rank.proofs.Quiet.{quiet-same}
use Rattle.ulfm_answer.specs.Reacting.{SkipsRightly}
use Rattle.ulfm_script.proofs.Reacting.{finished-running, finished-stopped, goes-rank}
use Rattle.ulfm_run.proofs.Common.{GoesThrough, is_stopped, IsPlayed, Item, Known, Player, polls_left, Report, State, PlayerView, with_rank, false≢true, IsJoined, Moves, Polls, SkipsOn, IsAtWork, honest-moved, Step, JobView, script_at, AnswersFollowSoFar}
use Rattle.ulfm_run.specs.inside.Turns.{IsOver, WentOn, IsAsFar, Keeps, Carries, keeps-then}

-- a player that stopped, or has no step left, answered its script
pub has-answered : {job : JobView} {me : ℕ} {p : Player} → GoesThrough job me p → IsOver (script_at job me) p → HasFinished job me p
has-answered {p} h over = elim (stops (is_stopped p.rank.log) refl) [
  | inl stopped ↦ finished-stopped h stopped
  | inr running ↦ finished-running h running (elim over [ inl stopped ↦ absurd (false≢true (sym running ∙ stopped)) | inr k ↦ k ])
]
  where
    stops : (b : Bool) → is_stopped p.rank.log ≡ b → (is_stopped p.rank.log ≡ true) ⊎ (is_stopped p.rank.log ≡ false)
    stops true e = inl e
    stops false e = inr e

-- what a rank took and what went out leaves as many polls
as-far : (script : List Step) (turns : ℕ) (u v : Player) → v ≡ with_rank u v.rank → is_stopped v.rank.log ≡ is_stopped u.rank.log → IsAsFar script turns u v
as-far script turns u v only stops =
    let done : length v.done ≡ length u.done = ap (λ (p : Player). length p.done) only in
    record {
      left = ap (polls_left script turns) only;
      over = λ o. elim o [ inl e ↦ inl (stops ∙ e) | inr k ↦ inr (omega (arith, k, done)) ];
      was_over = λ o. elim o [ inl e ↦ inl (sym stops ∙ e) | inr k ↦ inr (omega (arith, k, done)) ];
    }

-- and a poll after it goes as one before
pub went-after : {script : List Step} {turns : ℕ} (b : Bool) {u v : Player} (w : Player) → IsAsFar script turns u v → WentOn script turns v w b → WentOn script turns u w b
went-after true w far h = (λ over. h.0 (far.over over), omega (arith, h.1, far.left))
went-after false w far h = (h.0, omega (arith, h.1, far.left))

-- what is over stays so
pub stays-over : (script : List Step) (turns : ℕ) (b : Bool) (u v : Player) → IsOver script u → WentOn script turns u v b → IsOver script v
stays-over script turns true u v over h = absurd (h.0 over)
stays-over script turns false u v over h = h.0

-- a rank that runs and has a poll left isn't over
pub not-over : (script : List Step) (turns : ℕ) (p : Player) {n : ℕ} → is_stopped p.rank.log ≡ false → n < polls_left script turns p → ¬ IsOver script p
not-over script turns p running falls over = elim over [
  | inl e ↦ false≢true (sym running ∙ e)
  | inr k ↦
      let none : length script - length p.done ≡ 0 = omega (arith, k) in
      omega (arith, rw none at falls)
]

-- what moves leaves the answers right
pub honest-went : {E N : Type 0} {name : E → N} {place count : E → ℕ} {pushed taken : E → ℕ → List Item} {ready : E → Type 0} (known : Known) (v w : PlayerView) (e f : E) → Moves name place count pushed taken ready v e w f → AnswersFollowSoFar known v.player → AnswersFollowSoFar known w.player
honest-went known v w e f m h = honest-moved known v.player w.player h m.only m.me m.ranks m.stops m.takes

-- what takes nothing, and lets nothing go out, keeps the rank at work
at-work-quiet : {E : Type 0} {place count : E → ℕ} {pushed taken : E → ℕ → List Item} {ready : E → Type 0} {job : JobView} {me : ℕ} {v w : PlayerView} {e : E} → IsAtWork place count pushed taken ready job me v e → Quiet v.player.rank w.player.rank → GoesThrough job me w.player → w.room + length w.player.done ≡ v.room + length v.player.done → IsAtWork place count pushed taken ready job me w e
at-work-quiet {w} h q follows room =
    record {
      joined = joined-quiet w.player.rank h.joined q;
      named = q.calm.me ∙ h.named;
      counted = q.calm.ranks ∙ h.counted;
      follows = follows;
      room = omega (arith, h.room, room);
    }

-- so a poll does
pub at-work-polled : {E : Type 0} {place count : E → ℕ} {pushed taken : E → ℕ → List Item} {ready : E → Type 0} {job : JobView} {me : ℕ} {v w : PlayerView} {e : E} → IsAtWork place count pushed taken ready job me v e → Polls job me v w → IsAtWork place count pushed taken ready job me w e
at-work-polled h p = at-work-quiet h p.quiet p.follows p.room

-- and so do steps that are skipped
pub at-work-skipped : {E : Type 0} {place count : E → ℕ} {pushed taken : E → ℕ → List Item} {ready : E → Type 0} {job : JobView} {me : ℕ} {v w : PlayerView} {e : E} → IsAtWork place count pushed taken ready job me v e → SkipsOn job me v w → IsAtWork place count pushed taken ready job me w e
at-work-skipped {v} h s = at-work-quiet h (subst (Quiet v.player.rank) (sym s.same_rank) (quiet-same v.player.rank h.joined.sound)) s.follows s.room

module _ {E N : Type 0} {name : E → N} {place count : E → ℕ} {pushed taken : E → ℕ → List Item} {ready : E → Type 0} {job : JobView} {me : ℕ} where
  -- what moves between a player and its end keeps the rank at work
  pub at-work-moved : (v w : PlayerView) (e f : E) → IsAtWork place count pushed taken ready job me v e → Moves name place count pushed taken ready v e w f → IsAtWork place count pushed taken ready job me w f
  at-work-moved v w e f h m =
      record {
        joined = m.joined;
        named = m.me ∙ h.named;
        counted = m.ranks ∙ h.counted;
        follows = subst (GoesThrough job me) (sym m.only) (goes-rank w.player.rank m.stops h.follows);
        room = omega (arith, h.room, m.room, ap (λ (p : Player). length p.done) m.only);
      }

  -- so items that move are carried
  pub carried : {D B : Type 0} {board : D → B} {known : D → Known} {v w : PlayerView} {e f : E} {d : D} → Moves name place count pushed taken ready v e w f → Carries name place count pushed taken ready board known job me v e d w f d
  carried {known = known} {v} {w} {e} {f} {d} m = record {
    keeps = record { at_work = λ h. at-work-moved v w e f h m; same_end = m.same_end; same_board = refl; honest = honest-went (known d) v w e f m };
    as_far = as-far (script_at job me) job.turns v.player w.player m.only m.stops;
  }

  -- what keeps the rank at work is followed by what does so too, and what holds at a job and a number holds at equal ones
  pub goes-on : {D B : Type 0} {board : D → B} {known : D → Known} {i : JobView} {s : ℕ} {u v w : PlayerView} {e f g : E} {c d b : D} (P : JobView → ℕ → Type 0) → i ≡ job → s ≡ me → Keeps name place count pushed taken ready board known job me u e c v f d → Keeps name place count pushed taken ready board known i s v f d w g b → P i s →
      Keeps name place count pushed taken ready board known job me u e c w g b × P job me
  goes-on {board = board} {known = known} {i} {u} {v} {w} {e} {f} {g} {c} {d} {b} P at_job at_rank h keeps holds =
      let K : JobView → ℕ → Type 0 = λ (j : JobView) r. Keeps name place count pushed taken ready board known j r v f d w g b × P j r in
      let k = subst (λ (j : JobView). K j me) at_job (subst (λ r. K i r) at_rank (keeps, holds)) in
      (keeps-then name place count pushed taken ready board known job me u v w e f g c d b h k.0, k.1)

  -- what keeps the rank at work leaves it at work, at an equal job and number
  pub works-on : {D B : Type 0} {board : D → B} {known : D → Known} {i : JobView} {s : ℕ} {v w : PlayerView} {e f : E} {d b : D} → i ≡ job → s ≡ me → Keeps name place count pushed taken ready board known job me v e d w f b → IsAtWork place count pushed taken ready job me v e → IsAtWork place count pushed taken ready i s w f
  works-on {i = i} {w = w} {f = f} at_job at_rank keeps h =
      let W : JobView → ℕ → Type 0 = λ (j : JobView) r. IsAtWork place count pushed taken ready j r w f in
      subst (λ r. W i r) (sym at_rank) (subst (λ (j : JobView). W j me) (sym at_job) (keeps.at_work h))

  -- a turn: its parts before the poll, and the poll
  pub turned : {D B : Type 0} {board : D → B} {known : D → Known} {i : JobView} (s : ℕ) {u v w : PlayerView} {e f g : E} {c d b : D} (p : Bool) → i ≡ job → s ≡ me → Carries name place count pushed taken ready board known job me u e c v f d → Keeps name place count pushed taken ready board known i s v f d w g b → WentOn (script_at i s) i.turns v.player w.player p → WentOn (script_at job me) job.turns u.player w.player p
  turned s {v = v} {w} p at_job at_rank h polls went = went-after p w.player h.as_far (goes-on (λ (j : JobView) r. WentOn (script_at j r) j.turns v.player w.player p) at_job at_rank h.keeps polls went).1

  -- what was played is reported
  pub played : (v : PlayerView) (first : E) {e : E} (report : Report) → place first ≡ me → name e ≡ name first → IsAtWork place count pushed taken ready job me v e → HasFinished job me v.player → report.rank ≡ v.player.rank → report.steps ≡ v.player.done → IsPlayed name place count pushed taken ready job first report e
  played v first {e} report at same h answered rank steps =
      record {
        same_end = same;
        joined = subst (λ (r : State). IsJoined place count pushed taken ready r e) (sym rank) h.joined;
        named = ap (λ (r : State). r.me) rank ∙ h.named ∙ sym at;
        counted = ap (λ (r : State). r.ranks) rank ∙ h.counted;
        steps = ap (map reported_step) steps ∙ answered.steps ∙ ap (λ (xs : List StepReport). through_stop xs (played_script job me xs)) (sym steps) ∙ ap (λ i. through_stop report.steps (played_script job i report.steps)) (sym at);
        patient = subst (λ (xs : List StepReport). All (IsPatient job.turns) xs) (sym steps) answered.patient;
        gives = subst (λ i. GivesUpRightly job i report.steps) (sym at) (subst (GivesUpRightly job me) (sym steps) answered.gives);
        skips = subst (λ i. SkipsRightly job.conditions i report.steps) (sym at) (subst (SkipsRightly job.conditions me) (sym steps) answered.skips);
      }
