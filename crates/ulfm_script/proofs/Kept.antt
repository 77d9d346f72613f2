-- What logs keep of entrances and decisions, and that letters are signed, where a rank's answers are right.
use Rattle.std.proofs.Common.{◌≡◌, ℕ, ◌<◌, true, false, List, [], ◌∷◌, ◌++◌, sym, subst, arith, inl, inr, All}
use Rattle.ulfm_rank.specs.Checks.{Passes, adopt_checks, group_at}
use Rattle.ulfm_log.specs.Communicators.{is_made}
use Rattle.ulfm_log.specs.Proposal.{deciders}
use Rattle.ulfm_log.proofs.Belonging.{Keeps, keeps-start, keeps-push, own_from}
use Rattle.ulfm_script.proofs.Common.{Adopted, All-nil, All-push, all_pass, AnswersFollow, Topic, Decision, Entered, Entry, IsTook, Known, known_at, logged, Report, State, StoodAt, Took, not-false, has_entered, is_foreign, ⊤, Some, IsSigned, Fits, RoundsCounted, false≢true}
use Rattle.ulfm_log.proofs.Entering.{rounds_counted}
use Rattle.ulfm_script.proofs.Fitting.{fits_apart, fits_entered}
use Rattle.ulfm_script.proofs.Polls.{answers_plain, opens_adds, adoption_adds}
use Rattle.ulfm_script.proofs.Says.{IsApart}
use Rattle.ulfm_script.proofs.Walked.{KeepsAll, reported}

-- a decision that no check refuses fits
pub fits_adopted : (old : State) (topic : Topic) (held : Decision) → Passes (adopt_checks old topic held) → Fits old.ranks old.me old.log (Adopted held)
fits_adopted old topic held passes =
    let all = all_pass (adopt_checks old topic held) passes in
    let own = own_from old.me (group_at old topic.context.number) old.log topic held all.1.1.1.1.0 in
    let F : Topic → Type 0 = λ t. (is_made old.ranks old.log t.context.number ≡ true) × (has_entered old.log t ≡ true) × (is_foreign old.me (deciders old.ranks old.log t) old.log t held ≡ false) in
    subst F (sym own.about) (not-false (is_made old.ranks old.log topic.context.number) all.1.0, not-false (has_entered old.log topic) all.1.1.1.0, all.1.1.1.1.0)

-- a decision that is known, and that no check refused to the rank r as it stood
pub record Granted (known : Known) (r : State) (held : Decision) : Type 0 where
  pub place : ℕ
  pub old : State
  pub topic : Topic
  pub stood : StoodAt r place old
  pub knows : known_at known topic ≡ Some held
  pub passes : Passes (adopt_checks old topic held)

-- an entry adopts such a decision, if it adopts one
abbrev pub IsGranted : Known → State → Entry → Type 0
IsGranted known r (Adopted held) = Granted known r held
IsGranted known r _ = ⊤

-- an entry that the rank r may add to this log, where its answers are right
pub record MayAdd (known : Known) (r : State) (log : List Entry) (e : Entry) : Type 0 where
  pub fits : Fits r.ranks r.me log e
  pub signed : IsSigned r.me e
  pub granted : IsGranted known r e

took_may : (known : Known) (r : State) (log : List Entry) (e : Entry) → IsTook e → MayAdd known r log e
took_may known r log (Took source item) h = record { fits = tt; signed = tt; granted = tt }
took_may known r log _ h = absurd h

apart_granted : (known : Known) (r : State) (e : Entry) → IsApart e → IsGranted known r e
apart_granted known r (Adopted held) h = absurd h
apart_granted known r _ h = tt

module _ (known : Known) (r : State) (K : List Entry → Type 0) (step : (log : List Entry) (e : Entry) → MayAdd known r log e → K log → K (log ++ e ∷ [])) where
  -- and each agreement that was entered has a number below that of the next one
  abbrev Held : List Entry → Type 0
  Held log = RoundsCounted log × K log

  held : (log : List Entry) (e : Entry) → MayAdd known r log e → Held log → Held (log ++ e ∷ [])
  held log e may h = (rounds_counted r.ranks r.me log e h.0 may.fits, step log e may h.1)

  push : (n : ℕ) (old new : State) (e : Entry) → StoodAt r n old → Fits old.ranks old.me old.log e → IsSigned old.me e → IsGranted known r e → new ≡ logged old e → Held old.log → Held new.log
  push n old new e stood fits signed granted only k = rw only (held old.log e (record { fits = rw (← stood.ranks, ← stood.me) fits; signed = rw (← stood.me) signed; granted = granted }) k)

  each_entry : KeepsAll known r (λ done log. Held log)
  each_entry = record {
    takes = λ done log e took k. held log e (took_may known r log e took) k;
    answers = λ n old new done report stood a k. elim (answers_plain done old report.step report.answer new a) [
      | inl same ↦ rw same.0 k
      | inr one ↦ push n old new one.0 stood (fits_apart old.ranks old.me old.log one.0 one.1.apart) one.1.own.signed (apart_granted known r one.0 one.1.apart) one.2 k
    ];
    opens = λ n old new done asked stood o k. elim (opens_adds done old asked new o) [
      | inl same ↦ rw same k
      | inr entry ↦ push n old new (Entered entry.1.enters.entrance) stood (fits_entered old asked entry.0 new k.0 entry.1) tt tt entry.1.enters.only k
    ];
    adopts = λ n old new done report topic held stood about knows a k. elim (adoption_adds old report.step topic held report.answer new a) [
      | inl same ↦ rw same k
      | inr one ↦ push n old new (Adopted held) stood (fits_adopted old topic held one.0) tt (record { place = n; old = old; topic = topic; stood = stood; knows = knows; passes = one.0 }) one.1 k
    ];
    ends = λ log done report how k. k;
  }

-- what holds at the start, and is kept by each entry that a rank may add, holds of the log of a rank with right answers
pub each_logged : (known : Known) (told : Report) (K : List Entry → Type 0) → ((log : List Entry) (e : Entry) → MayAdd known told.rank log e → K log → K (log ++ e ∷ [])) → K [] → AnswersFollow known told → K told.rank.log
each_logged known told K step start h = (reported known told (λ done log. Held known told.rank K step log) (each_entry known told.rank K step) (λ topic was. absurd (false≢true was), start) h).1

-- a rank with right answers keeps what logs keep of entrances and decisions
pub keeps_of : (n r : ℕ) (known : Known) (told : Report) → AnswersFollow known told → told.rank.ranks ≡ n → told.rank.me ≡ r → r < n → Keeps n r told.rank.log
keeps_of n r known told h counted named inside =
    let low : told.rank.me < told.rank.ranks = omega (arith, inside, counted, named) in
    let all = each_logged known told (Keeps told.rank.ranks told.rank.me) (λ log e may k. keeps-push told.rank.ranks told.rank.me log e k may.fits) (keeps-start told.rank.ranks told.rank.me low) h in
    rw (counted, named) at all

-- the letters that a rank with right answers sent bear its number
pub signed_of : (known : Known) (told : Report) → AnswersFollow known told → All (IsSigned told.rank.me) told.rank.log
signed_of known told h = each_logged known told (All (IsSigned told.rank.me)) (λ log e may k. All-push (IsSigned told.rank.me) log e k may.signed) (All-nil (IsSigned told.rank.me)) h
