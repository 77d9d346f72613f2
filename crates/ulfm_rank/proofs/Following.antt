-- The parts of a rank follow its log through one more entry.
use Rattle.ulfm_base.specs.Table.{count_at}
use Rattle.std.proofs.Common.{◌≡◌, ℕ, suc, Bool, true, false, cond, eqb, List, [], ◌∷◌, ◌++◌, refl, ap, sym, ◌∙◌, Option, Some, append-nil, ◌||◌}
use Rattle.ulfm_rank.proofs.Common.{Context, Letter, WorldRank, Entrance, Decision, nth_dup, decided_comm, CommunicatorsView, dups_of, Entry, Sent, Acknowledged, Revoked, Duplicated, Entered, Adopted, Stopped, Request, find_group, is_stop, is_stopped, is_revoked, Follows, Box, for_each, AllGrow, Matching, TracksRevocation, or-false, passed_on, announced, FaultState, acknowledged_in, is_revoked_in}
use Rattle.ulfm_base.specs.declared.item.Item.TheVariants.{Letter as Mail}
use Rattle.ulfm_rank.proofs.Adoptable.{communicators-adopted}
use Rattle.ulfm_log.proofs.Gather.{any-push}
use Rattle.ulfm_log.proofs.Held.{outboxes-grown, outboxes-quiet}
use Rattle.ulfm_rank.proofs.InStep.{in_step_quiet, in_step_revoked}
use Rattle.ulfm_rank.proofs.Known.{acknowledged-push, known-push, faults_quiet, faults_revoked}
use Rattle.ulfm_log.proofs.Made.{communicators-quiet, communicators-duplicated}

or_true : (b : Bool) → b || true ≡ true
or_true true = refl
or_true false = refl

module _ {n me : ℕ} {log : List Entry} {stopped : Bool} {m : Matching} {find : ℕ → Option Request} {facts : FaultState} {comms : CommunicatorsView} {boxes : List Box} (f : Follows n me log stopped m find facts comms boxes) where
  pub runs_on : (x : Entry) → is_stop x ≡ false → stopped ≡ is_stopped (log ++ x ∷ [])
  runs_on x h = f.halted ∙ sym (any-push is_stop log x ∙ (ap (λ b. is_stopped log || b) h ∙ or-false (is_stopped log)))

  -- a letter was accepted
  pub follows_sent : (to : WorldRank) (letter : Letter) (boxes' : List Box) → AllGrow boxes boxes' (for_each (eqb to.number) (Mail letter)) → Follows n me (log ++ Sent to letter ∷ []) stopped m find facts comms boxes'
  follows_sent to letter boxes' grows = record {
    small = f.small;
    halted = runs_on (Sent to letter) refl;
    in_step = in_step_quiet f.in_step (Sent to letter) refl (λ k. refl);
    faults = faults_quiet (Sent to letter) f.faults (λ k. refl) (λ c k. refl) (λ c. refl);
    communicators = communicators-quiet (Sent to letter) f.communicators (λ k. refl) (λ c k. refl);
    outboxes = outboxes-grown (Sent to letter) f.outboxes grows;
  }

  -- a topic was entered
  pub follows_entered : (entrance : Entrance) (boxes' : List Box) → AllGrow boxes boxes' (announced n me log entrance) → Follows n me (log ++ Entered entrance ∷ []) stopped m find facts comms boxes'
  follows_entered entrance boxes' grows = record {
    small = f.small;
    halted = runs_on (Entered entrance) refl;
    in_step = in_step_quiet f.in_step (Entered entrance) refl (λ k. refl);
    faults = faults_quiet (Entered entrance) f.faults (λ k. refl) (λ c k. refl) (λ c. refl);
    communicators = communicators-quiet (Entered entrance) f.communicators (λ k. refl) (λ c k. refl);
    outboxes = outboxes-grown (Entered entrance) f.outboxes grows;
  }

  -- a communicator was duplicated
  pub follows_duplicated : (context : Context) (group : List ℕ) (k : ℕ) (comms' : CommunicatorsView) → find_group context.number comms.made ≡ Some group → k ≡ dups_of log context.number → comms'.made ≡ comms.made ++ (nth_dup k context.number, group) ∷ []
      → ((c : ℕ) → count_at comms'.dups c ≡ cond (eqb context.number c) (suc k) (count_at comms.dups c)) → Follows n me (log ++ Duplicated context k ∷ []) stopped m find facts comms' boxes
  follows_duplicated context group k comms' found next longer counted = record {
    small = f.small;
    halted = runs_on (Duplicated context k) refl;
    in_step = in_step_quiet f.in_step (Duplicated context k) refl (λ k. refl);
    faults = faults_quiet (Duplicated context k) f.faults (λ k. refl) (λ c k. refl) (λ c. refl);
    communicators = communicators-duplicated context group k f.communicators found next longer counted;
    outboxes = outboxes-quiet (Duplicated context k) f.outboxes (λ d. refl);
  }

  -- a decision was adopted
  pub follows_adopted : (d : Decision) (comms' : CommunicatorsView) → find_group d.topic.context.number comms.made ≡ Some d.old → comms'.made ≡ comms.made ++ decided_comm d.topic.purpose d.topic.context.number d.fresh → comms'.dups ≡ comms.dups
      → Follows n me (log ++ Adopted d ∷ []) stopped m find facts comms' boxes
  follows_adopted d comms' found longer same = record {
    small = f.small;
    halted = runs_on (Adopted d) refl;
    in_step = in_step_quiet f.in_step (Adopted d) refl (λ k. refl);
    faults = faults_quiet (Adopted d) f.faults (λ k. refl) (λ c k. refl) (λ c. refl);
    communicators = communicators-adopted d f.communicators found longer same;
    outboxes = outboxes-quiet (Adopted d) f.outboxes (λ d. refl);
  }

  -- failures were acknowledged
  pub follows_acknowledged : (context : Context) (total : ℕ) (facts' : FaultState) → ((c : ℕ) → acknowledged_in facts' c ≡ cond (eqb context.number c) total (acknowledged_in facts c)) → facts'.known ≡ facts.known → facts'.revoked ≡ facts.revoked → Follows n me (log ++ Acknowledged context total ∷ []) stopped m find facts' comms boxes
  follows_acknowledged context total facts' a k r = record {
    small = f.small;
    halted = runs_on (Acknowledged context total) refl;
    in_step = in_step_quiet f.in_step (Acknowledged context total) refl (λ k. refl);
    faults =
        let quiet = f.faults in
        record {
          knows = k ∙ (quiet.knows ∙ sym (known-push log (Acknowledged context total) ∙ append-nil _));
          acknowledges = λ c. a c ∙ (ap (cond (eqb context.number c) total) (quiet.acknowledges c) ∙ sym (acknowledged-push c log (Acknowledged context total)));
          marks = λ c. ap (λ xs. is_revoked_in (record facts { revoked = xs }) c) r ∙ (quiet.marks c ∙ sym (any-push _ log (Acknowledged context total) ∙ or-false (is_revoked log c)));
        };
    communicators = communicators-quiet (Acknowledged context total) f.communicators (λ k. refl) (λ c k. refl);
    outboxes = outboxes-quiet (Acknowledged context total) f.outboxes (λ d. refl);
  }

  -- a context was revoked for the first time by the rank itself
  pub follows_revoked : (context : Context) (m' : Matching) (find' : ℕ → Option Request) (facts' : FaultState) (boxes' : List Box) → is_revoked log context.number ≡ false → TracksRevocation context.number m find m' find'
      → ((c : ℕ) → is_revoked_in facts' c ≡ cond (eqb context.number c) true (is_revoked_in facts c)) → facts'.known ≡ facts.known → facts'.acknowledged ≡ facts.acknowledged
      → AllGrow boxes boxes' (passed_on me log context) → Follows n me (log ++ Revoked context ∷ []) stopped m' find' facts' comms boxes'
  follows_revoked context m' find' facts' boxes' first tracks marks k a grows = record {
    small = f.small;
    halted = runs_on (Revoked context) refl;
    in_step = in_step_revoked f.in_step context first m' find' tracks;
    faults = faults_revoked facts' (Revoked context) context.number f.faults (λ k. refl) (λ c k. refl) (λ c. refl) marks k a;
    communicators = communicators-quiet (Revoked context) f.communicators (λ k. refl) (λ c k. refl);
    outboxes = outboxes-grown (Revoked context) f.outboxes grows;
  }

  -- the rank stopped
  pub follows_stopped : Follows n me (log ++ Stopped ∷ []) true m find facts comms boxes
  follows_stopped = record {
    small = f.small;
    halted = sym (any-push is_stop log Stopped ∙ or_true (is_stopped log));
    in_step = in_step_quiet f.in_step Stopped refl (λ k. refl);
    faults = faults_quiet Stopped f.faults (λ k. refl) (λ c k. refl) (λ c. refl);
    communicators = communicators-quiet Stopped f.communicators (λ k. refl) (λ c k. refl);
    outboxes = outboxes-quiet Stopped f.outboxes (λ d. refl);
  }
