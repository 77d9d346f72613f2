-- All parts of a rank follow the log, call by call.
use Rattle.std.proofs.Common.{◌≡◌, ℕ, ◌+◌, ◌<◌, ◌≤◌, Bool, true, false, cond, List, [], ◌∷◌, ◌++◌, length, map, replicate, refl, ap, sym, ◌∙◌, Option, Some, None, arith, nat_eq, ◌^◌}
use Rattle.ulfm_rank.proofs.Common.{Item, Pattern, WorldRank, numbers_from, Entry, Posted, Released, Probed, Received, Cancelled, Took, Fate, Request, Follows, IsInStep, IsOfGroup, events_by, history_of, is_stop, newly_known, acknowledged_by, revokes, made_by, owed_by, false≢true, HasFaults, names_known, was_revoked_in, State, no_mark, Matching, Tracks, Adds, Removes, TracksAdmit, TracksItem, owed_by_item, Box, empty_box, mark_of, AllGrow, lookup, get, index_map_len, Holds, CommunicatorsView, HasSame, dups_by, FaultState, KnowsSame, acknowledged_in, is_revoked_in}
use Rattle.ulfm_rank.specs.declared.rank.Rank.TheInside.{Inside}
use Rattle.ulfm_log.specs.State.{start_state_with}
use Rattle.ulfm_rank.proofs.Following.{runs_on}
use Rattle.ulfm_log.proofs.Held.{outboxes-grown, outboxes-quiet, outboxes-start, marks-start}
use Rattle.ulfm_rank.proofs.InStep.{in_step_start, in_step_same, in_step_posted, in_step_took}
use Rattle.ulfm_rank.proofs.Known.{faults_start, faults_quiet, faults_same, knows_itself, known_named, marked_before}
use Rattle.ulfm_log.proofs.Sifted.{told_same}
use Rattle.ulfm_log.specs.Decisive.{CountsSame}
use Rattle.ulfm_log.proofs.Counts.{rounds_itself}
use Rattle.ulfm_log.proofs.Made.{communicators-quiet, communicators-same, communicators-start}
use Rattle.ulfm_rank.proofs.Release.{IsRelease, in_step_released}

-- an entry is about receives and messages alone
abbrev pub is_of_requests : Entry → Bool
is_of_requests (Posted p) = true
is_of_requests (Released id a) = true
is_of_requests (Probed id p) = true
is_of_requests (Received id a) = true
is_of_requests (Cancelled id) = true
is_of_requests _ = false

pub follows_start : (n me : ℕ) (matcher : Matching) (find : ℕ → Option Request) (facts : FaultState) (comms : CommunicatorsView) (boxes : List Box)
    → n ≤ 8 → me < n → Tracks [] [] matcher → ((k : ℕ) → find k ≡ None) → facts.known ≡ [] → ((c : ℕ) → acknowledged_in facts c ≡ 0) → ((c : ℕ) → is_revoked_in facts c ≡ false)
    → comms.made ≡ (0, numbers_from 0 n) ∷ [] → comms.dups ≡ [] → boxes ≡ replicate n empty_box → Follows n me [] false matcher find facts comms boxes
follows_start n me matcher find facts comms boxes small inside tracks none known acknowledged marked cs ds bs = record {
  small = small;
  halted = refl;
  in_step = in_step_start n matcher find tracks none;
  faults = faults_start facts known acknowledged marked;
  communicators = communicators-start n comms cs ds;
  outboxes = rw bs (outboxes-start n me inside);
}

pub state_start : (n me : ℕ) (log : List Entry) (boxes : List Box) (keeps wanted : Bool) → log ≡ [] → boxes ≡ replicate n empty_box → keeps ≡ wanted → ◌≡◌ {A = State} (record { me = me; ranks = n; log = log; marks = map mark_of boxes; keeps = keeps }) (start_state_with wanted me n)
state_start n me log boxes keeps wanted l b k = let m : map mark_of boxes ≡ replicate n no_mark = ap (map mark_of) b ∙ marks-start n in cc

module _ {n me : ℕ} {log : List Entry} {stopped : Bool} {matcher : Matching} {find : ℕ → Option Request} {facts : FaultState} {comms : CommunicatorsView} {boxes : List Box} (held : Follows n me log stopped matcher find facts comms boxes) where
  -- room plays no part
  pub follows_same : (matcher' : Matching) (find' : ℕ → Option Request) (boxes' : List Box) → matcher'.waiting ≡ matcher.waiting → matcher'.kept ≡ matcher.kept → matcher'.count ≡ matcher.count → matcher'.cleared ≡ matcher.cleared → ((k : ℕ) → find' k ≡ find k) → boxes' ≡ boxes → Follows n me log stopped matcher' find' facts comms boxes'
  follows_same matcher' find' boxes' ew ek ec em ef eb = record {
    small = held.small;
    halted = held.halted;
    in_step = in_step_same held.in_step matcher' find' ew ek ec em ef;
    faults = held.faults;
    communicators = held.communicators;
    outboxes = rw eb held.outboxes;
  }

  follows_quiet : (x : Entry) → is_stop x ≡ false → ((known : List ℕ) → newly_known known x ≡ []) → ((c k : ℕ) → acknowledged_by c k x ≡ k) → ((c : ℕ) → revokes c x ≡ false)
      → ((found : List (ℕ × List ℕ)) → made_by found x ≡ []) → ((c k : ℕ) → dups_by c k x ≡ k) → ((d : ℕ) → owed_by n me d log x ≡ [])
      → {matcher' : Matching} {find' : ℕ → Option Request} → IsInStep n (log ++ x ∷ []) matcher' find' → Follows n me (log ++ x ∷ []) stopped matcher' find' facts comms boxes
  follows_quiet x runs knows acknowledges marks makes counts owes step = record {
    small = held.small;
    halted = runs_on held x runs;
    in_step = step;
    faults = faults_quiet x held.faults knows acknowledges marks;
    communicators = communicators-quiet x held.communicators makes counts;
    outboxes = outboxes-quiet x held.outboxes owes;
  }

  -- an entry about receives and messages alone
  pub follows_requests : (x : Entry) → is_of_requests x ≡ true → {matcher' : Matching} {find' : ℕ → Option Request} → IsInStep n (log ++ x ∷ []) matcher' find' → Follows n me (log ++ x ∷ []) stopped matcher' find' facts comms boxes
  follows_requests (Posted p) is step = follows_quiet (Posted p) refl (λ k. refl) (λ c k. refl) (λ c. refl) (λ f. refl) (λ c k. refl) (λ d. refl) step
  follows_requests (Released id a) is step = follows_quiet (Released id a) refl (λ k. refl) (λ c k. refl) (λ c. refl) (λ f. refl) (λ c k. refl) (λ d. refl) step
  follows_requests (Probed id p) is step = follows_quiet (Probed id p) refl (λ k. refl) (λ c k. refl) (λ c. refl) (λ f. refl) (λ c k. refl) (λ d. refl) step
  follows_requests (Received id a) is step = follows_quiet (Received id a) refl (λ k. refl) (λ c k. refl) (λ c. refl) (λ f. refl) (λ c k. refl) (λ d. refl) step
  follows_requests (Cancelled id) is step = follows_quiet (Cancelled id) refl (λ k. refl) (λ c k. refl) (λ c. refl) (λ f. refl) (λ c k. refl) (λ d. refl) step
  follows_requests _ is step = absurd (false≢true is)

  -- a receive is posted
  pub follows_posted : (p : Pattern) → IsOfGroup n log p → (o : Fate) (matcher' : Matching) (find' : ℕ → Option Request) → TracksAdmit (names_known facts p.source) p matcher o matcher' → Adds matcher.count (record { pattern = p; fate = o }) find find' → Follows n me (log ++ Posted p ∷ []) stopped matcher' find' facts comms boxes
  follows_posted p of o matcher' find' tracks adds =
      follows_requests (Posted p) refl (in_step_posted held.in_step p of o matcher' find' (rw (sym (known_named held.faults p.source)) tracks) adds)

  -- a request or a message is released by an entry that gives no event
  pub follows_released : (x : Entry) → is_of_requests x ≡ true → (id : ℕ) → IsRelease id x → events_by log (history_of log) x ≡ [] → (request : Request) → find id ≡ Some request → (find' : ℕ → Option Request) → Removes id find find' → Follows n me (log ++ x ∷ []) stopped matcher find' facts comms boxes
  follows_released x is id release quiet request found find' removes = follows_requests x is (in_step_released held.in_step x id release quiet request found find' removes)

  -- an item is taken
  pub follows_took : (s : WorldRank) (item : Item) (matcher' : Matching) (find' : ℕ → Option Request) (facts' : FaultState) (boxes' : List Box) → TracksItem (was_revoked_in facts item) s.number item matcher find matcher' find' → HasFaults (log ++ Took s item ∷ []) facts' → AllGrow boxes boxes' (λ d. owed_by_item me log d item)
      → Follows n me (log ++ Took s item ∷ []) stopped matcher' find' facts' comms boxes'
  follows_took s item matcher' find' facts' boxes' tracks knows grows = record {
    small = held.small;
    halted = runs_on held (Took s item) refl;
    in_step = in_step_took held.in_step s item matcher' find' (rw (sym (marked_before held.faults item)) tracks);
    faults = knows;
    communicators = communicators-quiet (Took s item) held.communicators (λ f. refl) (λ c k. refl);
    outboxes = outboxes-grown (Took s item) held.outboxes grows;
  }

-- other room plays no part
pub follows_facts : {n me : ℕ} {log : List Entry} {stopped : Bool} {matcher : Matching} {find : ℕ → Option Request} {facts : FaultState} {comms : CommunicatorsView} {boxes : List Box} (facts' : FaultState) → KnowsSame facts facts' → Follows n me log stopped matcher find facts comms boxes → Follows n me log stopped matcher find facts' comms boxes
follows_facts facts' same held = record {
  small = held.small;
  halted = held.halted;
  in_step = held.in_step;
  faults = faults_same facts' same held.faults;
  communicators = held.communicators;
  outboxes = held.outboxes;
}

-- other room of communicators plays no part
pub follows_comms : {n me : ℕ} {log : List Entry} {stopped : Bool} {matcher : Matching} {find : ℕ → Option Request} {facts : FaultState} {comms : CommunicatorsView} {boxes : List Box} (comms' : CommunicatorsView) → HasSame comms comms' → Follows n me log stopped matcher find facts comms boxes → Follows n me log stopped matcher find facts comms' boxes
follows_comms comms' same held = record {
  small = held.small;
  halted = held.halted;
  in_step = held.in_step;
  faults = held.faults;
  communicators = communicators-same comms' same held.communicators;
  outboxes = held.outboxes;
}

-- the same communicators are there
pub comms_itself : {a b : CommunicatorsView} → b ≡ a → HasSame a b
comms_itself e = record { made = ap (λ (c : CommunicatorsView). c.made) e; dups = ap (λ (c : CommunicatorsView). c.dups) e }

-- other room that is enough plays no part
pub holds_copied : (a : Inside) {b : Inside} → Holds a → b.me ≡ a.me → b.ranks ≡ a.ranks → b.stopped ≡ a.stopped → KnowsSame a.faults b.faults → HasSame a.communicators b.communicators
    → b.matcher.waiting ≡ a.matcher.waiting → b.matcher.kept ≡ a.matcher.kept → b.matcher.count ≡ a.matcher.count → b.matcher.cleared ≡ a.matcher.cleared → b.requests.entries ≡ a.requests.entries → b.outboxes.boxes ≡ a.outboxes.boxes
    → b.log.items ≡ a.log.items → b.told.items ≡ a.told.items → CountsSame a.rounds b.rounds → length a.log.items + (index_map_len a.requests + cond a.stopped 0 1) ≤ b.log.capacity → b.log.capacity < 2 ^ 63 → Holds b
holds_copied a {b} h me ranks stopped faults comms waiting kept count cleared entries boxes items told rounds room countable = record {
  follows = rw (me, ranks, stopped, items) (follows_comms b.communicators comms (follows_facts b.faults faults (follows_same h.follows b.matcher (get nat_eq b.requests) b.outboxes.boxes waiting kept count cleared (λ k. ap (lookup (nat_eq k)) entries) boxes)));
  tells = rw (items, told) (told_same b.rounds h.tells rounds);
  countable = countable;
  places =
      let same : index_map_len b.requests ≡ index_map_len a.requests = ap length entries in
      rw stopped (omega (arith, same, ap length items, room));
}

-- more room plays no part
pub holds_roomy : (a : Inside) {b : Inside} → Holds a → b.me ≡ a.me → b.ranks ≡ a.ranks → b.stopped ≡ a.stopped → KnowsSame a.faults b.faults → HasSame a.communicators b.communicators
    → b.matcher.waiting ≡ a.matcher.waiting → b.matcher.kept ≡ a.matcher.kept → b.matcher.count ≡ a.matcher.count → b.matcher.cleared ≡ a.matcher.cleared → b.requests.entries ≡ a.requests.entries → b.outboxes.boxes ≡ a.outboxes.boxes
    → b.log.items ≡ a.log.items → b.told.items ≡ a.told.items → CountsSame a.rounds b.rounds → a.log.capacity ≤ b.log.capacity → b.log.capacity < 2 ^ 63 → Holds b
holds_roomy a h me ranks stopped faults comms waiting kept count cleared entries boxes items told rounds room countable =
    holds_copied a h me ranks stopped faults comms waiting kept count cleared entries boxes items told rounds (omega (arith, h.places, room)) countable

-- more room elsewhere than for what is known and for rounds
pub holds_same : (a : Inside) {b : Inside} → Holds a → b.me ≡ a.me → b.ranks ≡ a.ranks → b.stopped ≡ a.stopped → b.faults ≡ a.faults → b.communicators ≡ a.communicators
    → b.matcher.waiting ≡ a.matcher.waiting → b.matcher.kept ≡ a.matcher.kept → b.matcher.count ≡ a.matcher.count → b.matcher.cleared ≡ a.matcher.cleared → b.requests.entries ≡ a.requests.entries → b.outboxes.boxes ≡ a.outboxes.boxes
    → b.log.items ≡ a.log.items → b.told.items ≡ a.told.items → b.rounds ≡ a.rounds → a.log.capacity ≤ b.log.capacity → b.log.capacity < 2 ^ 63 → Holds b
holds_same a h me ranks stopped faults comms waiting kept count cleared entries boxes items told rounds room countable =
    holds_roomy a h me ranks stopped (knows_itself faults) (comms_itself comms) waiting kept count cleared entries boxes items told (rounds_itself rounds) room countable

-- how many requests are left where one was taken out
pub one_less : (b : Bool) (new old : ℕ) → new + cond b 1 0 ≡ old → b ≡ true → new + 1 ≡ old
one_less true new old e t = e
one_less false new old e t = cc
