-- The matcher and the table stay in step with the log.
use Rattle.std.proofs.Common.{◌≡◌, ℕ, ◌+◌, ◌≤◌, Bool, false, cond, List, [], ◌∷◌, ◌++◌, length, refl, ap, sym, ◌∙◌, subst, Option, None, arith, append-nil, slice_get, ◌||◌}
use Rattle.ulfm_rank.proofs.Common.{Pattern, Context, Item, WorldRank, Entry, Posted, Revoked, Took, Fate, Request, IsRequest, Pairing, IsWaiting, IsKept, Matching, is_cleared, Lists, Tracks, IsOfGroup, IsTable, IsInStep, get_here, Adds, TracksAdmit, TracksRevocation, TracksItem, or-false, MatchEvent, Post, Clear, counts_as, count_before, history_of, events_by, item_events, names_gone, post_events, is_revoked, revoked_before, is_released, is_probed, releases, probes, list_any, or_parts, false_from_ne_true, PostAt}
use Rattle.ulfm_log.proofs.Gather.{any-push}
use Rattle.ulfm_rank.proofs.Histories.{history-push}
use Rattle.ulfm_rank.proofs.Groups.{of_group_stays}
use Rattle.ulfm_rank.proofs.Opens.{unrevoked_open, few_numbered}

-- room plays no part
pub tracks_same : (h : List MatchEvent) (r : Pairing) (s s' : Matching) → Tracks h r s → s'.waiting ≡ s.waiting → s'.kept ≡ s.kept → s'.count ≡ s.count → s'.cleared ≡ s.cleared → Tracks h r s'
tracks_same h r s s' t ew ek ec em = record {
  well_formed = t.well_formed;
  lawful = t.lawful;
  remains = record {
    count = ec ∙ t.remains.count;
    waiting = subst (Lists h (λ i p. IsWaiting h r i p (length h))) (sym ew) t.remains.waiting;
    kept = subst (Lists h (λ b l. IsKept h r b l (length h))) (sym ek) t.remains.kept;
    cleared = rw em t.remains.cleared;
  };
}

pub table_same : (n : ℕ) (log : List Entry) (h : List MatchEvent) (r : Pairing) (find find' : ℕ → Option Request) → IsTable n log h r find → ((k : ℕ) → find' k ≡ find k) → IsTable n log h r find'
table_same n log h r find find' t e = record {
  standing = λ id q f. t.standing id q (sym (e id) ∙ f);
  of_group = λ id q f. t.of_group id q (sym (e id) ∙ f);
  unreleased = λ id q f. t.unreleased id q (sym (e id) ∙ f);
  complete = λ i p posted free. let c = t.complete i p posted free in (c.0, e (count_before h i) ∙ c.1);
  released_below = t.released_below;
  kind = λ id q f. t.kind id q (sym (e id) ∙ f);
  probed_below = t.probed_below;
}

-- a fact about numbers that an entry doesn't touch
pub untouched : (test : ℕ → Entry → Bool) (log : List Entry) (x : Entry) (k : ℕ) → test k x ≡ false → list_any (test k) (log ++ x ∷ []) ≡ list_any (test k) log
untouched test log x k none = any-push (test k) log x ∙ (ap (λ b. list_any (test k) log || b) none ∙ or-false (list_any (test k) log))

-- a number that no receive has is neither released nor that of a message
pub fresh_number : {n : ℕ} {log : List Entry} {h : List MatchEvent} {r : Pairing} {find : ℕ → Option Request} → IsTable n log h r find → (is_released log (count_before h (length h)) ≡ false) × (is_probed log (count_before h (length h)) ≡ false)
fresh_number t = (false_from_ne_true _ (λ g. omega (arith, t.released_below _ g)), false_from_ne_true _ (λ g. omega (arith, t.probed_below _ g)))

-- an entry that releases nothing and is no probe
table_logged : (n : ℕ) (log : List Entry) (x : Entry) (h : List MatchEvent) (r : Pairing) (find : ℕ → Option Request) → ((k : ℕ) → releases k x || probes k x ≡ false) → IsTable n log h r find → IsTable n (log ++ x ∷ []) h r find
table_logged n log x h r find none t =
    let same : (k : ℕ) → is_released (log ++ x ∷ []) k ≡ is_released log k = λ k. untouched releases log x k (or_parts (releases k x) (probes k x) (none k)).0 in
    let alike : (k : ℕ) → is_probed (log ++ x ∷ []) k ≡ is_probed log k = λ k. untouched probes log x k (or_parts (releases k x) (probes k x) (none k)).1 in
    record {
      standing = t.standing;
      of_group = λ id q f. of_group_stays x (t.of_group id q f);
      unreleased = λ id q f. same id ∙ t.unreleased id q f;
      complete = λ i p posted free. t.complete i p posted (sym (same (count_before h i)) ∙ free);
      released_below = λ id f. t.released_below id (sym (same id) ∙ f);
      kind = λ id q f. t.kind id q f ∙ sym (alike id);
      probed_below = λ id f. t.probed_below id (sym (alike id) ∙ f);
    }

-- the history of one more entry
stepped : (n : ℕ) (log : List Entry) (x : Entry) (m : Matching) (find : ℕ → Option Request) (xs : List MatchEvent) → events_by log (history_of log) x ≡ xs → ((k : ℕ) → releases k x || probes k x ≡ false)
    → (r : Pairing) → Tracks (history_of log ++ xs) r m → IsTable n log (history_of log ++ xs) r find → IsInStep n (log ++ x ∷ []) m find
stepped n log x m find xs e none r t table =
    let long : history_of log ++ xs ≡ history_of (log ++ x ∷ []) = ap (λ ys. history_of log ++ ys) (sym e) ∙ sym (history-push log x) in
    record {
      pairing = r;
      tracks = subst (λ h. Tracks h r m) long t;
      table = subst (λ h. IsTable n (log ++ x ∷ []) h r find) long (table_logged n log x (history_of log ++ xs) r find none table);
    }

-- the empty log
pub in_step_start : (n : ℕ) (m : Matching) (find : ℕ → Option Request) → Tracks [] [] m → ((k : ℕ) → find k ≡ None) → IsInStep n [] m find
in_step_start n m find t none = record {
  pairing = [];
  tracks = t;
  table = record {
    standing = λ id q f. let e = none id in cc;
    of_group = λ id q f. let e = none id in cc;
    unreleased = λ id q f. refl;
    complete = λ i p posted free. cc;
    released_below = λ id f. cc;
    kind = λ id q f. let e = none id in cc;
    probed_below = λ id f. cc;
  };
}

module _ {n : ℕ} {log : List Entry} {m : Matching} {find : ℕ → Option Request} (held : IsInStep n log m find) where
  pub count_small : m.count ≤ length log
  count_small = let c = held.tracks.remains.count in let f = few_numbered log in omega (arith, c, f)

  -- what isn't revoked wasn't cleared
  pub in_step_open : (c : ℕ) → is_revoked log c ≡ false → is_cleared m c ≡ false
  in_step_open c fresh = (held.tracks.remains.cleared c).1 (unrevoked_open log c fresh)

  -- room plays no part
  pub in_step_same : (m' : Matching) (find' : ℕ → Option Request) → m'.waiting ≡ m.waiting → m'.kept ≡ m.kept → m'.count ≡ m.count → m'.cleared ≡ m.cleared → ((k : ℕ) → find' k ≡ find k) → IsInStep n log m' find'
  in_step_same m' find' ew ek ec em ef = record {
    pairing = held.pairing;
    tracks = tracks_same (history_of log) held.pairing m m' held.tracks ew ek ec em;
    table = table_same n log (history_of log) held.pairing find find' held.table ef;
  }

  -- an entry that gives no event, releases nothing and is no probe
  pub in_step_quiet : (x : Entry) → events_by log (history_of log) x ≡ [] → ((k : ℕ) → releases k x || probes k x ≡ false) → IsInStep n (log ++ x ∷ []) m find
  in_step_quiet x quiet none =
      let same : history_of log ≡ history_of log ++ [] = sym (append-nil (history_of log)) in
      stepped n log x m find [] quiet none held.pairing (subst (λ h. Tracks h held.pairing m) same held.tracks) (subst (λ h. IsTable n log h held.pairing find) same held.table)

  -- a receive is posted
  pub in_step_posted : (p : Pattern) → IsOfGroup n log p → (o : Fate) (m' : Matching) (find' : ℕ → Option Request) → TracksAdmit (names_gone log p.source) p m o m' → Adds m.count (record { pattern = p; fate = o }) find find' → IsInStep n (log ++ Posted p ∷ []) m' find'
  in_step_posted p of o m' find' tracks adds =
      let h = history_of log in
      let t = held.tracks in
      let a = tracks h held.pairing t in
      stepped n log (Posted p) m' find' (post_events (names_gone log p.source) h p) refl (λ k. refl) a.0 a.1 (a.2 n log find find' of held.table (subst (λ c. Adds c (record { pattern = p; fate = o }) find find') t.remains.count adds))

  -- a context is revoked for the first time by the rank itself
  pub in_step_revoked : (c : Context) → is_revoked log c.number ≡ false → (m' : Matching) (find' : ℕ → Option Request) → TracksRevocation c.number m find m' find' → IsInStep n (log ++ Revoked c ∷ []) m' find'
  in_step_revoked c first m' find' tracks =
      let a = tracks n log (history_of log) held.pairing held.tracks held.table in
      stepped n log (Revoked c) m' find' (Clear c.number ∷ []) (ap (λ b. cond b [] (Clear c.number ∷ [])) first) (λ k. refl) held.pairing a.0 a.1

  -- an item is taken
  pub in_step_took : (s : WorldRank) (item : Item) (m' : Matching) (find' : ℕ → Option Request) → TracksItem (revoked_before log item) s.number item m find m' find' → IsInStep n (log ++ Took s item ∷ []) m' find'
  in_step_took s item m' find' tracks =
      let h = history_of log in
      let a = tracks n log h held.pairing held.tracks held.table in
      stepped n log (Took s item) m' find' (item_events (revoked_before log item) h s.number item) refl (λ k. refl) a.0 a.1 a.2

-- an entry that posts a receive puts it at the end of the history before
pub posted_last : (log : List Entry) (x : Entry) (p : Pattern) (es : List MatchEvent) → events_by log (history_of log) x ≡ Post p ∷ es
    → PostAt (history_of (log ++ x ∷ [])) (length (history_of log)) p × (count_before (history_of (log ++ x ∷ [])) (length (history_of log)) ≡ count_before (history_of log) (length (history_of log)))
posted_last log x p es is =
    let h = history_of log in
    let long : history_of (log ++ x ∷ []) ≡ h ++ Post p ∷ es = history-push log x ∙ ap (λ ys. h ++ ys) is in
    (ap (λ g. slice_get g (length h)) long ∙ get_here h (Post p) es, ap (λ g. count_before g (length h)) long ∙ count_at h (Post p ∷ es))
  where
    count_at : (h ys : List MatchEvent) → count_before (h ++ ys) (length h) ≡ count_before h (length h)
    count_at [] [] = refl
    count_at [] (y ∷ ys) = refl
    count_at (y ∷ h) ys = ap (λ n. counts_as y + n) (count_at h ys)

-- a receive that was posted is a request
pub posted_request : {n : ℕ} {log : List Entry} {m : Matching} {find : ℕ → Option Request} → IsInStep n log m find → (p : Pattern) → (i : ℕ) × IsRequest (log ++ Posted p ∷ []) m.count i p
posted_request {log = log} held p =
    let last = posted_last log (Posted p) p _ refl in
    let fresh = fresh_number held.table in
    let here = held.tracks.remains.count in (
      length (history_of log),
      record {
        posted = last.0;
        numbered = last.1 ∙ sym here;
        unreleased = untouched releases log (Posted p) _ refl ∙ (ap (is_released log) here ∙ fresh.0);
        receive = untouched probes log (Posted p) _ refl ∙ (ap (is_probed log) here ∙ fresh.1);
      },
    )
