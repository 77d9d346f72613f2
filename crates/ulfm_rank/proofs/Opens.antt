-- What events come of an entry: a context that isn't revoked was never cleared, and at most one of them is numbered.
use Rattle.std.proofs.Common.{◌≡◌, ◌≢◌, ℕ, zero, suc, ◌+◌, ◌≤◌, Bool, true, false, cond, List, [], ◌∷◌, ◌++◌, ◌==◌, length, refl, ap, sym, ◌∙◌, subst, Option, Some, None, arith, length-append, All, slice_get}
use Rattle.ulfm_rank.proofs.Common.{Letter, Pattern, Item, Entry, Posted, Probed, Cancelled, Revoked, Took, false≢true, or_parts, eq-eqb, All-nil, All-push, All-append, names, IsUncleared, get_or_from_slice_get, slice_get_within, MatchEvent, Post, Come, End, Clear, counts_as, count_before, names_gone, end_at, ends_from, item_events, events_by, history_of, is_revoked, revoked_before, revokes}
use Rattle.ulfm_base.specs.declared.item.Item.TheVariants.{Letter as Mail, Gone, Revoke, Enter}
use Rattle.ulfm_log.proofs.Gather.{gathered_all, any-push}

-- the pattern of the receive that an entry posts
abbrev pub posted_by : Entry → Option Pattern
posted_by (Posted p) = Some p
posted_by (Probed id p) = Some p
posted_by _ = None

open_append : (xs ys : List MatchEvent) (c : ℕ) → IsUncleared xs c → IsUncleared ys c → IsUncleared (xs ++ ys) c
open_append [] ys c a b k h = b k h
open_append (x ∷ xs) ys c a b zero h = a zero h
open_append (x ∷ xs) ys c a b (suc k) h = open_append xs ys c (λ j g. a (suc j) g) b k h

-- What holds of an end, of a letter that comes, and of what the entry posts and clears holds of each event that it gives.
module _ (P : MatchEvent → Type 0) (ends : (k : ℕ) → P (End k)) (comes : (l : Letter) → P (Come l)) where
  one_if : (b : Bool) (x : MatchEvent) → P x → All P (cond b (x ∷ []) [])
  one_if true x p = All-push P [] x (All-nil P) p
  one_if false x p = All-nil P

  none_if : (b : Bool) (x : MatchEvent) → P x → All P (cond b [] (x ∷ []))
  none_if true x p = All-nil P
  none_if false x p = one_if true x p

  all_ends : (test : ℕ → Pattern → Bool) (k : ℕ) (h : List MatchEvent) → All P (ends_from test k h)
  all_ends test k [] = All-nil P
  all_ends test k (e ∷ h) = All-append P (end_at test k e) (ends_from test (suc k) h) (at e) (all_ends test (suc k) h)
    where
      at : (e : MatchEvent) → All P (end_at test k e)
      at (Post p) = one_if (test k p) (End k) (ends k)
      at _ = All-nil P

  all_events : (log : List Entry) (h : List MatchEvent) (e : Entry) → ((p : Pattern) → posted_by e ≡ Some p → P (Post p)) → ((c : ℕ) → revokes c e ≡ true → P (Clear c)) → All P (events_by log h e)
  all_events log h (Posted p) posts clears = All-append P (Post p ∷ []) _ (one_if true (Post p) (posts p refl)) (one_if (names_gone log p.source) (End (length h)) (ends (length h)))
  all_events log h (Probed id p) posts clears = All-append P (Post p ∷ []) (End (length h) ∷ []) (one_if true (Post p) (posts p refl)) (one_if true (End (length h)) (ends (length h)))
  all_events log h (Cancelled id) posts clears = all_ends _ 0 h
  all_events log h (Revoked d) posts clears = none_if (is_revoked log d.number) (Clear d.number) (clears d.number (eq-eqb d.number d.number refl))
  all_events log h (Took s (Mail l)) posts clears = none_if (is_revoked log l.envelope.context.number) (Come l) (comes l)
  all_events log h (Took s Gone) posts clears = all_ends _ 0 h
  all_events log h (Took s (Revoke d)) posts clears = none_if (is_revoked log d.number) (Clear d.number) (clears d.number (eq-eqb d.number d.number refl))
  all_events log h _ posts clears = All-nil P

  pub each_event : (log : List Entry) (h : List MatchEvent) (e : Entry) → ((p : Pattern) → posted_by e ≡ Some p → P (Post p)) → ((c : ℕ) → revokes c e ≡ true → P (Clear c)) → (k : ℕ) (x : MatchEvent) → slice_get (events_by log h e) k ≡ Some x → P x
  each_event log h e posts clears k x g =
      let es : List MatchEvent = events_by log h e in
      subst P (get_or_from_slice_get es k x x g) (all_events log h e posts clears k x (slice_get_within es k x g))

-- nothing of a context that isn't revoked was cleared
pub unrevoked_open : (log : List Entry) (c : ℕ) → is_revoked log c ≡ false → IsUncleared (history_of log) c
unrevoked_open log c h =
    gathered_all events_by (λ l found. is_revoked l c ≡ false → IsUncleared found c)
    (λ l found e p n.
    let f = or_parts (is_revoked l c) (revokes c e) (sym (any-push (revokes c) l e) ∙ n) in
    open_append found (events_by l found e) c (p f.0)
    (λ k g. each_event (λ (x : MatchEvent). x ≢ Clear c) (λ i q. cc) (λ m q. cc) l found e (λ m q r. cc) (λ d r q. let same : d ≡ c = cc in false≢true (sym f.1 ∙ (ap (λ (b : ℕ). revokes b e) (sym same) ∙ r))) k (Clear c) g refl))
    [] (λ n k g. cc) log h

-- how many numbered events
abbrev total : List MatchEvent → ℕ
total [] = 0
total (e ∷ h) = counts_as e + total h

count_total : (h : List MatchEvent) → count_before h (length h) ≡ total h
count_total [] = refl
count_total (e ∷ h) = ap (λ n. counts_as e + n) (count_total h)

total-append : (xs ys : List MatchEvent) → total (xs ++ ys) ≡ total xs + total ys
total-append [] ys = omega arith
total-append (x ∷ xs) ys = let t = total-append xs ys in omega (arith, t)

ends_light : (test : ℕ → Pattern → Bool) (k : ℕ) (h : List MatchEvent) → total (ends_from test k h) ≡ 0
ends_light test k [] = refl
ends_light test k (e ∷ h) = total-append (end_at test k e) (ends_from test (suc k) h) ∙ (ap (λ n. total (end_at test k e) + n) (ends_light test (suc k) h) ∙ light e)
  where
    named : (b : Bool) → total (cond b (End k ∷ []) []) + 0 ≡ 0
    named true = refl
    named false = refl

    light : (e : MatchEvent) → total (end_at test k e) + 0 ≡ 0
    light (Post p) = named (test k p)
    light (Come l) = refl
    light (End i) = refl
    light (Clear c) = refl

cleared_light : (b : Bool) (c : ℕ) → total (cond b [] (Clear c ∷ [])) ≤ 1
cleared_light true c = omega arith
cleared_light false c = omega arith

item_light : (log : List Entry) (h : List MatchEvent) (s : ℕ) (item : Item) → total (item_events (revoked_before log item) h s item) ≤ 1
item_light log h s (Mail l) = pick (is_revoked log l.envelope.context.number)
  where
    pick : (b : Bool) → total (cond b [] (Come l ∷ [])) ≤ 1
    pick true = omega arith
    pick false = omega arith
item_light log h s Gone = let e = ends_light (λ _ p. names p.source s) 0 h in omega (arith, e)
item_light log h s (Revoke d) = cleared_light (is_revoked log d.number) d.number
item_light log h s (Enter entrance) = omega arith

light : (log : List Entry) (h : List MatchEvent) (e : Entry) → total (events_by log h e) ≤ 1
light log h (Posted p) = pick (names_gone log p.source)
  where
    pick : (b : Bool) → 1 + total (cond b (End (length h) ∷ []) []) ≤ 1
    pick true = omega arith
    pick false = omega arith
light log h (Probed id p) = omega arith
light log h (Cancelled id) = let e = ends_light (λ k _. count_before h k == id.number) 0 h in omega (arith, e)
light log h (Revoked d) = cleared_light (is_revoked log d.number) d.number
light log h (Took s item) = item_light log h s.number item
light log h _ = omega arith

-- no more posts and arrivals than entries
pub few_numbered : (log : List Entry) → count_before (history_of log) (length (history_of log)) ≤ length log
few_numbered log =
    gathered_all events_by (λ l found. count_before found (length found) ≤ length l)
    (λ l found e p.
    let a = count_total (found ++ events_by l found e) in
    let b = total-append found (events_by l found e) in
    let c = count_total found in
    let d = light l found e in
    let n : length (l ++ e ∷ []) ≡ length l + 1 = length-append l (e ∷ []) in
    omega (arith, a, b, c, d, n, p))
    [] (omega arith) log
