-- What is read off the entries that tell of the last shrinks and agreements is what is read off the whole log.
use Rattle.std.proofs.Common.{◌≡◌, ◌≤◌, ℕ, ◌+◌, Bool, true, false, cond, not, nat_lt, ◌-◌, List, [], ◌∷◌, ◌++◌, append-nil, filter, length, refl, ap, sym, ◌∙◌, Option, Some, None, ◌==◌, arith}
use Rattle.std.proofs.lemmas.List.Elements.{filter-append}
use Rattle.std.proofs.lemmas.List.Filters.{length-filter_both}
use Rattle.std.proofs.lemmas.Map.Views.{any-filter_same}
use Rattle.ulfm_base.specs.declared.item.Item.{Item}
use Rattle.ulfm_base.specs.declared.item.Item.TheVariants.{Enter}
use Rattle.ulfm_log.proofs.Common.{Context, Decision, Entrance, Entry, Topic, is_agreement, is_round_on, round_of, topic_on, is_topic, topics_equal, first_given, or_else, entry_of, heard_of, item_entry, listed_of, has_adopted, adopts, rounds_of, enters_round, eqb-true, false≢true, false_from_ne_true, nat_tests, Entered, Adopted, Took}
use Rattle.ulfm_log.proofs.Entering.{rounds-more}
use Rattle.ulfm_log.proofs.Counts.{same_counts}
use Rattle.ulfm_log.specs.Decisive.{CountsSame, IsTold, RoundsView, is_current, rounds_at, is_next, item_tells, rounds_on, tells}

-- an entry is about neither shrinks nor agreements
abbrev pub is_silent : Entry → Bool
is_silent (Entered entrance) = false
is_silent (Adopted decision) = false
is_silent (Took from item) = false
is_silent _ = true

-- so it is
pub silent : ◌≡◌ {A = Bool} true true
silent = refl

silent_enters : (e : Entry) → is_silent e ≡ true → (a : Bool) (c : ℕ) → enters_round a c e ≡ false
silent_enters (Entered entrance) h a c = absurd (false≢true h)
silent_enters _ h a c = refl

silent_tells : (counts : Bool → ℕ → ℕ) (e : Entry) → is_silent e ≡ true → tells counts e ≡ false
silent_tells counts (Entered entrance) h = absurd (false≢true h)
silent_tells counts (Adopted decision) h = absurd (false≢true h)
silent_tells counts (Took from item) h = absurd (false≢true h)
silent_tells counts _ h = refl

-- the table counts as the log does
counted : {log told : List Entry} {rounds : RoundsView} → IsTold log told rounds → rounds_on rounds ≡ rounds_of log
counted is = λ i. λ a. λ c. is.counts a c i

-- other room plays no part
pub told_same : {log told : List Entry} {rounds : RoundsView} (rounds' : RoundsView) → IsTold log told rounds → CountsSame rounds rounds' → IsTold log told rounds'
told_same {log} {told} {rounds} rounds' is same = record { rows = is.rows; counts = λ a c. same_counts rounds rounds' same a c ∙ is.counts a c }

-- it counts no more than there are entries
pub counts_few : {log told : List Entry} {rounds : RoundsView} → IsTold log told rounds → (a : Bool) (c : ℕ) → rounds_on rounds a c ≤ length log
counts_few {log} is a c = omega (arith, is.counts a c, length-filter_both (enters_round a c) (λ e. not (enters_round a c e)) (λ e. refl) log)

-- how many rounds one entry enters
one_entered : (e : Entry) (b : Bool) → length (cond b (e ∷ []) []) ≡ cond b 1 0
one_entered e true = refl
one_entered e false = refl

counts-push : (log : List Entry) (e : Entry) (a : Bool) (c : ℕ) → rounds_of (log ++ e ∷ []) a c ≡ rounds_of log a c + cond (enters_round a c e) 1 0
counts-push log e a c = rounds-more log (e ∷ []) a c ∙ ap (λ k. rounds_of log a c + k) (one_entered e (enters_round a c e))

-- an entry that enters nothing
counts-same : (log : List Entry) (e : Entry) → ((a : Bool) (c : ℕ) → enters_round a c e ≡ false) → rounds_of (log ++ e ∷ []) ≡ rounds_of log
counts-same log e none = λ i. λ a. λ c. one a c i
  where
    one : (a : Bool) (c : ℕ) → rounds_of (log ++ e ∷ []) a c ≡ rounds_of log a c
    one a c = let more = counts-push log e a c ∙ ap (λ b. rounds_of log a c + cond b 1 0) (none a c) in omega (arith, more)

-- an entry that enters nothing, and may tell
pub told_more : {rounds : RoundsView} (log log' told told' : List Entry) (e : Entry) → log' ≡ log ++ e ∷ [] → IsTold log told rounds → ((a : Bool) (c : ℕ) → enters_round a c e ≡ false) → told' ≡ told ++ filter (tells (rounds_on rounds)) (e ∷ []) → IsTold log' told' rounds
told_more log log' told told' e longer is none more =
    let same : rounds_of log' ≡ rounds_of log = ap rounds_of longer ∙ counts-same log e none in
    record {
      rows = more ∙ ap (λ f. told ++ filter (tells f) (e ∷ [])) (counted is) ∙ ap (λ l. l ++ filter (tells (rounds_of log)) (e ∷ [])) is.rows ∙ sym (filter-append (tells (rounds_of log)) log (e ∷ []))
          ∙ ap (filter (tells (rounds_of log))) (sym longer) ∙ ap (λ f. filter (tells f) log') (sym same);
      counts = λ a c. is.counts a c ∙ sym (ap (λ (f : Bool → ℕ → ℕ). f a c) same);
    }

-- an entry that doesn't tell
pub quiet : {rounds : RoundsView} (log log' told : List Entry) (e : Entry) → log' ≡ log ++ e ∷ [] → IsTold log told rounds → is_silent e ≡ true → IsTold log' told rounds
quiet {rounds} log log' told e longer is h =
    told_more log log' told told e longer is (silent_enters e h) (sym (append-nil told) ∙ ap (λ b. told ++ cond b (e ∷ []) []) (sym (silent_tells (rounds_on rounds) e h)))

-- the last round is adopted
pub told_adopted : {rounds : RoundsView} (log log' told told' : List Entry) (d : Decision) → log' ≡ log ++ Adopted d ∷ [] → IsTold log told rounds → is_current (rounds_of log) d.topic ≡ true → told' ≡ told ++ Adopted d ∷ [] → IsTold log' told' rounds
told_adopted log log' told told' d longer is current more =
    told_more log log' told told' (Adopted d) longer is (λ a c. refl) (more ∙ ap (λ b. told ++ cond b (Adopted d ∷ []) []) (sym (ap (λ f. is_current f d.topic) (counted is) ∙ current)))

-- those that pass a test which no other entry passes
filter-sifted : (test kept : Entry → Bool) → ((e : Entry) → kept e ≡ false → test e ≡ false) → (log : List Entry) → filter test (filter kept log) ≡ filter test log
filter-sifted test kept still [] = refl
filter-sifted test kept still (e ∷ log) = sifted (kept e) refl (filter-sifted test kept still log)
  where
    sifted : (b : Bool) → kept e ≡ b → filter test (filter kept log) ≡ filter test log → filter test (cond b (e ∷ filter kept log) (filter kept log)) ≡ cond (test e) (e ∷ filter test log) (filter test log)
    sifted true is h = ap (λ l. cond (test e) (e ∷ l) l) h
    sifted false is h = h ∙ ap (λ b. cond b (e ∷ filter test log) (filter test log)) (sym (still e is))

-- what was before the last round is before later ones
round_falls : (n m round : ℕ) → n ≤ m → not (nat_lt round (n - 1)) ≡ false → not (nat_lt round (m - 1)) ≡ false
round_falls n m round h e = grind (arith, nat_tests)

topic_falls : {f g : Bool → ℕ → ℕ} → ((a : Bool) (c : ℕ) → f a c ≤ g a c) → (t : Topic) → is_current f t ≡ false → is_current g t ≡ false
topic_falls {f} {g} rises t h = round_falls (rounds_at f t) (rounds_at g t) (round_of t.purpose) (rises (is_agreement t.purpose) t.context.number) h

falls : {f g : Bool → ℕ → ℕ} → ((a : Bool) (c : ℕ) → f a c ≤ g a c) → (e : Entry) → tells f e ≡ false → tells g e ≡ false
falls {f} {g} rises (Entered entrance) h = topic_falls rises entrance.topic h
falls {f} {g} rises (Adopted decision) h = topic_falls rises decision.topic h
falls {f} {g} rises (Took from (Enter entrance)) h = topic_falls rises entrance.topic h
falls {f} {g} rises (Took from _) h = refl
falls {f} {g} rises _ h = refl

itself : (n : ℕ) → not (nat_lt n n) ≡ true
itself n = grind (arith, nat_tests)

-- the next round is the last once it is entered
next_falls : (n m round : ℕ) → m ≤ n + 1 → (round == n) ≡ true → not (nat_lt round (m - 1)) ≡ true
next_falls n m round h e = let same = eqb-true round n e in grind (arith, nat_tests)

at_most_one : (b : Bool) → cond b 1 0 ≤ 1
at_most_one true = omega arith
at_most_one false = omega arith

-- the round that was entered last is no earlier one
pub last_is_current : (counts : Bool → ℕ → ℕ) (agrees : Bool) (context : Context) → is_current counts (topic_on agrees context (counts agrees context.number - 1)) ≡ true
last_is_current counts true context = itself (counts true context.number - 1)
last_is_current counts false context = itself (counts false context.number - 1)

-- the next round is entered
pub told_entered : {rounds rounds' : RoundsView} (log log' told told' : List Entry) (entrance : Entrance) → log' ≡ log ++ Entered entrance ∷ [] → IsTold log told rounds → is_next (rounds_of log) entrance.topic ≡ true
    → ((a : Bool) (c : ℕ) → rounds_on rounds' a c ≡ rounds_on rounds a c + cond (is_round_on a c entrance.topic) 1 0) → told' ≡ filter (tells (rounds_on rounds')) told ++ Entered entrance ∷ [] → IsTold log' told' rounds'
told_entered {rounds} {rounds'} log log' told told' entrance longer is next counts more =
    let t = entrance.topic in
    let agrees = is_agreement t.purpose in
    let c = t.context.number in
    let pushed : (a : Bool) (k : ℕ) → rounds_of log' a k ≡ rounds_of log a k + cond (is_round_on a k t) 1 0 = λ a k. ap (λ l. rounds_of l a k) longer ∙ counts-push log (Entered entrance) a k in
    let now : (a : Bool) (k : ℕ) → rounds_on rounds' a k ≡ rounds_of log' a k = λ a k. counts a k ∙ ap (λ n. n + cond (is_round_on a k t) 1 0) (is.counts a k) ∙ sym (pushed a k) in
    let table : rounds_on rounds' ≡ rounds_of log' = λ i. λ a. λ k. now a k i in
    let rises : (a : Bool) (k : ℕ) → rounds_of log a k ≤ rounds_of log' a k = λ a k. omega (arith, pushed a k) in
    let few : rounds_of log' agrees c ≤ rounds_of log agrees c + 1 = omega (arith, pushed agrees c, at_most_one (is_round_on agrees c t)) in
    let new : is_current (rounds_of log') entrance.topic ≡ true = next_falls (rounds_of log agrees c) (rounds_of log' agrees c) (round_of t.purpose) few next in
    record {
      rows = more ∙ ap (λ f. filter (tells f) told ++ Entered entrance ∷ []) table ∙ ap (λ l. filter (tells (rounds_of log')) l ++ Entered entrance ∷ []) is.rows
          ∙ ap (λ l. l ++ Entered entrance ∷ []) (filter-sifted (tells (rounds_of log')) (tells (rounds_of log)) (falls rises) log)
          ∙ ap (λ b. filter (tells (rounds_of log')) log ++ cond b (Entered entrance ∷ []) []) (sym new)
          ∙ sym (filter-append (tells (rounds_of log')) log (Entered entrance ∷ [])) ∙ ap (filter (tells (rounds_of log'))) (sym longer);
      counts = now;
    }

-- what no other entry gives
first-sifted : {X : Type 0} (give : Entry → Option X) (kept : Entry → Bool) → ((e : Entry) → kept e ≡ false → give e ≡ None) → (log : List Entry) → first_given give (filter kept log) ≡ first_given give log
first-sifted give kept still [] = refl
first-sifted {X} give kept still (e ∷ log) = first (kept e) refl (first-sifted give kept still log)
  where
    first : (b : Bool) → kept e ≡ b → first_given give (filter kept log) ≡ first_given give log → first_given give (cond b (e ∷ filter kept log) (filter kept log)) ≡ or_else (give e) (first_given give log)
    first true is h = ap (or_else (give e)) h
    first false is h = h ∙ ap (λ o. or_else o (first_given give log)) (sym (still e is))

cond_same : {X : Type 0} (b : Bool) (x : X) → cond b x x ≡ x
cond_same true x = refl
cond_same false x = refl

-- a topic is no round before the last one
module _ (counts : Bool → ℕ → ℕ) (topic : Topic) (current : is_current counts topic ≡ true) where
  strange : (other : Topic) → is_current counts other ≡ false → is_topic other topic ≡ false
  strange other h = false_from_ne_true (is_topic other topic) (λ same. false≢true (sym h ∙ ap (is_current counts) (topics_equal other topic same) ∙ current))

  own-silent : (e : Entry) → tells counts e ≡ false → entry_of topic e ≡ None
  own-silent (Entered entrance) h = ap (λ b. cond b (Some entrance.contribution) None) (strange entrance.topic h)
  own-silent _ h = refl

  item-silent : (item : Item) → item_tells counts item ≡ false → item_entry topic item ≡ None
  item-silent (Enter entrance) h = ap (λ b. cond b (Some entrance.contribution) None) (strange entrance.topic h)
  item-silent _ h = refl

  heard-silent : (s : ℕ) (e : Entry) → tells counts e ≡ false → heard_of topic s e ≡ None
  heard-silent s (Took from item) h = ap (λ o. cond (from.number == s) o None) (item-silent item h) ∙ cond_same (from.number == s) None
  heard-silent s _ h = refl

  adopts-tells : (e : Entry) → adopts topic e ≡ true → tells counts e ≡ true
  adopts-tells (Adopted d) h = ap (is_current counts) (topics_equal d.topic topic h) ∙ current
  adopts-tells _ h = absurd (false≢true h)

  pub listed_sifted : (me : ℕ) (log : List Entry) (r : ℕ) → listed_of me (filter (tells counts) log) topic r ≡ listed_of me log topic r
  listed_sifted me log r =
      ap (λ own. cond (r == me) own (first_given (heard_of topic r) (filter (tells counts) log))) (first-sifted (entry_of topic) (tells counts) own-silent log)
      ∙ ap (cond (r == me) (first_given (entry_of topic) log)) (first-sifted (heard_of topic r) (tells counts) (heard-silent r) log)

  pub adopted_sifted : (log : List Entry) → has_adopted (filter (tells counts) log) topic ≡ has_adopted log topic
  adopted_sifted log = any-filter_same (adopts topic) (tells counts) true adopts-tells log
