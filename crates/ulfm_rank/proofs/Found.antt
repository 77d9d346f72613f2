-- The letter that a probe found is a message of the log and of the table.
use Rattle.std.proofs.Common.{◌≡◌, ℕ, ◌<◌, ◌⊎◌, inl, inr, Bool, true, false, cond, eqb, List, [], ◌∷◌, ◌++◌, length, refl, ap, sym, ◌∙◌, subst, Option, Some, arith, append_assoc, ◌||◌, eqb-true}
use Rattle.ulfm_rank.proofs.Common.{Pattern, Letter, MessageId, MatchEvent, Post, Come, End, count_before, Entry, Probed, Paired, Found, Request, Pairing, Pairs, LawfulPairing, IsWaiting, pairs_below, Matching, Tracks, IsOfGroup, IsStanding, IsTable, IsInStep, Became, is_found, is_released, is_probed, releases, probes, history_of, Adds, Contains-push, same_Some, slice_get_within, get_old, length_more, count_below, receive_within, letter_within, cut, inside_to, inside_back, eq-eqb, or_right, IsMessage}
use Rattle.ulfm_match.proofs.Steps.{pair_cases, pair_old}
use Rattle.ulfm_match.specs.Calls.{ProbeGets, TracksProbe}
use Rattle.ulfm_log.proofs.Gather.{any-push}
use Rattle.ulfm_rank.proofs.Histories.{history-push}
use Rattle.ulfm_rank.proofs.Groups.{of_group_stays}
use Rattle.ulfm_rank.proofs.InStep.{fresh_number, posted_last, untouched}
use Rattle.ulfm_rank.proofs.Steps.{map_same}
use Rattle.ulfm_rank.proofs.Tables.{became_keeps, no_post, table_change, table_post}

-- a receive was posted, got a letter and ended at once
module _ (h : List MatchEvent) (r : Pairing) (p : Pattern) (l : Letter) (m : Matching) (law : LawfulPairing h r) (g : ProbeGets h r p l m) where
  abbrev after : Pairing
  after = r ++ (length h, g.place) ∷ []

  abbrev post : List MatchEvent
  post = h ++ Post p ∷ []

  abbrev short : Pairing
  short = pairs_below (length post) after

  split : post ++ End (length h) ∷ [] ≡ h ++ Post p ∷ End (length h) ∷ []
  split = append_assoc h (Post p ∷ []) (End (length h) ∷ [])

  short_law : LawfulPairing post short
  short_law = cut post (End (length h) ∷ []) after (subst (λ g. LawfulPairing g after) (sym split) g.tracks.lawful)

  to_short : (i b : ℕ) → Pairs after i b → Pairs short i b
  to_short i b q =
      let more = length_more h (Post p) in
      let place = slice_get_within h g.place (Come l) g.came in
      elim (pair_cases r (length h) g.place i b q) [
        | inl old ↦ inside_back (length post) after i b (omega (arith, more, receive_within h r law i b old)) (omega (arith, more, letter_within h r law i b old)) q
        | inr new ↦ inside_back (length post) after i b (omega (arith, more, new.0)) (omega (arith, more, new.1, place)) q
      ]

  from_short : (i b : ℕ) → Pairs short i b → Pairs after i b
  from_short i b q = (inside_to (length post) after i b q).0

  paired_here : Pairs short (length h) g.place
  paired_here = to_short (length h) g.place (Contains-push r (length h, g.place))

  table_taken : (n : ℕ) (log : List Entry) (find find' : ℕ → Option Request) → IsTable n log h r find → IsOfGroup n log p → Adds (count_before h (length h)) (record { pattern = p; fate = Paired l }) find find' → IsTable n log (h ++ Post p ∷ End (length h) ∷ []) after find'
  table_taken n log find find' t of adds =
      let t1 : IsTable n log post short find' =
      table_post n log h r short find find' t p (Paired l) refl of law
      (λ i b q. to_short i b (pair_old r (length h) g.place i b q))
      (λ i b li q. elim (pair_cases r (length h) g.place i b (from_short i b q)) [ inl old ↦ old | inr new ↦ absurd (omega (arith, li, new.0)) ])
      (record { place = g.place; pairs = paired_here; came = get_old h (Post p) g.place (Come l) g.came }) adds in
      subst (λ g. IsTable n log g after find') split
      (table_change n log post (End (length h) ∷ []) short after find' find' t1 (no_post post (End (length h)) (λ q e. cc)) (λ k q. q) (λ k. sym (map_same (find' k) (λ q. q) (λ q. refl))) (λ k q. refl)
      (λ k q f s.
      became_keeps post (End (length h)) short after short_law from_short s.place q.pattern q.fate (to_short s.place)
      (λ e. (λ x. still s.place q.pattern (let f : length h ≡ s.place = cc in f) (subst (Became post short s.place q.pattern) e s.fate), λ x. cc)) s.fate)
      (λ k q f s. refl))
    where
      still : (i : ℕ) (q : Pattern) → length h ≡ i → IsWaiting post short i q (length post) → ⊥
      still i q e w = w.unpaired g.place (omega (arith, length_more h (Post p), slice_get_within h g.place (Come l) g.came)) (subst (λ k. Pairs short k g.place) e paired_here)

-- the receive that got the letter is that of a message
module _ {n : ℕ} {log : List Entry} {h : List MatchEvent} {r : Pairing} (id : MessageId) (p : Pattern) (l : Letter) (find find1 find' : ℕ → Option Request) (t : IsTable n log h r find1)
    (before : Adds id.number (record { pattern = p; fate = Paired l }) find find1) (now : Adds id.number (record { pattern = p; fate = Found l }) find find') where
  abbrev entry : Entry
  entry = Probed id p

  abbrev was : Request
  was = record { pattern = p; fate = Paired l }

  abbrev is : Request
  is = record { pattern = p; fate = Found l }

  abbrev Cases : ℕ → Request → Type 0
  Cases k q = ((eqb id.number k ≡ true) × (is ≡ q) × (find1 k ≡ Some was)) ⊎ ((eqb id.number k ≡ false) × (find1 k ≡ Some q))

  cases : (k : ℕ) (q : Request) → find' k ≡ Some q → Cases k q
  cases k q f = pick (eqb id.number k) refl (sym (now k) ∙ f)
    where
      pick : (b : Bool) → eqb id.number k ≡ b → cond b (Some is) (find k) ≡ Some q → Cases k q
      pick true e g = inl (e, same_Some is q g, before k ∙ ap (λ b. cond b (Some was) (find k)) e)
      pick false e g = inr (e, before k ∙ (ap (λ b. cond b (Some was) (find k)) e ∙ g))

  stays : (k : ℕ) (q : Request) → find1 k ≡ Some q → (w : Request) × (find' k ≡ Some w)
  stays k q f = pick (eqb id.number k) refl
    where
      pick : (b : Bool) → eqb id.number k ≡ b → (w : Request) × (find' k ≡ Some w)
      pick true e = (is, now k ∙ ap (λ b. cond b (Some is) (find k)) e)
      pick false e = (q, now k ∙ (ap (λ b. cond b (Some is) (find k)) e ∙ (sym (ap (λ b. cond b (Some was) (find k)) e) ∙ (sym (before k) ∙ f))))

  same : (k : ℕ) → is_released (log ++ entry ∷ []) k ≡ is_released log k
  same k = untouched releases log entry k refl

  told : (k : ℕ) → is_probed (log ++ entry ∷ []) k ≡ is_probed log k || eqb id.number k
  told k = any-push (probes k) log entry

  here : (k : ℕ) → id.number ≡ k → k < count_before h (length h)
  here k e =
      let s = t.standing id.number was (before id.number ∙ ap (λ b. cond b (Some was) (find id.number)) (eq-eqb id.number id.number refl)) in
      let b = count_below h s.place (length h) (Post p) s.posted refl (slice_get_within h s.place (Post p) s.posted) in
      omega (arith, b, s.numbered, e)

  table_found : IsTable n (log ++ entry ∷ []) h r find'
  table_found = record {
    standing = λ k q f. elim (cases k q f) [
      | inl new ↦ let s = t.standing k was new.2 in subst (IsStanding h r k) new.1 (record { place = s.place; posted = s.posted; numbered = s.numbered; fate = s.fate })
      | inr old ↦ t.standing k q old.1
    ];
    of_group = λ k q f. of_group_stays entry (elim (cases k q f) [ inl new ↦ subst (λ (w : Request). IsOfGroup n log w.pattern) new.1 (t.of_group k was new.2) | inr old ↦ t.of_group k q old.1 ]);
    unreleased = λ k q f. same k ∙ elim (cases k q f) [ inl new ↦ t.unreleased k was new.2 | inr old ↦ t.unreleased k q old.1 ];
    complete = λ i q posted free. let c = t.complete i q posted (sym (same (count_before h i)) ∙ free) in stays (count_before h i) c.0 c.1;
    released_below = λ k e. t.released_below k (sym (same k) ∙ e);
    kind = λ k q f. elim (cases k q f) [
      | inl new ↦ ap (λ (w : Request). is_found w.fate) (sym new.1) ∙ sym (told k ∙ or_right (is_probed log k) (eqb id.number k) new.0)
      | inr old ↦ t.kind k q old.1 ∙ sym (untouched probes log entry k old.0)
    ];
    probed_below = λ k e. pick (is_probed log k) refl (sym (told k) ∙ e);
  }
    where
      pick : {k : ℕ} → (b : Bool) → is_probed log k ≡ b → b || eqb id.number k ≡ true → k < count_before h (length h)
      pick {k} true f e = t.probed_below k f
      pick {k} false f e = here k (eqb-true id.number k e)

-- a probe found a letter
pub in_step_probed : {n : ℕ} {log : List Entry} {m : Matching} {find : ℕ → Option Request} → IsInStep n log m find → (id : MessageId) → id.number ≡ m.count → (p : Pattern) → IsOfGroup n log p → (l : Letter) (m' : Matching) → TracksProbe p m (Some l) m' → (find' : ℕ → Option Request) → Adds id.number (record { pattern = p; fate = Found l }) find find' → IsInStep n (log ++ Probed id p ∷ []) m' find'
in_step_probed {n} {log} {m} {find} held id num p of l m' tracks find' now =
    let h = history_of log in
    let r = held.pairing in
    let law = held.tracks.lawful in
    let g = tracks h r held.tracks in
    let long = sym (history-push log (Probed id p)) in
    let find1 : ℕ → Option Request = λ k. cond (eqb id.number k) (Some (record { pattern = p; fate = Paired l })) (find k) in
    let before : Adds id.number (record { pattern = p; fate = Paired l }) find find1 = λ k. refl in
    let here : id.number ≡ count_before h (length h) = num ∙ held.tracks.remains.count in
    let taken = table_taken h r p l m' law g n log find find1 held.table of (subst (λ k. Adds k (record { pattern = p; fate = Paired l }) find find1) here before) in
    let found = table_found id p l find find1 find' taken before now in
    record {
      pairing = r ++ (length h, g.place) ∷ [];
      tracks = subst (λ g'. Tracks g' (r ++ (length h, g.place) ∷ []) m') long g.tracks;
      table = subst (λ g'. IsTable n (log ++ Probed id p ∷ []) g' (r ++ (length h, g.place) ∷ []) find') long found;
    }

-- its message
pub found_message : {n : ℕ} {log : List Entry} {m : Matching} {find : ℕ → Option Request} → IsInStep n log m find → (id : MessageId) → id.number ≡ m.count → (p : Pattern) → (i : ℕ) × IsMessage (log ++ Probed id p ∷ []) id.number i p
found_message {n} {log} {m} {find} held id num p =
    let h = history_of log in
    let last = posted_last log (Probed id p) p _ refl in
    let here : id.number ≡ count_before h (length h) = num ∙ held.tracks.remains.count in (
      length h,
      record {
        posted = last.0;
        numbered = last.1 ∙ sym here;
        unreleased = untouched releases log (Probed id p) id.number refl ∙ (ap (is_released log) here ∙ (fresh_number held.table).0);
        found = any-push (probes id.number) log (Probed id p) ∙ or_right (is_probed log id.number) (eqb id.number id.number) (eq-eqb id.number id.number refl);
      },
    )
