-- A request or a message is released.
use Rattle.std.proofs.Common.{◌≡◌, ℕ, ◌<◌, Bool, true, false, cond, eqb, List, [], ◌∷◌, ◌++◌, length, refl, ap, sym, ◌∙◌, subst, Option, Some, None, arith, append-nil, ◌||◌}
use Rattle.ulfm_rank.proofs.Common.{MatchEvent, Post, count_before, Entry, Request, Pairing, events_by, history_of, eqb-true, or_parts, Matching, Tracks, IsTable, IsInStep, slice_get_within, count_below, Removes, is_released, releases, probes}
use Rattle.ulfm_log.proofs.Gather.{any-push}
use Rattle.ulfm_rank.proofs.Histories.{history-push}
use Rattle.ulfm_rank.proofs.Groups.{of_group_stays}
use Rattle.ulfm_rank.proofs.InStep.{untouched}

-- an entry that releases what has this number, and is no probe
pub record IsRelease (id : ℕ) (x : Entry) : Type 0 where
  pub releases_this : (k : ℕ) → releases k x ≡ eqb id k
  pub probes_none : (k : ℕ) → probes k x ≡ false

-- the table without what the entry releases
pub table_released : {n : ℕ} {log : List Entry} {h : List MatchEvent} {r : Pairing} {find : ℕ → Option Request} → IsTable n log h r find → (x : Entry) (id : ℕ) → IsRelease id x → (q : Request) → find id ≡ Some q → (find' : ℕ → Option Request) → Removes id find find' → IsTable n (log ++ x ∷ []) h r find'
table_released {n} {log} {h} {r} {find} t x id release q f find' gone = record {
  standing = λ k w g. t.standing k w (left k w g).1;
  of_group = λ k w g. of_group_stays x (t.of_group k w (left k w g).1);
  unreleased = λ k w g. let o = left k w g in untouched releases log x k (release.releases_this k ∙ o.0) ∙ t.unreleased k w o.1;
  complete = λ i p posted free.
      let k = count_before h i in
      let both = split k free in
      let c = t.complete i p posted both.0 in
      (c.0, gone k ∙ (ap (λ b. cond b None (find k)) both.1 ∙ c.1));
  released_below = λ k e. pick_below k (is_released log k) refl e;
  kind = λ k w g. t.kind k w (left k w g).1 ∙ sym (untouched probes log x k (release.probes_none k));
  probed_below = λ k e. t.probed_below k (sym (untouched probes log x k (release.probes_none k)) ∙ e);
}
  where
    choose : (k : ℕ) (w : Request) (b : Bool) → eqb id k ≡ b → cond b None (find k) ≡ Some w → (eqb id k ≡ false) × (find k ≡ Some w)
    choose k w true e g = cc
    choose k w false e g = (e, g)

    left : (k : ℕ) (w : Request) → find' k ≡ Some w → (eqb id k ≡ false) × (find k ≡ Some w)
    left k w g = choose k w (eqb id k) refl (sym (gone k) ∙ g)

    told : (k : ℕ) → is_released (log ++ x ∷ []) k ≡ is_released log k || eqb id k
    told k = any-push (releases k) log x ∙ ap (λ b. is_released log k || b) (release.releases_this k)

    split : (k : ℕ) → is_released (log ++ x ∷ []) k ≡ false → (is_released log k ≡ false) × (eqb id k ≡ false)
    split k e = or_parts (is_released log k) (eqb id k) (sym (told k) ∙ e)

    here : (k : ℕ) → id ≡ k → k < count_before h (length h)
    here k e =
        let s = t.standing id q f in
        let b = count_below h s.place (length h) (Post q.pattern) s.posted refl (slice_get_within h s.place (Post q.pattern) s.posted) in
        omega (arith, b, s.numbered, e)

    pick_below : (k : ℕ) (b : Bool) → is_released log k ≡ b → is_released (log ++ x ∷ []) k ≡ true → k < count_before h (length h)
    pick_below k true e g = t.released_below k e
    pick_below k false e g = here k (eqb-true id k (sym (ap (λ b. b || eqb id k) e) ∙ (sym (told k) ∙ g)))

-- by an entry that gives no event
pub in_step_released : {n : ℕ} {log : List Entry} {m : Matching} {find : ℕ → Option Request} → IsInStep n log m find → (x : Entry) (id : ℕ) → IsRelease id x → events_by log (history_of log) x ≡ [] → (q : Request) → find id ≡ Some q → (find' : ℕ → Option Request) → Removes id find find' → IsInStep n (log ++ x ∷ []) m find'
in_step_released {n} {log} {m} {find} t x id release quiet q f find' gone =
    let same : history_of log ≡ history_of (log ++ x ∷ []) = sym (history-push log x ∙ (ap (λ es. history_of log ++ es) quiet ∙ append-nil (history_of log))) in
    record {
      pairing = t.pairing;
      tracks = subst (λ g. Tracks g t.pairing m) same t.tracks;
      table = subst (λ g. IsTable n (log ++ x ∷ []) g t.pairing find') same (table_released t.table x id release q f find' gone);
    }
