-- After a revocation nothing is paired.
use Rattle.std.proofs.Common.{◌≡◌, ℕ, ◌<◌, Bool, true, false, List, [], ◌∷◌, ◌++◌, ◌||◌, length, refl, ap, sym, ◌∙◌, subst, arith, inl, inr, cond, append-nil, append_assoc, Some, slice_get}
use Rattle.ulfm_report_laws.proofs.Common.{Clear, Entry, History, IsWellFormed, MatchEvent, Pattern, PostAt, Report, any-push, eqb-true, events_by, false≢true, gathered_all, get_front, get_here, history-push, history_of, is_revoked, lt_or_ge, revokes, same_pattern, slice_get_within}
use Rattle.ulfm_base.specs.declared.item.Item.TheVariants.{Revoke}
use Rattle.ulfm_log.specs.declared.entry.Entry.TheVariants.{Revoked, Took}
use Rattle.ulfm_match.specs.Pairing.{LawfulPairing, Pairing, Pairs}
use Rattle.ulfm_report_laws.specs.Pending.{RevokedPairsNone}
use Rattle.ulfm_report_laws.proofs.Arrivals.{read_at}
use Rattle.ulfm_report_laws.proofs.Finding.{AreHonest}

-- the first revocation of a context clears it
fresh : (log : List Entry) (found : History) (e : Entry) (c : ℕ) → is_revoked log c ≡ false → revokes c e ≡ true → events_by log found e ≡ Clear c ∷ []
fresh log found (Revoked d) c none is =
    let same : d.number ≡ c = eqb-true d.number c is in
    let none_as : List MatchEvent = [] in
    ap (λ (n : ℕ). cond (is_revoked log n) none_as (Clear n ∷ [])) same ∙ ap (λ (b : Bool). cond b none_as (Clear c ∷ [])) none
fresh log found (Took s (Revoke d)) c none is =
    let same : d.number ≡ c = eqb-true d.number c is in
    let none_as : List MatchEvent = [] in
    ap (λ (n : ℕ). cond (is_revoked log n) none_as (Clear n ∷ [])) same ∙ ap (λ (b : Bool). cond b none_as (Clear c ∷ [])) none
fresh log found _ c none is = absurd (false≢true is)

-- so a context that is revoked was cleared
cleared : (log : List Entry) (c : ℕ) → is_revoked log c ≡ true → (p : ℕ) × (slice_get (history_of log) p ≡ Some (Clear c))
cleared log c = gathered_all events_by (λ l found. is_revoked l c ≡ true → (p : ℕ) × (slice_get found p ≡ Some (Clear c))) (λ l found e before is. by l found e before (is_revoked l c) refl (sym (any-push (revokes c) l e) ∙ is)) [] (λ is. absurd (false≢true is)) log
  where
    by : (l : List Entry) (found : History) (e : Entry) → (is_revoked l c ≡ true → (p : ℕ) × (slice_get found p ≡ Some (Clear c))) → (b : Bool) → is_revoked l c ≡ b → (is_revoked l c || revokes c e) ≡ true
        → (p : ℕ) × (slice_get (found ++ events_by l found e) p ≡ Some (Clear c))
    by l found e before true was is = let p = before was in (p.0, get_front found (events_by l found e) p.0 (Clear c) p.1)
    by l found e before false was is =
        let now : revokes c e ≡ true = subst (λ (b : Bool). (b || revokes c e) ≡ true) was is in
        (length found, subst (λ (xs : History). slice_get (found ++ xs) (length found) ≡ Some (Clear c)) (sym (fresh l found e c was now)) (get_here found (Clear c) []))

-- what happened stays where it is as the log goes on
stays_at : (front rest : List Entry) (p : ℕ) (x : MatchEvent) → slice_get (history_of front) p ≡ Some x → slice_get (history_of (front ++ rest)) p ≡ Some x
stays_at front [] p x here = subst (λ (log : List Entry). slice_get (history_of log) p ≡ Some x) (sym (append-nil front)) here
stays_at front (e ∷ rest) p x here =
    subst (λ (log : List Entry). slice_get (history_of log) p ≡ Some x) (append_assoc front (e ∷ []) rest)
    (stays_at (front ++ e ∷ []) rest p x (subst (λ (h : History). slice_get h p ≡ Some x) (sym (history-push front e)) (get_front (history_of front) (events_by front (history_of front) e) p x here)))

-- after a revocation no receive is posted there, and no letter comes
pub pairs_before : (log front rest : List Entry) (pattern : Pattern) (pairing : Pairing) (i b : ℕ) → IsWellFormed (history_of log) → front ++ rest ≡ log → is_revoked front pattern.context.number ≡ true
    → LawfulPairing (history_of log) pairing → PostAt (history_of log) i pattern → Pairs pairing i b → (i < length (history_of front)) × (b < length (history_of front))
pairs_before log front rest pattern pairing i b formed whole revoked law posted pairs =
    let c = pattern.context.number in
    let there = cleared front c revoked in
    let p = there.0 in
    let inside : p < length (history_of front) = slice_get_within (history_of front) p (Clear c) there.1 in
    let at : slice_get (history_of log) p ≡ Some (Clear c) = subst (λ (l : List Entry). slice_get (history_of l) p ≡ Some (Clear c)) whole (stays_at front rest p (Clear c) there.1) in
    let m = law.matched i b pairs in
    let same : m.pattern ≡ pattern = same_pattern (history_of log) i m.pattern pattern m.receive_live.posted posted in
    let context : m.letter.envelope.context.number ≡ c = m.admits.context ∙ ap (λ (x : Pattern). x.context.number) same in
    let receive : i < length (history_of front) = elim (lt_or_ge i (length (history_of front))) [
      | inl low ↦ low
      | inr past ↦ absurd (formed.no_posts p i pattern (omega (arith, inside, past)) posted at)
    ] in
    let letter : b < length (history_of front) = elim (lt_or_ge b (length (history_of front))) [
      | inl low ↦ low
      | inr past ↦ absurd (formed.no_letters p b m.letter (omega (arith, inside, past)) m.letter_live.came (at ∙ ap (λ (n : ℕ). Some (Clear n)) (sym context)))
    ] in
    (receive, letter)

-- so it is in reports that are true of their logs
pub revoked_pairs_none : (reports : List Report) → AreHonest reports → RevokedPairsNone reports
revoked_pairs_none reports all d i b told front rest pattern pairing here whole revoked law posted pairs =
    let formed = (all.honest d (slice_get_within reports d told here)).formed in
    pairs_before told.rank.log front rest pattern pairing i b (subst (λ (t : Report). IsWellFormed (history_of t.rank.log)) (read_at reports d here) formed) whole revoked law posted pairs
