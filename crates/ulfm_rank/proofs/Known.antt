-- What is known of failures and revocations stays in step with the log.
use Rattle.std.proofs.Common.{◌≡◌, ℕ, Bool, true, false, cond, List, [], ◌∷◌, ◌++◌, refl, ap, sym, ◌∙◌, append-nil, ◌||◌, ◌&&◌, ◌==◌, not, nat_lt, length, eqb-true}
use Rattle.ulfm_rank.proofs.Common.{Context, Pattern, WorldRank, Item, Entry, Took, members_of, HasFaults, names_known, pends_by, was_revoked_in, is_any, pends, list_any, or-false, names_gone, list_any-append, Source, One, Any, is_member, including, intersection, is_gone, tells_gone, known_of, newly_known, acknowledged_of, acknowledged_from, acknowledged_by, is_revoked, revoked_before, revokes, FaultState, KnowsSame, acknowledged_in, is_revoked_in, has_unacked}
use Rattle.ulfm_base.specs.Table.{count_at, is_marked}
use Rattle.ulfm_base.specs.declared.item.Item.TheVariants.{Letter as Mail, Gone, Revoke, Enter}
use Rattle.ulfm_log.proofs.Gather.{gathered-push, gathered_all, any-push}
use Rattle.ulfm_log.specs.Log.{by_found}

pub known-push : (log : List Entry) (x : Entry) → known_of (log ++ x ∷ []) ≡ known_of log ++ newly_known (known_of log) x
known-push log x = gathered-push (by_found newly_known) [] log x

acknowledged_from-push : (c k : ℕ) (log : List Entry) (x : Entry) → acknowledged_from c k (log ++ x ∷ []) ≡ acknowledged_by c (acknowledged_from c k log) x
acknowledged_from-push c k [] x = refl
acknowledged_from-push c k (y ∷ log) x = acknowledged_from-push c (acknowledged_by c k y) log x

pub acknowledged-push : (c : ℕ) (log : List Entry) (x : Entry) → acknowledged_of (log ++ x ∷ []) c ≡ acknowledged_by c (acknowledged_of log c) x
acknowledged-push c log x = acknowledged_from-push c 0 log x

pub faults_start : (facts : FaultState) → facts.known ≡ [] → ((c : ℕ) → acknowledged_in facts c ≡ 0) → ((c : ℕ) → is_revoked_in facts c ≡ false) → HasFaults [] facts
faults_start facts k a m = record { knows = k; acknowledges = a; marks = m }

-- other room plays no part
pub faults_same : {log : List Entry} {facts : FaultState} (facts' : FaultState) → KnowsSame facts facts' → HasFaults log facts → HasFaults log facts'
faults_same facts' same held = record {
  knows = same.known ∙ held.knows;
  acknowledges = λ c. ap (λ xs. count_at xs c) same.acknowledged ∙ held.acknowledges c;
  marks = λ c. ap (λ xs. is_marked xs c) same.revoked ∙ held.marks c;
}

pub knows_itself : {old new : FaultState} → new ≡ old → KnowsSame old new
knows_itself e = record { known = ap (λ (f : FaultState). f.known) e; acknowledged = ap (λ (f : FaultState). f.acknowledged) e; revoked = ap (λ (f : FaultState). f.revoked) e }

-- an entry that tells nothing of failures, acknowledgements and revocations
pub faults_quiet : {log : List Entry} {facts : FaultState} (x : Entry) → HasFaults log facts → ((known : List ℕ) → newly_known known x ≡ []) → ((c k : ℕ) → acknowledged_by c k x ≡ k) → ((c : ℕ) → revokes c x ≡ false) → HasFaults (log ++ x ∷ []) facts
faults_quiet {log} {facts} x held k a m = record {
  knows = held.knows ∙ sym (known-push log x ∙ (ap (λ ys. known_of log ++ ys) (k (known_of log)) ∙ append-nil (known_of log)));
  acknowledges = λ c. held.acknowledges c ∙ sym (acknowledged-push c log x ∙ a c (acknowledged_of log c));
  marks = λ c. held.marks c ∙ sym (any-push (revokes c) log x ∙ (ap (λ b. is_revoked log c || b) (m c) ∙ or-false (is_revoked log c)));
}

-- the notice of a failure
pub faults_learned : {log : List Entry} {old : FaultState} (new : FaultState) (s : WorldRank) → HasFaults log old → new.known ≡ including old.known s.number → new.acknowledged ≡ old.acknowledged → new.revoked ≡ old.revoked → HasFaults (log ++ Took s Gone ∷ []) new
faults_learned {log} {old} new s held k a m = record {
  knows = k ∙ (ap (λ known. including known s.number) held.knows ∙ sym (known-push log (Took s Gone)));
  acknowledges = λ c. ap (λ xs. count_at xs c) a ∙ (held.acknowledges c ∙ sym (acknowledged-push c log (Took s Gone)));
  marks = λ c. ap (λ xs. is_marked xs c) m ∙ (held.marks c ∙ sym (any-push (revokes c) log (Took s Gone) ∙ or-false (is_revoked log c)));
}

-- what is marked besides
pub marked_or : (b e : Bool) → cond b true e ≡ e || b
marked_or true true = refl
marked_or true false = refl
marked_or false true = refl
marked_or false false = refl

-- a revocation, by an entry that gives nothing else
pub faults_revoked : {log : List Entry} {old : FaultState} (new : FaultState) (x : Entry) (d : ℕ) → HasFaults log old → ((known : List ℕ) → newly_known known x ≡ []) → ((c k : ℕ) → acknowledged_by c k x ≡ k) → ((c : ℕ) → revokes c x ≡ (d == c))
    → ((c : ℕ) → is_revoked_in new c ≡ cond (d == c) true (is_revoked_in old c)) → new.known ≡ old.known → new.acknowledged ≡ old.acknowledged → HasFaults (log ++ x ∷ []) new
faults_revoked {log} {old} new x d held none same is m k a = record {
  knows = k ∙ (held.knows ∙ sym (known-push log x ∙ (ap (λ ys. known_of log ++ ys) (none (known_of log)) ∙ append-nil (known_of log))));
  acknowledges = λ c. ap (λ xs. count_at xs c) a ∙ (held.acknowledges c ∙ sym (acknowledged-push c log x ∙ same c (acknowledged_of log c)));
  marks = λ c. m c ∙ (marked_or (d == c) (is_revoked_in old c) ∙ (ap (λ b. b || (d == c)) (held.marks c) ∙ sym (any-push (revokes c) log x ∙ ap (λ b. is_revoked log c || b) (is c))));
}

-- a rank is known to have failed exactly where a notice came from it
pub known_gone : (log : List Entry) (s : ℕ) → is_member (known_of log) s ≡ is_gone log s
known_gone log s =
    gathered_all (by_found newly_known) (λ l known. is_member known s ≡ is_gone l s)
    (λ l known x p. list_any-append (λ m. m == s) known (newly_known known x) ∙ (step l known x p ∙ sym (any-push (tells_gone s) l x)))
    [] refl log
  where
    or_true : (b : Bool) → true ≡ b || true
    or_true true = refl
    or_true false = refl

    noticed : (known : List ℕ) (g : Bool) (f : ℕ) → is_member known s ≡ g → (r : Bool) → is_member known f ≡ r → (t : Bool) → (f == s) ≡ t → is_member known s || list_any (λ m. m == s) (cond r [] (f ∷ [])) ≡ g || cond t true false
    noticed known g f p true e true q = or-false (is_member known s) ∙ (ap (is_member known) (sym (eqb-true f s q)) ∙ (e ∙ or_true g))
    noticed known g f p true e false q = ap (λ b. b || false) p
    noticed known g f p false e true q = ap (λ b. is_member known s || (b || false)) q ∙ ap (λ b. b || true) p
    noticed known g f p false e false q = ap (λ b. is_member known s || (b || false)) q ∙ ap (λ b. b || false) p

    unnoticed : (a b : Bool) (f : ℕ) → a ≡ b → (t : Bool) → a || false ≡ b || cond t false false
    unnoticed a b f p true = ap (λ b. b || false) p
    unnoticed a b f p false = ap (λ b. b || false) p

    step : (l : List Entry) (known : List ℕ) (x : Entry) → is_member known s ≡ is_gone l s → is_member known s || list_any (λ m. m == s) (newly_known known x) ≡ is_gone l s || tells_gone s x
    step l known (Took f Gone) p = noticed known (is_gone l s) f.number p (is_member known f.number) refl (f.number == s) refl
    step l known (Took f item) p = unnoticed (is_member known s) (is_gone l s) f.number p (f.number == s)
    step l known x p = ap (λ b. b || false) p

pub known_named : {log : List Entry} {facts : FaultState} → HasFaults log facts → (source : Source) → names_known facts source ≡ names_gone log source
known_named {log} {facts} held (One rank) = ap (λ known. is_member known rank.number) held.knows ∙ known_gone log rank.number
known_named {log} {facts} held (Any members) = refl

-- what pends by the facts pends by the log
pub pends_known : (n : ℕ) (log : List Entry) (facts : FaultState) (p : Pattern) (group : List ℕ) → HasFaults log facts → members_of n log p.context.number ≡ group
    → pends_by facts group p ≡ pends n log p
pends_known n log facts p group held members =
    let c = p.context.number in
    ap (λ b. is_any p.source && (not b && has_unacked facts group c)) (held.marks c)
    ∙ (ap (λ k. is_any p.source && (not (is_revoked log c) && nat_lt k (length (intersection facts.known group)))) (held.acknowledges c)
    ∙ (ap (λ known. is_any p.source && (not (is_revoked log c) && nat_lt (acknowledged_of log c) (length (intersection known group)))) held.knows
    ∙ ap (λ g. is_any p.source && (not (is_revoked log c) && nat_lt (acknowledged_of log c) (length (intersection (known_of log) g)))) (sym members)))

pub marked_before : {log : List Entry} {facts : FaultState} → HasFaults log facts → (item : Item) → was_revoked_in facts item ≡ revoked_before log item
marked_before {log} {facts} held (Mail letter) = held.marks letter.envelope.context.number
marked_before {log} {facts} held (Revoke context) = held.marks context.number
marked_before {log} {facts} held item = refl

-- letters and entrances
pub faults_taken : {log : List Entry} {facts : FaultState} (s : WorldRank) (item : Item) → (item ≡ Gone → ⊥) → ((c : Context) → item ≡ Revoke c → ⊥) → HasFaults log facts → HasFaults (log ++ Took s item ∷ []) facts
faults_taken {log} {facts} s (Mail letter) gone revoke held = faults_quiet (Took s (Mail letter)) held (λ k. refl) (λ c k. refl) (λ c. refl)
faults_taken {log} {facts} s Gone gone revoke held = absurd (gone refl)
faults_taken {log} {facts} s (Revoke context) gone revoke held = absurd (revoke context refl)
faults_taken {log} {facts} s (Enter entrance) gone revoke held = faults_quiet (Took s (Enter entrance)) held (λ k. refl) (λ c k. refl) (λ c. refl)

pub knows_gone : {log : List Entry} {facts : FaultState} → HasFaults log facts → (r : ℕ) → is_member facts.known r ≡ is_gone log r
knows_gone {log} {facts} held r = ap (λ known. is_member known r) held.knows ∙ known_gone log r
