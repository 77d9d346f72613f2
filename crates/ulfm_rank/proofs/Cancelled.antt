-- A receive is cancelled: it ends, and its request is released.
use Rattle.std.proofs.Common.{◌≡◌, ℕ, cond, List, [], ◌∷◌, ◌++◌, refl, ap, sym, ◌∙◌, subst, Option, Some, None}
use Rattle.ulfm_rank.proofs.Common.{MatchEvent, End, count_before, Entry, Cancelled, Request, RequestId, history_of, eq-eqb, Pairing, LawfulPairing, Matching, Tracks, TracksEnd, IsTable, IsInStep, Removes}
use Rattle.ulfm_rank.proofs.Endings.{one_number}
use Rattle.ulfm_rank.proofs.Histories.{history-push}
use Rattle.ulfm_rank.proofs.Release.{table_released}
use Rattle.ulfm_rank.proofs.Steps.{map_same}
use Rattle.ulfm_rank.proofs.Tables.{became_keeps, no_post, table_change}

-- a receive ends that the table doesn't have
table_ended : {n : ℕ} {log : List Entry} {h : List MatchEvent} {r : Pairing} {find : ℕ → Option Request} → LawfulPairing h r → IsTable n log h r find → (i : ℕ) → find (count_before h i) ≡ None → IsTable n log (h ++ End i ∷ []) r find
table_ended {n} {log} {h} {r} {find} law t i none =
    table_change n log h (End i ∷ []) r r find find t (no_post h (End i) (λ q e. cc)) (λ k q. q) (λ k. sym (map_same (find k) (λ q. q) (λ q. refl))) (λ k q. refl)
    (λ k q f s.
    became_keeps h (End i) r r law (λ i b q. q) s.place q.pattern q.fate (λ b q. q)
    (λ e. (λ g. let same : i ≡ s.place = cc in let found : find (count_before h i) ≡ Some q = ap find (ap (count_before h) same ∙ s.numbered) ∙ f in cc, λ g. cc))
    s.fate)
    (λ k q f s. refl)

-- a receive that waits is cancelled
pub in_step_cancelled : {n : ℕ} {log : List Entry} {m : Matching} {find : ℕ → Option Request} → IsInStep n log m find → (id : RequestId) (q : Request) → find id.number ≡ Some q → (m' : Matching) → TracksEnd id.number m m' → (find' : ℕ → Option Request) → Removes id.number find find' → IsInStep n (log ++ Cancelled id ∷ []) m' find'
in_step_cancelled {n} {log} {m} {find} t id q found m' ends find' gone =
    let h = history_of log in
    let s = t.table.standing id.number q found in
    let long : h ++ End s.place ∷ [] ≡ history_of (log ++ Cancelled id ∷ []) = sym (history-push log (Cancelled id) ∙ ap (λ es. h ++ es) (one_number id.number h s.place q.pattern s.posted s.numbered)) in
    let none : find' (count_before h s.place) ≡ None = gone (count_before h s.place) ∙ ap (λ b. cond b None (find (count_before h s.place))) (eq-eqb id.number (count_before h s.place) (sym s.numbered)) in
    record {
      pairing = t.pairing;
      tracks = subst (λ g. Tracks g t.pairing m') long (ends h t.pairing s.place q.pattern s.posted s.numbered t.tracks);
      table = subst (λ g. IsTable n (log ++ Cancelled id ∷ []) g t.pairing find') long
          (table_ended t.tracks.lawful (table_released t.table (Cancelled id) id.number (record { releases_this = λ k. refl; probes_none = λ k. refl }) q found find' gone) s.place none);
    }
