-- Each letter that came is from a rank of the world.
use Rattle.std.proofs.Common.{◌≡◌, ℕ, zero, suc, ◌<◌, Bool, true, false, cond, List, [], ◌∷◌, ◌++◌, length, ap, sym, ◌∙◌, Some, slice_get, All}
use Rattle.ulfm_report_laws.proofs.Common.{Letter, Pattern, Entry, is_revoked, count_before, ◌==◌, all_front, all_last, gathered_all, names, MatchEvent, Post, Come, End, Clear, ComeAt, history_of, events_by, ends_from, end_at, names_gone}
use Rattle.ulfm_base.specs.declared.item.Item.TheVariants.{Letter as Mail, Gone, Revoke, Enter}
use Rattle.ulfm_log.specs.declared.entry.Entry.TheVariants.{Posted, Probed, Cancelled, Revoked, Took}
use Rattle.ulfm_report_laws.proofs.Mail.{IsTakenFrom}

-- a letter among these events is from one of n ranks
abbrev AreFrom : ℕ → List MatchEvent → Type 0
AreFrom n es = (k : ℕ) (l : Letter) → slice_get es k ≡ Some (Come l) → l.envelope.source.number < n

from-nil : (n : ℕ) → AreFrom n []
from-nil n k l h = absurd (cc)

from-one : (n : ℕ) (e : MatchEvent) → ((l : Letter) → e ≡ Come l → l.envelope.source.number < n) → AreFrom n (e ∷ [])
from-one n e own zero l h = own l (let f : e ≡ Come l = cc in f)
from-one n e own (suc k) l h = absurd (cc)

from-append : (n : ℕ) (xs ys : List MatchEvent) → AreFrom n xs → AreFrom n ys → AreFrom n (xs ++ ys)
from-append n [] ys a b k l h = b k l h
from-append n (x ∷ xs) ys a b zero l h = a zero l h
from-append n (x ∷ xs) ys a b (suc k) l h = from-append n xs ys (λ j m g. a (suc j) m g) b k l h

from-cond : (n : ℕ) (b : Bool) (e : MatchEvent) → ((l : Letter) → e ≡ Come l → l.envelope.source.number < n) → AreFrom n (cond b [] (e ∷ []))
from-cond n true e own = from-nil n
from-cond n false e own = from-one n e own

from-end : (n : ℕ) (b : Bool) (k : ℕ) → AreFrom n (cond b (End k ∷ []) [])
from-end n true k = from-one n (End k) (λ l e. absurd (cc))
from-end n false k = from-nil n

from-ends : (n : ℕ) (test : ℕ → Pattern → Bool) (k : ℕ) (h : List MatchEvent) → AreFrom n (ends_from test k h)
from-ends n test k [] = from-nil n
from-ends n test k (e ∷ h) = from-append n (end_at test k e) (ends_from test (suc k) h) (one e) (from-ends n test (suc k) h)
  where
    one : (e : MatchEvent) → AreFrom n (end_at test k e)
    one (Post p) = from-end n (test k p) k
    one _ = from-nil n

from-events : (n : ℕ) (log : List Entry) (h : List MatchEvent) (e : Entry) → IsTakenFrom n e → AreFrom n (events_by log h e)
from-events n log h (Posted p) own = from-append n (Post p ∷ []) (cond (names_gone log p.source) (End (length h) ∷ []) []) (from-one n (Post p) (λ l e. absurd (cc))) (from-end n (names_gone log p.source) (length h))
from-events n log h (Probed id p) own = from-append n (Post p ∷ []) (End (length h) ∷ []) (from-one n (Post p) (λ l e. absurd (cc))) (from-one n (End (length h)) (λ l e. absurd (cc)))
from-events n log h (Cancelled id) own = from-ends n (λ k _. count_before h k == id.number) 0 h
from-events n log h (Revoked context) own = from-cond n (is_revoked log context.number) (Clear context.number) (λ l e. absurd (cc))
from-events n log h (Took source (Mail letter)) own =
    from-cond n (is_revoked log letter.envelope.context.number) (Come letter)
    (λ l e. let same : letter ≡ l = cc in rw (sym own.1 ∙ ap (λ m. m.envelope.source) same) at own.0)
from-events n log h (Took source Gone) own = from-ends n (λ _ p. names p.source source.number) 0 h
from-events n log h (Took source (Revoke context)) own = from-cond n (is_revoked log context.number) (Clear context.number) (λ l e. absurd (cc))
from-events n log h (Took source (Enter entrance)) own = from-nil n
from-events n log h _ own = from-nil n

-- a letter that came is from one of the ranks that the log took from
pub come_bound : (n : ℕ) (log : List Entry) → All (IsTakenFrom n) log → (b : ℕ) (l : Letter) → ComeAt (history_of log) b l → l.envelope.source.number < n
come_bound n log all =
    gathered_all {X = MatchEvent} events_by (λ (before : List Entry) (found : List MatchEvent). All (IsTakenFrom n) before → AreFrom n found)
    (λ before found e h all. from-append n found (events_by before found e) (h (all_front (IsTakenFrom n) before e all)) (from-events n before found e (all_last (IsTakenFrom n) before e all)))
    [] (λ all. from-nil n) log all
