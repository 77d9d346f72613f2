-- The history of a log that posts no receive on a revoked context can happen, and has a post for each that the log posted.
use Rattle.std.proofs.Common.{◌≡◌, ◌≢◌, ℕ, zero, suc, ◌<◌, Bool, true, false, cond, List, [], ◌∷◌, ◌++◌, length, refl, ap, sym, ◌∙◌, subst, arith, append-nil, append_assoc, Some}
use Rattle.std.specs.Prelude.{⊤, slice_get}
use Rattle.ulfm_rank.proofs.Common.{Letter, Pattern, MessageId, Entry, Posted, Probed, Cancelled, Revoked, Took, is_revoked, slice_get_within, get_old, get_new, length_more, MatchEvent, Post, Come, End, Clear, PostAt, IsWellFormed, history_of, events_by, end_numbered, ends_of, names_gone}
use Rattle.ulfm_base.specs.declared.item.Item.TheVariants.{Letter as Mail, Gone, Revoke}
use Rattle.ulfm_match.proofs.Decide.{Contains-head, Contains-tail}
use Rattle.ulfm_match.proofs.Ends.{AreEnds}
use Rattle.ulfm_match.proofs.Steps.{history_more, posted_more, come_more}
use Rattle.ulfm_rank.proofs.Histories.{history-push}
use Rattle.ulfm_rank.proofs.Gone.{ends_named}
use Rattle.ulfm_rank.proofs.Endings.{number_ends}
use Rattle.ulfm_rank.proofs.Opens.{each_event, posted_by, unrevoked_open}

abbrev pub PostsNone : Entry → Type 0
PostsNone (Posted p) = ⊥
PostsNone (Probed id p) = ⊥
PostsNone _ = ⊤

-- no receive is posted by these events
abbrev pub HasNoPost : List MatchEvent → Type 0
HasNoPost es = (k : ℕ) (p : Pattern) → slice_get es k ≡ Some (Post p) → ⊥

pub none-nil : HasNoPost []
none-nil k p h = let bad : ⊥ = cc in bad

pub none-one : (e : MatchEvent) → ((p : Pattern) → e ≡ Post p → ⊥) → HasNoPost (e ∷ [])
none-one e other zero p h = other p (let f : e ≡ Post p = cc in f)
none-one e other (suc k) p h = let bad : ⊥ = cc in bad

posts-none : (e : Entry) → PostsNone e → (p : Pattern) → posted_by e ≡ Some p → ⊥
posts-none (Posted q) none p f = none
posts-none (Probed id q) none p f = none
posts-none _ none p f = let bad : ⊥ = cc in bad

pub none-events : (log : List Entry) (h : List MatchEvent) (e : Entry) → PostsNone e → HasNoPost (events_by log h e)
none-events log h e none k p g =
    each_event (λ (x : MatchEvent). (q : Pattern) → x ≢ Post q) (λ i q f. cc) (λ l q f. cc) log h e (λ m f. absurd (posts-none e none m f)) (λ c r q f. cc) k (Post p) g p refl

formed-none : (h : List MatchEvent) → IsWellFormed h → IsWellFormed (h ++ [])
formed-none h wf = subst (λ (g : List MatchEvent). IsWellFormed g) (sym (append-nil h)) wf

formed-clear : (h : List MatchEvent) (b : Bool) (c : ℕ) → IsWellFormed h → IsWellFormed (h ++ cond b [] (Clear c ∷ []))
formed-clear h true c wf = formed-none h wf
formed-clear h false c wf = history_more h (Clear c) wf (λ i e. cc) (λ p e. cc) (λ l e. cc)

formed-come : (log : List Entry) (letter : Letter) (b : Bool) → is_revoked log letter.envelope.context.number ≡ b → IsWellFormed (history_of log) → IsWellFormed (history_of log ++ cond b [] (Come letter ∷ []))
formed-come log letter true e wf = formed-none (history_of log) wf
formed-come log letter false e wf = come_more (history_of log) letter wf (unrevoked_open log letter.envelope.context.number e)

formed-ends : (es h : List MatchEvent) → IsWellFormed h → AreEnds h es → IsWellFormed (h ++ es)
formed-ends [] h wf ends = formed-none h wf
formed-ends (x ∷ es) h wf ends =
    let first = ends x (Contains-head x es) in
    let i : ℕ = first.0 in
    let longer : IsWellFormed (h ++ End i ∷ []) =
    history_more h (End i) wf (λ j e. subst (λ (k : ℕ). (p : Pattern) × (k < length h) × PostAt h k p) (let same : i ≡ j = cc in same) (first.1, slice_get_within h i (Post first.1) first.3, first.3)) (λ p e. cc) (λ l e. cc) in
    subst (λ (g : List MatchEvent). IsWellFormed g) (append_assoc h (End i ∷ []) es ∙ ap (λ (e : MatchEvent). h ++ e ∷ es) (sym first.2))
    (formed-ends es (h ++ End i ∷ []) longer (λ y c. let e = ends y (Contains-tail x es y c) in (e.0, e.1, e.2, get_old h (End i) e.0 (Post e.1) e.3)))

formed-events : (log : List Entry) (e : Entry) → IsWellFormed (history_of log) → PostsNone e → IsWellFormed (history_of log ++ events_by log (history_of log) e)
formed-events log (Posted p) wf none = absurd none
formed-events log (Probed id p) wf none = absurd none
formed-events log (Cancelled id) wf none = formed-ends (end_numbered id.number (history_of log)) (history_of log) wf (number_ends id.number (history_of log))
formed-events log (Revoked context) wf none = formed-clear (history_of log) (is_revoked log context.number) context.number wf
formed-events log (Took source (Mail letter)) wf none = formed-come log letter (is_revoked log letter.envelope.context.number) refl wf
formed-events log (Took source Gone) wf none = formed-ends (ends_of source.number (history_of log)) (history_of log) wf (λ x c. let e = (ends_named source.number (history_of log)).sound x c in (e.0, e.1, e.2, e.3))
formed-events log (Took source (Revoke context)) wf none = formed-clear (history_of log) (is_revoked log context.number) context.number wf
formed-events log _ wf none = formed-none (history_of log) wf

-- one more entry, which posts none
pub formed-logged : (log : List Entry) (e : Entry) → IsWellFormed (history_of log) → PostsNone e → IsWellFormed (history_of (log ++ e ∷ []))
formed-logged log e wf none = subst (λ (g : List MatchEvent). IsWellFormed g) (sym (history-push log e)) (formed-events log e wf none)

-- a receive is posted on a context that isn't revoked
module _ (log : List Entry) (p : Pattern) (wf : IsWellFormed (history_of log)) (fresh : is_revoked log p.context.number ≡ false) where
  one : IsWellFormed (history_of log ++ Post p ∷ [])
  one = posted_more (history_of log) p wf (unrevoked_open log p.context.number fresh)

  two : IsWellFormed ((history_of log ++ Post p ∷ []) ++ End (length (history_of log)) ∷ [])
  two = history_more (history_of log ++ Post p ∷ []) (End (length (history_of log))) one (λ j e. subst (λ (k : ℕ). (q : Pattern) × (k < length (history_of log ++ Post p ∷ [])) × PostAt (history_of log ++ Post p ∷ []) k q) (let same : length (history_of log) ≡ j = cc in same) (p, let l = length_more (history_of log) (Post p) in omega (arith, l), get_new (history_of log) (Post p))) (λ q e. cc) (λ l e. cc)

  ended : (b : Bool) → IsWellFormed (history_of log ++ Post p ∷ cond b (End (length (history_of log)) ∷ []) [])
  ended true = subst (λ (g : List MatchEvent). IsWellFormed g) (append_assoc (history_of log) (Post p ∷ []) (End (length (history_of log)) ∷ [])) two
  ended false = one

  pub formed-posted : IsWellFormed (history_of (log ++ Posted p ∷ []))
  formed-posted = subst (λ (g : List MatchEvent). IsWellFormed g) (sym (history-push log (Posted p))) (ended (names_gone log p.source))

  -- by a probe too
  pub formed-probed : (id : MessageId) → IsWellFormed (history_of (log ++ Probed id p ∷ []))
  formed-probed id = subst (λ (g : List MatchEvent). IsWellFormed g) (sym (history-push log (Probed id p))) (ended true)
