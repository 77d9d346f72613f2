-- The passes of an end, after one of them was used.
use Rattle.std.proofs.Common.{◌≡◌, ◌<◌, ℕ, List, [], ◌∷◌, ◌++◌, length, map, set, get_or, ap, sym, ◌∙◌, MatchResult, Result, Ok, Err}
use Rattle.std.specs.Prelude.{⊤}
use Rattle.crossbeam_queue.specs.Ring.{idle}
use Rattle.ulfm_carrier.proofs.Common.{at, InboxPass, IsSamePass, Item, map-set_same, pass_name, pushed_with, spent, view, after_push}
use Rattle.ulfm_carrier.proofs.Places.{at_read, each_set, view_here, view_or}

pub name_same : (p q : InboxPass) → IsSamePass p q → pass_name q ≡ pass_name p
name_same p q same = λ i. record p { table_id = same.0 i; id = same.1 i; me = (idle spent, []) }

pub names_same : (outs : List InboxPass) (k : ℕ) (p q : InboxPass) → p ≡ get_or outs k p → IsSamePass p q → map pass_name (set outs k q) ≡ map pass_name outs
names_same outs k p q here same = map-set_same pass_name outs k q p (name_same p q same ∙ ap pass_name here)

-- what was pushed by one pass more, by a push that a contract of the inbox tells of
pub pushed_more : (r : Result Unit Item) (outs : List InboxPass) (k : ℕ) {p : InboxPass} (q : InboxPass) (x : Item) (H : Type 0) → k < length outs → p ≡ get_or outs k p
    → MatchResult r (λ _. pushed_with q ≡ pushed_with p ++ x ∷ []) (λ back. (back ≡ x) × (pushed_with q ≡ pushed_with p) × H)
    → MatchResult r (λ _. get_or (map pushed_with (set outs k q)) k [] ≡ get_or (map pushed_with outs) k [] ++ x ∷ []) (λ back. (back ≡ x) × (get_or (map pushed_with (set outs k q)) k [] ≡ get_or (map pushed_with outs) k []))
pushed_more (Ok u) outs k {p} q x H low here h = view_here pushed_with outs k q [] low ∙ h ∙ ap (λ l. l ++ x ∷ []) (sym (view_or pushed_with outs k [] (at_read outs k low here)))
pushed_more (Err b) outs k {p} q x H low here h = (h.0, view_here pushed_with outs k q [] low ∙ h.1 ∙ sym (view_or pushed_with outs k [] (at_read outs k low here)))

-- what a push of a sender tells of its pass
pub sender_same : (r : Result Unit Item) (p q : InboxPass) (x : Item) → MatchResult r (λ _. view q ≡ after_push (view p) x) (λ back. (back ≡ x) × (view q ≡ view p))
    → ((view q).role ≡ (view p).role) × ((view q).from ≡ (view p).from) × MatchResult r (λ _. pushed_with q ≡ pushed_with p ++ x ∷ []) (λ back. (back ≡ x) × (pushed_with q ≡ pushed_with p) × ⊤)
sender_same (Ok u) p q x h = (ap (λ v. v.role) h, ap (λ v. v.from) h, ap (λ v. v.pushed) h)
sender_same (Err b) p q x h = (ap (λ v. v.role) h.1, ap (λ v. v.from) h.1, (h.0, ap (λ v. v.pushed) h.1, tt))

-- a fact of each pass at its inbox, after one pass was used
pub each_pass : {Q : Type 0} (P : Q → InboxPass → Type 0) (inboxes : List Q) (outs : List InboxPass) (k : ℕ) (p q : InboxPass) → k < length outs → p ≡ get_or outs k p
    → ((j : ℕ) (i : Q) (o : InboxPass) → at inboxes j i → at outs j o → P i o) → ((i : Q) → at inboxes k i → P i p → P i q)
    → (j : ℕ) (i : Q) (o : InboxPass) → at inboxes j i → at (set outs k q) j o → P i o
each_pass {Q} P inboxes outs k p q low here all used j i o there now =
    each_set (λ (j : ℕ) (o : InboxPass). (i : Q) → at inboxes j i → P i o) outs k q (λ j o _ h i at_i. all j i o at_i h) (λ i at_i. used i at_i (all k i p at_i (at_read outs k low here))) j o now i there
