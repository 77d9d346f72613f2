-- What goes out of a rank bears its number.
use Rattle.std.proofs.Common.{◌≡◌, ℕ, Bool, true, false, cond, eqb, List, [], ◌∷◌, ◌++◌, length, drop, refl, subst, arith, length-append, All}
use Rattle.std.proofs.lemmas.List.{get_or_append_left, get_or_at}
use Rattle.ulfm_rank.proofs.Common.{WorldRank, Item, Entry, owed, owed_by, All-append, All-push, All-drop, All-head, All-nil, State, owes, outbox, mark_at, is_stopped, IsSigned, IsFrom}
use Rattle.ulfm_base.specs.declared.item.Item.TheVariants.{Letter as Mail, Gone, Revoke, Enter}
use Rattle.ulfm_base.proofs.Numbers.{same_rank}
use Rattle.ulfm_log.proofs.Gather.{gathered_all}
use Rattle.ulfm_log.proofs.Logs.{owed_by_cases}
use Rattle.ulfm_base.specs.Items.{ComesFrom}
use Rattle.ulfm_log.specs.Log.{by_before}

pub all_front : {X : Type 0} (P : X → Type 0) (xs : List X) (x : X) → All P (xs ++ x ∷ []) → All P xs
all_front P xs x all k d h = let Q = P in subst Q (get_or_append_left xs (x ∷ []) d k h) (all k d (omega (arith, length-append xs (x ∷ []), h)))

pub all_last : {X : Type 0} (P : X → Type 0) (xs : List X) (x : X) → All P (xs ++ x ∷ []) → P x
all_last P xs x all = subst P (get_or_at xs x [] x (length xs) refl) (all (length xs) x (omega (arith, length-append xs (x ∷ []))))

signed_step : (n me d : ℕ) (before : List Entry) (found : List Item) (e : Entry) → (All (IsSigned me) before → All (ComesFrom me) found) → All (IsSigned me) (before ++ e ∷ []) → All (ComesFrom me) (found ++ owed_by n me d before e)
signed_step n me d before found e h all =
    let own = all_last (IsSigned me) before e all in
    let one : (item : Item) → ComesFrom me item → All (ComesFrom me) (item ∷ []) = λ item k. All-push (ComesFrom me) [] item (All-nil (ComesFrom me)) k in
    All-append (ComesFrom me) found (owed_by n me d before e) (h (all_front (IsSigned me) before e all))
    (owed_by_cases (λ (xs : List Item). All (ComesFrom me) xs) n me d before e (All-nil (ComesFrom me)) (λ to letter is. one (Mail letter) (let S = IsSigned me in subst S is own)) (λ context. one (Revoke context) tt) (λ entrance. one (Enter entrance) tt))

pub owed_signed : (n me d : ℕ) (log : List Entry) → All (IsSigned me) log → All (ComesFrom me) (owed n me log d)
owed_signed n me d log =
    let P = λ (before : List Entry) (found : List Item). All (IsSigned me) before → All (ComesFrom me) found in
    gathered_all {X = Item} (by_before (owed_by n me d)) P (signed_step n me d) [] (λ k. All-nil (ComesFrom me)) log

after_stop : (me : ℕ) (a b : Bool) → All (ComesFrom me) (cond a [] (cond b [] (Gone ∷ [])))
after_stop me true b = All-nil (ComesFrom me)
after_stop me false true = All-nil (ComesFrom me)
after_stop me false false = All-push (ComesFrom me) [] Gone (All-nil (ComesFrom me)) tt

outbox_signed : (r : State) (d : ℕ) → All (IsSigned r.me) r.log → All (ComesFrom r.me) (outbox r d)
outbox_signed r d all = one (is_stopped r.log)
  where
    one : (b : Bool) → All (ComesFrom r.me) (cond b (cond (eqb r.me d) [] (cond (mark_at r d).notice_out [] (Gone ∷ []))) (drop (mark_at r d).items_out (owes r d)))
    one true = after_stop r.me (eqb r.me d) (mark_at r d).notice_out
    one false = All-drop (ComesFrom r.me) (mark_at r d).items_out (owes r d) (owed_signed r.ranks r.me d r.log all)

-- the first item of an outbox bears the number of the rank
pub front_signed : (r : State) (d : ℕ) (item : Item) (rest : List Item) → All (IsSigned r.me) r.log → outbox r d ≡ item ∷ rest → ComesFrom r.me item
front_signed r d item rest all front = All-head (ComesFrom r.me) item rest (rw front at (outbox_signed r d all))

-- an item of the rank with this number comes from it
pub from_signed : (source : WorldRank) (item : Item) → ComesFrom source.number item → IsFrom source item
from_signed source (Mail letter) h = same_rank letter.envelope.source source h
from_signed source _ h = tt
