-- The letters of one communicator among items, and those that a log sent.
use Rattle.std.proofs.Common.{◌≡◌, ℕ, ◌<◌, Bool, true, false, cond, eqb, List, [], ◌∷◌, ◌++◌, refl, ap, sym, ◌∙◌, append-nil}
use Rattle.ulfm_report_laws.proofs.Common.{Item, Entry, members_of, is_revoked, Content, content, flat_map, IsFrom, gathered_all, owed, owed_by, is_addressed, is_member, flat_map-append, ⊤, ◌&&◌, ◌==◌, if◌then◌else◌}
use Rattle.ulfm_base.specs.declared.item.Item.TheVariants.{Letter as Mail, Gone, Revoke, Enter}
use Rattle.ulfm_log.specs.declared.entry.Entry.TheVariants.{Sent, Revoked, Entered, Took}
use Rattle.ulfm_log.specs.Log.{by_before}

abbrev pub mail_on : ℕ → Item → List Content
mail_on c (Mail letter) = if letter.envelope.context.number == c then content letter.envelope.tag letter.body ∷ [] else []
mail_on c _ = []

-- the letters of the communicator c among some items
abbrev pub mail : ℕ → List Item → List Content
mail c items = flat_map (mail_on c) items

abbrev pub sent_entry : ℕ → ℕ → Entry → List Content
sent_entry c d (Sent to letter) = if letter.envelope.context.number == c && to.number == d then content letter.envelope.tag letter.body ∷ [] else []
sent_entry c d _ = []

-- the letters of the communicator c that a log sent to the rank d
abbrev pub mail_sent : ℕ → ℕ → List Entry → List Content
mail_sent c d log = flat_map (sent_entry c d) log

-- an item was taken from one of n ranks, and a letter bears the rank that it was taken from
abbrev pub IsTakenFrom : ℕ → Entry → Type 0
IsTakenFrom n (Took source item) = (source.number < n) × IsFrom source item
IsTakenFrom n _ = ⊤

pub flat-push : {X Y : Type 0} (f : X → List Y) (xs : List X) (x : X) → flat_map f (xs ++ x ∷ []) ≡ flat_map f xs ++ f x
flat-push {X} {Y} f xs x = flat_map-append f xs (x ∷ []) ∙ ap (λ ys. flat_map f xs ++ ys) (append-nil (f x))

-- an item that is no letter brings none
pub no_mail : (c : ℕ) (b : Bool) (item : Item) → mail_on c item ≡ [] → mail c (cond b (item ∷ []) []) ≡ []
no_mail c true item e = append-nil (mail_on c item) ∙ e
no_mail c false item e = refl

unsent : (c : ℕ) (a b : Bool) (item : Item) → mail_on c item ≡ [] → mail c (cond a [] (cond b (item ∷ []) [])) ≡ []
unsent c true b item e = refl
unsent c false b item e = no_mail c b item e

-- of what an entry owes the letters are those that it sent
owed_entry : (n me c d : ℕ) (before : List Entry) (e : Entry) → mail c (owed_by n me d before e) ≡ sent_entry c d e
owed_entry n me c d before (Sent to letter) = one (eqb letter.envelope.context.number c) (eqb to.number d) refl
  where
    one : (a b : Bool) → eqb letter.envelope.context.number c ≡ a → mail c (cond b (Mail letter ∷ []) []) ≡ cond (a && b) (content letter.envelope.tag letter.body ∷ []) []
    one true true e = rw e refl
    one true false e = refl
    one false true e = rw e refl
    one false false e = refl
owed_entry n me c d before (Revoked context) = unsent c (is_revoked before context.number) (is_addressed me before d) (Revoke context) refl
owed_entry n me c d before (Entered entrance) = no_mail c (is_member (members_of n before entrance.topic.context.number) d && is_addressed me before d) (Enter entrance) refl
owed_entry n me c d before (Took source (Revoke context)) = unsent c (is_revoked before context.number) (is_addressed me before d) (Revoke context) refl
owed_entry n me c d before (Took source (Mail letter)) = refl
owed_entry n me c d before (Took source Gone) = refl
owed_entry n me c d before (Took source (Enter entrance)) = refl
owed_entry n me c d before _ = refl

pub mail_owed : (n me c d : ℕ) (log : List Entry) → mail c (owed n me log d) ≡ mail_sent c d log
mail_owed n me c d log =
    gathered_all {X = Item} (by_before (owed_by n me d)) (λ (before : List Entry) (found : List Item). mail c found ≡ mail_sent c d before)
    (λ before found e h.
    flat_map-append (mail_on c) found (owed_by n me d before e)
    ∙ ap (λ xs. xs ++ mail c (owed_by n me d before e)) h
    ∙ ap (λ xs. mail_sent c d before ++ xs) (owed_entry n me c d before e)
    ∙ sym (flat-push (sent_entry c d) before e))
    [] refl log
