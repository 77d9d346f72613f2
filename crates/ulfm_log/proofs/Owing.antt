-- What a log owes of its entrances.
use Rattle.std.proofs.Common.{◌≡◌, ◌≢◌, ℕ, Bool, true, false, cond, eqb, List, [], ◌∷◌, ◌++◌, refl, ap, sym, ◌∙◌, inl, inr, Option, Some, None, is_some, ◌&&◌, ne_eqb}
use Rattle.ulfm_log.proofs.Common.{Context, Topic, Entrance, Item, Contribution, deciders, is_member, Entry, Sent, Revoked, Entered, Took, is_gone, is_revoked, or_else, is_made, members_of, entry_of, has_entered, none-some, owed, owed_by, is_addressed}
use Rattle.ulfm_base.specs.declared.item.Item.TheVariants.{Letter as Mail, Revoke, Enter}
use Rattle.ulfm_log.proofs.Gather.{gathered-push}
use Rattle.ulfm_log.proofs.Firsts.{or_none, or_else_cases, or_else_first, or_else_second, some_from, none_from, first-push, first_set, set-append}
use Rattle.ulfm_log.proofs.Entering.{Fits, EntersMade, own_set, own_stays, own_cases, entry_parts, entry_here, gone_before, members_stay}
use Rattle.ulfm_log.specs.Log.{by_before}

pub owed-push : (n me : ℕ) (log : List Entry) (e : Entry) (d : ℕ) → owed n me (log ++ e ∷ []) d ≡ owed n me log d ++ owed_by n me d log e
owed-push n me log e d = gathered-push {X = Item} (by_before (owed_by n me d)) [] log e

-- nothing that a test leaves out is told
kept : (c : Topic) (b : Bool) (item : Item) (set : Contribution) → first_set c (cond b (item ∷ []) []) ≡ Some set → first_set c (item ∷ []) ≡ Some set
kept c true item set h = h
kept c false item set h = absurd (none-some set h)

no_notice : (c : Topic) (a b : Bool) (context : Context) → first_set c (cond a [] (cond b (Revoke context ∷ []) [])) ≡ None
no_notice c true b context = refl
no_notice c false true context = refl
no_notice c false false context = refl

no_letter : (c : Topic) (b : Bool) (item : Item) → first_set c (item ∷ []) ≡ None → first_set c (cond b (item ∷ []) []) ≡ None
no_letter c true item h = h
no_letter c false item h = refl

bad : (o : Option Contribution) (set : Contribution) → o ≡ None → o ≡ Some set → ⊥
bad o set none some = none-some set (sym none ∙ some)

-- an entry that owes word of an entrance into the topic c is that entrance
pub owed_entry : (n me d : ℕ) (c : Topic) (before : List Entry) (e : Entry) (set : Contribution) → first_set c (owed_by n me d before e) ≡ Some set → entry_of c e ≡ Some set
owed_entry n me d c before (Entered entrance) set h =
    sym (or_none (entry_of c (Entered entrance))) ∙ kept c (is_member (members_of n before entrance.topic.context.number) d && is_addressed me before d) (Enter entrance) set h
owed_entry n me d c before (Sent to letter) set h = absurd (bad _ set (no_letter c (eqb to.number d) (Mail letter) refl) h)
owed_entry n me d c before (Revoked context) set h = absurd (bad _ set (no_notice c (is_revoked before context.number) (is_addressed me before d) context) h)
owed_entry n me d c before (Took source (Revoke context)) set h = absurd (bad _ set (no_notice c (is_revoked before context.number) (is_addressed me before d) context) h)
owed_entry n me d c before _ set h = absurd (none-some set h)

-- what is owed of an entrance is what the rank's own brings
abbrev pub OwesOwn : ℕ → ℕ → List Entry → Type 0
OwesOwn n me log = (d : ℕ) (c : Topic) (set : Contribution) → first_set c (owed n me log d) ≡ Some set → own_set log c ≡ Some set

pub own_first : (log : List Entry) (e : Entry) (c : Topic) (set : Contribution) → has_entered log c ≡ false → entry_of c e ≡ Some set → own_set (log ++ e ∷ []) c ≡ Some set
own_first log e c set fresh here = first-push (entry_of c) log e ∙ or_else_second (own_set log c) (entry_of c e) (none_from (own_set log c) fresh) ∙ here

pub owes_own : (n me : ℕ) (log : List Entry) (e : Entry) → OwesOwn n me log → Fits n me log e → OwesOwn n me (log ++ e ∷ [])
owes_own n me log e h fits d c set told = elim (or_else_cases _ (first_set c (owed_by n me d log e)) set (sym (set-append c (owed n me log d) (owed_by n me d log e)) ∙ ap (first_set c) (sym (owed-push n me log e d)) ∙ told)) [
  | inl was ↦ own_stays log e c set (h d c set was)
  | inr now ↦
      let here = owed_entry n me d c log e set now.1 in
      let is = entry_parts c e set here in
      own_first log e c set (ap (has_entered log) (sym is.2) ∙ (rw is.1 at fits).1) here
]

-- each other member that isn't known as gone is told of an entrance
abbrev pub OwesEach : ℕ → ℕ → List Entry → Type 0
OwesEach n me log = (d : ℕ) (c : Topic) → has_entered log c ≡ true → is_member (deciders n log c) d ≡ true → me ≢ d → is_gone log d ≡ false → is_some (first_set c (owed n me log d)) ≡ true

told_now : (n me d : ℕ) (c : Topic) (before : List Entry) (entrance : Entrance) → entrance.topic ≡ c → is_member (members_of n before entrance.topic.context.number) d ≡ true → me ≢ d → is_gone before d ≡ false → first_set c (owed_by n me d before (Entered entrance)) ≡ Some entrance.contribution
told_now n me d c before entrance same member other stays =
    rw (member, ne_eqb me d other, stays) (or_none (entry_of c (Entered entrance)) ∙ entry_here entrance c same)

set-push : (n me : ℕ) (log : List Entry) (e : Entry) (d : ℕ) (c : Topic) → first_set c (owed n me (log ++ e ∷ []) d) ≡ or_else (first_set c (owed n me log d)) (first_set c (owed_by n me d log e))
set-push n me log e d c = ap (first_set c) (owed-push n me log e d) ∙ set-append c (owed n me log d) (owed_by n me d log e)

some_either : (a b : Option Contribution) → is_some a ≡ true → is_some (or_else a b) ≡ true
some_either a b h = let found = some_from a h in ap is_some (or_else_first a b found.0 found.1)

some_second : (a b : Option Contribution) (set : Contribution) → b ≡ Some set → is_some (or_else a b) ≡ true
some_second None b set h = ap is_some h
some_second (Some x) b set h = refl

pub owes_each : (n me : ℕ) (log : List Entry) (e : Entry) → EntersMade n log → OwesEach n me log → Fits n me log e → OwesEach n me (log ++ e ∷ [])
owes_each n me log e made h fits d c entered member other stays =
    let set = some_from (own_set (log ++ e ∷ []) c) entered in
    ap is_some (set-push n me log e d c)
    ∙ elim (own_cases log e c set.0 set.1) [
      | inl was ↦
          let same = members_stay n log e c.context.number (made c (ap is_some was)) in
          some_either (first_set c (owed n me log d)) (first_set c (owed_by n me d log e)) (h d c (ap is_some was) (ap (λ g. is_member g d) (sym same) ∙ member) other (gone_before log e d stays))
      | inr now ↦
          let is = entry_parts c e set.0 now.1 in
          let ok = rw is.1 at fits in
          let same = members_stay n log e c.context.number (ap (λ (t : Topic). is_made n log t.context.number) (sym is.2) ∙ ok.0) in
          let inside : is_member (deciders n log is.0.topic) d ≡ true = ap (λ (t : Topic). is_member (deciders n log t) d) is.2 ∙ ap (λ g. is_member g d) (sym same) ∙ member in
          some_second (first_set c (owed n me log d)) (first_set c (owed_by n me d log e)) set.0
          (ap (λ x. first_set c (owed_by n me d log x)) is.1 ∙ told_now n me d c log is.0 is.2 inside other (gone_before log e d stays) ∙ ap Some is.3)
    ]
