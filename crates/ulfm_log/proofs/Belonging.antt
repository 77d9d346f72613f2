-- Each group has its own rank, and ranks of the world alone.
use Rattle.std.proofs.Common.{◌≡◌, ℕ, ◌<◌, Bool, true, false, cond, eqb, List, [], ◌∷◌, ◌++◌, length, take, refl, ap, sym, ◌∙◌, arith, inl, inr, Some, None, not, nat_eq, slice_get}
use lib.Pointwise.{pointwise, pointwise_decides}
use Rattle.std.proofs.lemmas.List.{take-append-le, take_all}
use Rattle.ulfm_log.proofs.Common.{Topic, Entrance, Decision, deciders, is_topic, topics_equal, topic_passes, is_member, numbers_from, has, Entry, Entered, Knows, is_gone, false≢true, or_parts, or_from, not-false, not_from_true, eqb-true, eq-eqb, group_of, is_made, entry_of, is_foreign, contradicts, same_Some, slice_get_within, none-some, get_cases}
use Rattle.ulfm_log.proofs.Firsts.{some_from}
use Rattle.ulfm_log.proofs.Grouped.{group_cases, members_found}
use Rattle.ulfm_base.proofs.Among.{excluding_from, world_member, world_below}
use Rattle.ulfm_log.proofs.Entering.{Fits, own_set, own_stays, entry_here, EntersMade, enters_made, AdoptsEntered, adopts_entered, KnowsSets, knows_sets, RoundsCounted, rounds_counted}
use Rattle.ulfm_log.proofs.Owing.{OwesOwn, owes_own, OwesEach, owes_each, own_first}

-- a decision that isn't foreign to a rank
pub record IsOwn (me : ℕ) (group : List ℕ) (log : List Entry) (c : Topic) (d : Decision) : Type 0 where
  pub about : d.topic ≡ c
  pub old_group : d.old ≡ group
  pub member : is_member d.fresh me ≡ true
  pub agrees : contradicts me log c d ≡ false

pub same_numbers : (xs ys : List ℕ) → (pointwise nat_eq xs ys ≡ true → xs ≡ ys) × (xs ≡ ys → pointwise nat_eq xs ys ≡ true)
same_numbers = pointwise_decides (λ a b. (eqb-true a b, eq-eqb a b))

pub own_from : (me : ℕ) (group : List ℕ) (log : List Entry) (c : Topic) (d : Decision) → is_foreign me group log c d ≡ false → IsOwn me group log c d
own_from me group log c d h =
    let first = or_parts (not (is_topic d.topic c)) _ h in
    let second = or_parts (not (pointwise nat_eq d.old group)) _ first.1 in
    let third = or_parts (not (is_member d.fresh me)) _ second.1 in
    record {
      about = topics_equal d.topic c (not-false _ first.0);
      old_group = (same_numbers d.old group).0 (not-false _ second.0);
      member = not-false _ third.0;
      agrees = third.1;
    }

pub not_foreign : (me : ℕ) (group : List ℕ) (log : List Entry) (c : Topic) (d : Decision) → IsOwn me group log c d → is_foreign me group log c d ≡ false
not_foreign me group log c d h =
    or_from (not (is_topic d.topic c)) _ (not_from_true _ (topic_passes d.topic c h.about))
    (or_from (not (pointwise nat_eq d.old group)) _ (not_from_true _ ((same_numbers d.old group).1 h.old_group))
    (or_from (not (is_member d.fresh me)) _ (not_from_true _ h.member) h.agrees))

-- the group of each communicator that the rank made has the rank, and ranks of the world alone
pub record Belongs (n me : ℕ) (group : List ℕ) : Type 0 where
  pub member : is_member group me ≡ true
  pub below : (x : ℕ) → is_member group x ≡ true → x < n

abbrev pub BelongsToAll : ℕ → ℕ → List Entry → Type 0
BelongsToAll n me log = (c : ℕ) (g : List ℕ) → group_of n log c ≡ Some g → Belongs n me g

pub belongs-start : (n me : ℕ) → me < n → BelongsToAll n me []
belongs-start n me inside c g h = pick (eqb 0 c) h
  where
    pick : (b : Bool) → cond b (Some (numbers_from 0 n)) None ≡ Some g → Belongs n me g
    pick true e = rw (← same_Some (numbers_from 0 n) g e) (record { member = world_member 0 n me (omega arith) (omega (arith, inside)); below = λ x member. omega (arith, world_below 0 n x member) })
    pick false e = absurd (none-some g e)

-- the new group of a decision that isn't foreign
adopted_belongs : (n me : ℕ) (c : Topic) (log : List Entry) (d : Decision) → BelongsToAll n me log → is_made n log c.context.number ≡ true → IsOwn me (deciders n log c) log c d → Belongs n me d.fresh
adopted_belongs n me c log d h made own =
    let found = some_from (group_of n log c.context.number) made in
    record {
      member = own.member;
      below = λ x inside.
          let stays = excluding_from d.old (has d.excluded) x (ap (λ g. is_member g x) (sym d.lawful.survivors) ∙ inside) in
          (h c.context.number found.0 found.1).below x (ap (λ g. is_member g x) (sym (own.old_group ∙ members_found n log c.context.number found.0 found.1)) ∙ stays.0);
    }

pub belongs : (n me : ℕ) (log : List Entry) (e : Entry) → BelongsToAll n me log → Fits n me log e → BelongsToAll n me (log ++ e ∷ [])
belongs n me log e h fits c g made = elim (group_cases n log e c g made) [
  | inl was ↦ h c g was
  | inr (inl d) ↦ h d.parent.number g d.group
  | inr (inr a) ↦
      let ok = rw a.entry at fits in
      let i = a.decision.topic in
      rw a.group at (adopted_belongs n me i log a.decision h ok.0 (own_from me (deciders n log i) log i a.decision ok.2))
]

-- a rank enters a topic once, with the failures that it knows then
abbrev pub EntersOnce : List Entry → Type 0
EntersOnce log = (k : ℕ) (entrance : Entrance) → slice_get log k ≡ Some (Entered entrance) → (own_set log entrance.topic ≡ Some entrance.contribution) × Knows (take k log) entrance.contribution.known

pub enters_once : (n me : ℕ) (log : List Entry) (e : Entry) → EntersOnce log → Fits n me log e → EntersOnce (log ++ e ∷ [])
enters_once n me log e h fits k entrance stands = elim (get_cases log e k (Entered entrance) stands) [
  | inl was ↦
      let old = h k entrance was in
      let inside = slice_get_within log k (Entered entrance) was in
      (own_stays log e entrance.topic entrance.contribution old.0, λ r. old.1 r ∙ ap (λ b. is_gone b r) (sym (take-append-le k log (e ∷ []) (omega (arith, inside)))))
  | inr now ↦
      let ok = rw now.1 at fits in (
        own_first log e entrance.topic entrance.contribution ok.1 (ap (entry_of entrance.topic) now.1 ∙ entry_here entrance entrance.topic refl),
        λ r. ok.2 r ∙ ap (λ b. is_gone b r) (sym (ap (λ i. take i (log ++ e ∷ [])) now.0 ∙ take-append-le (length log) log (e ∷ []) (omega arith) ∙ take_all (length log) log (omega arith))),
      )
]

-- what a rank's own log keeps of its topics
pub record Keeps (n me : ℕ) (log : List Entry) : Type 0 where
  pub enters_made : EntersMade n log
  pub adopts_entered : AdoptsEntered log
  pub knows_sets : KnowsSets log
  pub owes_own : OwesOwn n me log
  pub owes_each : OwesEach n me log
  pub belongs : BelongsToAll n me log
  pub enters_once : EntersOnce log
  pub rounds_counted : RoundsCounted log

pub keeps-start : (n me : ℕ) → me < n → Keeps n me []
keeps-start n me inside = record {
  enters_made = λ c h. absurd (false≢true h);
  adopts_entered = λ c h. absurd (false≢true h);
  knows_sets = λ c s set h. absurd (none-some set h);
  owes_own = λ d c set h. absurd (none-some set h);
  owes_each = λ d c h. absurd (false≢true h);
  belongs = belongs-start n me inside;
  enters_once = λ k entrance h. absurd (none-some (Entered entrance) h);
  rounds_counted = λ topic h. absurd (false≢true h);
}

pub keeps-push : (n me : ℕ) (log : List Entry) (e : Entry) → Keeps n me log → Fits n me log e → Keeps n me (log ++ e ∷ [])
keeps-push n me log e h fits = record {
  enters_made = enters_made n me log e h.enters_made fits;
  adopts_entered = adopts_entered n me log e h.adopts_entered fits;
  knows_sets = knows_sets n me log e h.knows_sets fits;
  owes_own = owes_own n me log e h.owes_own fits;
  owes_each = owes_each n me log e h.enters_made h.owes_each fits;
  belongs = belongs n me log e h.belongs fits;
  enters_once = enters_once n me log e h.enters_once fits;
  rounds_counted = rounds_counted n me log e h.rounds_counted fits;
}
