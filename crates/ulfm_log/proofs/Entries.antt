-- What a log tells of entrances, entry by entry.
use Rattle.std.proofs.Common.{◌≡◌, ℕ, ◌<◌, Bool, true, false, cond, List, [], ◌∷◌, ap, sym, subst, ◌∙◌, arith, inl, inr, Option, Some, None, ◌==◌, is_some, length}
use Rattle.std.proofs.lemmas.List.{get_or_past}
use Rattle.ulfm_log.proofs.Common.{Item, Topic, Entrance, Contribution, WorldRank, Entry, Entered, Took, first_given, cases_lt, none-some, cond_some, topics_equal, is_topic, HasShrink, given_by, told_of, brought_to, entry_of, item_entry, heard_of, has_entered, listed_of, HasEntries, entry_at, nat_tests}
use Rattle.ulfm_base.specs.Topic.{Fits}
use Rattle.ulfm_base.specs.declared.item.Item.TheVariants.{Enter}
use Rattle.ulfm_log.proofs.Entering.{entry_parts, own_set}
use Rattle.ulfm_log.proofs.Firsts.{or_else_cases, some_from}
use Rattle.ulfm_log.proofs.Listing.{listed-own}

eqb-flip : (a b : ℕ) → (a == b) ≡ (b == a)
eqb-flip a b = grind (arith, nat_tests)

-- the rank's own entrance
pub told_own : (me : WorldRank) (entrance : Entrance) (t : Topic) (r : ℕ) → given_by t r (Some (me, entrance)) ≡ told_of me.number t r (Entered entrance)
told_own me entrance t r = ap (λ b. cond b (brought_to t entrance) None) (eqb-flip me.number r)

-- the first thing that is given comes from an entry
pub given_from : {X : Type 0} (give : Entry → Option X) (log : List Entry) (x : X) → first_given give log ≡ Some x → (e : Entry) × (give e ≡ Some x)
given_from give [] x h = absurd (none-some x h)
given_from give (e ∷ log) x h = elim (or_else_cases (give e) (first_given give log) x h) [
  | inl here ↦ (e, here)
  | inr there ↦ given_from give log x there.1
]

-- what is brought to a topic fits it
brought_fits : (t : Topic) (entrance : Entrance) (brought : Contribution) → brought_to t entrance ≡ Some brought → Fits t.purpose brought.flag
brought_fits t entrance brought h =
    let both = cond_some (is_topic entrance.topic t) entrance.contribution brought h in
    subst (λ (c : Contribution). Fits t.purpose c.flag) both.1 (subst (λ (u : Topic). Fits u.purpose entrance.contribution.flag) (topics_equal entrance.topic t both.0) entrance.fits)

entry_fits : (t : Topic) (e : Entry) (brought : Contribution) → entry_of t e ≡ Some brought → Fits t.purpose brought.flag
entry_fits t (Entered entrance) brought h = brought_fits t entrance brought h
entry_fits t _ brought h = absurd (none-some brought h)

item_fits : (t : Topic) (item : Item) (brought : Contribution) → item_entry t item ≡ Some brought → Fits t.purpose brought.flag
item_fits t (Enter entrance) brought h = brought_fits t entrance brought h
item_fits t _ brought h = absurd (none-some brought h)

heard_fits : (t : Topic) (r : ℕ) (e : Entry) (brought : Contribution) → heard_of t r e ≡ Some brought → Fits t.purpose brought.flag
heard_fits t r (Took source item) brought h = pick (source.number == r) h
  where
    pick : (b : Bool) → cond b (item_entry t item) None ≡ Some brought → Fits t.purpose brought.flag
    pick true h = item_fits t item brought h
    pick false h = absurd (none-some brought h)
heard_fits t r _ brought h = absurd (none-some brought h)

-- with what a rank is listed on a topic fits it
pub listed_fits : (me : ℕ) (log : List Entry) (t : Topic) (r : ℕ) (brought : Contribution) → listed_of me log t r ≡ Some brought → Fits t.purpose brought.flag
listed_fits me log t r brought = pick (r == me)
  where
    pick : (b : Bool) → cond b (first_given (entry_of t) log) (first_given (heard_of t r) log) ≡ Some brought → Fits t.purpose brought.flag
    pick true h = let found = given_from (entry_of t) log brought h in entry_fits t found.0 brought found.1
    pick false h = let found = given_from (heard_of t r) log brought h in heard_fits t r found.0 brought found.1

-- a shrink that was entered has a context for its communicator
pub entered_shrinks : (log : List Entry) (t : Topic) → has_entered log t ≡ true → HasShrink t
entered_shrinks log t h =
    let own = some_from (own_set log t) h in
    let found = given_from (entry_of t) log own.0 own.1 in
    let is = entry_parts t found.0 own.0 found.1 in
    subst HasShrink is.2 is.0.has_shrink

-- a rank that is listed entered
pub entered_here : (me k : ℕ) (log : List Entry) (t : Topic) (entries : List (Option Contribution)) → me ≡ k → me < 8 → HasEntries k log t entries → is_some (entry_at entries me) ≡ has_entered log t
entered_here me k log t entries same rank held = ap is_some (held me rank ∙ ap (λ i. listed_of k log t i) same ∙ listed-own k log t)

-- who is listed is one of eight ranks
pub listed_to : (entries : List (Option Contribution)) (r : ℕ) (brought : Contribution) → length entries ≡ 8 → entry_at entries r ≡ Some brought → r < 8
listed_to entries r brought size here = elim (cases_lt r 8) [
  | inl small ↦ small
  | inr large ↦ absurd (none-some brought (sym (get_or_past entries r None (omega (arith, size, large))) ∙ here))
]
