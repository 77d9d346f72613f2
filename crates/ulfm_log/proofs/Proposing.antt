-- What a rank proposes, from the entries that it knows of.
use Rattle.std.proofs.Common.{◌≡◌, ℕ, ◌+◌, ◌<◌, ◌≤◌, Bool, true, false, cond, List, [], ◌∷◌, ◌++◌, length, get_or, set, refl, ap, sym, ◌∙◌, arith, inl, inr, get_or-set_same, get_or-set_other, Option, Some, None, ◌||◌, ◌&&◌, is_some}
use Rattle.std.proofs.lemmas.List.{get_or_past}
use Rattle.ulfm_log.proofs.Common.{Decision, Contribution, Topic, RankSet, Entry, deciders, is_gone, Knows, cases_eq, cases_lt, false≢true, cond-true, false_from_ne_true, HasEntries, has_entered, listed_of, is_out, has_proposal, IsProposal, slice_get-get_or, list_any, list_any_at, entry_at, is_listed, in_entry, has, IsSubset, is_member, excluding}
use Rattle.ulfm_base.specs.Decision.{and_entries, and_entry}
use Rattle.ulfm_base.proofs.Among.{all_members, at_member, member_test, any_member, place_test, excluding_alike, same_truth}

-- the places below k are filled, and no other
abbrev pub IsFilled : {X : Type 0} → (ℕ → X) → X → List X → ℕ → Type 0
IsFilled want d xs k = ((j : ℕ) → j < k → get_or xs j d ≡ want j) × ((j : ℕ) → k ≤ j → get_or xs j d ≡ d)

pub filled_more : {X : Type 0} (want : ℕ → X) (d : X) (xs : List X) (k : ℕ) (v : X) → k < length xs → v ≡ want k → IsFilled want d xs k → IsFilled want d (set xs k v) (k + 1)
filled_more want d xs k v inside same filled = (
  λ j h. elim (cases_eq j k) [
    | inl here ↦ ap (λ i. get_or (set xs k v) i d) here ∙ get_or-set_same xs k v d inside ∙ same ∙ ap want (sym here)
    | inr other ↦ get_or-set_other xs k j v d other ∙ filled.0 j (omega (arith, h, other))
  ],
  λ j h. get_or-set_other xs k j v d (λ e. omega (arith, h, e)) ∙ filled.1 j (omega (arith, h)),
)

-- the sets by which a proposal for this group is made: the listed entries, the failures, the members, and all of whom is known
-- what they did
pub record IsTally (group : List ℕ) (known : RankSet) (entries listed : List (Option Contribution)) (failures members accounted : RankSet) : Type 0 where
  pub size : length listed ≡ 8
  pub small : (r : ℕ) → has members r ≡ true → r < 8
  pub are_members : (r : ℕ) → has members r ≡ is_member group r
  pub kept : (r : ℕ) → entry_at listed r ≡ cond (is_member group r) (entry_at entries r) None
  pub failed : (r : ℕ) → has failures r ≡ (has known r || list_any (λ entry. in_entry entry r) listed)
  pub accounts : (r : ℕ) → has accounted r ≡ (is_listed listed r || has failures r)

pub has_small : (set : RankSet) → length set.members ≡ 8 → (r : ℕ) → has set r ≡ true → r < 8
has_small set size r h = elim (cases_lt r 8) [
  | inl small ↦ small
  | inr large ↦ absurd (false≢true (sym (get_or_past set.members r false (omega (arith, size, large))) ∙ h))
]

module _ (me : ℕ) (log : List Entry) (c : Topic) {group : List ℕ} {known : RankSet} {entries listed : List (Option Contribution)} {failures members accounted : RankSet} (t : IsTally group known entries listed failures members accounted) (knows : Knows log known) (heard : HasEntries me log c entries) where
  below : (r : ℕ) → is_member group r ≡ true → r < 8
  below r member = t.small r (t.are_members r ∙ member)

  listed_member : (r : ℕ) → is_member group r ≡ true → entry_at listed r ≡ listed_of me log c r
  listed_member r member = t.kept r ∙ cond-true (is_member group r) (entry_at entries r) None member ∙ heard r (below r member)

  -- a listed contribution stands at the place of a member
  placed : (j r : ℕ) → in_entry (entry_at listed j) r ≡ true → is_member group j ≡ true
  placed j r h = pick (is_member group j) refl
    where
      pick : (b : Bool) → is_member group j ≡ b → b ≡ true
      pick true e = refl
      pick false e = absurd (false≢true (sym (ap (λ o. in_entry o r) (t.kept j ∙ ap (λ b. cond b (entry_at entries j) None) e)) ∙ h))

  in_listed : (r : ℕ) → list_any (λ entry. in_entry entry r) listed ≡ list_any (λ m. in_entry (listed_of me log c m) r) group
  in_listed r = same_truth _ _
      (λ h.
      let found = place_test (λ entry. in_entry entry r) None listed h in
      let member = placed found.0 r found.2 in
      any_member group (λ m. in_entry (listed_of me log c m) r) found.0 member (ap (λ o. in_entry o r) (sym (listed_member found.0 member)) ∙ found.2))
      (λ h.
      let found = member_test group (λ m. in_entry (listed_of me log c m) r) h in
      list_any_at (λ entry. in_entry entry r) listed found.0 None (omega (arith, below found.0 found.1, t.size)) (ap (λ o. in_entry o r) (listed_member found.0 found.1) ∙ found.2))

  pub failures_out : (r : ℕ) → has failures r ≡ is_out me group log c r
  failures_out r = t.failed r ∙ ap (λ b. b || list_any (λ entry. in_entry entry r) listed) (knows r) ∙ ap (λ b. is_gone log r || b) (in_listed r)

  accounted_member : (r : ℕ) → is_member group r ≡ true → has accounted r ≡ (is_some (listed_of me log c r) || is_out me group log c r)
  accounted_member r member = t.accounts r ∙ ap (λ o. is_some o || has failures r) (listed_member r member) ∙ ap (λ b. is_some (listed_of me log c r) || b) (failures_out r)

  pub complete_from_subset : IsSubset members accounted → has_proposal me group log c ≡ true
  complete_from_subset within = all_members group _ (λ m member. sym (accounted_member m member) ∙ within m (t.are_members m ∙ member))

  pub subset_from_complete : has_proposal me group log c ≡ true → IsSubset members accounted
  subset_from_complete complete = λ r h.
      let member : is_member group r ≡ true = sym (t.are_members r) ∙ h in
      accounted_member r member ∙ at_member group _ r complete member

-- there is no proposal
pub no_proposal : (me : ℕ) (log : List Entry) (c : Topic) {group : List ℕ} {known : RankSet} {entries listed : List (Option Contribution)} {failures members accounted : RankSet} → IsTally group known entries listed failures members accounted → Knows log known → HasEntries me log c entries → (IsSubset members accounted → ⊥) → has_proposal me group log c ≡ false
no_proposal me log c t knows heard not_within = false_from_ne_true _ (λ complete. not_within (subset_from_complete me log c t knows heard complete))

-- this is the proposal
pub is_proposal : (n me : ℕ) (log : List Entry) (c : Topic) (d : Decision) {known : RankSet} {entries : List (Option Contribution)} {failures members accounted : RankSet} → IsTally (deciders n log c) known entries d.entries failures members accounted → Knows log known → HasEntries me log c entries → IsSubset members accounted
    → has_entered log c ≡ true → d.topic ≡ c → d.old ≡ deciders n log c → ((r : ℕ) → has d.excluded r ≡ (has members r && has failures r)) → d.fresh ≡ excluding (deciders n log c) (has d.excluded) → IsProposal n me log c d
is_proposal n me log c d {known} {entries} {failures} {members} {accounted} t knows heard within entered about old excluded fresh =
    let group = deciders n log c in
    let out = failures_out me log c t knows heard in
    let both : (r : ℕ) → r < 8 → has d.excluded r ≡ (is_member group r && is_out me group log c r) =
    λ r small. excluded r ∙ ap (λ b. b && has failures r) (t.are_members r) ∙ ap (λ b. is_member group r && b) (out r) in
    record {
      entered = entered;
      complete = complete_from_subset me log c t knows heard within;
      about = about;
      old_group = old;
      entries = λ r small. slice_get-get_or d.entries r None (omega (arith, small, t.size)) ∙ ap Some (t.kept r ∙ ap (λ o. cond (is_member group r) o None) (heard r small));
      excluded = both;
      fresh = fresh ∙ excluding_alike group (has d.excluded) (is_out me group log c) (λ m member. both m (t.small m (t.are_members m ∙ member)) ∙ ap (λ b. b && is_out me group log c m) member);
    }

-- the flag of one more entry counts
pub and_entries-push : (bits : ℕ) (xs : List (Option Contribution)) (x : Option Contribution) → and_entries bits (xs ++ x ∷ []) ≡ and_entry (and_entries bits xs) x
and_entries-push bits [] x = refl
and_entries-push bits (y ∷ xs) x = and_entries-push (and_entry bits y) xs x
