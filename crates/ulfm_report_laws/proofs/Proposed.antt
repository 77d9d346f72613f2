-- What a rank proposes, by the entries of the decision alone.
use Rattle.std.proofs.Common.{◌≡◌, ◌<◌, ℕ, Bool, true, false, cond, List, Option, Some, None, is_some, ◌&&◌, ◌||◌, refl, ap, sym, subst, ◌∙◌, inl, inr, arith}
use Rattle.std.proofs.lemmas.Bool.{cases_lt, false_from_ne_true}
use Rattle.std.proofs.lemmas.List.{get_or_past}
use Rattle.std.proofs.lemmas.List.Folds.{list_any_at}
use Rattle.ulfm_base.proofs.Among.{all_members, any_member, excluding_alike, member_test, place_test, same_truth}
use Rattle.ulfm_base.specs.Decision.{entry_at, in_entry, is_listed}
use Rattle.ulfm_base.specs.Group.{excluding}
use Rattle.ulfm_base.specs.RankSet.{has}
use Rattle.ulfm_log.specs.Proposal.{IsProposal, deciders, has_entered, has_proposal, is_out, listed_of}
use Rattle.ulfm_log.proofs.Firsts.{none_from}
use Rattle.ulfm_log.proofs.Proposing.{has_small}
use Rattle.ulfm_report_laws.proofs.Common.{Contribution, Decision, Entry, Topic, cond-true, false≢true, get_or_from_slice_get, is_gone, is_member, list_any, or_cases, slice_get-get_or}
use Rattle.ulfm_report_laws.specs.Proposed.{ProposesBy}

-- who knows of a failure is listed
pub listed_by : (o : Option Contribution) (r : ℕ) → in_entry o r ≡ true → is_some o ≡ true
listed_by None r h = absurd (false≢true h)
listed_by (Some brought) r h = refl

-- the members that a decision is about are ranks of a job: each is listed or excluded
pub members_small : (d : Decision) (m : ℕ) → is_member d.old m ≡ true → m < 8
members_small d m member = elim (or_cases (is_listed d.entries m) (has d.excluded m) (d.lawful.complete m member)) [
  | inl listed ↦ elim (cases_lt m 8) [
    | inl small ↦ small
    | inr large ↦ absurd (false≢true (ap (λ (o : Option Contribution). is_some o) (sym (get_or_past d.entries m None (omega (arith, d.sized, large)))) ∙ listed))
  ]
  | inr out ↦ has_small d.excluded d.excluded.sized m out
]

module _ (me : ℕ) (log : List Entry) (d : Decision) (listed : (r : ℕ) → r < 8 → is_member d.old r ≡ true → entry_at d.entries r ≡ listed_of me log d.topic r) where
  -- what members are listed with tells of the same failures
  in_entries : (r : ℕ) → list_any (λ m. in_entry (listed_of me log d.topic m) r) d.old ≡ list_any (λ entry. in_entry entry r) d.entries
  in_entries r = same_truth _ _
      (λ h.
      let found = member_test d.old (λ m. in_entry (listed_of me log d.topic m) r) h in
      let small = members_small d found.0 found.1 in
      list_any_at (λ entry. in_entry entry r) d.entries found.0 None (omega (arith, small, d.sized)) (ap (λ o. in_entry o r) (listed found.0 small found.1) ∙ found.2))
      (λ h.
      let found = place_test (λ entry. in_entry entry r) None d.entries h in
      let member = d.lawful.listed_members found.0 (listed_by (entry_at d.entries found.0) r found.2) in
      any_member d.old (λ m. in_entry (listed_of me log d.topic m) r) found.0 member (ap (λ o. in_entry o r) (sym (listed found.0 (members_small d found.0 member) member)) ∙ found.2))

-- a proposal is one by these words
pub proposes_by : (n me : ℕ) (log : List Entry) (topic : Topic) (d : Decision) → IsProposal n me log topic d → ProposesBy me log d
proposes_by n me log topic d p =
    let same : topic ≡ d.topic = sym p.about in
    let of_old : (r : ℕ) → is_member d.old r ≡ true → is_member (deciders n log topic) r ≡ true = λ r member. ap (λ (g : List ℕ). is_member g r) (sym p.old_group) ∙ member in
    let listed : (r : ℕ) → r < 8 → is_member d.old r ≡ true → entry_at d.entries r ≡ listed_of me log d.topic r =
    λ r small member.
    get_or_from_slice_get d.entries r (cond (is_member (deciders n log topic) r) (listed_of me log topic r) None) None (p.entries r small)
    ∙ cond-true (is_member (deciders n log topic) r) (listed_of me log topic r) None (of_old r member)
    ∙ ap (λ (t : Topic). listed_of me log t r) same in
    record {
      entered = ap (has_entered log) p.about ∙ p.entered;
      listed = listed;
      excluded = λ r small member.
          p.excluded r small
          ∙ ap (λ b. b && is_out me (deciders n log topic) log topic r) (of_old r member)
          ∙ ap (λ (g : List ℕ). is_out me g log topic r) (sym p.old_group)
          ∙ ap (λ (t : Topic). is_out me d.old log t r) same
          ∙ ap (λ b. is_gone log r || b) (in_entries me log d listed r);
    }

module _ (n me : ℕ) (log : List Entry) (d : Decision) (old : d.old ≡ deciders n log d.topic) (p : ProposesBy me log d) where
  out : (r : ℕ) → r < 8 → is_member d.old r ≡ true → has d.excluded r ≡ is_out me d.old log d.topic r
  out r small member = p.excluded r small member ∙ ap (λ b. is_gone log r || b) (sym (in_entries me log d p.listed r))

  complete : has_proposal me d.old log d.topic ≡ true
  complete = all_members d.old _ (λ m member.
      let small = members_small d m member in
      sym (ap (λ (o : Option Contribution). is_some o || has d.excluded m) (p.listed m small member) ∙ ap (λ b. is_some (listed_of me log d.topic m) || b) (out m small member))
      ∙ d.lawful.complete m member)

  entries_by : (r : ℕ) → r < 8 → (b : Bool) → is_member d.old r ≡ b → entry_at d.entries r ≡ cond b (listed_of me log d.topic r) None
  entries_by r small true is = p.listed r small is
  entries_by r small false outside =
      none_from (entry_at d.entries r) (false_from_ne_true (is_listed d.entries r) (λ listed. false≢true (sym outside ∙ d.lawful.listed_members r listed)))

  excluded_by : (r : ℕ) → r < 8 → (b : Bool) → is_member d.old r ≡ b → has d.excluded r ≡ (b && is_out me d.old log d.topic r)
  excluded_by r small true is = out r small is
  excluded_by r small false outside = false_from_ne_true (has d.excluded r) (λ excluded. false≢true (sym outside ∙ d.lawful.excluded_members r excluded))

  -- by these words and its group it is a proposal
  pub is_whole : IsProposal n me log d.topic d
  is_whole = record {
    entered = p.entered;
    complete = subst (λ (g : List ℕ). has_proposal me g log d.topic ≡ true) old complete;
    about = refl;
    old_group = old;
    entries = λ r small.
        slice_get-get_or d.entries r None (omega (arith, small, d.sized))
        ∙ ap Some (entries_by r small (is_member d.old r) refl ∙ ap (λ (g : List ℕ). cond (is_member g r) (listed_of me log d.topic r) None) old);
    excluded = λ r small. excluded_by r small (is_member d.old r) refl ∙ ap (λ (g : List ℕ). is_member g r && is_out me g log d.topic r) old;
    fresh = d.lawful.survivors
        ∙ excluding_alike d.old (has d.excluded) (is_out me d.old log d.topic) (λ m member. out m (members_small d m member) member)
        ∙ ap (λ (g : List ℕ). excluding g (is_out me g log d.topic)) old;
  }
