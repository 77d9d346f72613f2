-- Ranks that adopted one decision on each topic have one group for each communicator that they made.
use Rattle.std.proofs.Common.{◌≡◌, ℕ, zero, suc, ◌*◌, ◌<◌, List, ap, sym, ◌∙◌, arith, inl, inr, Some, All}
use Rattle.ulfm_report_laws.proofs.Common.{at, Decision, Entry, group_of, Report, same_Some, slice_get-get_or, members_found, some_from, AdoptOne, HasOneGroup, same_context}
use Rattle.ulfm_base.specs.Context.{nth_shrink}
use Rattle.ulfm_base.proofs.Children.{greater}
use Rattle.ulfm_log.proofs.Parents.{HasAdoption, world_group, parent_group, adopted_group, context_cases}

-- decisions of one purpose on contexts of one number are on one topic
same_topic : (d e : Decision) → d.topic.purpose ≡ e.topic.purpose → d.topic.context.number ≡ e.topic.context.number → d.topic ≡ e.topic
same_topic d e purpose number =
    let context = same_context d.topic.context e.topic.context number in
    λ i. record { context = context i; purpose = purpose i }

-- an entry stands somewhere in a log
abbrev StandsIn : List Entry → Entry → Type 0
StandsIn log e = (k : ℕ) × at log k e

all_stand : (log : List Entry) → All (StandsIn log) log
all_stand log k d inside = (k, slice_get-get_or log k d inside)

module _ (reports : List Report) (one : AdoptOne reports) (n : ℕ) where
  adopted_in : (told : Report) (k p : ℕ) (g : List ℕ) → group_of n told.rank.log (nth_shrink k p) ≡ Some g → HasAdoption (StandsIn told.rank.log) k p g
  adopted_in told k p g made = adopted_group (StandsIn told.rank.log) n told.rank.log k p g (all_stand told.rank.log) made

  group_below : (k r s c : ℕ) {told other : Report} (g h : List ℕ) → at reports r told → at reports s other → c < k → group_of n told.rank.log c ≡ Some g → group_of n other.rank.log c ≡ Some h → g ≡ h
  group_below zero r s c g h here yonder low made theirs = absurd (omega (arith, low))
  group_below (suc k) r s c {told} {other} g h here yonder low made theirs = elim (context_cases n told.rank.log c g made) [
    | inl world ↦
        same_Some g h (sym (ap (group_of n told.rank.log) (sym world) ∙ made) ∙ world_group n told.rank.log ∙ sym (world_group n other.rank.log) ∙ ap (group_of n other.rank.log) (sym world) ∙ theirs)
    | inr (inl d) ↦
        let less : d.1 < k = omega (arith, low, d.2, greater d.1 (3 * d.0)) in
        group_below k r s d.1 g h here yonder less (parent_group n told.rank.log d.0 d.1 g (ap (group_of n told.rank.log) (sym d.2) ∙ made)) (parent_group n other.rank.log d.0 d.1 h (ap (group_of n other.rank.log) (sym d.2) ∙ theirs))
    | inr (inr d) ↦
        let mine = adopted_in told d.0 d.1 g (ap (group_of n told.rank.log) (sym d.2) ∙ made) in
        let yours = adopted_in other d.0 d.1 h (ap (group_of n other.rank.log) (sym d.2) ∙ theirs) in
        let same = one r s told other mine.decision yours.decision here yonder mine.holds yours.holds (same_topic mine.decision yours.decision (mine.shrinks ∙ sym yours.shrinks) (mine.context ∙ sym yours.context)) in
        sym mine.group ∙ ap (λ x. x.fresh) same ∙ yours.group
  ]

  pub same_group : (r s c : ℕ) {told other : Report} {g h : List ℕ} → at reports r told → at reports s other → group_of n told.rank.log c ≡ Some g → group_of n other.rank.log c ≡ Some h → g ≡ h
  same_group r s c {told} {other} {g} {h} here yonder made theirs = group_below (suc c) r s c g h here yonder (omega arith) made theirs

pub one_group : (reports : List Report) → AdoptOne reports → {n : ℕ} → ((k : ℕ) (told : Report) → at reports k told → told.rank.ranks ≡ n) → HasOneGroup reports
one_group reports one {n} counted r s c told other here yonder made theirs =
    let mine = some_from (group_of told.rank.ranks told.rank.log c) made in
    let yours = some_from (group_of other.rank.ranks other.rank.log c) theirs in
    members_found told.rank.ranks told.rank.log c mine.0 mine.1
    ∙ same_group reports one n r s c here yonder (ap (λ k. group_of k told.rank.log c) (sym (counted r told here)) ∙ mine.1) (ap (λ k. group_of k other.rank.log c) (sym (counted s other yonder)) ∙ yours.1)
    ∙ sym (members_found other.rank.ranks other.rank.log c yours.0 yours.1)
