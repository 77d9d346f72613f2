-- A rank that may adopt a decision is in its new group, and the decision is about the topic.
use Rattle.std.proofs.Common.{◌≡◌, ℕ, Bool, true, false, cond, List, [], ◌∷◌, ◌||◌, Option, Some, None, not, refl, nat_eq}
use Rattle.ulfm_base.specs.Group.{is_member, one_further, rank_in}
use Rattle.ulfm_log.proofs.Foreign.{own_affair}
use Rattle.ulfm_rank.specs.Checks.{Passes, adopt_checks, group_at}
use Rattle.ulfm_script.proofs.Common.{all_pass, is_topic, Topic, Decision, State, contradicts}
use lib.Pointwise.{pointwise}

third_of_four : (a b m d : Bool) → (not a || (not b || (not m || d))) ≡ false → m ≡ true
third_of_four a b true d h = refl
third_of_four true true false d h = absurd (cc)
third_of_four true false false d h = absurd (cc)
third_of_four false b false d h = absurd (cc)

none_later : (k : Option ℕ) → one_further k ≡ None → k ≡ None
none_later None h = refl
none_later (Some k) h = absurd (cc)

found_first : (b : Bool) (group : List ℕ) (r : ℕ) → (is_member group r ≡ true → rank_in group r ≡ None → ⊥) → (b || is_member group r) ≡ true → cond b (Some 0) (one_further (rank_in group r)) ≡ None → ⊥
found_first true group r rest member none = absurd (cc)
found_first false group r rest member none = rest member (none_later (rank_in group r) none)

-- a member has a position
pub member_found : (group : List ℕ) (r : ℕ) → is_member group r ≡ true → rank_in group r ≡ None → ⊥
member_found [] r member none = absurd (cc)
member_found (m ∷ group) r member none = found_first _ group r (member_found group r) member none

pub adopter_is_member : (r : State) (t : Topic) (d : Decision) → Passes (adopt_checks r t d) → is_member d.fresh r.me ≡ true
adopter_is_member r t d h =
    third_of_four (is_topic d.topic t) (pointwise nat_eq d.old (group_at r t.context.number)) (is_member d.fresh r.me) (contradicts r.me r.log t d) (all_pass (adopt_checks r t d) h).1.1.1.1.0

pub adopted_about : (r : State) (t : Topic) (d : Decision) → Passes (adopt_checks r t d) → d.topic ≡ t
adopted_about r t d h = (own_affair r.me (group_at r t.context.number) r.log t d (all_pass (adopt_checks r t d) h).1.1.1.1.0).about
