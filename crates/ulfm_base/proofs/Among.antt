-- What holds of the members of a group, and of those that a test picks.
use Rattle.std.proofs.Common.{◌≡◌, ℕ, zero, suc, ◌+◌, ◌<◌, ◌≤◌, Bool, true, false, cond, List, [], ◌∷◌, length, get_or, refl, ap, sym, ◌∙◌, arith, inl, inr, eq-eqb, ◌||◌, ◌==◌, not}
use Rattle.std.specs.List.{list_any, list_all}
use Rattle.std.proofs.lemmas.Bool.{false≢true, or_cases, or_left, or_right, and_parts, and_from, eqb-true, cases_eq}
use Rattle.ulfm_base.specs.Group.{is_member, excluding, numbers_from}

-- two tests that imply each other are one
pub same_truth : (a b : Bool) → (a ≡ true → b ≡ true) → (b ≡ true → a ≡ true) → a ≡ b
same_truth true b there back = sym (there refl)
same_truth false true there back = back refl
same_truth false false there back = refl

first_member : (m : ℕ) (group : List ℕ) → is_member (m ∷ group) m ≡ true
first_member m group = or_left (m == m) (is_member group m) (eq-eqb m m refl)

later_member : (m k : ℕ) (group : List ℕ) → is_member group k ≡ true → is_member (m ∷ group) k ≡ true
later_member m k group h = or_right (m == k) (is_member group k) h

-- a member of which the test holds
pub member_test : (group : List ℕ) (test : ℕ → Bool) → list_any test group ≡ true → (m : ℕ) × (is_member group m ≡ true) × (test m ≡ true)
member_test [] test h = absurd (false≢true h)
member_test (m ∷ group) test h = elim (or_cases (test m) (list_any test group) h) [
  | inl here ↦ (m, first_member m group, here)
  | inr there ↦
      let found = member_test group test there in
      (found.0, later_member m found.0 group found.1, found.2)
]

pub any_member : (group : List ℕ) (test : ℕ → Bool) (m : ℕ) → is_member group m ≡ true → test m ≡ true → list_any test group ≡ true
any_member [] test m member h = absurd (false≢true member)
any_member (k ∷ group) test m member h = elim (or_cases (k == m) (is_member group m) member) [
  | inl here ↦ or_left (test k) (list_any test group) (ap test (eqb-true k m here) ∙ h)
  | inr there ↦ or_right (test k) (list_any test group) (any_member group test m there h)
]

-- the test holds of all, where it holds of each
pub all_members : (group : List ℕ) (test : ℕ → Bool) → ((m : ℕ) → is_member group m ≡ true → test m ≡ true) → list_all test group ≡ true
all_members [] test each = refl
all_members (m ∷ group) test each = and_from (test m) (list_all test group) (each m (first_member m group)) (all_members group test (λ k h. each k (later_member m k group h)))

pub at_member : (group : List ℕ) (test : ℕ → Bool) (m : ℕ) → list_all test group ≡ true → is_member group m ≡ true → test m ≡ true
at_member [] test m all member = absurd (false≢true member)
at_member (k ∷ group) test m all member =
    let parts = and_parts (test k) (list_all test group) all in
    elim (or_cases (k == m) (is_member group m) member) [
      | inl here ↦ ap test (sym (eqb-true k m here)) ∙ parts.0
      | inr there ↦ at_member group test m parts.1 there
    ]

-- a place at which the test holds
pub place_test : {X : Type 0} (test : X → Bool) (d : X) (xs : List X) → list_any test xs ≡ true → (j : ℕ) × (j < length xs) × (test (get_or xs j d) ≡ true)
place_test test d [] h = absurd (false≢true h)
place_test test d (x ∷ xs) h = elim (or_cases (test x) (list_any test xs) h) [
  | inl here ↦ (0, omega arith, here)
  | inr there ↦
      let found = place_test test d xs there in
      (suc found.0, omega (arith, found.1), found.2)
]

-- tests that agree on the members exclude the same
pub excluding_alike : (group : List ℕ) (f g : ℕ → Bool) → ((m : ℕ) → is_member group m ≡ true → f m ≡ g m) → excluding group f ≡ excluding group g
excluding_alike [] f g alike = refl
excluding_alike (m ∷ group) f g alike =
    let rest = excluding_alike group f g (λ k h. alike k (later_member m k group h)) in
    ap (λ (b : Bool). cond (not b) (m ∷ excluding group f) (excluding group f)) (alike m (first_member m group)) ∙ ap (λ (xs : List ℕ). cond (not (g m)) (m ∷ xs) xs) rest

-- a member that isn't excluded stays
pub excluding_keeps : (group : List ℕ) (out : ℕ → Bool) (m : ℕ) → is_member group m ≡ true → out m ≡ false → is_member (excluding group out) m ≡ true
excluding_keeps [] out m member stays = absurd (false≢true member)
excluding_keeps (k ∷ group) out m member stays = pick (λ h. excluding_keeps group out m h stays) (out k) refl
  where
    pick : (is_member group m ≡ true → is_member (excluding group out) m ≡ true) → (b : Bool) → out k ≡ b → is_member (cond (not b) (k ∷ excluding group out) (excluding group out)) m ≡ true
    pick later true gone = elim (or_cases (k == m) (is_member group m) member) [
      | inl here ↦ absurd (false≢true (sym stays ∙ ap out (sym (eqb-true k m here)) ∙ gone))
      | inr there ↦ later there
    ]
    pick later false kept = elim (or_cases (k == m) (is_member group m) member) [
      | inl here ↦ or_left (k == m) (is_member (excluding group out) m) here
      | inr there ↦ or_right (k == m) (is_member (excluding group out) m) (later there)
    ]

-- who stays was a member, and isn't excluded
pub excluding_from : (group : List ℕ) (out : ℕ → Bool) (m : ℕ) → is_member (excluding group out) m ≡ true → (is_member group m ≡ true) × (out m ≡ false)
excluding_from [] out m member = absurd (false≢true member)
excluding_from (k ∷ group) out m member = pick (λ h. let rest = excluding_from group out m h in (or_right (k == m) (is_member group m) rest.0, rest.1)) (out k) refl member
  where
    pick : (is_member (excluding group out) m ≡ true → (is_member (k ∷ group) m ≡ true) × (out m ≡ false)) → (b : Bool) → out k ≡ b → is_member (cond (not b) (k ∷ excluding group out) (excluding group out)) m ≡ true → (is_member (k ∷ group) m ≡ true) × (out m ≡ false)
    pick later true gone h = later h
    pick later false kept h = elim (or_cases (k == m) (is_member (excluding group out) m) h) [
      | inl here ↦ (or_left (k == m) (is_member group m) here, ap out (sym (eqb-true k m here)) ∙ kept)
      | inr there ↦ later there
    ]

-- the members of the world are the ranks below n
pub world_member : (k n m : ℕ) → k ≤ m → m < k + n → is_member (numbers_from k n) m ≡ true
world_member k zero m low high = absurd (omega (arith, low, high))
world_member k (suc n) m low high = elim (cases_eq k m) [
  | inl same ↦ or_left (k == m) (is_member (numbers_from (suc k) n) m) (eq-eqb k m same)
  | inr other ↦ or_right (k == m) (is_member (numbers_from (suc k) n) m) (world_member (suc k) n m (omega (arith, low, other)) (omega (arith, high)))
]

pub world_below : (k n m : ℕ) → is_member (numbers_from k n) m ≡ true → m < k + n
world_below k zero m h = absurd (false≢true h)
world_below k (suc n) m h = elim (or_cases (k == m) (is_member (numbers_from (suc k) n) m) h) [
  | inl here ↦ let same : k ≡ m = eqb-true k m here in omega (arith, same)
  | inr there ↦ let below = world_below (suc k) n m there in omega (arith, below)
]

-- a test holds of none, where it holds of no element
pub none_of : (group : List ℕ) (test : ℕ → Bool) → ((m : ℕ) → test m ≡ false) → list_any test group ≡ false
none_of [] test each = refl
none_of (k ∷ group) test each = ap (λ (b : Bool). b || list_any test group) (each k) ∙ none_of group test each
