-- Which element of a list gives the next one of what its elements give, where each gives one at most.
use Rattle.std.proofs.Common.{◌≡◌, ℕ, zero, suc, ◌+◌, ◌<◌, ◌⊎◌, inl, inr, List, [], ◌∷◌, ◌++◌, length, take, refl, ap, sym, ◌∙◌, Some, arith, length-append, append_assoc, slice_get}
use Rattle.std.specs.List.{flat_map}
use Rattle.ulfm_match.proofs.Decide.{compared}

-- each element gives nothing, or one thing
abbrev pub GivesFew : {X Y : Type 0} → (X → List Y) → Type 0
GivesFew {X} {Y} f = (x : X) → (f x ≡ []) ⊎ ((y : Y) × (f x ≡ y ∷ []))

-- the element at this index gives y, after those that give what stands in `front`
pub record GivesAt {X Y : Type 0} (f : X → List Y) (xs : List X) (front : List Y) (y : Y) : Type 0 where
  pub index : ℕ
  pub giver : X
  pub at : slice_get xs index ≡ Some giver
  pub gives : f giver ≡ y ∷ []
  pub before : flat_map f (take index xs) ≡ front

module _ {X Y : Type 0} (f : X → List Y) where
  gives_next : (x : X) (xs : List X) (z : Y) → f x ≡ z ∷ [] → (front : List Y) (y : Y) (back : List Y) → z ∷ flat_map f xs ≡ front ++ y ∷ back
      → ((front : List Y) → flat_map f xs ≡ front ++ y ∷ back → GivesAt f xs front y) → GivesAt f (x ∷ xs) front y
  gives_next x xs z one [] y back e next = record { index = 0; giver = x; at = refl; gives = one ∙ ap (λ w. w ∷ []) (let same : z ≡ y = cc in same); before = refl }
  gives_next x xs z one (w ∷ front) y back e next =
      let k = next front (let same : flat_map f xs ≡ front ++ y ∷ back = cc in same) in
      record {
        index = suc k.index;
        giver = k.giver;
        at = k.at;
        gives = k.gives;
        before = ap (λ ys. ys ++ flat_map f (take k.index xs)) one ∙ ap (λ ys. z ∷ ys) k.before ∙ ap (λ v. v ∷ front) (let same : z ≡ w = cc in same);
      }

  pub gives_at : GivesFew f → (xs : List X) (front : List Y) (y : Y) (back : List Y) → flat_map f xs ≡ front ++ y ∷ back → GivesAt f xs front y
  gives_at few [] [] y back e = cc
  gives_at few [] (z ∷ front) y back e = cc
  gives_at few (x ∷ xs) front y back e = elim (few x) [
    | inl none ↦
        let k = gives_at few xs front y back (ap (λ ys. ys ++ flat_map f xs) (sym none) ∙ e) in
        record { index = suc k.index; giver = k.giver; at = k.at; gives = k.gives; before = ap (λ ys. ys ++ flat_map f (take k.index xs)) none ∙ k.before }
    | inr one ↦ gives_next x xs one.0 one.1 front y back (ap (λ ys. ys ++ flat_map f xs) (sym one.1) ∙ e) (λ front h. gives_at few xs front y back h)
  ]

  -- what stands before an element, it, and what stands after it
  pub flat_at : (xs : List X) (i : ℕ) (x : X) → slice_get xs i ≡ Some x → (rest : List Y) × (flat_map f xs ≡ flat_map f (take i xs) ++ (f x ++ rest))
  flat_at [] i x h = cc
  flat_at (z ∷ xs) zero x h = (flat_map f xs, ap (λ w. f w ++ flat_map f xs) (let same : z ≡ x = cc in same))
  flat_at (z ∷ xs) (suc i) x h =
      let k = flat_at xs i x h in
      (k.0, ap (λ ys. f z ++ ys) k.1 ∙ sym (append_assoc (f z) (flat_map f (take i xs)) (f x ++ k.0)))

  pub flat_within : (xs : List X) (i k : ℕ) (x : X) → i < k → slice_get xs i ≡ Some x → (rest : List Y) × (flat_map f (take k xs) ≡ flat_map f (take i xs) ++ (f x ++ rest))
  flat_within [] i k x l h = cc
  flat_within (z ∷ xs) i zero x l h = absurd (omega (arith, l))
  flat_within (z ∷ xs) zero (suc k) x l h = (flat_map f (take k xs), ap (λ w. f w ++ flat_map f (take k xs)) (let same : z ≡ x = cc in same))
  flat_within (z ∷ xs) (suc i) (suc k) x l h =
      let q = flat_within xs i k x (omega (arith, l)) h in
      (q.0, ap (λ ys. f z ++ ys) q.1 ∙ sym (append_assoc (f z) (flat_map f (take i xs)) (f x ++ q.0)))

  pub flat_front : (xs : List X) (k : ℕ) → (rest : List Y) × (flat_map f (take k xs) ++ rest ≡ flat_map f xs)
  flat_front [] zero = ([], refl)
  flat_front [] (suc k) = ([], refl)
  flat_front (z ∷ xs) zero = (flat_map f (z ∷ xs), refl)
  flat_front (z ∷ xs) (suc k) =
      let q = flat_front xs k in
      (q.0, append_assoc (f z) (flat_map f (take k xs)) q.0 ∙ ap (λ ys. f z ++ ys) q.1)

  more_given : (xs : List X) (i k : ℕ) (x : X) (y : Y) → i < k → slice_get xs i ≡ Some x → f x ≡ y ∷ [] → length (flat_map f (take i xs)) < length (flat_map f (take k xs))
  more_given xs i k x y l h one =
      let q = flat_within xs i k x l h in
      let a : length (flat_map f (take k xs)) ≡ length (flat_map f (take i xs)) + length (f x ++ q.0) = ap length q.1 ∙ length-append (flat_map f (take i xs)) (f x ++ q.0) in
      let b : length (f x ++ q.0) ≡ suc (length q.0) = ap (λ ys. length (ys ++ q.0)) one in
      omega (arith, a, b)

  -- two elements that give something, after as much, are one
  pub index_same : (xs : List X) (i k : ℕ) (x z : X) (y w : Y) → slice_get xs i ≡ Some x → slice_get xs k ≡ Some z → f x ≡ y ∷ [] → f z ≡ w ∷ [] → length (flat_map f (take i xs)) ≡ length (flat_map f (take k xs)) → i ≡ k
  index_same xs i k x z y w hi hk fi fk same = elim (compared i k) [
    | inl l ↦ absurd (omega (arith, more_given xs i k x y l hi fi, same))
    | inr o ↦ elim o [ inl e ↦ e | inr l ↦ absurd (omega (arith, more_given xs k i z w l hk fk, same)) ]
  ]

module _ {X : Type 0} where
  -- fronts of one list that are as long are equal
  pub same_fronts : (a r b s : List X) → a ++ r ≡ b ++ s → length a ≡ length b → a ≡ b
  same_fronts [] r [] s e l = refl
  same_fronts [] r (y ∷ b) s e l = absurd (omega (arith, l))
  same_fronts (x ∷ a) r [] s e l = absurd (omega (arith, l))
  same_fronts (x ∷ a) r (y ∷ b) s e l =
      let k = same_fronts a r b s (let f : a ++ r ≡ b ++ s = cc in f) (omega (arith, l)) in
      let same : x ≡ y = cc in
      ap (λ z. z ∷ a) same ∙ ap (λ zs. y ∷ zs) k

  -- an element of a beginning is one of the whole, with the same before it
  pub get_take : (xs : List X) (b a : ℕ) (x : X) → slice_get (take b xs) a ≡ Some x → (a < b) × (slice_get xs a ≡ Some x) × (take a (take b xs) ≡ take a xs)
  get_take [] zero a x h = cc
  get_take [] (suc b) a x h = cc
  get_take (z ∷ xs) zero a x h = cc
  get_take (z ∷ xs) (suc b) zero x h = (omega arith, h, refl)
  get_take (z ∷ xs) (suc b) (suc a) x h = let k = get_take xs b a x h in (let l = k.0 in omega (arith, l), k.1, ap (λ ys. z ∷ ys) k.2)
