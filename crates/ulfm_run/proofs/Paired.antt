-- Two deciders of a list that is parted between them, and lists of which each two agree.
use Rattle.std.proofs.Common.{◌≡◌, ℕ, ◌<◌, ◌≤◌, ◌+◌, List, ◌++◌, length, map, refl, ap, ap₂, sym, subst, ◌∙◌, arith, inl, inr, get_or, set, take, drop, append-nil, Option, Some, None, slice_get, IsSome}
use Rattle.std.proofs.lemmas.List.{length-map, map-append, get_or_append_left, get_or-append-add, drop_all, take_all}
use Rattle.std.proofs.Math.Seq.{map-set_same}
use Rattle.ulfm_base.specs.declared.decision.Decision.{Decision}
use Rattle.ulfm_base.specs.declared.topic.Topic.{Topic}
use Rattle.ulfm_board.specs.Known.{BothAgree, Known, OneBoard, known_at}
use Rattle.ulfm_run.proofs.Common.{AgreeAt, AllAgree, at, at_view, NameOneBoard, cases_eq, cases_lt, same_Some, slice_get_within, slice_get-get_or, get_or_from_slice_get}
use Rattle.ulfm_run.proofs.Handed.{from_map}

-- seats of one board
pub one_board_names : {D : Type 0} (board : D → Option (List ℕ)) (all : List D) → OneBoard board all → NameOneBoard (map board all)
one_board_names {D} board all one = (
  one.0,
  λ k b here.
      let d = from_map board all k here in
      sym d.2 ∙ subst (λ (x : D). board x ≡ Some one.0) (get_or_from_slice_get all k d.0 d.0 d.1) (one.1 k d.0 (slice_get_within all k d.0 d.1)),
)

-- a list that was lent and came back with as many elements
pub lent_whole : {D Z : Type 0} (f : D → Z) {xs ws : List D} (ys : List D) (n : ℕ) → ws ≡ xs → map f ys ≡ map f ws → n ≡ length xs → take n (ys ++ drop (length ys) xs) ≡ ys
lent_whole f {xs} {ws} ys n lent same size =
    let many : length ys ≡ length xs = sym (length-map ys f) ∙ ap length same ∙ length-map ws f ∙ ap length lent in
    ap (λ (l : List _). take n (ys ++ l)) (drop_all (length ys) xs (omega (arith, many)))
    ∙ ap (take n) (append-nil ys) ∙ take_all n ys (omega (arith, many, size))

module _ {D : Type 0} (all front back : List D) (i j : ℕ) (x y : D) (is : all ≡ front ++ back) (cut : length front ≡ j) (low : i < j) (inside : j < length all) where
  first_at : at all i (get_or front i x)
  first_at =
      slice_get-get_or all i x (omega (arith, low, inside))
      ∙ ap Some (ap (λ (l : List D). get_or l i x) is ∙ get_or_append_left front back x i (omega (arith, low, cut)))

  second_at : at all j (get_or back 0 y)
  second_at =
      let place : length front + 0 ≡ j = omega (arith, cut) in
      slice_get-get_or all j y inside
      ∙ ap Some (ap (λ (l : List D). get_or l j y) is ∙ ap (λ k. get_or (front ++ back) k y) (sym place) ∙ get_or-append-add front back 0 y)

  module _ (board : D → Option (List ℕ)) (one : NameOneBoard (map board all)) where
    pub same_board : board (get_or back 0 y) ≡ board (get_or front i x)
    same_board = one.1 j (board (get_or back 0 y)) (at_view board all j (get_or back 0 y) second_at) ∙ sym (one.1 i (board (get_or front i x)) (at_view board all i (get_or front i x) first_at))

    pub on_board : IsSome (board (get_or front i x))
    on_board = subst (λ (b : Option (List ℕ)). IsSome b) (sym (one.1 i (board (get_or front i x)) (at_view board all i (get_or front i x) first_at))) refl

  -- two that are replaced by ones that f can't tell from them
  pub kept : {Z : Type 0} (f : D → Z) (x' y' : D) → f x' ≡ f (get_or front i x) → f y' ≡ f (get_or back 0 y) → map f (set front i x' ++ set back 0 y') ≡ map f all
  kept f x' y' p q =
      map-append f (set front i x') (set back 0 y')
      ∙ ap₂ (λ xs ys. xs ++ ys) (map-set_same f front i x' x p) (map-set_same f back 0 y' y q)
      ∙ sym (map-append f front back) ∙ ap (map f) (sym is)

  pub agree_two : (known : D → Known) → ((c : Topic) → BothAgree (known_at (known (get_or front i x)) c) (known_at (known (get_or back 0 y)) c)) → AgreeAt (map known all) i j
  agree_two known agree one other p q c =
      let same = same_Some (known (get_or front i x)) one (sym (at_view known all i (get_or front i x) first_at) ∙ p) in
      let same' = same_Some (known (get_or back 0 y)) other (sym (at_view known all j (get_or back 0 y) second_at) ∙ q) in
      let A : Known → Type 0 = λ ks. BothAgree (known_at ks c) (known_at (known (get_or back 0 y)) c) in
      subst (λ (ks : Known). BothAgree (known_at one c) (known_at ks c)) same' (subst A same (agree c))

agree_sym : (a b : Option Decision) → BothAgree a b → BothAgree b a
agree_sym None None h = tt
agree_sym None (Some e) h = tt
agree_sym (Some d) None h = tt
agree_sym (Some d) (Some e) h = sym h

agree_same : (a : Option Decision) → BothAgree a a
agree_same None = tt
agree_same (Some d) = refl

-- each two agree where each agrees with each before it
pub all_agree : (known : List Known) (n : ℕ) → length known ≤ n → ((i j : ℕ) → i < j → j < n → AgreeAt known i j) → AllAgree known
all_agree known n end agree i j one other p q c =
    let first = slice_get_within known i one p in
    let second = slice_get_within known j other q in
    elim (cases_eq i j) [
      | inl same ↦ subst (λ (ks : Known). BothAgree (known_at one c) (known_at ks c)) (same_Some one other (sym p ∙ ap (slice_get known) same ∙ q)) (agree_same (known_at one c))
      | inr apart ↦ elim (cases_lt i j) [
        | inl low ↦ agree i j low (omega (arith, second, end)) one other p q c
        | inr high ↦ agree_sym (known_at other c) (known_at one c) (agree j i (omega (arith, high, apart)) (omega (arith, first, end)) other one q p c)
      ]
    ]
