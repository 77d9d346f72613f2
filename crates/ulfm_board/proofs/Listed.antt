-- What is known along a trail, by the numbers of topics.
use Rattle.std.proofs.Common.{◌≡◌, ◌==◌, ◌<◌, ℕ, zero, suc, ◌+◌, ◌*◌, ◌/◌, ◌%◌, inl, inr, Bool, cond, List, [], ◌∷◌, length, map, ap, sym, ◌∙◌, refl, arith, Option, Some, None, slice_get, subst}
use Rattle.std.specs.List.{range_with_len}
use Rattle.std.specs.Option.{option_map}
use Rattle.std.specs.Cmp.{nat_cmp_total, unsigned_tied}
use Rattle.std.specs.FinMap.{FinMap, entries, find, from_entries, get, get-entries, get-from_entries, get-insert, insert, entries-insert, nat_cmp-IsAntisymmetric, put, same_map}
use Rattle.std.specs.Ordering.{eq_by_cmp, nat_cmp}
use Rattle.std.proofs.lemmas.Bool.{eq-eqb, ne_eqb, cases_eq}
use Rattle.std.proofs.lemmas.List.FromFn.{get_or-range_with_len, length-range_with_len}
use Rattle.std.proofs.lemmas.List.{length-map}
use Rattle.std.proofs.lemmas.Option.{none-some, same_Some, slice_get-map, slice_get-get_or, slice_get_within}
use Rattle.ulfm_base.specs.declared.decision.Decision.{Decision}
use Rattle.ulfm_board.specs.Known.{Known, nothing_known}
use Rattle.ulfm_board.specs.inside.Trail.{TrailView, and_known, cell_in, known_of, listed_by, new_trail, seen, slot_of, topics_in}
use Rattle.ulfm_board.proofs.Fronts.{get_behind, get_left}
use Rattle.ulfm_board.proofs.Slots.{slot_first}

-- a number is among these
abbrev Among : ℕ → List ℕ → Type 0
Among number ns = (k : ℕ) × (slice_get ns k ≡ Some number)

-- one decision in front is the one that is looked for, or it is passed by
pub here_first : (q n : ℕ) (e : Decision) (rest : Known) → q ≡ n → find nat_cmp q ((n, e) ∷ rest) ≡ Some e
here_first q n e rest same = ap (λ (b : Bool). cond b (Some e) (find nat_cmp q rest)) (unsigned_tied q n ∙ eq-eqb q n same)

pub passed_by : (q n : ℕ) (e : Decision) (rest : Known) → (q ≡ n → ⊥) → find nat_cmp q ((n, e) ∷ rest) ≡ find nat_cmp q rest
passed_by q n e rest other = ap (λ (b : Bool). cond b (Some e) (find nat_cmp q rest)) (unsigned_tied q n ∙ ne_eqb q n other)

listed_none : (f : ℕ → Option Decision) (q : ℕ) (ns : List ℕ) → f q ≡ None → find nat_cmp q (listed_by f ns) ≡ None
listed_none f q [] none = refl
listed_none f q (n ∷ ns) none = step (listed_none f q ns none) (f n) refl
  where
    step : find nat_cmp q (listed_by f ns) ≡ None → (o : Option Decision) → f n ≡ o → find nat_cmp q (and_known n o (listed_by f ns)) ≡ None
    step rest None is = rest
    step rest (Some d) is = elim (cases_eq q n) [
      | inl same ↦ absurd (none-some d (sym none ∙ ap f same ∙ is))
      | inr other ↦ passed_by q n d (listed_by f ns) other ∙ rest
    ]

listed_some : (f : ℕ → Option Decision) (q : ℕ) (ns : List ℕ) (d : Decision) → f q ≡ Some d → (k : ℕ) → slice_get ns k ≡ Some q → find nat_cmp q (listed_by f ns) ≡ Some d
listed_some f q [] d some k there = absurd (none-some q there)
listed_some f q (n ∷ ns) d some k there = step (λ j. listed_some f q ns d some j) (f n) refl k there
  where
    later : ((j : ℕ) → slice_get ns j ≡ Some q → find nat_cmp q (listed_by f ns) ≡ Some d) → (k : ℕ) → slice_get (n ∷ ns) k ≡ Some q → (q ≡ n → ⊥) → find nat_cmp q (listed_by f ns) ≡ Some d
    later rec zero there other = absurd (other (sym (same_Some n q there)))
    later rec (suc k) there other = rec k there

    step : ((j : ℕ) → slice_get ns j ≡ Some q → find nat_cmp q (listed_by f ns) ≡ Some d) → (o : Option Decision) → f n ≡ o → (k : ℕ) → slice_get (n ∷ ns) k ≡ Some q → find nat_cmp q (and_known n o (listed_by f ns)) ≡ Some d
    step rec None is zero there = absurd (none-some d (sym is ∙ ap f (same_Some n q there) ∙ some))
    step rec None is (suc k) there = rec k there
    step rec (Some e) is k there = elim (cases_eq q n) [
      | inl same ↦ here_first q n e (listed_by f ns) same ∙ sym is ∙ ap f (sym same) ∙ some
      | inr other ↦ passed_by q n e (listed_by f ns) other ∙ later rec k there other
    ]

-- the numbers of a row are listed
among_row : (n p : ℕ) → p < 64 → slice_get (map (λ (place : ℕ). 64 * n + place) (range_with_len 0 64)) p ≡ Some (64 * n + p)
among_row n p low =
    let all = length-range_with_len 0 64 in
    let read : slice_get (range_with_len 0 64) p ≡ Some p =
    slice_get-get_or (range_with_len 0 64) p 0 (omega (arith, low, all)) ∙ ap Some (get_or-range_with_len 0 64 p 0 low ∙ (let same : 0 + p ≡ p = omega arith in same)) in
    slice_get-map (λ (place : ℕ). 64 * n + place) (range_with_len 0 64) p ∙ ap (option_map (λ (place : ℕ). 64 * n + place)) read

among : (ns : List ℕ) (j n p : ℕ) → slice_get ns j ≡ Some n → p < 64 → Among (64 * n + p) (topics_in ns)
among [] j n p there low = absurd (none-some n there)
among (m ∷ ms) zero n p there low =
    let row = map (λ (place : ℕ). 64 * m + place) (range_with_len 0 64) in
    let here : slice_get row p ≡ Some (64 * n + p) = among_row m p low ∙ ap (λ (k : ℕ). Some (64 * k + p)) (same_Some m n there) in
    (p, get_left row (topics_in ms) p (slice_get_within row p (64 * n + p) here) ∙ here)
among (m ∷ ms) (suc j) n p there low =
    let rest = among ms j n p there low in
    let row = map (λ (place : ℕ). 64 * m + place) (range_with_len 0 64) in
    let all : length row ≡ 64 = length-map (range_with_len 0 64) (λ (place : ℕ). 64 * m + place) ∙ length-range_with_len 0 64 in
    (64 + rest.0, get_behind row (topics_in ms) rest.0 (64 + rest.0) (omega (arith, all)) ∙ rest.1)

-- a topic of which a decision is known has its row
known_among : (numbers : List ℕ) (decided : List (Option Decision)) (q : ℕ) (d : Decision) → seen numbers decided q ≡ Some d → Among q (topics_in numbers)
known_among numbers decided q d some = at (slot_of numbers (q / 64)) refl
  where
    at : (o : Option ℕ) → slot_of numbers (q / 64) ≡ o → Among q (topics_in numbers)
    at None is = absurd (none-some d (sym (ap (λ (o : Option ℕ). cell_in decided o (q % 64)) is) ∙ some))
    at (Some slot) is =
        let low : q % 64 < 64 = omega arith in
        let parts : 64 * (q / 64) + q % 64 ≡ q = omega arith in
        subst (λ (n : ℕ). Among n (topics_in numbers)) parts (among numbers slot (q / 64) (q % 64) (slot_first numbers (q / 64) slot is).here low)

-- the decision that is known on a topic is that of its cell
listed : (numbers : List ℕ) (decided : List (Option Decision)) (q : ℕ) → find nat_cmp q (listed_by (seen numbers decided) (topics_in numbers)) ≡ seen numbers decided q
listed numbers decided q = at (seen numbers decided q) refl
  where
    at : (o : Option Decision) → seen numbers decided q ≡ o → find nat_cmp q (listed_by (seen numbers decided) (topics_in numbers)) ≡ seen numbers decided q
    at None is = listed_none (seen numbers decided) q (topics_in numbers) is ∙ sym is
    at (Some d) is =
        let place = known_among numbers decided q d is in
        listed_some (seen numbers decided) q (topics_in numbers) d is place.0 place.1 ∙ sym is

-- the decisions along a trail, as a map
abbrev by_topic : TrailView → FinMap nat_cmp Decision
by_topic trail = from_entries (listed_by (seen trail.numbers trail.decided) (topics_in trail.numbers))

got : (trail : TrailView) (q : ℕ) → get (by_topic trail) q ≡ seen trail.numbers trail.decided q
got trail q = get-from_entries nat_cmp_total (listed_by (seen trail.numbers trail.decided) (topics_in trail.numbers)) q ∙ listed trail.numbers trail.decided q

pub get_known : (trail : TrailView) (q : ℕ) → find nat_cmp q (known_of trail) ≡ seen trail.numbers trail.decided q
get_known trail q = sym (get-entries (by_topic trail) q) ∙ got trail q

-- along a trail of no rows nothing is known
nothing_in : (known : Known) → ((q : ℕ) → find nat_cmp q known ≡ None) → known ≡ []
nothing_in [] none = refl
nothing_in (e ∷ es) none = absurd (none-some e.1 (sym (none e.0) ∙ here_first e.0 e.0 e.1 es refl))

pub none_known : (register : List ℕ) → known_of (new_trail register) ≡ nothing_known
none_known register = nothing_in (known_of (new_trail register)) (λ q. get_known (new_trail register) q)

-- where the same is seen of each topic, the same is known
pub same_known : (a b : TrailView) → ((q : ℕ) → seen b.numbers b.decided q ≡ seen a.numbers a.decided q) → known_of b ≡ known_of a
same_known a b h = ap (λ (m : FinMap nat_cmp Decision). entries m) (same_map nat_cmp_total nat_cmp-IsAntisymmetric (by_topic b) (by_topic a) (λ q. got b q ∙ h q ∙ sym (got a q)))

-- where one more is seen, it is put in
pub put_known : (a b : TrailView) (q : ℕ) (held : Decision) → ((r : ℕ) → seen b.numbers b.decided r ≡ cond (r == q) (Some held) (seen a.numbers a.decided r)) → known_of b ≡ put nat_cmp q held (known_of a)
put_known a b q held h =
    ap (λ (m : FinMap nat_cmp Decision). entries m) (same_map nat_cmp_total nat_cmp-IsAntisymmetric (by_topic b) (insert (by_topic a) q held)
    (λ r. got b r ∙ h r ∙ ap (λ (t : Bool). cond t (Some held) (seen a.numbers a.decided r)) (sym (unsigned_tied r q)) ∙ ap (λ (o : Option Decision). cond (eq_by_cmp nat_cmp r q) (Some held) o) (sym (got a r))
    ∙ sym (get-insert nat_cmp_total (by_topic a) q held r)))
    ∙ entries-insert nat_cmp_total (by_topic a) q held
