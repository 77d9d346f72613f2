-- A decision that is handed in at a board of one owner.
use Rattle.std.proofs.Common.{◌≡◌, ◌<◌, ℕ, suc, ◌+◌, ◌==◌, Bool, true, false, cond, List, ◌∷◌, drop, get_or, insert, length, map, nat_le, ap, sym, ◌∙◌, refl, subst, arith, Option, Some, None}
use Rattle.std.proofs.lemmas.Bool.{eq-eqb, ne_eqb}
use Rattle.std.proofs.lemmas.List.{drop_more, get_or-map, length-map}
use Rattle.std.specs.Cmp.{unsigned_tied}
use Rattle.std.specs.FinMap.{find}
use Rattle.std.specs.Ordering.{nat_cmp}
use Rattle.ulfm_base.specs.declared.decision.Decision.{Decision}
use Rattle.ulfm_board.specs.Known.{Agrees, Answers, Known, by_number, known_at, number_of, with_known}
use Rattle.ulfm_board.specs.inside.Places.{place_for}
use Rattle.ulfm_board.proofs.Places.{map-insert, put_there}
use Rattle.ulfm_board.proofs.Topics.{known_with, with_new}

-- none was known, and it is put in at the place that was found
pub answers_new : (decisions : List Decision) (d copied : Decision) (place : ℕ) → known_at (map by_number decisions) d.topic ≡ None → place ≡ place_for (number_of d.topic) (map by_number decisions) → copied ≡ d
    → Answers None (map by_number decisions) d d (map by_number (insert decisions place copied))
answers_new decisions d copied place none at_place same =
    let before : Agrees (known_at (map by_number decisions) d.topic) d = subst (λ (o : Option Decision). Agrees o d) (sym none) tt in
    let others : map by_number (insert decisions place copied) ≡ with_known (map by_number decisions) d.topic d =
    map-insert by_number decisions place copied ∙ ap (λ (x : Decision). insert (map by_number decisions) place (by_number x)) same
    ∙ ap (λ (k : ℕ). insert (map by_number decisions) k (by_number d)) at_place ∙ sym (put_there (number_of d.topic) d (map by_number decisions) none)
    ∙ sym (with_new (map by_number decisions) d.topic d none) in
    record {
      as_before = before;
      first_stays = λ board unknown. refl;
      known_now = ap (λ (k : Known). known_at k d.topic) others ∙ known_with (map by_number decisions) d.topic d before;
      others_stay = others;
    }

-- the rest of what is known begins with the next decision
rest_of : (known : Known) (k : ℕ) (e : ℕ × Decision) → k < length known → e ≡ get_or known k e → drop k known ≡ e ∷ drop (k + 1) known
rest_of known k e low here = drop_more known k e low ∙ ap (λ (x : ℕ × Decision). x ∷ drop (k + 1) known) (sym here)

-- a decision of another number is passed by
pub find_next : (n : ℕ) (known : Known) (k : ℕ) (e : ℕ × Decision) → k < length known → e ≡ get_or known k e → (n == e.0) ≡ false → find nat_cmp n (drop k known) ≡ find nat_cmp n (drop (k + 1) known)
find_next n known k e low here other =
    ap (find nat_cmp n) (rest_of known k e low here) ∙ ap (λ (b : Bool). cond b (Some e.1) (find nat_cmp n (drop (k + 1) known))) (unsigned_tied n e.0 ∙ other)

-- one of this number is found
pub find_there : (n : ℕ) (known : Known) (k : ℕ) (e : ℕ × Decision) → k < length known → e ≡ get_or known k e → (n == e.0) ≡ true → find nat_cmp n (drop k known) ≡ Some e.1
find_there n known k e low here same =
    ap (find nat_cmp n) (rest_of known k e low here) ∙ ap (λ (b : Bool). cond b (Some e.1) (find nat_cmp n (drop (k + 1) known))) (unsigned_tied n e.0 ∙ same)

-- and so for the place of a number
pub place_next : (n : ℕ) (known : Known) (k : ℕ) (e : ℕ × Decision) → k < length known → e ≡ get_or known k e → nat_le n e.0 ≡ false → place_for n (drop k known) ≡ suc (place_for n (drop (k + 1) known))
place_next n known k e low here above =
    ap (place_for n) (rest_of known k e low here) ∙ ap (λ (b : Bool). cond b 0 (suc (place_for n (drop (k + 1) known)))) above

pub place_there : (n : ℕ) (known : Known) (k : ℕ) (e : ℕ × Decision) → k < length known → e ≡ get_or known k e → nat_le n e.0 ≡ true → place_for n (drop k known) ≡ 0
place_there n known k e low here below =
    ap (place_for n) (rest_of known k e low here) ∙ ap (λ (b : Bool). cond b 0 (suc (place_for n (drop (k + 1) known)))) below

-- a decision at a place, by its number
decision_at : (ds : List Decision) (k : ℕ) (d : Decision) → k < length ds → d ≡ get_or ds k d → by_number d ≡ get_or (map by_number ds) k (by_number d)
decision_at ds k d low here = ap by_number here ∙ sym (get_or-map by_number ds k d (by_number d) low)

inside_known : (ds : List Decision) (k : ℕ) → k < length ds → k < length (map by_number ds)
inside_known ds k low = rw length-map low

-- the decision at a place is the one of this number, where none before it is
pub found_at : (ds : List Decision) (n k : ℕ) (d : Decision) → k < length ds → d ≡ get_or ds k d → find nat_cmp n (map by_number ds) ≡ find nat_cmp n (drop k (map by_number ds)) → number_of d.topic ≡ n → find nat_cmp n (map by_number ds) ≡ Some d
found_at ds n k d low here so_far same = so_far ∙ find_there n (map by_number ds) k (by_number d) (inside_known ds k low) (decision_at ds k d low here) (eq-eqb n (number_of d.topic) (sym same))

-- or it is passed by
pub passed_at : (ds : List Decision) (n k : ℕ) (d : Decision) → k < length ds → d ≡ get_or ds k d → find nat_cmp n (map by_number ds) ≡ find nat_cmp n (drop k (map by_number ds)) → (number_of d.topic ≡ n → ⊥)
    → find nat_cmp n (map by_number ds) ≡ find nat_cmp n (drop (k + 1) (map by_number ds))
passed_at ds n k d low here so_far other =
    so_far ∙ find_next n (map by_number ds) k (by_number d) (inside_known ds k low) (decision_at ds k d low here) (ne_eqb n (number_of d.topic) (λ same. other (sym same)))

-- the place of a number is that of the first decision of no lower number
pub place_at : (ds : List Decision) (n k : ℕ) (d : Decision) → k < length ds → d ≡ get_or ds k d → place_for n (map by_number ds) ≡ k + place_for n (drop k (map by_number ds)) → nat_le n (number_of d.topic) ≡ true → place_for n (map by_number ds) ≡ k
place_at ds n k d low here so_far below =
    so_far ∙ ap (λ (m : ℕ). k + m) (place_there n (map by_number ds) k (by_number d) (inside_known ds k low) (decision_at ds k d low here) below) ∙ (let none : k + 0 ≡ k = omega arith in none)

pub place_past : (ds : List Decision) (n k : ℕ) (d : Decision) → k < length ds → d ≡ get_or ds k d → place_for n (map by_number ds) ≡ k + place_for n (drop k (map by_number ds)) → nat_le n (number_of d.topic) ≡ false
    → place_for n (map by_number ds) ≡ (k + 1) + place_for n (drop (k + 1) (map by_number ds))
place_past ds n k d low here so_far above =
    let rest = place_for n (drop (k + 1) (map by_number ds)) in
    so_far ∙ ap (λ (m : ℕ). k + m) (place_next n (map by_number ds) k (by_number d) (inside_known ds k low) (decision_at ds k d low here) above) ∙ (let more : k + suc rest ≡ (k + 1) + rest = omega arith in more)
