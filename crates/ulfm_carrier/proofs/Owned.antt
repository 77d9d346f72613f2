-- Both ends of the ring from a rank to itself are looked at.
use Rattle.std.proofs.Common.{◌≡◌, ◌<◌, ◌≤◌, ℕ, inl, inr, List, [], ◌++◌, length, map, set, get_or, ap, sym, ◌∙◌, arith, subst}
use Rattle.ulfm_carrier.proofs.Common.{cases_eq, Inlet, item_from, known_free, Outlet, pushed_into, seen_in, sent, taken_by, WorldRank}
use Rattle.ulfm_carrier.proofs.Places.{at_read, view_here, view_or, view_other}

-- the places of other rings are known as before, and no fewer of this one
pub rooms_grow : (outs : List Outlet) (k : ℕ) (p q : Outlet) → k < length outs → p ≡ get_or outs k p → known_free p ≤ known_free q → (d : ℕ) → get_or (map known_free outs) d 0 ≤ get_or (map known_free (set outs k q)) d 0
rooms_grow outs k p q low here more d = elim (cases_eq d k) [
  | inl is ↦
      let was = view_or known_free outs k 0 (at_read outs k low here) in
      let now = view_here known_free outs k q 0 low in
      subst (λ n. get_or (map known_free outs) n 0 ≤ get_or (map known_free (set outs k q)) n 0) (sym is) (omega (arith, was, now, more))
  | inr apart ↦ let same = view_other known_free outs k d q 0 apart in omega (arith, same)
]

-- what was pushed to the rank itself is what was taken and then what was seen
pub own_rest : (me : WorldRank) (outs : List Outlet) (ins : List Inlet) (k : ℕ) (p q : Outlet) (i j : Inlet) → k < length outs → k < length ins → p ≡ get_or outs k p → i ≡ get_or ins k i → i.source ≡ me → sent q ≡ sent p → taken_by j ≡ taken_by i
    → pushed_into i.source p ≡ taken_by i ++ map (item_from i.source) (seen_in j)
    → get_or (map (pushed_into me) (set outs k q)) k [] ≡ get_or (map taken_by (set ins k j)) k [] ++ map (item_from me) (get_or (map seen_in (set ins k j)) k [])
own_rest me outs ins k p q i j low inside out inlet source same taken all =
    let mine : pushed_into me p ≡ taken_by i ++ map (item_from me) (seen_in j) = subst (λ r. pushed_into r p ≡ taken_by i ++ map (item_from r) (seen_in j)) source all in
    let took : taken_by i ≡ get_or (map taken_by (set ins k j)) k [] = sym taken ∙ sym (view_here taken_by ins k j [] inside) in
    view_here (pushed_into me) outs k q [] low ∙ ap (map (item_from me)) same ∙ mine ∙ (λ n. took n ++ map (item_from me) (sym (view_here seen_in ins k j [] inside) n))
