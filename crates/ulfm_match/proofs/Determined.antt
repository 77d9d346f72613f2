-- A post and an arrival have one answer.
use Rattle.std.proofs.Common.{◌≡◌, ℕ, inl, inr, List, [], ◌∷◌, ◌++◌, length, refl, ap, sym, ◌∙◌, arith, Option, Some, None, MatchOption}
use Rattle.ulfm_match.proofs.Common.{Pattern, Letter, MatchEvent, Post, Come, count_before, Pairing, LawfulPairing, Matching, Tracks, Contains-push, PostGets, ArrivalGoesTo}
use Rattle.ulfm_match.specs.Calls.{ProbeGets, KeepsNone}
use Rattle.ulfm_match.proofs.Extend.{receive_within, letter_within}
use Rattle.ulfm_match.proofs.Steps.{pair_cases}
use Rattle.ulfm_match.proofs.Probed.{posted_with, probe_gives, probe_leaves}
use Rattle.ulfm_match.proofs.Unique.{one_pairing, same_letter}

-- what a post says of its answer
abbrev pub Posts : List MatchEvent → Pairing → Pattern → Matching → Option Letter → Type 0
Posts h r p s o = MatchOption o (Tracks (h ++ Post p ∷ []) r s) (λ letter. PostGets h r p letter s)

module _ (h : List MatchEvent) (r : Pairing) (law : LawfulPairing h r) (p : Pattern) where
  -- no pairing in which the receive is unpaired is lawful beside one in which it is paired
  never : (s s' : Matching) (l : Letter) → Posts h r p s None → Posts h r p s' (Some l) → ⊥
  never s s' l t t' =
      let q = one_pairing (h ++ Post p ∷ []) (r ++ (length h, t'.place) ∷ []) r t'.tracks.lawful t.lawful (length h) t'.place (Contains-push r (length h, t'.place)) in
      let w = receive_within h r law (length h) t'.place q in
      absurd (omega arith)

  pub one_answer : (s s' : Matching) (o o' : Option Letter) → Posts h r p s o → Posts h r p s' o' → o ≡ o'
  one_answer s s' None None t t' = refl
  one_answer s s' None (Some l) t t' = absurd (never s s' l t t')
  one_answer s s' (Some l) None t t' = absurd (never s' s l t' t)
  one_answer s s' (Some l) (Some k) t t' =
      let q = one_pairing (h ++ Post p ∷ []) (r ++ (length h, t.place) ∷ []) (r ++ (length h, t'.place) ∷ []) t.tracks.lawful t'.tracks.lawful (length h) t.place (Contains-push r (length h, t.place)) in
      elim (pair_cases r (length h) t'.place (length h) t.place q) [
        | inl old ↦ absurd (let w = receive_within h r law (length h) t.place old in omega arith)
        | inr e ↦ ap Some (same_letter h t.place l k t.came (rw e.1 t'.came))
      ]

-- what a probe says of its answer
abbrev Probes : List MatchEvent → Pairing → Pattern → Matching → Option Letter → Type 0
Probes h r p s o = MatchOption o (KeepsNone h r p) (λ letter. ProbeGets h r p letter s)

module _ (h : List MatchEvent) (r : Pairing) (law : LawfulPairing h r) (p : Pattern) where
  never_found : (s' : Matching) (l : Letter) → KeepsNone h r p → ProbeGets h r p l s' → ⊥
  never_found s' l none g = let f = posted_with g in probe_leaves h r p law none f.pairing f.lawful g.place f.pairs

  pub one_find : (s s' : Matching) (o o' : Option Letter) → Probes h r p s o → Probes h r p s' o' → o ≡ o'
  one_find s s' None None t t' = refl
  one_find s s' None (Some l) t t' = absurd (never_found s' l t t')
  one_find s s' (Some l) None t t' = absurd (never_found s l t' t)
  one_find s s' (Some l) (Some k) t t' =
      let f = posted_with t in
      let e : t.place ≡ t'.place = f.lawful.one_letter (length h) t.place t'.place f.pairs (probe_gives t' f.pairing f.lawful) in
      ap Some (same_letter h t.place l k t.came (rw e t'.came))

abbrev Arrives : List MatchEvent → Pairing → Letter → Matching → Option ℕ → Type 0
Arrives h r l s o = MatchOption o (Tracks (h ++ Come l ∷ []) r s) (λ id. ArrivalGoesTo h r l id s)

module _ (h : List MatchEvent) (r : Pairing) (law : LawfulPairing h r) (l : Letter) where
  never_kept : (s s' : Matching) (id : ℕ) → Arrives h r l s None → Arrives h r l s' (Some id) → ⊥
  never_kept s s' id t t' =
      let q = one_pairing (h ++ Come l ∷ []) (r ++ (t'.place, length h) ∷ []) r t'.tracks.lawful t.lawful t'.place (length h) (Contains-push r (t'.place, length h)) in
      let w = letter_within h r law t'.place (length h) q in
      absurd (omega arith)

  pub one_receiver : (s s' : Matching) (o o' : Option ℕ) → Arrives h r l s o → Arrives h r l s' o' → o ≡ o'
  one_receiver s s' None None t t' = refl
  one_receiver s s' None (Some id) t t' = absurd (never_kept s s' id t t')
  one_receiver s s' (Some id) None t t' = absurd (never_kept s' s id t' t)
  one_receiver s s' (Some id) (Some jd) t t' =
      let q = one_pairing (h ++ Come l ∷ []) (r ++ (t.place, length h) ∷ []) (r ++ (t'.place, length h) ∷ []) t.tracks.lawful t'.tracks.lawful t.place (length h) (Contains-push r (t.place, length h)) in
      elim (pair_cases r t'.place (length h) t.place (length h) q) [
        | inl old ↦ absurd (let w = letter_within h r law t.place (length h) old in omega arith)
        | inr e ↦ ap Some (sym t.numbered ∙ (ap (count_before h) e.0 ∙ t'.numbered))
      ]
