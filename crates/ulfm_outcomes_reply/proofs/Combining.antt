-- What is told of parts, one after another.
use Rattle.std.proofs.Common.{◌≡◌, ◌⊎◌, ◌++◌, ◌+◌, ◌<◌, ℕ, suc, ◌==◌, true, false, List, [], ◌∷◌, Option, Some, None, Result, Ok, ap, append_assoc, arith, inl, inr, length, length-append, map, refl, slice_get, string_bytes, subst, sym, take, ◌∙◌}
use Rattle.std.proofs.lemmas.Bool.{false≢true}
use Rattle.std.proofs.lemmas.List.{append-nil, get_or-append-add, get_or_append_left, map-append, take-append-le}
use Rattle.std.proofs.lemmas.List.Elements.{All-append, All-weaker}
use Rattle.std.proofs.lemmas.Option.{get_or_from_slice_get, slice_get-get_or, slice_get_within}
use Rattle.std.proofs.Math.Seq.{take-append-add}
use Rattle.std.specs.Option.{option_or}
use Rattle.std.specs.Prelude.{All}
use Rattle.std.specs.declared.alloc.AllocError.{AllocError}
use Rattle.ulfm_job.specs.declared.place.Place.{Place}
use Rattle.ulfm_forms.specs.declared.form.Form.{Form}
use Rattle.ulfm_command_line.specs.Stopped.{Asked, asked_at}
use Rattle.ulfm_command_line.specs.declared.command.ListOptions.{ListOptions}
use Rattle.ulfm_outcomes_list.specs.declared.judgement.Judgement.{Judgement}
use Rattle.ulfm_outcomes_list.specs.declared.judgement.Judgement.TheVariants.{NotKnown}
use Rattle.ulfm_outcomes_list.specs.declared.place_list.Listed.{Listed}
use Rattle.ulfm_outcomes_reply.specs.EachPlace.{IsJudgedEach, IsToldAt, IsUnfound, found, places_in, unfound, wanted}
use Rattle.ulfm_outcomes_reply.specs.Wanted.{IsWanted}
use Rattle.ulfm_outcomes_reply.specs.declared.finding.Finding.{Finding}
use Rattle.ulfm_outcomes_reply.specs.inside.Findings.{IsFirstOf, IsFirstSoFar, IsFoundIn}
use Rattle.ulfm_outcomes_reply.specs.inside.Judging.{IsFirstUnwanted, is_found}
use Rattle.ulfm_outcomes_reply.specs.inside.Parts.{AreParts}

module _ (form : Form) (options : ListOptions) (asked : Asked) where
  -- that is the place of this number, and of each before it that holds
  abbrev IsAt : (Place → Type 0) → List Place → ℕ → Place → Type 0
  IsAt P places number place = (slice_get places number ≡ Some place) × All P (take number places)

  -- a schedule is found at one of these places, and that is told of it
  abbrev IsFoundAmong : List Place → Judgement → ℕ → List ℕ → Type 0
  IsFoundAmong places what k words = (number : ℕ) × (place : Place) × IsAt (IsUnfound form options asked) places number place × (k ≡ 9) × IsToldAt form options place (asked_at place asked) what 9 words

  -- none is found at any, and that is told of the first where it isn't known
  abbrev IsLeftAmong : List Place → Judgement → ℕ → List ℕ → Type 0
  IsLeftAmong places what k words = (number : ℕ) × (place : Place) × IsAt (λ p. IsWanted (asked_at p asked)) places number place
      × All (IsUnfound form options asked) places × (what ≡ NotKnown) × (k ≡ 7) × IsToldAt form options place (asked_at place asked) NotKnown 7 words

  -- what is told is one of these
  either : (places : List Place) (told : Finding) → IsFirstUnwanted form options asked places (Some told)
      → IsFoundAmong places told.judgement told.status (string_bytes told.text) ⊎ IsLeftAmong places told.judgement told.status (string_bytes told.text)
  either places told first = by NotKnown (suc told.status) told.judgement told.status (string_bytes told.text) (first NotKnown (suc told.status)) refl
    where
      by : (alone : Judgement) (status : ℕ) (what : Judgement) (k : ℕ) (words : List ℕ) → IsJudgedEach form options asked places alone status what k words → status ≡ suc k
          → IsFoundAmong places what k words ⊎ IsLeftAmong places what k words
      by alone status what k words (wanted all) other = absurd (omega (arith, other))
      by alone status what k words (found number place judgement text there before at) other = inl (number, place, (there, before), refl, at)
      by alone status what k words (unfound number place text there before all at) other = inr (number, place, (there, before), all, refl, refl, at)

  -- and the other way round
  by_found : (places : List Place) (told : Finding) → IsFoundAmong places told.judgement told.status (string_bytes told.text) → IsFirstUnwanted form options asked places (Some told)
  by_found places told at = λ alone status.
      subst (λ (k : ℕ). IsJudgedEach form options asked places alone status told.judgement k (string_bytes told.text)) (sym at.3) (found at.0 at.1 told.judgement (string_bytes told.text) at.2.0 at.2.1 at.4)

  by_left : (places : List Place) (told : Finding) → IsLeftAmong places told.judgement told.status (string_bytes told.text) → IsFirstUnwanted form options asked places (Some told)
  by_left places told at = λ alone status.
      let words = string_bytes told.text in
      subst (λ (what : Judgement). IsJudgedEach form options asked places alone status what told.status words) (sym at.4)
      (subst (λ (k : ℕ). IsJudgedEach form options asked places alone status NotKnown k words) (sym at.5) (unfound at.0 at.1 words at.2.0 at.2.1 at.3 at.6))

  module _ (front rest : List Place) where
    -- a place in front, and one behind
    at-front : (P : Place → Type 0) (number : ℕ) (place : Place) → IsAt P front number place → IsAt P (front ++ rest) number place
    at-front P number place at =
        let low = slice_get_within front number place at.0 in
        let inside : number < length (front ++ rest) = omega (arith, low, length-append front rest) in (
          slice_get-get_or (front ++ rest) number place inside ∙ ap Some (get_or_append_left front rest place number low ∙ get_or_from_slice_get front number place place at.0),
          subst (All P) (sym (take-append-le number front rest (omega (arith, low)))) at.1,
        )

    at-behind : (P : Place → Type 0) (number : ℕ) (place : Place) → All P front → IsAt P rest number place → IsAt P (front ++ rest) (length front + number) place
    at-behind P number place all at =
        let low = slice_get_within rest number place at.0 in
        let inside : length front + number < length (front ++ rest) = omega (arith, low, length-append front rest) in (
          slice_get-get_or (front ++ rest) (length front + number) place inside ∙ ap Some (get_or-append-add front rest number place ∙ get_or_from_slice_get rest number place place at.0),
          subst (All P) (sym (take-append-add front rest number)) (All-append P front (take number rest) all at.1),
        )

    module _ (what : Judgement) (k : ℕ) (words : List ℕ) where
      -- a schedule that is found in front, or behind places at which none is
      found-front : IsFoundAmong front what k words → IsFoundAmong (front ++ rest) what k words
      found-front at = (at.0, at.1, at-front (IsUnfound form options asked) at.0 at.1 at.2, at.3, at.4)

      found-behind : All (IsUnfound form options asked) front → IsFoundAmong rest what k words → IsFoundAmong (front ++ rest) what k words
      found-behind none at = (length front + at.0, at.1, at-behind (IsUnfound form options asked) at.0 at.1 none at.2, at.3, at.4)

      -- the first of which it isn't known, in front, or behind those that are wanted
      left-front : All (IsUnfound form options asked) rest → IsLeftAmong front what k words → IsLeftAmong (front ++ rest) what k words
      left-front none at = (at.0, at.1, at-front (λ p. IsWanted (asked_at p asked)) at.0 at.1 at.2, All-append (IsUnfound form options asked) front rest at.3 none, at.4, at.5, at.6)

      left-behind : All (λ p. IsWanted (asked_at p asked)) front → IsLeftAmong rest what k words → IsLeftAmong (front ++ rest) what k words
      left-behind all at = (
        length front + at.0,
        at.1,
        at-behind (λ p. IsWanted (asked_at p asked)) at.0 at.1 all at.2,
        All-append (IsUnfound form options asked) front rest (All-weaker (λ p. IsWanted (asked_at p asked)) (IsUnfound form options asked) (λ p is. inl is) front all) at.3,
        at.4,
        at.5,
        at.6,
      )

  -- a schedule is found, or none is, as the status says
  none_left : (places : List Place) (told : Finding) → (told.status == 9) ≡ true → IsLeftAmong places told.judgement told.status (string_bytes told.text) → ⊥
  none_left places told nine at = false≢true (sym (ap (λ (k : ℕ). k == 9) at.5) ∙ nine)

  none_found : (places : List Place) (told : Finding) → (told.status == 9) ≡ false → IsFoundAmong places told.judgement told.status (string_bytes told.text) → ⊥
  none_found places told other at = false≢true (sym other ∙ ap (λ (k : ℕ). k == 9) at.3)

  -- at none of the places a schedule is found
  unfound-each : (places : List Place) (told : Option Finding) → IsFirstUnwanted form options asked places told → is_found told ≡ false → All (IsUnfound form options asked) places
  unfound-each places None all none = All-weaker (λ p. IsWanted (asked_at p asked)) (IsUnfound form options asked) (λ p is. inl is) places all
  unfound-each places (Some told) first none = elim (either places told first) [ inl at ↦ absurd (none_found places told none at) | inr at ↦ at.3 ]

  -- one is found behind places at which none is, and before others
  pub found-then : (front mid rest : List Place) (first told : Option Finding) → IsFirstUnwanted form options asked front first → is_found first ≡ false → IsFirstUnwanted form options asked mid told → is_found told ≡ true
      → IsFirstUnwanted form options asked (front ++ (mid ++ rest)) told
  found-then front mid rest first None before none here some = absurd (false≢true some)
  found-then front mid rest first (Some told) before none here some = elim (either mid told here) [
    | inl at ↦ by_found (front ++ (mid ++ rest)) told
        (found-behind front (mid ++ rest) told.judgement told.status (string_bytes told.text) (unfound-each front first before none) (found-front mid rest told.judgement told.status (string_bytes told.text) at))
    | inr at ↦ absurd (none_left mid told some at)
  ]

  -- none is found at places behind such
  pub unfound-then : (front mid : List Place) (first told : Option Finding) → IsFirstUnwanted form options asked front first → is_found first ≡ false → IsFirstUnwanted form options asked mid told → is_found told ≡ false
      → IsFirstUnwanted form options asked (front ++ mid) (option_or first told)
  unfound-then front mid None None before none here other = All-append (λ p. IsWanted (asked_at p asked)) front mid before here
  unfound-then front mid None (Some told) before none here other = elim (either mid told here) [
    | inl at ↦ absurd (none_found mid told other at)
    | inr at ↦ by_left (front ++ mid) told (left-behind front mid told.judgement told.status (string_bytes told.text) before at)
  ]
  unfound-then front mid (Some first) told before none here other = elim (either front first before) [
    | inl at ↦ absurd (none_found front first none at)
    | inr at ↦ by_left (front ++ mid) first (left-front front mid first.judgement first.status (string_bytes first.text) (unfound-each mid told here other) at)
  ]

-- of the first of two, or else of the second
either_found : (first told : Option Finding) → is_found first ≡ false → is_found told ≡ false → is_found (option_or first told) ≡ false
either_found None told none other = other
either_found (Some first) told none other = none

-- no part is left
pub first-end : (parts left : List (Result (Option Finding) AllocError)) (told : Option Finding) → IsFirstSoFar parts told left → left ≡ [] → IsFirstOf parts told
first-end parts left told so_far none = λ form options asked listed are.
    let was = so_far.1 form options asked listed are in
    let rest : was.1 ≡ [] = subst (λ (ps : List (Result (Option Finding) AllocError)). AreParts (IsFoundIn form options asked) was.1 ps) none was.4 in
    subst (λ (ls : List Listed). IsFirstUnwanted form options asked (places_in ls) told) (sym (was.2 ∙ ap (λ (ls : List Listed). was.0 ++ ls) rest ∙ append-nil was.0)) was.3

module _ (parts left more : List (Result (Option Finding) AllocError)) (part : Result (Option Finding) AllocError) (first told : Option Finding) (so_far : IsFirstSoFar parts first left) (next : left ≡ part ∷ more) (is : part ≡ Ok told) where
  -- the next part, at a place of which a schedule is found
  pub first-found : is_found told ≡ true → IsFirstOf parts told
  first-found some = λ form options asked listed are.
      let was = so_far.1 form options asked listed are in
      let step = subst (λ (ps : List (Result (Option Finding) AllocError)). AreParts (IsFoundIn form options asked) was.1 ps) next was.4 in
      let here = subst (IsFoundIn form options asked step.0) is step.3 in
      let place = λ (one : Listed). one.place in
      let same : places_in listed ≡ places_in was.0 ++ (places_in step.0 ++ places_in step.1)
      = ap (map place) (was.2 ∙ ap (λ (ls : List Listed). was.0 ++ ls) step.2) ∙ map-append place was.0 (step.0 ++ step.1) ∙ ap (λ (ps : List Place). map place was.0 ++ ps) (map-append place step.0 step.1) in
      subst (λ (ps : List Place). IsFirstUnwanted form options asked ps told) (sym same)
      (found-then form options asked (places_in was.0) (places_in step.0) (places_in step.1) first told was.3 so_far.0 here some)

  -- and one at no place of which one is
  pub first-on : (new : Option Finding) → is_found told ≡ false → new ≡ option_or first told → IsFirstSoFar parts new more
  first-on new other either =
      subst (λ (t : Option Finding). IsFirstSoFar parts t more) (sym either) (
        either_found first told so_far.0 other,
        λ form options asked listed are.
            let was = so_far.1 form options asked listed are in
            let step = subst (λ (ps : List (Result (Option Finding) AllocError)). AreParts (IsFoundIn form options asked) was.1 ps) next was.4 in
            let here = subst (IsFoundIn form options asked step.0) is step.3 in (
              was.0 ++ step.0,
              step.1,
              was.2 ∙ ap (λ (ls : List Listed). was.0 ++ ls) step.2 ∙ sym (append_assoc was.0 step.0 step.1),
              subst (λ (ps : List Place). IsFirstUnwanted form options asked ps (option_or first told)) (sym (map-append (λ (one : Listed). one.place) was.0 step.0))
                  (unfound-then form options asked (places_in was.0) (places_in step.0) first told was.3 so_far.0 here other),
              step.4,
            ),
      )
