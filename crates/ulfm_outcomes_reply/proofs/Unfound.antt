-- What is found of a job at its places, one after another.
use Rattle.std.proofs.Common.{◌≡◌, ◌<◌, ◌≤◌, ◌+◌, ◌==◌, ℕ, true, false, List, Option, Some, None, ap, get_or, inl, inr, length, option_map, refl, slice_get, string_bytes, subst, sym, take, take_all, ◌∙◌}
use Rattle.std.proofs.lemmas.Bool.{false≢true}
use Rattle.std.proofs.lemmas.List.{take-map}
use Rattle.std.proofs.lemmas.List.Elements.{All-map, All-more, All-weaker}
use Rattle.std.proofs.lemmas.Option.{slice_get-get_or, slice_get-map}
use Rattle.std.specs.Option.{option_or}
use Rattle.std.specs.Prelude.{All}
use Rattle.ulfm_job.specs.declared.place.Place.{Place}
use Rattle.ulfm_outcomes_list.specs.declared.place_list.Listed.{Listed}
use Rattle.ulfm_forms.specs.declared.form.Form.{Form}
use Rattle.ulfm_command_line.specs.Stopped.{Asked, asked_at}
use Rattle.ulfm_command_line.specs.declared.command.ListOptions.{ListOptions}
use Rattle.ulfm_outcomes_list.specs.declared.judgement.Judgement.{Judgement}
use Rattle.ulfm_outcomes_list.specs.declared.judgement.Judgement.TheVariants.{NotKnown}
use Rattle.ulfm_outcomes_reply.specs.declared.finding.Finding.{Finding}
use Rattle.ulfm_outcomes_reply.specs.EachPlace.{IsJudgedEach, IsToldAt, IsUnfound, found, places_in, unfound}
use Rattle.ulfm_outcomes_reply.specs.Wanted.{IsToldOf, IsWanted, together, unmet, unsearched}
use Rattle.ulfm_outcomes_reply.specs.inside.Judging.{IsFirstUnwanted, IsUnfoundUpTo, IsUnwantedAt, is_found}

module _ (form : Form) (options : ListOptions) (asked : Asked) where
  -- it is wanted at a place
  abbrev wanted_at : Place → Type 0
  wanted_at place = IsWanted (asked_at place asked)

  -- that is told of a place
  abbrev is_told : Place → Judgement → ℕ → List ℕ → Type 0
  is_told place judgement status text = IsToldAt form options place (asked_at place asked) judgement status text

  -- what is told of a schedule that is found comes with 9
  told-found : (place : Place) (judgement : Judgement) (status : ℕ) (text : List ℕ) → is_told place judgement status text → (status == 9) ≡ true → status ≡ 9
  told-found place judgement status text told = by judgement status text told.2
    where
      by : (what : Judgement) (k : ℕ) (words : List ℕ) → IsToldOf form options (Some place) (asked_at place asked) told.0 what k words → (k == 9) ≡ true → k ≡ 9
      by what k words (unmet one goals shown first is shows) nine = refl
      by what k words (together number row goals schedule meets here none are shows) nine = refl
      by what k words (unsearched number row goals meets here none others are shows) nine = absurd (false≢true nine)

  -- and all else with 7, and isn't known
  told-unfound : (place : Place) (judgement : Judgement) (status : ℕ) (text : List ℕ) → is_told place judgement status text → (status == 9) ≡ false → (judgement ≡ NotKnown) × (status ≡ 7) × is_told place NotKnown 7 text
  told-unfound place judgement status text told = by judgement status text told.2
    where
      by : (what : Judgement) (k : ℕ) (words : List ℕ) → IsToldOf form options (Some place) (asked_at place asked) told.0 what k words → (k == 9) ≡ false → (what ≡ NotKnown) × (k ≡ 7) × is_told place NotKnown 7 words
      by what k words (unmet one goals shown first is shows) other = absurd (false≢true (sym other))
      by what k words (together number row goals schedule meets here none are shows) other = absurd (false≢true (sym other))
      by what k words (unsearched number row goals meets here none others are shows) other = (refl, refl, (told.0, told.1, unsearched number row goals meets here none others are shows))

  module _ (listed : List Listed) where
    -- at none of so many places a schedule was found
    unfound-all : (count : ℕ) (first : Option Finding) → IsUnfoundUpTo form options asked listed count first → All (λ (one : Listed). IsUnfound form options asked one.place) (take count listed)
    unfound-all count None all = All-weaker (λ (one : Listed). wanted_at one.place) (λ (one : Listed). IsUnfound form options asked one.place) (λ one wanted. inl wanted) (take count listed) all
    unfound-all count (Some finding) first = first.4

    -- what is told of all places
    pub unfound-end : (count : ℕ) (first : Option Finding) → length listed ≤ count → IsUnfoundUpTo form options asked listed count first → IsFirstUnwanted form options asked (places_in listed) first
    unfound-end count None past all =
        All-map wanted_at (λ (one : Listed). one.place) listed (subst (All (λ (one : Listed). wanted_at one.place)) (take_all count listed past) all)
    unfound-end count (Some finding) past first = λ alone status.
        let words = string_bytes finding.text in
        subst (λ (what : Judgement). IsJudgedEach form options asked (places_in listed) alone status what finding.status words) (sym first.5)
        (subst (λ (k : ℕ). IsJudgedEach form options asked (places_in listed) alone status NotKnown k words) (sym first.6)
        (unfound first.0 first.1 words first.2 first.3
        (All-map (IsUnfound form options asked) (λ (one : Listed). one.place) listed (subst (All (λ (one : Listed). IsUnfound form options asked one.place)) (take_all count listed past) first.4)) first.7))

    module _ (i : ℕ) (one : Listed) (inside : i < length listed) (is : one ≡ get_or listed i one) where
      -- the place of the next list
      place-next : slice_get (places_in listed) i ≡ Some one.place
      place-next = slice_get-map (λ (o : Listed). o.place) listed i ∙ ap (option_map (λ (o : Listed). o.place)) (slice_get-get_or listed i one inside ∙ ap Some (sym is))

      -- the places before it
      places-before : (P : Place → Type 0) → All (λ (o : Listed). P o.place) (take i listed) → All P (take i (places_in listed))
      places-before P all = subst (All P) (sym (take-map (λ (o : Listed). o.place) i listed)) (All-map P (λ (o : Listed). o.place) (take i listed) all)

      -- one more place
      places-more : (P : Place → Type 0) → All (λ (o : Listed). P o.place) (take i listed) → P one.place → All (λ (o : Listed). P o.place) (take (i + 1) listed)
      places-more P all here = All-more (λ (o : Listed). P o.place) listed i one inside all (subst (λ (o : Listed). P o.place) is here)

      -- a schedule is found there
      pub found-next : (first told : Option Finding) → IsUnfoundUpTo form options asked listed i first → IsUnwantedAt form options one.place (asked_at one.place asked) told → is_found told ≡ true → IsFirstUnwanted form options asked (places_in listed) told
      found-next first None so_far here some = absurd (false≢true some)
      found-next first (Some finding) so_far here nine = λ alone status.
          let what = finding.judgement in
          let words = string_bytes finding.text in
          let same = told-found one.place what finding.status words here nine in
          subst (λ (k : ℕ). IsJudgedEach form options asked (places_in listed) alone status what k words) (sym same)
          (found i one.place what words place-next (places-before (IsUnfound form options asked) (unfound-all i first so_far)) (subst (λ (k : ℕ). is_told one.place what k words) same here))

      -- none is found there
      pub unfound-next : (first told : Option Finding) → IsUnfoundUpTo form options asked listed i first → IsUnwantedAt form options one.place (asked_at one.place asked) told → is_found told ≡ false
          → IsUnfoundUpTo form options asked listed (i + 1) (option_or first told)
      unfound-next None None all here none = places-more wanted_at all here
      unfound-next None (Some finding) all here other =
          let words = string_bytes finding.text in
          let told = told-unfound one.place finding.judgement finding.status words here other in
          (i, one.place, place-next, places-before wanted_at all, places-more (IsUnfound form options asked) (unfound-all i None all) (inr (words, told.2)), told.0, told.1, told.2)
      unfound-next (Some finding) None first here none =
          (first.0, first.1, first.2, first.3, places-more (IsUnfound form options asked) first.4 (inl here), first.5, first.6, first.7)
      unfound-next (Some finding) (Some later) first here other =
          let words = string_bytes later.text in
          let told = told-unfound one.place later.judgement later.status words here other in
          (first.0, first.1, first.2, first.3, places-more (IsUnfound form options asked) first.4 (inr (words, told.2)), first.5, first.6, first.7)
