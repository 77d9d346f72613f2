-- What is found of the rows of `never`, one after another.
use Rattle.std.proofs.Common.{◌≡◌, ◌⊎◌, ℕ, ◌+◌, ◌<◌, ◌≤◌, Bool, true, false, List, length, take, take_all, slice_get, Option, Some, None, ap, inl, inr, refl, subst, sym}
use Rattle.std.proofs.lemmas.Bool.{false≢true}
use Rattle.std.proofs.lemmas.List.Elements.{All-weaker}
use Rattle.std.specs.Option.{option_or}
use Rattle.ulfm_job.specs.Job.{JobView}
use Rattle.ulfm_job.specs.declared.clause.Clause.{Clause}
use Rattle.ulfm_outcomes_list.specs.declared.search_result.Told.{Told}
use Rattle.ulfm_outcomes_list.specs.declared.search_result.Told.TheVariants.{Schedule, Many}
use Rattle.ulfm_outcomes_reply.specs.Wanted.{IsUnknown, NeverComes, NoneComes, NoneIsFound}
use Rattle.ulfm_outcomes_reply.specs.declared.never_rows.FirstRow.{FirstRow}
use Rattle.ulfm_outcomes_reply.specs.inside.Looking.{IsFirstRow, IsFirstTold, IsLookForRow, IsUnfoundOf, is_row_found, numbered}
use Rattle.ulfm_outcomes_reply.proofs.Judged.{each_more}

module _ (job : JobView) (rows : List (List Clause)) (is_brief : Bool) (limit : ℕ) where
  -- of so many of them none is found
  unfound-all : (count : ℕ) (first : Option FirstRow) → IsUnfoundOf job rows is_brief limit count first → NoneIsFound is_brief limit job (take count rows)
  unfound-all count None none = All-weaker (NeverComes job) (λ row. NeverComes job row ⊎ IsUnknown is_brief limit job row) (λ row never. inl never) (take count rows) none
  unfound-all count (Some first) are = are.3

  -- at the end of the rows
  pub rows-end : (count : ℕ) (first : Option FirstRow) → length rows ≤ count → IsUnfoundOf job rows is_brief limit count first → IsFirstRow job rows is_brief limit first
  rows-end count None past none = subst (NoneComes job) (take_all count rows past) none
  rows-end count (Some first) past are =
      subst (IsFirstTold job rows is_brief limit first.number) (sym are.4)
      (are.0, are.1, are.2, subst (NoneIsFound is_brief limit job) (take_all count rows past) are.3, refl, are.5)

  module _ (n : ℕ) (row : List Clause) (inside : n < length rows) (here : slice_get rows n ≡ Some row) where
    -- one more row is none that was found
    more : NoneIsFound is_brief limit job (take n rows) → NeverComes job row ⊎ IsUnknown is_brief limit job row → NoneIsFound is_brief limit job (take (n + 1) rows)
    more before one = each_more (λ (r : List Clause). NeverComes job r ⊎ IsUnknown is_brief limit job r) rows n row inside here before one

    -- the next row never comes
    row-never : (first : Option FirstRow) → IsUnfoundOf job rows is_brief limit n first → NeverComes job row → IsUnfoundOf job rows is_brief limit (n + 1) first
    row-never None none never = each_more (NeverComes job) rows n row inside here none never
    row-never (Some first) are never = (are.0, are.1, are.2, more are.3 (inl never), are.4, are.5)

    -- of the next row it isn't known
    row-unknown : (first : Option FirstRow) (most : ℕ) → IsUnfoundOf job rows is_brief limit n first → IsLookForRow job row is_brief limit (Some (Many most))
        → IsUnfoundOf job rows is_brief limit (n + 1) (option_or first (Some (record { number = n; told = Many most })))
    row-unknown None most none look =
        let unknown : IsUnknown is_brief limit job row = (look.0, look.1, (refl, look.2.1)) in
        (row, here, none, more (unfound-all n None none) (inr unknown), ap Many look.2.0, unknown)
    row-unknown (Some first) most are look = (are.0, are.1, are.2, more are.3 (inr (look.0, look.1, (refl, look.2.1))), are.4, are.5)

    -- no schedule is found that has all answers of the next row
    pub row-passed : (first : Option FirstRow) (look : Option Told) → IsUnfoundOf job rows is_brief limit n first → IsLookForRow job row is_brief limit look → is_row_found (numbered n look) ≡ false
        → IsUnfoundOf job rows is_brief limit (n + 1) (option_or first (numbered n look))
    row-passed None None are never other = row-never None are never
    row-passed (Some first) None are never other = row-never (Some first) are never
    row-passed first (Some (Many most)) are look other = row-unknown first most are look
    row-passed first (Some (Schedule schedule)) are look other = absurd (false≢true (sym other))

    -- one is found
    pub row-found : (first : Option FirstRow) (look : Option Told) → IsUnfoundOf job rows is_brief limit n first → IsLookForRow job row is_brief limit look → is_row_found (numbered n look) ≡ true
        → IsFirstRow job rows is_brief limit (numbered n look)
    row-found first None are never found = absurd (false≢true found)
    row-found first (Some (Many most)) are look found = absurd (false≢true found)
    row-found first (Some (Schedule schedule)) are look found = (row, here, unfound-all n first are, look)
