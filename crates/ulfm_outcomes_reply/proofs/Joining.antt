-- Lists of places, one after another.
use Rattle.std.proofs.Common.{◌≡◌, ℕ, List, [], ◌∷◌, ◌++◌, Option, Some, None, Result, Ok, ap, sym, subst, ◌∙◌, append_assoc}
use Rattle.std.proofs.lemmas.List.{append-nil}
use Rattle.std.specs.declared.alloc.AllocError.{AllocError}
use Rattle.ulfm_job.specs.declared.place.Place.{Place}
use Rattle.ulfm_outcomes_reply.specs.Lists.{AreLists, beyond, no_place, within}
use Rattle.ulfm_outcomes_reply.specs.inside.Parts.{AreJoined, AreJoinedSoFar, AreParts, GoesOn, IsListOf, IsPart, listed_of, past_of}
use Rattle.ulfm_command_line.specs.Stopped.{Asked}
use Rattle.ulfm_outcomes_list.specs.declared.place_list.Listed.{Listed}
use Rattle.ulfm_outcomes_reply.specs.declared.lists.Lists.{Lists}

module _ (asked : Asked) (limit : ℕ) where
  -- lists of places, and those of other places behind them
  lists-append : (xs ys : List Place) (ls ms : List Listed) (ps qs : List Place) → AreLists asked limit xs ls ps → AreLists asked limit ys ms qs → AreLists asked limit (xs ++ ys) (ls ++ ms) (ps ++ qs)
  lists-append xs ys ls ms ps qs no_place lists = lists
  lists-append xs ys ls ms ps qs (within place places one listed past at rest) lists = within place (places ++ ys) one (listed ++ ms) (past ++ qs) at (lists-append places ys listed ms past qs rest lists)
  lists-append xs ys ls ms ps qs (beyond place places listed past many rest) lists = beyond place (places ++ ys) (listed ++ ms) (past ++ qs) many (lists-append places ys listed ms past qs rest lists)

  -- these lists under other names
  same_lists : (places : List Place) (a b : List Listed) (p q : List Place) → a ≡ b → p ≡ q → AreLists asked limit places a p → AreLists asked limit places b q
  same_lists places a b p q is are lists = subst (λ (ls : List Listed). AreLists asked limit places ls q) is (subst (λ (ps : List Place). AreLists asked limit places a ps) are lists)

  module _ (places : List Place) (listed : List Listed) (past rest : List Place) (on : GoesOn asked limit places listed past rest) where
    -- no place is left
    pub goes_on-end : rest ≡ [] → AreLists asked limit places listed past
    goes_on-end is =
        same_lists places (listed ++ []) listed (past ++ []) past (append-nil listed) (append-nil past)
        (on [] [] (subst (λ (ps : List Place). AreLists asked limit ps [] []) (sym is) no_place))

    -- the lists of a part
    pub goes_on-part : (front left : List Place) (ls new : List Listed) (ps out : List Place) → rest ≡ front ++ left → new ≡ listed ++ ls → out ≡ past ++ ps → AreLists asked limit front ls ps
        → GoesOn asked limit places new out left
    goes_on-part front left ls new ps out is pushed put all = λ more others lists.
        same_lists places (listed ++ (ls ++ more)) (new ++ more) (past ++ (ps ++ others)) (out ++ others)
        (sym (append_assoc listed ls more) ∙ ap (λ (ms : List Listed). ms ++ more) (sym pushed)) (sym (append_assoc past ps others) ∙ ap (λ (qs : List Place). qs ++ others) (sym put))
        (on (ls ++ more) (ps ++ others) (subst (λ (xs : List Place). AreLists asked limit xs (ls ++ more) (ps ++ others)) (sym is) (lists-append front left ls more ps others all lists)))

    module _ (place : Place) (left : List Place) (is : rest ≡ place ∷ left) where
      -- the next place has a list, or is past the limit
      pub goes_on-next : (one : Option Listed) (new : List Listed) (out : List Place) → new ≡ listed ++ listed_of one → out ≡ past ++ past_of place one → IsListOf asked limit place one → GoesOn asked limit places new out left
      goes_on-next (Some one) new out pushed put at = goes_on-part (place ∷ []) left (one ∷ []) new [] out is pushed put (within place [] one [] [] at no_place)
      goes_on-next None new out pushed put many = goes_on-part (place ∷ []) left [] new (place ∷ []) out is pushed put (beyond place [] [] [] many no_place)

-- no part is left
pub joined-end : (parts left : List (Result Lists AllocError)) (listed : List Listed) (past : List Place) → AreJoinedSoFar parts listed past left → left ≡ [] → AreJoined parts listed past
joined-end parts left listed past so_far none = λ asked limit places are.
    let was = so_far asked limit places are in
    goes_on-end asked limit places listed past was.0 was.1 (subst (λ (ps : List (Result Lists AllocError)). AreParts (IsPart asked limit) was.0 ps) none was.2)

-- one more part
pub joined-on : (parts left more : List (Result Lists AllocError)) (part : Result Lists AllocError) (lists : Lists) (listed new : List Listed) (past out : List Place) → AreJoinedSoFar parts listed past left
    → left ≡ part ∷ more → part ≡ Ok lists → new ≡ listed ++ lists.listed.items → out ≡ past ++ lists.past_limit.items → AreJoinedSoFar parts new out more
joined-on parts left more part lists listed new past out so_far next is pushed put = λ asked limit places are.
    let was = so_far asked limit places are in
    let step = subst (λ (ps : List (Result Lists AllocError)). AreParts (IsPart asked limit) was.0 ps) next was.2 in
    let all = subst (IsPart asked limit step.0) is step.3 in
    (step.1, goes_on-part asked limit places listed past was.0 was.1 step.0 step.1 lists.listed.items new lists.past_limit.items out step.2 pushed put all, step.4)
