-- What came of a search for the answers of a row, or of one for those of several.
use Rattle.std.proofs.Common.{◌≡◌, ℕ, ◌+◌, ◌<◌, Bool, false, true, List, [], ◌∷◌, ◌++◌, Contains, length, take, slice_get, Option, Some, None, subst, sym, ◌∙◌, true≢false}
use Rattle.std.proofs.lemmas.List.Elements.{All-get_or, All-weaker, Contains-append_left, Contains-push}
use Rattle.std.proofs.lemmas.Option.{get_or_from_slice_get, slice_get_within}
use Rattle.std.specs.List.{list_all}
use Rattle.ulfm_job.specs.Job.{JobView}
use Rattle.ulfm_job.specs.declared.clause.Clause.{Clause}
use Rattle.ulfm_outcomes_list.specs.Goals.{AreOfClauses}
use Rattle.ulfm_outcomes_list.specs.declared.goals.Goals.{Goals}
use Rattle.ulfm_outcomes_list.specs.declared.search_result.Told.{Told}
use Rattle.ulfm_outcomes_list.specs.declared.open_step.OpenStep.{OpenStep}
use Rattle.ulfm_outcomes_spec.specs.Goals.{IsPossible, is_answered, is_answered_otherwise, is_some_open}
use Rattle.ulfm_outcomes_spec.specs.Told.{AreNowhere, IsLook}
use Rattle.ulfm_outcomes_reply.specs.Wanted.{AreOfRow, AreRuledOut, IsRuledOut}
use Rattle.ulfm_outcomes_reply.specs.inside.Looking.{AreAmong, IsAmong, IsClosedRow, IsLookForRow}
use Rattle.ulfm_outcomes_reply.proofs.Judged.{each_more}

-- what came of a search for the answers of a row that is looked at
pub row_look : (job : JobView) (row : List Clause) (goals : Goals) (is_brief : Bool) (limit : ℕ) (look : Option Told) → AreOfRow job row goals → IsLook job goals is_brief limit look → IsLookForRow job row is_brief limit look
row_look job row goals is_brief limit None are never = λ _. (goals, are.1, never)
row_look job row goals is_brief limit (Some told) are shows = (goals, are, shows)

-- what is so among goals is among one more
more_among : (job : JobView) (sought : List Goals) (goals : Goals) (row : List Clause) → IsAmong job row sought → IsAmong job row (sought ++ goals ∷ [])
more_among job sought goals row is looked = let has = is looked in (has.0, has.1, λ closed. Contains-append_left sought (goals ∷ []) has.0 (has.2 closed))

module _ (job : JobView) (rows : List (List Clause)) (n : ℕ) (row : List Clause) (inside : n < length rows) (here : slice_get rows n ≡ Some row) (sought : List Goals) (before : AreAmong job (take n rows) sought) where
  -- after one more row that isn't looked at, or asks for a step that never ends
  pub passed_over : IsClosedRow job row None → AreAmong job (take (n + 1) rows) sought
  passed_over none =
      each_more (λ (r : List Clause). IsAmong job r sought) rows n row inside here before
      (λ looked. let has = none looked in (has.0, has.1, λ closed. absurd (true≢false (sym has.2 ∙ closed))))

  -- after one more row whose goals are put behind the others
  pub put_behind : (goals : Goals) → AreOfClauses job row goals → AreAmong job (take (n + 1) rows) (sought ++ goals ∷ [])
  put_behind goals are =
      each_more (λ (r : List Clause). IsAmong job r (sought ++ goals ∷ [])) rows n row inside here
      (All-weaker (λ (r : List Clause). IsAmong job r sought) (λ (r : List Clause). IsAmong job r (sought ++ goals ∷ [])) (λ r. more_among job sought goals r) (take n rows) before)
      (λ looked. (goals, are, λ closed. Contains-push sought goals))

-- what shows the goals of clauses shows any goals of them
possible_too : (job : JobView) (row : List Clause) (goals other : Goals) → AreOfClauses job row goals → AreOfClauses job row other → IsPossible job goals → IsPossible job other
possible_too job row goals other are also p =
    let left = are.left ∙ sym also.left in
    record {
      world = p.world;
      comes = p.comes;
      shows = record {
        answers = subst (λ (cs : List Clause). list_all (is_answered p.world) cs ≡ true) (are.answers ∙ sym also.answers) p.shows.answers;
        others = subst (λ (cs : List Clause). list_all (is_answered_otherwise p.world) cs ≡ true) (are.others ∙ sym also.others) p.shows.others;
        left = λ o there. p.shows.left o (subst (λ (os : List OpenStep). Contains os o) (sym left) there);
      };
      ends = λ some. p.ends (subst (λ (os : List OpenStep). is_some_open os ≡ true) (sym left) some);
    }

-- each of rows that are ruled out is
pub ruled_at : (job : JobView) (rows : List (List Clause)) (n : ℕ) (row : List Clause) → slice_get rows n ≡ Some row → AreRuledOut job rows → IsRuledOut job row
ruled_at job rows n row here all = subst (IsRuledOut job) (get_or_from_slice_get rows n row row here) (All-get_or (IsRuledOut job) rows n row (slice_get_within rows n row here) all)

-- where no schedule shows any of these goals, the rows are ruled out
pub ruled_out : (job : JobView) (rows : List (List Clause)) (sought : List Goals) → AreAmong job rows sought → AreNowhere job sought → AreRuledOut job rows
ruled_out job rows sought among nowhere = All-weaker (λ (row : List Clause). IsAmong job row sought) (IsRuledOut job) (λ row is looked goals are closed possible.
    let has = is looked in
    let also = subst (λ (os : List OpenStep). is_some_open os ≡ false) (are.left ∙ sym has.1.left) closed in
    nowhere has.0 (has.2 also) also (possible_too job row goals has.0 are has.1 possible)) rows among
