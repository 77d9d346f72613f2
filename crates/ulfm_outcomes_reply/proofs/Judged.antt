-- What is told below a list, and of answers that words name.
use Rattle.std.proofs.Common.{◌≡◌, ℕ, ◌+◌, ◌<◌, Bool, true, false, cond, filter, find, map, refl, List, [], ◌∷◌, ◌++◌, All, length, take, get_or, slice_get, Option, Some, None, Vec, option_map, Ok, subst, sym, ap, ◌∙◌}
use Rattle.std.proofs.lemmas.List.{map-append, take_more}
use Rattle.std.proofs.lemmas.List.Elements.{All-more, filter-append}
use Rattle.std.proofs.lemmas.Option.{get_or_from_slice_get, slice_get-get_or, slice_get-map}
use Rattle.std.specs.Borrow.{Bor}
use Rattle.std.specs.declared.alloc.Global.{Global}
use Rattle.ulfm_reader.specs.JobText.{rows_of}
use Rattle.ulfm_job.specs.declared.clause.Clause.{Clause}
use Rattle.ulfm_forms.specs.declared.form.Form.{Form}
use Rattle.ulfm_command_line.specs.Stopped.{Asked, IsAskedAt}
use Rattle.ulfm_command_line.specs.declared.command.ListOptions.{ListOptions}
use Rattle.ulfm_outcomes_list.specs.Goals.{AreOfClauses}
use Rattle.ulfm_outcomes_spec.specs.Told.{IsLook}
use Rattle.ulfm_outcomes_list.specs.declared.goals.Goals.{Goals}
use Rattle.ulfm_outcomes_reply.specs.Outcomes.{IsShowReply, goals_asked, nowhere, shown, too_many}
use Rattle.ulfm_outcomes_list.specs.Told.{told_in}
use Rattle.ulfm_outcomes_list.specs.declared.search_result.Told.{Told}
use Rattle.ulfm_outcomes_list.specs.declared.search_result.Told.TheVariants as told
use Rattle.ulfm_outcomes_reply.specs.inside.Looking.{IsLookText, look_status}

-- those of which that holds, with one more
pub filter-more : {X V : Type 0} (p : V → Bool) (view : X → V) (xs : List X) (i : ℕ) (x : X) → i < length xs → x ≡ get_or xs i x → filter p (map view (take i xs)) ++ filter p (view x ∷ []) ≡ filter p (map view (take (i + 1) xs))
filter-more {X} p view xs i x low is =
    sym (filter-append p (map view (take i xs)) (view x ∷ [])) ∙ ap (filter p) (sym (map-append view (take i xs) (x ∷ []))) ∙ ap (λ (ys : List X). filter p (map view ys)) (ap (λ (y : X). take i xs ++ y ∷ []) is ∙ sym (take_more xs i x low))

-- what is found among views, by what is found among what they are of
pub find-map : {X Y : Type 0} (p : Y → Bool) (f : X → Y) (xs : List X) → option_map f (find (λ x. p (f x)) xs) ≡ find p (map f xs)
find-map p f [] = refl
find-map {X} {Y} p f (x ∷ xs) = by (find-map p f xs) (p (f x))
  where
    by : option_map f (find (λ y. p (f y)) xs) ≡ find p (map f xs) → (b : Bool) → option_map f (cond b (Some x) (find (λ y. p (f y)) xs)) ≡ cond b (Some (f x)) (find p (map f xs))
    by later true = refl
    by later false = later

-- what contracts see of a part of a text, if there is one
abbrev pub part_now : Option (Bor (List ℕ)) → Option (List ℕ)
part_now part = option_map (λ p. p.now) part

-- the reply to what came of a search
pub show_as : (form : Form) (options : ListOptions) (show bytes : List ℕ) (asked : Asked) (answers : List Clause) (goals : Goals) (look : Option Told) (text : List ℕ) → IsAskedAt options.place bytes asked → goals_asked asked show ≡ Ok answers → AreOfClauses asked.job answers goals
    → IsLook asked.job goals options.is_brief options.limit look → IsLookText form options.drawn None asked look text → IsShowReply form options show bytes (look_status look) text
show_as form options show bytes asked answers goals None text read named are never is =
    subst (λ (t : List ℕ). IsShowReply form options show bytes 8 t) (sym is) (nowhere asked answers read named goals are never)
show_as form options show bytes asked answers goals (Some (told.Schedule schedule)) text read named are what is = shown asked answers read named goals are schedule text what is
show_as form options show bytes asked answers goals (Some (told.Many limit)) text read named are what is =
    subst (λ (t : List ℕ). IsShowReply form options show bytes 7 t) (sym is)
    (subst (λ (n : ℕ). IsShowReply form options show bytes 7 (told_in form None asked.names asked.job (told.Many n))) (sym what.0) (too_many asked answers read named goals are (sym what.0 ∙ what.0, what.1)))

-- the row of a place among the rows
pub row_here : (rows : List (Vec Clause Global)) (n : ℕ) (kept : Vec Clause Global) (row : List Clause) → n < length rows → kept ≡ get_or rows n kept → row ≡ kept.items → slice_get (rows_of rows) n ≡ Some row
row_here rows n kept row inside is same =
    slice_get-map (λ (r : Vec Clause Global). r.items) rows n ∙ ap (option_map (λ (r : Vec Clause Global). r.items)) (slice_get-get_or rows n kept inside ∙ ap Some (sym is)) ∙ ap Some (sym same)

-- what holds of each of the first elements holds of one more
pub each_more : {X : Type 0} (P : X → Type 0) (xs : List X) (n : ℕ) (x : X) → n < length xs → slice_get xs n ≡ Some x → All P (take n xs) → P x → All P (take (n + 1) xs)
each_more P xs n x inside here before one = All-more P xs n x inside before (subst P (sym (get_or_from_slice_get xs n x x here)) one)
