-- What a sweep counts, and in which order.
use Rattle.std.proofs.Common.{◌≡◌, ℕ, ◌+◌, ◌<◌, ◌≤◌, List, [], ◌∷◌, ◌++◌, append_assoc, length, map, get_or, All, Bool, true, false, cond, sym, ap, ◌∙◌, arith}
use Rattle.ulfm_world.proofs.Common.{slice_get-get_or, StepAnswer, flat_map, range_with_len, sum_by, length-map, map-id, map_push, StepReport, JobView, IsJob, script_at, MadeAtRest, Step}
use Rattle.ulfm_replay.specs.Sweep.{answers_of, place_of, places_in}
use Rattle.std.proofs.lemmas.List.FromFn.{map-range_with_len_more}
use Rattle.std.proofs.lemmas.List.Sums.{count_by-le-length, get_or-le-sum_by, sum_by-le, sum_by-le-sum_by}
use Rattle.ulfm_base.specs.Lists.{at}
use Rattle.ulfm_report_laws.proofs.Mail.{flat-push}
use Rattle.ulfm_answer.specs.Report.{Report}
use Rattle.ulfm_script.proofs.MeantAlong.{length-played}
use Rattle.ulfm_script.specs.Meant.{played_script}
use Rattle.ulfm_script.specs.Script.{is_played_stop, reported_step, through_stop}
use Rattle.ulfm_replay.specs.declared.line.SweepLine.{SweepLine}

length-through_stop : (reports : List StepReport) (xs : List Step) → length (through_stop reports xs) ≤ length xs
length-through_stop [] xs = omega arith
length-through_stop (report ∷ reports) [] = omega arith
length-through_stop (report ∷ reports) (x ∷ xs) = one (is_played_stop report) x (through_stop reports xs) xs (length-through_stop reports xs)
  where
    one : (b : Bool) (x : Step) (ys zs : List Step) → length ys ≤ length zs → length (cond b (x ∷ []) (x ∷ ys)) ≤ length (x ∷ zs)
    one true x ys zs le = omega arith
    one false x ys zs le = omega (arith, le)

script_few : (j : JobView) (r : ℕ) → IsJob j → r < j.ranks → length (script_at j r) ≤ 256
script_few j r is lt = let le = get_or-le-sum_by length j.scripts r [] (omega (arith, is.script_each, lt)) in omega (arith, le, is.most_steps)

-- the ranks of a job answer few steps
pub steps_few : (j : JobView) (reports : List Report) → IsJob j → MadeAtRest j reports → sum_by (λ (report : Report). length report.steps) reports ≤ 65535
steps_few j reports is h =
    let each : All (λ (report : Report). length report.steps ≤ 256) reports = λ k d lt. few k (get_or reports k d) lt (slice_get-get_or reports k d lt) in
    let most = sum_by-le (λ (report : Report). length report.steps) 256 reports each in
    omega (arith, most, h.lawful.each, is.few_ranks)
  where
    few : (k : ℕ) (report : Report) → k < length reports → at reports k report → length report.steps ≤ 256
    few k report lt here =
        let follows = h.lawful.scripts k report here in
        let script = played_script j k report.steps in
        let same : length report.steps ≡ length (through_stop report.steps script) = sym (length-map report.steps reported_step) ∙ ap length follows.steps in
        omega (arith, same, length-through_stop report.steps script, length-played j k report.steps, script_few j k is (omega (arith, h.lawful.each, lt)))

-- the places of one more rank
pub next_rank : (j : JobView) (n : ℕ) → flat_map (places_in j) (range_with_len 0 (n + 1)) ≡ flat_map (places_in j) (range_with_len 0 n) ++ places_in j n
next_rank j n =
    let more : range_with_len 0 (n + 1) ≡ range_with_len 0 n ++ n ∷ [] = sym (map-id _) ∙ map-range_with_len_more (λ k. k) 0 n n (omega arith) ∙ ap (λ (ks : List ℕ). ks ++ n ∷ []) (map-id _) in
    ap (flat_map (places_in j)) more ∙ flat-push (places_in j) (range_with_len 0 n) n

-- the place of one more line
pub next_place : (r k : ℕ) (lines front : List SweepLine) (line : SweepLine) → map place_of lines ≡ map place_of front ++ map (λ at. (r, at)) (range_with_len 0 k) → place_of line ≡ (r, k)
    → map place_of (lines ++ line ∷ []) ≡ map place_of front ++ map (λ at. (r, at)) (range_with_len 0 (k + 1))
next_place r k lines front line so_far here =
    let more = map-range_with_len_more {X = ℕ × ℕ} (λ at. (r, at)) 0 k k (omega arith) in
    let old = append_assoc (map place_of front) (map (λ at. (r, at)) (range_with_len 0 k)) ((r, k) ∷ []) in
    map_push place_of lines line ∙ cc (so_far, here, more, old)

-- answers of a kind are no more than the steps
pub answers_few : (is_kind : StepAnswer → Bool) (reports : List Report) → sum_by (λ (report : Report). length report.steps) reports ≤ 65535 → answers_of is_kind reports ≤ 65535
answers_few is_kind reports few =
    let le = sum_by-le-sum_by _ (λ (report : Report). length report.steps) reports (λ report. count_by-le-length (λ (step : StepReport). is_kind step.answer) report.steps) in
    omega (arith, le, few)
