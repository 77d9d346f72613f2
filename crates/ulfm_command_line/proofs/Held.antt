-- What holds where each stop lies before the steps of each name.
use Rattle.std.proofs.Common.{◌≡◌, ℕ, ◌≤◌, ◌+◌, zero, suc, Bool, true, not, List, [], ◌∷◌, ◌++◌, filter, length, map, slice_index_or, take, refl, ap, subst, sym, ◌∙◌, arith}
use Rattle.std.proofs.lemmas.Bool.{and_from, and_parts, or_right}
use Rattle.std.proofs.lemmas.List.{take_all, take_more}
use Rattle.std.proofs.lemmas.List.FromFn.{map-range_with_len_more}
use Rattle.std.specs.List.{list_all, range_with_len}
use Rattle.ulfm_job.specs.declared.clause.Clause.{Clause}
use Rattle.ulfm_job.specs.Places.{own_stops}
use Rattle.ulfm_job.specs.declared.stop.Stop.{Stop}
use Rattle.ulfm_reader.specs.declared.name.Name.{Name}
use Rattle.ulfm_reader.specs.declared.proviso.Proviso.{Proviso}
use Rattle.ulfm_reader.specs.declared.subject.Subject.{Subject}
use Rattle.ulfm_reader.specs.declared.subject.Subject.TheVariants as of
use Rattle.ulfm_command_line.specs.AskedFor.{Asked}
use Rattle.ulfm_command_line.specs.Holding.{all_hold, held, held_row, holds, holds_if_about, is_about, is_expected, lie_before}

each-holds : (names : List Name) (stops : List Stop) (subject : Subject) (provisos : List Proviso) → list_all (λ (p : Proviso). lie_before names p.before stops) provisos ≡ true → list_all (holds_if_about names stops subject) provisos ≡ true
each-holds names stops subject [] h = refl
each-holds names stops subject (p ∷ ps) h =
    let parts = and_parts (lie_before names p.before stops) (list_all (λ (q : Proviso). lie_before names q.before stops) ps) h in
    and_from (holds_if_about names stops subject p) (list_all (holds_if_about names stops subject) ps) (or_right (not (is_about subject p)) (lie_before names p.before stops) parts.0) (each-holds names stops subject ps parts.1)

-- where all holds, each of it does
any-holds : (asked : Asked) (stops : List Stop) → all_hold asked stops ≡ true → (subject : Subject) → holds asked stops subject ≡ true
any-holds asked stops h subject = each-holds asked.names stops subject asked.provisos h

filter-true : (p : Clause → Bool) → ((c : Clause) → p c ≡ true) → (cs : List Clause) → filter p cs ≡ cs
filter-true p all [] = refl
filter-true p all (c ∷ cs) = rw (all c, filter-true p all cs) refl

-- each row is there
rows-there : (asked : Asked) (stops : List Stop) → all_hold asked stops ≡ true → (n : ℕ) → n ≤ length asked.rows → map (held_row asked stops) (range_with_len 0 n) ≡ take n asked.rows
rows-there asked stops h zero le = refl
rows-there asked stops h (suc n) le =
    let row : held_row asked stops n ≡ slice_index_or asked.rows n [] = rw (any-holds asked stops h (of.Row n)) refl in
    let next : n + 1 ≡ suc n = omega arith in
    subst (λ (m : ℕ). map (held_row asked stops) (range_with_len 0 m) ≡ take m asked.rows) next
    (map-range_with_len_more (held_row asked stops) 0 n n (omega arith)
    ∙ ap (λ (x : List Clause). map (held_row asked stops) (range_with_len 0 n) ++ x ∷ []) row
    ∙ ap (λ (xs : List (List Clause)). xs ++ slice_index_or asked.rows n [] ∷ []) (rows-there asked stops h n (omega (arith, le)))
    ∙ sym (take_more asked.rows n [] (omega (arith, le))))

-- then what was read is held as it is
pub held-whole : (asked : Asked) (stops : List Stop) → all_hold asked stops ≡ true → held stops asked ≡ asked
held-whole asked stops h =
    let rows = rows-there asked stops h (length asked.rows) (omega arith) ∙ take_all (length asked.rows) asked.rows (omega arith) in
    rw (filter-true (is_expected asked stops) (λ c. any-holds asked stops h (of.Step c.rank c.at)) asked.job.expected, rows) refl

stopless : (names : List Name) (provisos : List Proviso) → list_all (λ (p : Proviso). lie_before names p.before []) provisos ≡ true
stopless names [] = refl
stopless names (p ∷ ps) = stopless names ps

-- all holds of a job that has no stop of its own
pub hold-unstopped : (asked : Asked) → own_stops asked.job ≡ [] → all_hold asked (own_stops asked.job) ≡ true
hold-unstopped asked none = ap (all_hold asked) none ∙ stopless asked.names asked.provisos

-- and of one that asks nothing only before a step
pub hold-anywhere : (asked : Asked) → asked.provisos ≡ [] → all_hold asked (own_stops asked.job) ≡ true
hold-anywhere asked none = ap (list_all (λ (p : Proviso). lie_before asked.names p.before (own_stops asked.job))) none
