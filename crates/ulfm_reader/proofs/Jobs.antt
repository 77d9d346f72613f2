-- The job of a table and of bytes, case by case.
use Rattle.std.proofs.Common.{◌≡◌, ℕ, ◌<◌, ◌≤◌, List, length, ltb, true, false, Option, Result, Ok, Err, refl, ap, arith}
use Rattle.ulfm_reader.proofs.Common.{Clause, Draft, JobFault, nat_tests, IsUtf8, is_utf8, parse_document, ◌>>=◌}
use Rattle.std.proofs.lemmas.Str.{is_utf8-from_IsUtf8, IsUtf8-from_is_utf8}
use Rattle.std.proofs.lemmas.Bool.{false_from_ne_true}
use Rattle.toml.specs.Data.{Items, Members}
use Rattle.ulfm_job.specs.declared.fault.JobFault.TheVariants as refused
use Rattle.ulfm_reader.specs.Never.{never_out, rows_in}
use Rattle.ulfm_reader.specs.Provisos.{provisos_in}
use Rattle.ulfm_reader.specs.declared.proviso.Proviso.{Proviso}
use Rattle.ulfm_reader.specs.JobText.{Head, blank, head_of, in_job, lines_of, never_of, read_as, rest_of, steps_of, reading_of, reading_of_document, reading_of_bytes}

pub too_many : (ms : Members) (h : Head) → Ok h ≡ head_of ms → 256 < length (lines_of h) → reading_of ms ≡ Err refused.TooLarge
unfolding reading_of
too_many ms h read many = let test : ltb 256 (length (lines_of h)) ≡ true = grind (arith, nat_tests) in rw (← read, test) refl

pub steps_read : (ms : Members) (h : Head) (r : Result Draft JobFault) → Ok h ≡ head_of ms → length (lines_of h) ≤ 256 → steps_of h.ranks (blank h.ranks) (lines_of h) ≡ r
    → reading_of ms ≡ (r >>= rest_of h)
unfolding reading_of
steps_read ms h r read few steps =
    let test : ltb 256 (length (lines_of h)) ≡ false = grind (arith, nat_tests) in
    rw (← read, test) (ap (λ (s : Result Draft JobFault). s >>= rest_of h) steps)

pub provisos_fault : (h : Head) (never : Option Items) (draft : Draft) (e : JobFault) → in_job (provisos_in draft.names draft.provisos never) ≡ Err e → never_of h never draft ≡ Err e
provisos_fault h never draft e fault = rw fault refl

pub rows_read : (h : Head) (never : Option Items) (draft : Draft) (provisos : List Proviso) (r : Result (List (List Clause)) JobFault) → in_job (provisos_in draft.names draft.provisos never) ≡ Ok provisos
    → in_job (rows_in draft.scripts draft.names never) ≡ r → never_of h never draft ≡ (r >>= (λ rows. Ok (read_as h draft provisos rows)))
rows_read h never draft provisos r read rows = rw (read, rows) refl

pub written_read : (h : Head) (draft : Draft) (r : Result (Option Items) JobFault) → in_job (never_out (lines_of h) h.ranks h.never) ≡ r → rest_of h draft ≡ (r >>= (λ never. never_of h never draft))
written_read h draft r written = ap (λ (s : Result (Option Items) JobFault). s >>= (λ never. never_of h never draft)) written

pub no_text : (bytes : List ℕ) → length bytes ≤ 1048576 → (IsUtf8 bytes → ⊥) → reading_of_bytes bytes ≡ Err refused.NotToml
unfolding reading_of_bytes
no_text bytes short bad =
    let test : ltb 1048576 (length bytes) ≡ false = grind (arith, nat_tests) in
    let fails : is_utf8 bytes ≡ false = false_from_ne_true _ (λ is. bad (IsUtf8-from_is_utf8 bytes is)) in
    rw (test, fails) refl

pub of_text : (bytes : List ℕ) (document : Option Members) → length bytes ≤ 1048576 → IsUtf8 bytes → parse_document bytes ≡ document → reading_of_bytes bytes ≡ reading_of_document document
unfolding reading_of_bytes
of_text bytes document short good parsed =
    let test : ltb 1048576 (length bytes) ≡ false = grind (arith, nat_tests) in
    rw (test, is_utf8-from_IsUtf8 bytes good, parsed) refl
