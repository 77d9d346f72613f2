-- Which bytes are refused as no TOML.
use Rattle.std.proofs.Common.{◌≡◌, ◌≢◌, ℕ, List, [], ◌∷◌, length, ltb, cond, Bool, true, false, Option, Some, None, Result, Ok, Err, ◌⊎◌, inl, inr, refl, sym, ap, ◌∙◌, arith}
use Rattle.std.proofs.lemmas.Bool.{false≢true, ltb-false}
use Rattle.ulfm_reader.proofs.Common.{Draft, JobFault, nat_tests, is_utf8, parse_document, ◌>>=◌}
use Rattle.std.proofs.lemmas.Str.{is_utf8-from_IsUtf8}
use Rattle.toml.specs.Data.{Members, as_table}
use Rattle.ulfm_reader.specs.Lines.{Line}
use Rattle.ulfm_job.specs.declared.fault.Fault.{Fault}
use Rattle.ulfm_job.specs.declared.fault.JobFault.TheVariants.{NotToml, TooLarge}
use Rattle.ulfm_reader.specs.JobText.{blank, draft_of, in_job, in_step, lines_of, step_in, steps_of, head_of, job_in, job_of_bytes, Reading, reading_of, reading_of_document, reading_of_bytes, IsNoDocument}
use Rattle.ulfm_reader.specs.Never.{never_out, rows_in}
use Rattle.ulfm_reader.specs.Provisos.{provisos_in}
use Rattle.ulfm_reader.proofs.Jobs.{no_text}

in_job_not : {A : Type 0} (r : Result A Fault) → in_job r ≢ Err NotToml
in_job_not (Ok x) = λ e. cc
in_job_not (Err f) = λ e. cc

in_step_not : {A : Type 0} (k : ℕ) (r : Result A Fault) → in_step k r ≢ Err NotToml
in_step_not k (Ok x) = λ e. cc
in_step_not k (Err f) = λ e. cc

then_not : {A B : Type 0} (r : Result A JobFault) (f : A → Result B JobFault) → r ≢ Err NotToml → ((x : A) → f x ≢ Err NotToml) → (r >>= f) ≢ Err NotToml
then_not (Ok x) f h k = k x
then_not (Err e) f h k = λ q. h cc

cond_not : {A : Type 0} (b : Bool) (x y : Result A JobFault) → x ≢ Err NotToml → y ≢ Err NotToml → cond b x y ≢ Err NotToml
cond_not true x y h k = h
cond_not false x y h k = k

step_not : (ranks k : ℕ) (draft : Draft) (found : Option Members) → step_in ranks k draft found ≢ Err NotToml
step_not ranks k draft None = λ e. cc
step_not ranks k draft (Some ms) = in_step_not k (draft_of ranks k draft ms)

steps_not : (ranks : ℕ) (draft : Draft) (lines : List Line) → steps_of ranks draft lines ≢ Err NotToml
unfolding steps_of
steps_not ranks draft [] = λ e. cc
steps_not ranks draft (line ∷ lines) = then_not _ _ (step_not ranks line.place draft (as_table line.step)) (λ more. steps_not ranks more lines)

too_large : {A : Type 0} → (r : Result A JobFault) → r ≡ Err TooLarge → r ≢ Err NotToml
too_large (Ok x) e = absurd cc
too_large (Err f) e = λ q. cc

reading_not : (ms : Members) → reading_of ms ≢ Err NotToml
unfolding reading_of
reading_not ms = then_not _ _ (in_job_not (head_of ms)) (λ h. cond_not _ _ _ (too_large _ refl) (then_not _ _ (steps_not h.ranks (blank h.ranks) (lines_of h))
    (λ draft. then_not _ _ (in_job_not (never_out (lines_of h) h.ranks h.never))
    (λ never. then_not _ _ (in_job_not (provisos_in draft.names draft.provisos never))
    (λ provisos. then_not (in_job (rows_in draft.scripts draft.names never)) _ (in_job_not (rows_in draft.scripts draft.names never)) (λ rows e. cc))))))

answer_to : Bool → Bool → Option Members → Result Reading JobFault
answer_to long text document = cond long (Err TooLarge) (cond text (reading_of_document document) (Err NotToml))

why : (long text : Bool) (document : Option Members) → answer_to long text document ≡ Err NotToml → (long ≡ false) × ((text ≡ false) ⊎ (document ≡ None))
unfolding answer_to
why true text document e = absurd cc
why false false document e = (refl, inl refl)
why false true None e = (refl, inr refl)
why false true (Some ms) e = absurd (reading_not ms e)

not_read : (r : Result Reading JobFault) → job_in r ≡ Err NotToml → r ≡ Err NotToml
not_read (Ok reading) e = absurd cc
not_read (Err f) e = cc

pub only_no_document : (bytes : List ℕ) → job_of_bytes bytes ≡ Err NotToml → IsNoDocument bytes
unfolding reading_of_bytes answer_to
only_no_document bytes e =
    let p = why (ltb 1048576 (length bytes)) (is_utf8 bytes) (parse_document bytes) (not_read (reading_of_bytes bytes) e) in
    (ltb-false _ _ p.0, elim p.1 [ inl bad ↦ inl (λ is. false≢true (sym bad ∙ is_utf8-from_IsUtf8 bytes is)) | inr empty ↦ inr empty ])

either : (text : Bool) → cond text (reading_of_document None) (Err NotToml) ≡ Err NotToml
either true = refl
either false = refl

unread : (bytes : List ℕ) → IsNoDocument bytes → reading_of_bytes bytes ≡ Err NotToml
unfolding reading_of_bytes
unread bytes h =
    let test : ltb 1048576 (length bytes) ≡ false = let short = h.0 in grind (arith, nat_tests) in
    elim h.1 [ inl bad ↦ no_text bytes h.0 bad | inr empty ↦ rw (test, empty) (either (is_utf8 bytes)) ]

pub always_no_document : (bytes : List ℕ) → IsNoDocument bytes → job_of_bytes bytes ≡ Err NotToml
always_no_document bytes h = ap job_in (unread bytes h)
