-- The replies to a job that is refused.
use Rattle.std.proofs.Common.{◌≡◌, ◌≢◌, ◌⊎◌, ℕ, List, Err, inl, inr, ap, refl, subst, sym}
use Rattle.ulfm_job.specs.declared.fault.JobFault.{JobFault}
use Rattle.ulfm_job.specs.declared.fault.JobFault.TheVariants.{NotToml, InJob, InStep, TooLarge, OutOfMemory}
use Rattle.ulfm_reader.specs.JobText.{job_in, job_of_bytes, reading_of_bytes}
use Rattle.ulfm_forms.specs.declared.form.Form.{Form}
use Rattle.ulfm_command_line.specs.Expanded.{IsExpandReply, full, unexpanded}
use Rattle.ulfm_command_line.specs.Named.{IsUnnamed}
use Rattle.ulfm_command_line.specs.Named as named
use Rattle.ulfm_command_line.specs.Places.{IsPlacesReply, unheld, unplaced}
use Rattle.ulfm_command_line.specs.Replies.{IsCheckReply, refused, no_memory, refused_in}
use Rattle.ulfm_command_line.specs.Stopped.{IsRefusal, no_job}
use Rattle.ulfm_command_line.specs.Stopped as stopped
use Rattle.ulfm_job.specs.declared.place.Place.{Place}

-- a fault is that memory ran out, or another one
by_memory : (f : JobFault) → (f ≡ OutOfMemory) ⊎ (f ≢ OutOfMemory)
by_memory NotToml = inr (λ e. cc)
by_memory (InJob f) = inr (λ e. cc)
by_memory (InStep f k) = inr (λ e. cc)
by_memory TooLarge = inr (λ e. cc)
by_memory OutOfMemory = inl refl

pub check_refused : {form : Form} (f : JobFault) (bytes : List ℕ) → (f ≢ OutOfMemory → job_of_bytes bytes ≡ Err f) → IsCheckReply form bytes 1 (refused_in form f)
check_refused {form} f bytes h = elim (by_memory f) [
  | inl e ↦ subst (λ (f : JobFault). IsCheckReply form bytes 1 (refused_in form f)) (sym e) no_memory
  | inr n ↦ refused f (h n)
]

pub places_refused : {form : Form} {stops : ℕ} (f : JobFault) (bytes : List ℕ) → (f ≢ OutOfMemory → job_of_bytes bytes ≡ Err f) → IsPlacesReply form stops bytes 1 (refused_in form f)
places_refused {form} {stops} f bytes h = elim (by_memory f) [
  | inl e ↦ subst (λ (f : JobFault). IsPlacesReply form stops bytes 1 (refused_in form f)) (sym e) unheld
  | inr n ↦ unplaced f (h n)
]

pub expand_refused : {form : Form} (f : JobFault) (bytes : List ℕ) → (f ≢ OutOfMemory → job_of_bytes bytes ≡ Err f) → IsExpandReply form bytes 1 (refused_in form f)
expand_refused {form} f bytes h = elim (by_memory f) [
  | inl e ↦ subst (λ (f : JobFault). IsExpandReply form bytes 1 (refused_in form f)) (sym e) full
  | inr n ↦ unexpanded f (h n)
]

pub refused_at : {form : Form} {place : Place} (f : JobFault) (bytes : List ℕ) → (f ≢ OutOfMemory → reading_of_bytes bytes ≡ Err f) → IsRefusal form place bytes 1 (refused_in form f)
refused_at {form} {place} f bytes h = elim (by_memory f) [
  | inl e ↦ subst (λ (f : JobFault). IsRefusal form place bytes 1 (refused_in form f)) (sym e) stopped.no_memory
  | inr n ↦ no_job f (ap job_in (h n))
]

pub unnamed_refused : {form : Form} {text : List ℕ} (f : JobFault) (bytes : List ℕ) → (f ≢ OutOfMemory → reading_of_bytes bytes ≡ Err f) → IsUnnamed form text bytes 1 (refused_in form f)
unnamed_refused {form} {text} f bytes h = elim (by_memory f) [
  | inl e ↦ subst (λ (f : JobFault). IsUnnamed form text bytes 1 (refused_in form f)) (sym e) named.no_memory
  | inr n ↦ named.no_job f (ap job_in (h n))
]
