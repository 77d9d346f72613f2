-- The statuses that replies have.
use Rattle.std.proofs.Common.{◌≢◌, ◌≤◌, ℕ, List, arith}
use Rattle.toml.specs.Data.{Members}
use Rattle.ulfm_job.specs.declared.place.Place.{Place}
use Rattle.ulfm_forms.specs.declared.form.Form.{Form}
use Rattle.ulfm_command_line.specs.Expanded as expanded
use Rattle.ulfm_command_line.specs.Expanded.{IsExpandReply, IsWritten}
use Rattle.ulfm_command_line.specs.Named as named
use Rattle.ulfm_command_line.specs.Named.{IsUnnamed}
use Rattle.ulfm_command_line.specs.Places as places
use Rattle.ulfm_command_line.specs.Places.{IsPlacesReply}
use Rattle.ulfm_command_line.specs.Replies.{IsCheckReply, good, refused, no_memory, starved}
use Rattle.ulfm_command_line.specs.Stopped as stopped
use Rattle.ulfm_command_line.specs.Stopped.{IsRefusal}

-- a status that a reply has: not that of words that aren't followed, nor of an output or an input that failed
pub record IsKnown (status : ℕ) : Type 0 where
  pub few : status ≤ 9
  pub no_usage : status ≢ 2
  pub written : status ≢ 4
  pub read : status ≢ 5

pub done : IsKnown 0
done = record { few = omega arith; no_usage = λ e. omega (arith, e); written = λ e. omega (arith, e); read = λ e. omega (arith, e) }

pub no_job : IsKnown 1
no_job = record { few = omega arith; no_usage = λ e. omega (arith, e); written = λ e. omega (arith, e); read = λ e. omega (arith, e) }

pub run_fails : IsKnown 3
run_fails = record { few = omega arith; no_usage = λ e. omega (arith, e); written = λ e. omega (arith, e); read = λ e. omega (arith, e) }

pub left_open : IsKnown 6
left_open = record { few = omega arith; no_usage = λ e. omega (arith, e); written = λ e. omega (arith, e); read = λ e. omega (arith, e) }

pub past : IsKnown 7
past = record { few = omega arith; no_usage = λ e. omega (arith, e); written = λ e. omega (arith, e); read = λ e. omega (arith, e) }

pub nowhere : IsKnown 8
nowhere = record { few = omega arith; no_usage = λ e. omega (arith, e); written = λ e. omega (arith, e); read = λ e. omega (arith, e) }

pub not_wanted : IsKnown 9
not_wanted = record { few = omega arith; no_usage = λ e. omega (arith, e); written = λ e. omega (arith, e); read = λ e. omega (arith, e) }

pub checked : (form : Form) (bytes : List ℕ) (status : ℕ) (text : List ℕ) → IsCheckReply form bytes status text → IsKnown status
checked form bytes status text (good job is) = done
checked form bytes status text (refused f is) = no_job
checked form bytes status text no_memory = no_job
checked form bytes status text starved = run_fails

pub no_play : (form : Form) (place : Place) (bytes : List ℕ) (status : ℕ) (text : List ℕ) → IsRefusal form place bytes status text → IsKnown status
no_play form place bytes status text (stopped.no_job f is) = no_job
no_play form place bytes status text (stopped.no_place job is outside) = no_job
no_play form place bytes status text (stopped.no_room job is many) = no_job
no_play form place bytes status text stopped.no_memory = no_job

pub places_known : (form : Form) (stops : ℕ) (bytes : List ℕ) (status : ℕ) (text : List ℕ) → IsPlacesReply form stops bytes status text → IsKnown status
places_known form stops bytes status text (places.placed job is few) = done
places_known form stops bytes status text (places.unplaced f is) = no_job
places_known form stops bytes status text (places.crowded job is many) = no_job
places_known form stops bytes status text places.unheld = no_job
places_known form stops bytes status text places.starved = run_fails

written_known : (form : Form) (ms : Members) (status : ℕ) (text : List ℕ) → IsWritten form ms status text → IsKnown status
written_known form ms status text (expanded.written t readable back short) = done
written_known form ms status text (expanded.too_long t is long) = no_job
written_known form ms status text (expanded.too_deep deep) = no_job

pub expand_known : (form : Form) (bytes : List ℕ) (status : ℕ) (text : List ℕ) → IsExpandReply form bytes status text → IsKnown status
expand_known form bytes status text (expanded.expanded plan ms s t is document writes) = written_known form ms s t writes
expand_known form bytes status text (expanded.unexpanded f is) = no_job
expand_known form bytes status text expanded.full = no_job
expand_known form bytes status text expanded.starved = run_fails

pub unnamed_known : (form : Form) (text bytes : List ℕ) (status : ℕ) (line : List ℕ) → IsUnnamed form text bytes status line → IsKnown status
unnamed_known form text bytes status line (named.no_job f is) = no_job
unnamed_known form text bytes status line (named.no_name read is none) = no_job
unnamed_known form text bytes status line named.no_memory = no_job
unnamed_known form text bytes status line named.starved = run_fails
