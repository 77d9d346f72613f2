-- What is asked for without a stop.
use Rattle.std.proofs.Common.{◌≡◌, ℕ, true, List, Ok, ap, sym, ◌∙◌}
use Rattle.std.proofs.lemmas.List.{append-nil}
use Rattle.ulfm_job.specs.Places.{own_stops}
use Rattle.ulfm_job.specs.declared.place.Place.TheVariants.{Nowhere}
use Rattle.ulfm_job.specs.declared.stop.Stop.{Stop}
use Rattle.ulfm_reader.specs.Goals.{goals_in, goals_of, goals_of_bytes}
use Rattle.ulfm_reader.specs.JobText.{reading_of_bytes}
use Rattle.ulfm_command_line.specs.Holding.{all_hold, held}
use Rattle.ulfm_command_line.specs.Stopped.{Asked, IsAskedAt, reading_as}
use Rattle.ulfm_command_line.proofs.Held.{held-whole}

-- the reading, as far as it holds by the job's own stops
pub held_read : (bytes : List ℕ) (asked : Asked) → (h : IsAskedAt Nowhere bytes asked) → asked ≡ held (own_stops h.read.job) h.read
held_read bytes asked h = h.at_place ∙ ap (λ (stops : List Stop). held stops h.read) (append-nil (own_stops h.read.job))

-- the reading itself, where all of it holds
pub as_read : (bytes : List ℕ) (asked : Asked) → IsAskedAt Nowhere bytes asked → all_hold asked (own_stops asked.job) ≡ true → reading_of_bytes bytes ≡ Ok (reading_as asked)
as_read bytes asked h whole =
    let is = held_read bytes asked h in
    let same : all_hold h.read (own_stops h.read.job) ≡ true = ap (λ (a : Asked). all_hold a (own_stops a.job)) (sym is) ∙ whole in
    h.is_read ∙ ap (λ (a : Asked). Ok (reading_as a)) (sym (held-whole h.read (own_stops h.read.job) same) ∙ sym is)

-- the answers that a text names
pub goals_read : (bytes text : List ℕ) (asked : Asked) → IsAskedAt Nowhere bytes asked → goals_of_bytes bytes text ≡ goals_of (reading_as asked) text
goals_read bytes text asked h = ap (λ r. goals_in r text) h.is_read ∙ ap (λ (a : Asked). goals_of (reading_as a) text) (sym h.at_place)
