-- What moves say in words that may not be there.
use Rattle.std.specs.Prelude.{◌≡◌, ℕ, List, [], Option, Some, None, option_map}
use Rattle.ulfm_base.specs.declared.item.Item.{Item}
use Rattle.ulfm_job.specs.Job.{JobView}
use Rattle.ulfm_schedule.specs.Words.{cargo_text, deed_text, item_text}
use Rattle.ulfm_schedule.specs.declared.cargo.Cargo.{Cargo}
use Rattle.ulfm_schedule.specs.declared.moved.Deed.{Deed}

-- the line of what a rank of a job does, if it does something
abbrev pub moved_text : JobView → Option (ℕ × Deed) → List ℕ
moved_text j None = []
moved_text j (Some moved) = deed_text j moved.0 moved.1

-- this is what an item of the rank s brings, if there is one
abbrev pub Brings : ℕ → Option Cargo → Option Item → Type 0
Brings s cargo item = option_map (cargo_text s) cargo ≡ option_map (item_text s) item
