-- The line of an item by what it brings.
use Rattle.std.proofs.Common.{◌≡◌, ℕ, List, [], ◌++◌, Option, Some, None, refl, sym, ap}
use Rattle.std.proofs.lemmas.Option.{none-some, same_Some}
use Rattle.std.specs.Prelude.{codes}
use Rattle.std.specs.Fmt.{decimal}
use Rattle.ulfm_base.specs.declared.item.Item.{Item}
use Rattle.ulfm_schedule.specs.Words.{cargo_text, item_text}
use Rattle.ulfm_schedule.specs.declared.cargo.Cargo.{Cargo}
use Rattle.ulfm_replay.specs.Lines.{moved_line}
use Rattle.ulfm_replay.specs.Moves.{Brings}

module _ (s d : ℕ) (arrow : List ℕ) where
  pub carried : (c : Cargo) (item : Option Item) → Brings s (Some c) item → decimal s ++ arrow ++ decimal d ++ codes ": " ++ cargo_text s c ++ codes "\n" ≡ moved_line s arrow d item
  carried c None is = absurd (none-some (cargo_text s c) (sym is))
  carried c (Some i) is = ap (λ (text : List ℕ). decimal s ++ arrow ++ decimal d ++ codes ": " ++ text ++ codes "\n") (same_Some (cargo_text s c) (item_text s i) is)

  pub nothing_carried : (item : Option Item) → Brings s None item → [] ≡ moved_line s arrow d item
  nothing_carried None is = refl
  nothing_carried (Some i) is = absurd (none-some (item_text s i) is)
