-- The bytes of a body, inline or in a block.
use Rattle.std.specs.Prelude.{ℕ, List, take, ◌≤◌, ⊤}
use Rattle.ulfm_base.specs.declared.body.Bytes.{Bytes}
use Rattle.ulfm_base.specs.declared.body.Bytes.TheVariants.{Inline, Block}

-- the bytes
abbrev pub bytes_of : Bytes → List ℕ
bytes_of (Inline used bytes) = take used bytes
bytes_of (Block block) = block.items

-- those inline are so many as there is room for
abbrev pub Fits : Bytes → Type 0
Fits (Inline used bytes) = used ≤ 30
Fits (Block block) = ⊤
