-- The names that most proofs of writing out cite, passed on from one place. Declares nothing.
pub use Rattle.toml.specs.View.{items_view, members_view, table_view, view}
pub use Rattle.toml.specs.declared.value.Value.{Value}
pub use Rattle.ulfm_reader.specs.Line.{Line, line, line_view}
pub use Rattle.ulfm_reader.specs.declared.line.Line.{Line as Kept}
