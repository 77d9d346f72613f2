-- The document that bytes are, by whether they are UTF-8.
use Rattle.std.proofs.Common.{◌≡◌, List, ℕ, None, Option, Some, String, BTreeMap, Global, refl}
use Rattle.std.specs.Str.{IsUtf8}
use Rattle.std.proofs.lemmas.Bool.{false_from_ne_true}
use Rattle.std.proofs.lemmas.Str.{is_utf8-from_IsUtf8, IsUtf8-from_is_utf8}
use Rattle.toml.proofs.Views.{view-Table}
use Rattle.toml.specs.Data.{Data, Members, table}
use Rattle.toml.specs.Parse.{parse_document}
use Rattle.toml.specs.View.{table_view, view}
use Rattle.toml.specs.declared.value.Value.{Value, Table}
use Rattle.ulfm_reader.specs.Documents.{written_job}
use Rattle.ulfm_command_line.specs.Expanded.{document_in}

pub no_document : (bytes : List ℕ) → (IsUtf8 bytes → ⊥) → None ≡ document_in bytes
no_document bytes bad = rw (false_from_ne_true _ (λ is. bad (IsUtf8-from_is_utf8 bytes is))) refl

pub of_document : (bytes : List ℕ) (ms : Members) (written : Option Data) → IsUtf8 bytes → parse_document bytes ≡ Some ms → written ≡ Some (table (written_job ms)) → written ≡ document_in bytes
of_document bytes ms written good parsed is = rw (is, is_utf8-from_IsUtf8 bytes good, parsed) refl

pub written-view : (m : BTreeMap (String Global) Value) (ms : Members) → table_view m ≡ ms → Some (view (Table m)) ≡ Some (table ms)
written-view m ms is = rw (view-Table m, is) refl
