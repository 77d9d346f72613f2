use Rattle.std.proofs.Common.{sym, ◌∙◌, refl}
use Rattle.ulfm_reader.proofs.Keys.{keys_among}
use Rattle.ulfm_reader.proofs.fields.only_keys.Goals as goal

pub returns-then-has_only : goal.returns-then-has_only
returns-then-has_only c = rw (sym (c.if-has_only.ensures ∙ keys_among c.args.names.now c.args.table.now.entries)) refl

pub returns-else-has_only : goal.returns-else-has_only
returns-else-has_only c = rw (sym (c.if-has_only.ensures ∙ keys_among c.args.names.now c.args.table.now.entries)) refl
