use Rattle.std.proofs.Common.{Bool, List, ℕ, Option, Some, None, if◌then◌else◌, ap, sym, ◌∙◌}
use Rattle.std.proofs.lemmas.Bool.{false_from_ne_true}
use Rattle.std.proofs.lemmas.Str.{is_utf8-from_IsUtf8, IsUtf8-from_is_utf8}
use Rattle.ulfm_forms.proofs.mpi_answer.text_of.Goals as goal

-- the text where the test says so
abbrev told : List ℕ → Bool → Option (List ℕ)
told body is = if is then Some body else None

pub returns-in-Ok : goal.returns-in-Ok
returns-in-Ok c = ap Some c.in-Ok.ensures.cases.0 ∙ sym (ap (told c.args.body.now) (is_utf8-from_IsUtf8 _ c.in-Ok.ensures.cases.1))

pub returns-in-Err : goal.returns-in-Err
returns-in-Err c = sym (ap (told c.args.body.now) (false_from_ne_true _ (λ is. c.in-Err.ensures.cases.0 (IsUtf8-from_is_utf8 _ is))))
