use Rattle.std.proofs.Common.{◌≡◌, ◌++◌, OnOk, string_bytes, subst, sym}
use Rattle.ulfm_forms.specs.MpiAnswer.{mpi_answer}
use Rattle.ulfm_forms.proofs.mpi_answer.push_mpi_answer.Goals as goal

pub returns-in-Cancelled : goal.returns-in-Cancelled
returns-in-Cancelled c = subst (λ told. OnOk c.push_cancelled.result (string_bytes c.push_cancelled.new.text ≡ string_bytes c.args.text.now ++ mpi_answer told)) (sym c.in-Cancelled.is) c.push_cancelled.ensures
