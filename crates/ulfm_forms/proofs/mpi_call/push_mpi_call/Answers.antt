use Rattle.std.proofs.Common.{◌≡◌, ◌++◌, OnOk, string_bytes, subst, sym}
use Rattle.ulfm_job.specs.Words.{told_view}
use Rattle.ulfm_forms.specs.MpiCall.{mpi_call}
use Rattle.ulfm_forms.proofs.mpi_call.push_mpi_call.Goals as goal

pub returns-in-Mrecv : goal.returns-in-Mrecv
returns-in-Mrecv c = subst (λ step. OnOk c.push_on_request-in-Mrecv.result (string_bytes c.push_on_request-in-Mrecv.new.text ≡ string_bytes c.args.text.now ++ mpi_call (told_view c.args.told).called step)) (sym c.in-Mrecv.is) c.push_on_request-in-Mrecv.ensures

pub returns-in-Failed : goal.returns-in-Failed
returns-in-Failed c = subst (λ step. OnOk c.push_on_comm.result (string_bytes c.push_on_comm.new.text ≡ string_bytes c.args.text.now ++ mpi_call (told_view c.args.told).called step)) (sym c.in-Failed.is) c.push_on_comm.ensures

pub returns-in-Revoke : goal.returns-in-Revoke
returns-in-Revoke c = subst (λ step. OnOk c.push_on_comm-in-Revoke.result (string_bytes c.push_on_comm-in-Revoke.new.text ≡ string_bytes c.args.text.now ++ mpi_call (told_view c.args.told).called step)) (sym c.in-Revoke.is) c.push_on_comm-in-Revoke.ensures

pub returns-in-Dup : goal.returns-in-Dup
returns-in-Dup c = subst (λ step. OnOk c.push_on_comm-in-Dup.result (string_bytes c.push_on_comm-in-Dup.new.text ≡ string_bytes c.args.text.now ++ mpi_call (told_view c.args.told).called step)) (sym c.in-Dup.is) c.push_on_comm-in-Dup.ensures

pub returns-in-Shrink : goal.returns-in-Shrink
returns-in-Shrink c = subst (λ step. OnOk c.push_on_comm-in-Shrink.result (string_bytes c.push_on_comm-in-Shrink.new.text ≡ string_bytes c.args.text.now ++ mpi_call (told_view c.args.told).called step)) (sym c.in-Shrink.is) c.push_on_comm-in-Shrink.ensures

pub returns-in-Ack : goal.returns-in-Ack
returns-in-Ack c = subst (λ step. OnOk c.push_numbered.result (string_bytes c.push_numbered.new.text ≡ string_bytes c.args.text.now ++ mpi_call (told_view c.args.told).called step)) (sym c.in-Ack.is) c.push_numbered.ensures

pub returns-in-Agree : goal.returns-in-Agree
returns-in-Agree c = subst (λ step. OnOk c.push_numbered-in-Agree.result (string_bytes c.push_numbered-in-Agree.new.text ≡ string_bytes c.args.text.now ++ mpi_call (told_view c.args.told).called step)) (sym c.in-Agree.is) c.push_numbered-in-Agree.ensures
