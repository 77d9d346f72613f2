-- The op of an order is that of the step that it is kept as.
use Rattle.std.proofs.Common.{◌≡◌, refl}
use Rattle.ulfm_job.specs.Ops.{op_of}
use Rattle.ulfm_job.specs.declared.step.Step.{Step}
use Rattle.ulfm_job.specs.declared.step.Step.TheVariants.{Send, Recv, Wait, Probe, Mrecv, Cancel, Failed, Ack, Revoke, Dup, Shrink, Agree, Note, Stop}
use Rattle.ulfm_reader.specs.Plan.{op_in, order_of}

pub op-kept : (step : Step) → op_in (order_of step) ≡ op_of step
op-kept (Send to tag body comm) = refl
op-kept (Recv from tag room comm) = refl
op-kept (Wait req) = refl
op-kept (Probe from tag comm) = refl
op-kept (Mrecv req room) = refl
op-kept (Cancel req) = refl
op-kept (Failed comm) = refl
op-kept (Ack count comm) = refl
op-kept (Revoke comm) = refl
op-kept (Dup comm again) = refl
op-kept (Shrink comm again) = refl
op-kept (Agree flag comm) = refl
op-kept (Note text) = refl
op-kept Stop = refl
