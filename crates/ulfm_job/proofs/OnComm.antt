-- Steps on another communicator.
use Rattle.std.proofs.Common.{◌≡◌, refl}
use Rattle.std.specs.Option.{option_map}
use Rattle.ulfm_base.specs.declared.context.Context.{Context}
use Rattle.ulfm_job.specs.Job.{decides_on}
use Rattle.ulfm_job.specs.Naming.{on_comm}
use Rattle.ulfm_job.specs.declared.step.Step.{Step}
use Rattle.ulfm_job.specs.declared.step.Step.TheVariants.{Send, Recv, Wait, Probe, Mrecv, Cancel, Failed, Ack, Revoke, Dup, Shrink, Agree, Note, Stop}

-- ranks decide about that one
pub decides-on : (c : Context) (s : Step) → decides_on (on_comm c s) ≡ option_map (λ (d : Context). c) (decides_on s)
decides-on c (Send to tag body comm) = refl
decides-on c (Recv source tag room comm) = refl
decides-on c (Wait req) = refl
decides-on c (Probe source tag comm) = refl
decides-on c (Mrecv req room) = refl
decides-on c (Cancel req) = refl
decides-on c (Failed comm) = refl
decides-on c (Ack count comm) = refl
decides-on c (Revoke comm) = refl
decides-on c (Dup comm again) = refl
decides-on c (Shrink comm again) = refl
decides-on c (Agree flag comm) = refl
decides-on c (Note text) = refl
decides-on c Stop = refl
