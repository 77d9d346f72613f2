-- Which failure a fault of a run is.
use Rattle.std.specs.Prelude.{Option, Some, None}
use Rattle.ulfm_script.specs.declared.fault.RunFault.{RunFault}
use Rattle.ulfm_script.specs.declared.fault.RunFault.TheVariants as fault
use Rattle.ulfm_command_line.specs.declared.failure.Failure.{Failure}
use Rattle.ulfm_command_line.specs.declared.failure.Failure.TheVariants as run

-- the failure that a fault of `run_job` is: ends that don't fit the job are none
abbrev pub failure_of : RunFault → Option Failure
failure_of fault.NoThread = Some run.NoThread
failure_of fault.OutOfMemory = Some run.OutOfMemory
failure_of (fault.Untrue reports) = Some run.Untrue
failure_of fault.BadEnds = None
