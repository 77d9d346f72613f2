-- The names that most proofs of jobs cite, passed on from one place. Declares nothing.
pub use Rattle.ulfm_job.specs.Job.{IsJob, JobView, lists_of, moved_on, script_at, job_view, leaving, naming, step_count, stopped_at, with_stop}
pub use Rattle.ulfm_job.specs.declared.step.Step.{Step}
pub use Rattle.ulfm_job.specs.declared.clause.Clause.{Clause}
pub use Rattle.ulfm_job.specs.declared.condition.Condition.{Condition}
pub use Rattle.ulfm_job.specs.declared.left_step.LeftStep.{LeftStep}
pub use Rattle.ulfm_job.specs.declared.naming.Naming.{Naming}
