-- The names that most proofs of reading cite, passed on from one place. Declares nothing.
pub use Rattle.std.proofs.lemmas.Bool.Decides.{nat_tests}
pub use Rattle.std.specs.List.{list_all, list_any}
pub use Rattle.std.specs.Str.{IsUtf8, bytes_eq, is_utf8}
pub use Rattle.toml.specs.Parse.{parse_document}
pub use Rattle.toml.specs.View.{items_view, members_view, table_view, view}
pub use Rattle.toml.specs.declared.value.Value.{Value}
pub use Rattle.ulfm_job.specs.Job.{lists_of, step_count}
pub use Rattle.ulfm_job.specs.declared.clause.Clause.{Clause}
pub use Rattle.ulfm_job.specs.declared.condition.Condition.{Condition}
pub use Rattle.ulfm_job.specs.declared.fault.JobFault.{JobFault}
pub use Rattle.ulfm_job.specs.declared.step.Step.{Step}
pub use Rattle.ulfm_reader.specs.JobText.{Draft}
pub use Rattle.ulfm_reader.specs.Keys.{is_among, items_len, keys_of, ◌>>=◌}
pub use Rattle.ulfm_reader.specs.Plan.{Order, Plan, PlannedStep, order_of}
pub use Rattle.ulfm_reader.specs.declared.name.Name.{Name}
pub use Rattle.ulfm_reader.specs.inside.Reading.{head_view, map_ok}
