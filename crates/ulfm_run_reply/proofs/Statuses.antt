-- The statuses of what is played.
use Rattle.std.proofs.Common.{ℕ, Bool, true, false, List, Option}
use Rattle.std.specs.List.{list_all, list_any}
use Rattle.ulfm_job.specs.declared.place.Place.{Place}
use Rattle.ulfm_forms.specs.declared.form.Form.{Form}
use Rattle.ulfm_command_line.proofs.Statuses.{IsKnown, done, left_open, no_job, no_play, not_wanted, run_fails}
use Rattle.ulfm_run_reply.specs.Asking.{as_asked}
use Rattle.ulfm_run_reply.specs.Unfinished.{has_unfinished, played_status}
use Rattle.ulfm_command_line.specs.declared.command.RunOptions.{RunOptions}
use Rattle.ulfm_run_reply.specs.Played.{IsDrawReply, drawn, not_drawn, undrawn, IsReplayReply, IsRunReply, traced, not_replayed, failed, ran, repeated, not_run, no_thread, untrue, crowded, fell, given_turns}
use Rattle.ulfm_run_reply.specs.Sweep.{IsSweepReply, swept, unread, full, unmade, unswept}

pub played : (is_strict is_met is_unfinished : Bool) → IsKnown (played_status is_strict is_met is_unfinished)
played is_strict false is_unfinished = not_wanted
played true true true = left_open
played true true false = done
played false true is_unfinished = done

pub replayed : (form : Form) (is_strict : Bool) (turns : Option ℕ) (place : Place) (bytes : List ℕ) (status : ℕ) (text : List ℕ) → IsReplayReply form is_strict turns place bytes status text → IsKnown status
replayed form is_strict turns place bytes status text (traced asked reports is rests) = played is_strict (as_asked asked.rows (given_turns turns asked.job) reports) (has_unfinished (given_turns turns asked.job) reports)
replayed form is_strict turns place bytes status text (not_replayed k words is) = no_play form place bytes status text is
replayed form is_strict turns place bytes status text failed = run_fails

pub run_known : (form : Form) (options : RunOptions) (bytes : List ℕ) (status : ℕ) (text : List ℕ) → IsRunReply form options bytes status text → IsKnown status
run_known form options bytes status text (ran asked reports is_at_rest once is lawful) = played options.is_strict (as_asked asked.rows (given_turns options.turns asked.job) reports) (has_unfinished (given_turns options.turns asked.job) reports)
run_known form options bytes status text (repeated asked runs times is lawful) = played options.is_strict (list_all (as_asked asked.rows (given_turns options.turns asked.job)) runs) (list_any (has_unfinished (given_turns options.turns asked.job)) runs)
run_known form options bytes status text (not_run k words is) = no_play form options.place bytes status text is
run_known form options bytes status text (no_thread asked is) = run_fails
run_known form options bytes status text (untrue asked reports is shows) = run_fails
run_known form options bytes status text (crowded asked reports is shows) = run_fails
run_known form options bytes status text fell = run_fails

pub sweep_known : (form : Form) (bytes : List ℕ) (status : ℕ) (text : List ℕ) → IsSweepReply form bytes status text → IsKnown status
sweep_known form bytes status text (swept job lines is few places each) = done
sweep_known form bytes status text (unread f is) = no_job
sweep_known form bytes status text (full job is many) = no_job
sweep_known form bytes status text unmade = no_job
sweep_known form bytes status text unswept = run_fails

pub drawn_known : (form : Form) (turns : Option ℕ) (place : Place) (bytes : List ℕ) (status : ℕ) (text : List ℕ) → IsDrawReply form turns place bytes status text → IsKnown status
drawn_known form turns place bytes status text (drawn asked reports picture is rests) = done
drawn_known form turns place bytes status text (not_drawn k words is) = no_play form place bytes status text is
drawn_known form turns place bytes status text undrawn = run_fails
