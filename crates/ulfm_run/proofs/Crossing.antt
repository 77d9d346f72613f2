-- A rank at work may go to another thread, where its end and its decider may.
use mathlib.Core.List.{[], ◌∷◌}
use mir.Syntax.{Sym, Lifetime, w8}
use base.Fml.{Lft}
use denote.RattleType.{RattleType}
use denote.Plain.{UInt}
use denote.Ref.{ShrRef}
use denote.Struct.Tuple.{TupleAt}
use denote.Param.Send.{IsSend, IsSync, shr_send, sendable}
use Rattle.std.proofs.Crossing.{crosses}
use Rattle.ulfm_job.specs.contracts.job.Job as job
use Rattle.ulfm_job.proofs.job.Job.TheSendSync as shared_job
use Rattle.ulfm_rank.proofs.Crossing.{rank_send}
use Rattle.ulfm_script.specs.contracts.player.Player as player
use Rattle.ulfm_script.specs.contracts.report.RankReport as report
use Rattle.ulfm_answer.proofs.Crossing.{answered_send}
use Rattle.ulfm_run.specs.contracts.finished.Finished as finished
use Rattle.ulfm_run.specs.contracts.worker.Ran as ran
use Rattle.ulfm_run.specs.contracts.worker.Worker as worker

player_send : IsSend player.the_row
player_send = search (rank_send, answered_send, sendable, crosses) depth 40 fits 20000

worker_send : (E D : RattleType) → IsSend E → IsSend D → IsSend (worker.the_row E D)
worker_send E D e d = search (player_send, sendable, crosses) depth 40 fits 20000

report_send : IsSend report.the_row
report_send = search (rank_send, answered_send, sendable, crosses) depth 40 fits 20000

pub ran_send : (E D : RattleType) → IsSend E → IsSend D → IsSend (ran.the_row E D)
ran_send E D e d = search (report_send, sendable, crosses) depth 40 fits 20000

captured_send : (name : Sym) (A B C D F : RattleType) → IsSend A → IsSend B → IsSend C → IsSend D → IsSend F → IsSend (TupleAt name (A ∷ B ∷ C ∷ D ∷ F ∷ []))
captured_send name A B C D F a b c d f = search (sendable, crosses) depth 20

finished_sync : IsSync finished.the_row
finished_sync = search (sendable, crosses) depth 40 fits 20000

byte_send : IsSend (UInt w8)
byte_send = search sendable

-- what the thread of a rank begins with: the rank at work, the handle, the job, how many ranks have finished, and the rank's number
pub begun_send : (name : Sym) (l m n : Lifetime) (κ ν μ : Lft) (E D R : RattleType) → IsSend E → IsSend D → IsSync R →
    IsSend (TupleAt name (worker.the_row E D ∷ ShrRef l κ R ∷ ShrRef m ν job.the_row ∷ ShrRef n μ finished.the_row ∷ UInt w8 ∷ []))
begun_send name l m n κ ν μ E D R e d r =
    captured_send name (worker.the_row E D) (ShrRef l κ R) (ShrRef m ν job.the_row) (ShrRef n μ finished.the_row) (UInt w8)
    (worker_send E D e d) (shr_send l κ R r) (shr_send m ν job.the_row shared_job.the_sync) (shr_send n μ finished.the_row finished_sync) byte_send
