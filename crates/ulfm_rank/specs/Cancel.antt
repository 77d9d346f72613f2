-- What a cancel of a receive answers, and what it adds to the log (MPI 4.0, 3.8.4).
use Rattle.std.specs.Prelude.{◌≡◌, ℕ, true, false, List}
use Rattle.ulfm_base.specs.declared.request_id.RequestId.{RequestId}
use Rattle.ulfm_log.specs.declared.entry.Cancel.{Cancel}
use Rattle.ulfm_log.specs.declared.entry.Cancel.TheVariants.{Cancelled, Completed}
use Rattle.ulfm_log.specs.declared.entry.Entry.{Entry}
use Rattle.ulfm_log.specs.declared.entry.Entry.TheVariants.{Released, Cancelled as CancelledEntry}
use Rattle.ulfm_log.specs.declared.entry.TestAnswer.{TestAnswer}
use Rattle.ulfm_rank.specs.Answer.{IsTestAnswer, is_release}

-- the receive is cancelled where a test would answer that it waits or pends; else the answer is that of the test
abbrev pub IsCancelAnswer : ℕ → List Entry → ℕ → Cancel → Type 0
IsCancelAnswer n log id Cancelled = (answer : TestAnswer) × (is_release answer ≡ false) × IsTestAnswer n log id answer
IsCancelAnswer n log id (Completed answer) = (is_release answer ≡ true) × IsTestAnswer n log id answer

-- the entry of a cancel with this answer
abbrev pub cancelling : RequestId → Cancel → Entry
cancelling id Cancelled = CancelledEntry id
cancelling id (Completed answer) = Released id answer
