-- Ends before their first inbox is emptied.
use Rattle.std.proofs.Common.{ℕ, refl}
use Rattle.ulfm_carrier.proofs.Common.{Global, IsOpenFrom, IsReady, Item, SharedEnds, Vec, WorldRank}
use Rattle.ulfm_carrier.proofs.Frames.{frame_with, passes_same, sends_same, receiver_same}

pub opened : (k : ℕ) (e : SharedEnds) → IsReady e → IsOpenFrom 0 k e
opened k e r = record { passes = r.passes; senders = λ j _. r.senders j; receiver = λ _. r.receiver }

-- also without the room for lists
pub opened_without : (k : ℕ) (e : SharedEnds) (lists : Vec (Vec (WorldRank × Item) Global) Global) → IsReady e → IsOpenFrom 0 k (record e { lists = lists })
opened_without k e lists r =
    let f : SharedEnds = record e { lists = lists } in record {
      passes = passes_same e f refl refl refl r.passes;
      senders = λ j _. sends_same e f j refl refl refl (r.senders j);
      receiver = λ _. record { receiver = receiver_same (frame_with e e.outs e.inlet lists) refl (refl, refl, refl) refl refl r.receiver.receiver; receipts = r.receiver.receipts };
    }
