-- The answer of a file below its head.
use Rattle.std.proofs.Common.{◌≡◌, ℕ, List, [], ◌++◌, take, Option, Some, None, refl, sym, subst, inl, inr}
use Rattle.std.proofs.KnownBytes.{Appends-trans, Appends-kept}
use Rattle.std.proofs.lemmas.Bool.{cases_eq}
use Rattle.std.specs.Io.KnownBytes.{Appends, Keeps}
use Rattle.ulfm_program.specs.Files.{GetsAnswer, IsReplyOf, replied, unread, cut_off}
use Rattle.ulfm_program.specs.Replies.{AreRead, IsWhole, GetsReply, GetsBeginning, GetsFrontOf}
use Rattle.ulfm_program.proofs.Fronts.{front_before, front_behind}

-- the output failed inside the head or below it
answer_cut : (IsReply : List ℕ → ℕ → List ℕ → Type 0) (head : List ℕ) (old new : Option (List ℕ)) (bytes : List ℕ) (status : ℕ) (text : List ℕ)
    → IsReply bytes status text → GetsFrontOf old new (head ++ text) → GetsAnswer IsReply head old new 4
answer_cut IsReply head old new bytes status text reply front =
    record { text = take front.0 (head ++ text); answer = cut_off bytes status text front.0 reply; written = front.1 }

-- the output failed inside the head
pub head_cut : (IsReply : List ℕ → ℕ → List ℕ → Type 0) (head : List ℕ) (old new : Option (List ℕ)) (bytes : List ℕ) (status : ℕ) (text : List ℕ)
    → IsReply bytes status text → GetsFrontOf old new head → GetsAnswer IsReply head old new 4
head_cut IsReply head old new bytes status text reply front = answer_cut IsReply head old new bytes status text reply (front_before old new head text front)

-- the file can't be read
pub file_unread : (IsReply : List ℕ → ℕ → List ℕ → Type 0) (head : List ℕ) (old new : Option (List ℕ)) → Appends old new head → GetsAnswer IsReply head old new 5
file_unread IsReply head old new above = record { text = head; answer = unread; written = above }

-- bytes that may have been read of an input
pub some_read : (input : Option (List ℕ)) → (bytes : List ℕ) × AreRead input bytes
some_read None = ([], tt)
some_read (Some all) = (take 1048577 all, refl)

-- what an input with the bytes of a name is followed by, below the head
pub file_answered : (IsReply : List ℕ → ℕ → List ℕ → Type 0) (head : List ℕ) (input named : Option (List ℕ)) (old mid new : Option (List ℕ)) (status : ℕ) → input ≡ named → Appends old mid head
    → (IsWhole status → GetsReply IsReply input mid new status) → (status ≡ 4 → GetsBeginning IsReply input mid new) → (status ≡ 5 → Keeps mid new)
    → GetsAnswer (IsReplyOf IsReply named) head old new status
file_answered IsReply head input named old mid new status is above replies cuts keeps = subst (λ i. GetsAnswer (IsReplyOf IsReply i) head old new status) is (elim (cases_eq status 4) [
  | inl four ↦
      let part = cuts four in
      subst (λ k. GetsAnswer (IsReplyOf IsReply input) head old new k) (sym four) (answer_cut (IsReplyOf IsReply input) head old new part.bytes part.status part.text (record { read = part.read; reply = part.reply }) (front_behind old mid new head part.text above part.written))
  | inr whole ↦ elim (cases_eq status 5) [
    | inl five ↦ subst (λ k. GetsAnswer (IsReplyOf IsReply input) head old new k) (sym five) (file_unread (IsReplyOf IsReply input) head old new (Appends-kept old mid new head above (keeps five)))
    | inr read ↦
        let got = replies (whole, read) in
        record { text = head ++ got.text; answer = replied got.bytes status got.text (record { read = got.read; reply = got.reply }); written = Appends-trans old mid new head got.text above got.written }
  ]
])
