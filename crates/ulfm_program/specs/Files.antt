-- What the program writes for files that the words name.
use Rattle.std.specs.Prelude.{◌≢◌, ℕ, Bool, List, [], ◌∷◌, ◌++◌, Option, codes, length, max, nat_lt, take, if◌then◌else◌}
use Rattle.std.specs.Io.KnownBytes.{Appends}
use Rattle.ulfm_program.specs.Replies.{AreRead}

-- the line above the answer of a file, where that is wanted
abbrev pub head_of : Bool → List ℕ → List ℕ
head_of has_head file = if has_head then codes "== " ++ file ++ codes "\n" else []

-- a reply to the bytes that are read of an input
pub record IsReplyOf (IsReply : List ℕ → ℕ → List ℕ → Type 0) (input : Option (List ℕ)) (bytes : List ℕ) (status : ℕ) (text : List ℕ) : Type 0 where
  pub read : AreRead input bytes
  pub reply : IsReply bytes status text

-- The status and the text for a file: below its head the reply to the bytes that were read of it; with 5 the head alone, where it can't be
-- read; with 4 a beginning of a head and a reply, where the output fails.
pub data IsAnswer (IsReply : List ℕ → ℕ → List ℕ → Type 0) (head : List ℕ) : ℕ → List ℕ → Type 0 where
  replied : (bytes : List ℕ) (status : ℕ) (text : List ℕ) → IsReply bytes status text → IsAnswer IsReply head status (head ++ text)
  unread : IsAnswer IsReply head 5 head
  cut_off : (bytes : List ℕ) (status : ℕ) (text : List ℕ) (n : ℕ) → IsReply bytes status text → IsAnswer IsReply head 4 (take n (head ++ text))

-- the writer got the answer of a file with this head
pub record GetsAnswer (IsReply : List ℕ → ℕ → List ℕ → Type 0) (head : List ℕ) (old new : Option (List ℕ)) (status : ℕ) : Type 0 where
  pub text : List ℕ
  pub answer : IsAnswer IsReply head status text
  pub written : Appends old new text

-- The greatest status and the text for files: the answer of each, by the bytes of its name, in turn, up to the one at which the output fails.
pub data AreAnswers (IsReply : List ℕ → ℕ → List ℕ → Type 0) (bytes_of : List ℕ → Option (List ℕ)) (has_head : Bool) : List (List ℕ) → ℕ → List ℕ → Type 0 where
  none : AreAnswers IsReply bytes_of has_head [] 0 []
  first : (file : List ℕ) (files : List (List ℕ)) (status others : ℕ) (text below : List ℕ)
      → IsAnswer (IsReplyOf IsReply (bytes_of file)) (head_of has_head file) status text → status ≢ 4
      → AreAnswers IsReply bytes_of has_head files others below → AreAnswers IsReply bytes_of has_head (file ∷ files) (max status others) (text ++ below)
  ended : (file : List ℕ) (files : List (List ℕ)) (text : List ℕ)
      → IsAnswer (IsReplyOf IsReply (bytes_of file)) (head_of has_head file) 4 text → AreAnswers IsReply bytes_of has_head (file ∷ files) 4 text

-- the writer got the answers of these files, which have heads where there are several
pub record GetsAnswers (IsReply : List ℕ → ℕ → List ℕ → Type 0) (bytes_of : List ℕ → Option (List ℕ)) (files : List (List ℕ)) (old new : Option (List ℕ)) (status : ℕ) : Type 0 where
  pub text : List ℕ
  pub answers : AreAnswers IsReply bytes_of (nat_lt 1 (length files)) files status text
  pub written : Appends old new text
