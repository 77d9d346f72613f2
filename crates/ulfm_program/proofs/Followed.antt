-- Replies to words that are followed.
use Rattle.std.proofs.Common.{◌≡◌, ℕ, List, Option, sym}
use Rattle.ulfm_forms.specs.declared.form.Form.{Form}
use Rattle.ulfm_command_line.specs.declared.command.Wanted.{Wanted}
use Rattle.ulfm_command_line.specs.Wish.{WishView}
use Rattle.ulfm_program.specs.Replies.{IsReplyIn, IsReplyTo, GetsReply, GetsBeginning, followed}

-- what is found in the words is what they ask for
module _ {form told : Form} {wish wished : WishView} {wanted found : Wanted} (f : told ≡ form) (s : wished ≡ wish) (w : found ≡ wanted) where
  -- so a reply to the one is a reply to the other
  is_followed : {bytes : List ℕ} {status : ℕ} {text : List ℕ} → IsReplyIn told wished found bytes status text → IsReplyTo form wish wanted bytes status text
  is_followed {status} {text} h = followed status text (rw (sym f, sym s, sym w) h)

  -- which is written whole
  pub followed_gets : (input old new : Option (List ℕ)) (status : ℕ) → GetsReply (IsReplyIn told wished found) input old new status → GetsReply (IsReplyTo form wish wanted) input old new status
  followed_gets input old new status h = record { bytes = h.bytes; text = h.text; read = h.read; reply = is_followed h.reply; written = h.written }

  -- or a beginning of it is
  pub followed_begins : (input old new : Option (List ℕ)) → GetsBeginning (IsReplyIn told wished found) input old new → GetsBeginning (IsReplyTo form wish wanted) input old new
  followed_begins input old new h = record { bytes = h.bytes; status = h.status; text = h.text; read = h.read; reply = is_followed h.reply; written = h.written }
