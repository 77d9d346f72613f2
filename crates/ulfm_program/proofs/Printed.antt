-- What is written for a reply is a reply.
use Rattle.std.proofs.Common.{◌≡◌, ◌≢◌, ◌≤◌, ℕ, List, Option, arith, inl, inr, sym, subst}
use Rattle.ulfm_forms.specs.declared.form.Form.{Form}
use Rattle.ulfm_run_reply.specs.AnyBody.{text_in}
use Rattle.ulfm_command_line.specs.Wish.{WishView}
use Rattle.ulfm_command_line.specs.declared.command.Wanted.{Wanted}
use Rattle.ulfm_run_reply.specs.declared.any_reply.AnyReply.{AnyReply}
use Rattle.ulfm_program.specs.Replies.{AreRead, GetsBeginning, GetsReply, IsReplyIn, IsWhole}
use Rattle.ulfm_program.specs.inside.Printed.{GetsPrinted, IsPrinted}
use Rattle.ulfm_program.proofs.Refused.{starved_reply}
use Rattle.ulfm_program.proofs.Statuses.{known_status}

-- what is answered: the status of a reply, or that the output failed
pub record IsAnswered (result : ℕ) : Type 0 where
  pub few : result ≤ 9
  pub no_usage : result ≢ 2
  pub read : result ≢ 5

module _ (form : Form) (wish : WishView) (wanted : Wanted) (bytes : List ℕ) (reply : AnyReply) (is : IsReplyIn form wish wanted bytes reply.status (text_in form reply.body)) where
  -- whether it was printed, or memory ran out
  printed_reply : (status : ℕ) (text : List ℕ) → IsPrinted form reply status text → IsReplyIn form wish wanted bytes status text
  printed_reply status text h = elim h [
    | inl same ↦ rw (same.0, same.1) is
    | inr starved ↦ rw (starved.0, starved.1) (starved_reply form wish wanted bytes)
  ]

  module _ (input old new : Option (List ℕ)) (result : ℕ) (read : AreRead input bytes) (got : GetsPrinted form reply old new result) where
    -- so the writer got one whole
    pub printed_gets : IsWhole result → GetsReply (IsReplyIn form wish wanted) input old new result
    printed_gets whole =
        let w = got.written whole.0 in
        record {
          bytes = bytes;
          text = got.text;
          read = read;
          reply = subst (λ (k : ℕ). IsReplyIn form wish wanted bytes k got.text) (sym w.0) (printed_reply got.status got.text got.printed);
          written = w.1;
        }

    -- or a beginning of it
    pub printed_begins : result ≡ 4 → GetsBeginning (IsReplyIn form wish wanted) input old new
    printed_begins four =
        record { bytes = bytes; status = got.status; text = got.text; read = read; reply = printed_reply got.status got.text got.printed; written = got.failed four }

  -- which is known
  pub printed_known : (old new : Option (List ℕ)) (result : ℕ) → GetsPrinted form reply old new result → IsAnswered result
  printed_known old new result got =
      let known = known_status form wish wanted bytes got.status got.text (printed_reply got.status got.text got.printed) in
      elim got.known [
        | inl same ↦ rw same (record { few = known.few; no_usage = known.no_usage; read = known.read })
        | inr four ↦ rw four (record { few = omega arith; no_usage = λ e. omega (arith, e); read = λ e. omega (arith, e) })
      ]
