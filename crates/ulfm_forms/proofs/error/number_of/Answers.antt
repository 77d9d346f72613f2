use Rattle.std.proofs.Common.{◌≡◌, ◌+◌, refl}
use Rattle.std.specs.Fmt.{decimal, digits}
use Rattle.std.specs.List.{before_first}
use Rattle.ulfm_base.specs.Error.{error_text}
use Rattle.ulfm_base.specs.contracts.error.CallError.{the_type}
use Rattle.ulfm_base.specs.declared.error.CallError.{CallError}
use Rattle.ulfm_base.specs.declared.error.CallError.TheVariants.{NoComm, BadRank, BadTag, TooLong, ProcFailed, Revoked, NoRequest, AlreadyMade, NoContext, Stopped, NotMember, OutOfMemory, BadSize, NotEntered, Truncated}
use Rattle.ulfm_forms.specs.Parts.{is_space}
use Rattle.ulfm_forms.proofs.error.number_of.Goals as goal

pub returns : goal.returns
unfolding digits
returns c = elim c.args.error as (λ (e : CallError). decimal (denote.Enum.Declared.tag_of the_type e + 1) ≡ before_first is_space (error_text e)) [
  | NoComm ↦ refl
  | BadRank ↦ refl
  | BadTag ↦ refl
  | TooLong ↦ refl
  | ProcFailed ↦ refl
  | Revoked ↦ refl
  | NoRequest ↦ refl
  | AlreadyMade ↦ refl
  | NoContext ↦ refl
  | Stopped ↦ refl
  | NotMember ↦ refl
  | OutOfMemory ↦ refl
  | BadSize ↦ refl
  | NotEntered ↦ refl
  | Truncated ↦ refl
]
