-- The numbers and names of refusals.
use Rattle.std.specs.Prelude.{ℕ, List, codes}
use Rattle.ulfm_base.specs.declared.error.CallError.{CallError}
use Rattle.ulfm_base.specs.declared.error.CallError.TheVariants.{NoComm, BadRank, BadTag, TooLong, ProcFailed, Revoked, NoRequest, AlreadyMade, NoContext, Stopped, NotMember, OutOfMemory, BadSize, NotEntered, Truncated}

-- the number and the name of a refusal, as they are printed
abbrev pub error_text : CallError → List ℕ
error_text NoComm = codes "1 NoComm"
error_text BadRank = codes "2 BadRank"
error_text BadTag = codes "3 BadTag"
error_text TooLong = codes "4 TooLong"
error_text ProcFailed = codes "5 ProcFailed"
error_text Revoked = codes "6 Revoked"
error_text NoRequest = codes "7 NoRequest"
error_text AlreadyMade = codes "8 AlreadyMade"
error_text NoContext = codes "9 NoContext"
error_text Stopped = codes "10 Stopped"
error_text NotMember = codes "11 NotMember"
error_text OutOfMemory = codes "12 OutOfMemory"
error_text BadSize = codes "13 BadSize"
error_text NotEntered = codes "14 NotEntered"
error_text Truncated = codes "15 Truncated"
