-- Codes are read back.
use Rattle.std.proofs.Common.{◌≡◌, ℕ, ◌+◌, ◌*◌, ◌/◌, ◌%◌, Bool, true, false, cond, nat_lt, List, [], ◌∷◌, ◌++◌, Some, refl, ap, sym, ◌∙◌}
use Rattle.std.proofs.Math.Nat.{mod-add-div}
use Rattle.std.proofs.lemmas.Option.{same_Some}
use Rattle.std.specs.Prelude.{option_map}
use Rattle.ulfm_base.specs.Error.{error_text}
use Rattle.ulfm_base.specs.declared.error.CallError.{CallError}
use Rattle.ulfm_base.specs.declared.error.CallError.TheVariants as error
use Rattle.ulfm_answer.specs.Told.{CodesAreRead, code_of, eight, of_four, of_two, read_code, refusal_of}
use Rattle.ulfm_answer.specs.declared.told_answer.ToldAnswer.{ToldAnswer}
use Rattle.ulfm_answer.specs.declared.told_answer.ToldAnswer.TheVariants.{Sent, Posted, Done, Over, Pending, Found, Cancelled, Ranks, Acked, Revoked, Made, Shrunk, Agreed, Noted, Stopped, Unfinished, Skipped, Refused}

-- a number by its bytes
two_read : (n : ℕ) → of_two (n % 256) (n / 256) ≡ n
two_read n = mod-add-div n 256

four_read : (n : ℕ) → of_four (n % 65536 % 256) (n % 65536 / 256) (n / 65536 % 256) (n / 65536 / 256) ≡ n
four_read n = (λ i. two_read (n % 65536) i + 65536 * two_read (n / 65536) i) ∙ mod-add-div n 65536

abbrev half : ℕ
half = 4294967296

eight_read : (n : ℕ)
    → of_four (n % half % 65536 % 256) (n % half % 65536 / 256) (n % half / 65536 % 256) (n % half / 65536 / 256) + half * of_four (n / half % 65536 % 256) (n / half % 65536 / 256) (n / half / 65536 % 256) (n / half / 65536 / 256) ≡ n
eight_read n = (λ i. four_read (n % half) i + half * four_read (n / half) i) ∙ mod-add-div n half

-- a refusal by its text
refusal_read : (e : CallError) → refusal_of (error_text e) ≡ Some e
refusal_read error.NoComm = refl
refusal_read error.BadRank = refl
refusal_read error.BadTag = refl
refusal_read error.TooLong = refl
refusal_read error.ProcFailed = refl
refusal_read error.Revoked = refl
refusal_read error.NoRequest = refl
refusal_read error.AlreadyMade = refl
refusal_read error.NoContext = refl
refusal_read error.Stopped = refl
refusal_read error.NotMember = refl
refusal_read error.OutOfMemory = refl
refusal_read error.BadSize = refl
refusal_read error.NotEntered = refl
refusal_read error.Truncated = refl

made_read : (comm : ℕ) (b : Bool) → read_code (cond b (15 ∷ comm ∷ []) (18 ∷ eight comm)) ≡ Some (Made comm)
made_read comm true = refl
made_read comm false = ap (λ (n : ℕ). Some (Made n)) (eight_read comm)

shrunk_read : (comm : ℕ) (group : List ℕ) (me : ℕ) (b : Bool) → read_code (cond b (16 ∷ comm ∷ me ∷ group) (19 ∷ me ∷ (eight comm ++ group))) ≡ Some (Shrunk comm group me)
shrunk_read comm group me true = refl
shrunk_read comm group me false = ap (λ (n : ℕ). Some (Shrunk n group me)) (eight_read comm)

pub codes_are_read : CodesAreRead
codes_are_read Sent = refl
codes_are_read Posted = refl
codes_are_read Pending = refl
codes_are_read Cancelled = refl
codes_are_read Revoked = refl
codes_are_read Noted = refl
codes_are_read Stopped = refl
codes_are_read Unfinished = refl
codes_are_read Skipped = refl
codes_are_read (Done source tag body) = ap (λ (t : ℕ). Some (Done source t body)) (two_read tag)
codes_are_read (Found source tag length) = ap (λ (t : ℕ). Some (Found source t _)) (two_read tag) ∙ ap (λ (n : ℕ). Some (Found source tag n)) (eight_read length)
codes_are_read (Over reason) = ap (option_map Over) (refusal_read reason)
codes_are_read (Refused reason) = ap (option_map Refused) (refusal_read reason)
codes_are_read (Ranks members) = refl
codes_are_read (Acked total) = refl
codes_are_read (Made comm) = made_read comm (nat_lt comm 256)
codes_are_read (Shrunk comm group me) = shrunk_read comm group me (nat_lt comm 256)
codes_are_read (Agreed value missing) = ap (λ (v : ℕ). Some (Agreed v missing)) (four_read value)

-- codes tell answers apart
pub same_told : (one other : ToldAnswer) → code_of one ≡ code_of other → one ≡ other
same_told one other same = same_Some one other (sym (codes_are_read one) ∙ ap read_code same ∙ codes_are_read other)
