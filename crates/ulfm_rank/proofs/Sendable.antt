-- Which send is refused, and which isn't.
use Rattle.std.proofs.Common.{◌≡◌, ℕ, ◌≤◌, Bool, false, cond, List, [], ◌∷◌, length, ap, ◌∙◌, arith, Some, None, slice_get, nat_le, nat_lt}
use Rattle.ulfm_base.specs.declared.error.CallError.TheVariants.{NoComm, BadRank, TooLong, ProcFailed, Revoked, Stopped}
use Rattle.ulfm_rank.specs.Checks.{first_refusal, Passes, lacks, is_outside, is_gone_at, is_gone_if_member, group_at, comm_checks, send_checks}
use Rattle.ulfm_rank.proofs.Common.{group_of, or_empty, is_gone, is_revoked, is_stopped, State, slice_get_within, nat_tests}
use Rattle.ulfm_rank.proofs.Refusals.{goes_on, passes_two}

-- a send of which all checks pass but perhaps the last
pub sendable : (r : State) (c dest size : ℕ) (group : List ℕ) (member : ℕ) (gone : Bool) → Passes (comm_checks r c []) → group_of r.ranks r.log c ≡ Some group → is_revoked r.log c ≡ false → slice_get group dest ≡ Some member → size ≤ 1024 → is_gone r.log member ≡ gone →
    first_refusal (send_checks r c dest size) ≡ cond gone (Some ProcFailed) None
sendable r c dest size group member gone passes made open_still named fits known =
    let members : group_at r c ≡ group = ap or_empty made in
    let within = slice_get_within group dest member named in
    let inside : is_outside r c dest ≡ false = rw members (let h : nat_le (length group) dest ≡ false = grind (arith, nat_tests) in h) in
    let short : nat_lt 1024 size ≡ false = grind (arith, nat_tests) in
    let last : is_gone_at r c dest ≡ gone = rw members (ap (is_gone_if_member r) named ∙ known) in
    let four = (is_gone_at r c dest, ProcFailed) ∷ [] in
    let three = (nat_lt 1024 size, TooLong) ∷ four in
    let two = (is_outside r c dest, BadRank) ∷ three in
    let one = (is_revoked r.log c, Revoked) ∷ two in
    passes_two (is_stopped r.log) (lacks r c) Stopped NoComm one _ passes
    (goes_on (is_revoked r.log c) Revoked two _ open_still
    (goes_on (is_outside r c dest) BadRank three _ inside
    (goes_on (nat_lt 1024 size) TooLong four _ short
    (ap (λ b. cond b (Some ProcFailed) None) last))))
