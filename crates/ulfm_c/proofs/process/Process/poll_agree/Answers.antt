use Rattle.std.proofs.Common.{refl, sym, inl, inr}
use Rattle.std.proofs.lemmas.Result.{err_from_is_err_and}
use Rattle.ulfm_board.specs.contracts.seat.SeatDecider.TheImpl.{ghosts}
use Rattle.ulfm_rank.proofs.Joining.{joined-quiet}
use Rattle.ulfm_log.specs.Proposal.{last_agreement}
use Rattle.ulfm_log.specs.declared.entry.Entry.TheVariants.{Adopted}
use Rattle.ulfm_c.proofs.Keeping.{quiet-none, quiet-one}
use Rattle.ulfm_c.proofs.process.Process.poll_agree.Goals as goal

pub returns-in_err-proposal-clause-refused : goal.returns-in_err-proposal-clause-refused
returns-in_err-proposal-clause-refused c =
    let e = err_from_is_err_and c.from_residual.result c.from_residual.ensures.1 in
    rw (e.1, e.2) (rw (sym c.self.view_is) (inl (record { fails = c.in_err-proposal.ensures.refused; only = refl })))

pub decide-requires : goal.decide-requires
decide-requires c =
    let r = c.self.inside.rank.state in ∣ record { ranks = r.ranks; me = r.me; log = r.log; topic = last_agreement r.log c.args.comm.context; proposal = rw c.in-Some.is at c.in_ok-proposal.ensures.verdict } ∣₁

pub returns-in-Err-clause-refused : goal.returns-in-Err-clause-refused
returns-in-Err-clause-refused c =
    rw (sym c.self.view_is) (inr (inl (record {
      accepted = c.in_ok-proposal.ensures.accepted;
      proposal = c.in-Some.proposal;
      proposed = rw c.in-Some.is at c.in_ok-proposal.ensures.verdict;
      starves = c.in-Err.ensures.starves;
      starved = refl;
      only = λ i. record { rank = c.self.inside.rank.state; end = c.self.inside.end; board = c.decide.ensures.board i; known = c.in-Err.ensures.unchanged i };
    })))

pub invariant_of-self-in-Ok-adopt_verdict : goal.invariant_of-self-in-Ok-adopt_verdict
invariant_of-self-in-Ok-adopt_verdict c =
    let h = c.self.invariant in let new = c.adopt_verdict.new.self.state in
    joined-quiet new h (quiet-one new (Adopted c.in-Ok.held) h.sound (record { signed = tt; takes_none = λ x. refl }) c.in-Ok-adopt_verdict.ensures.state)

pub returns-in-Ok-adopt_verdict-clause-adopts : goal.returns-in-Ok-adopt_verdict-clause-adopts
returns-in-Ok-adopt_verdict-clause-adopts c =
    rw (sym c.self.view_is) (
      c.in-Ok.held,
      record {
        is_held = record { proposal = c.in-Some.proposal; proposed = rw c.in-Some.is at c.in_ok-proposal.ensures.verdict; board_answers = c.in-Ok.ensures.answers; was_proposed = c.in-Ok.ensures.says };
        accepted = c.in-Ok-adopt_verdict.ensures.accepted;
        only = λ i. record { rank = c.in-Ok-adopt_verdict.ensures.state i; end = c.self.inside.end; board = c.decide.ensures.board i; known = ghosts.known c.decide.new.self };
      },
      c.in-Ok-adopt_verdict.ensures.value,
      c.left_out-missing.ensures,
    )

pub invariant_of-self-in-Err-adopt_verdict : goal.invariant_of-self-in-Err-adopt_verdict
invariant_of-self-in-Err-adopt_verdict c =
    let h = c.self.invariant in let new = c.adopt_verdict.new.self.state in
    joined-quiet new h (quiet-none new h.sound c.in-Err-adopt_verdict.ensures.unchanged)

pub returns-in-Err-adopt_verdict-clause-refused : goal.returns-in-Err-adopt_verdict-clause-refused
returns-in-Err-adopt_verdict-clause-refused c =
    rw (sym c.self.view_is) (inr (inr (record {
      held = c.in-Ok.held;
      is_held = record { proposal = c.in-Some.proposal; proposed = rw c.in-Some.is at c.in_ok-proposal.ensures.verdict; board_answers = c.in-Ok.ensures.answers; was_proposed = c.in-Ok.ensures.says };
      fails = c.in-Err-adopt_verdict.ensures.refused;
      only = λ i. record { rank = c.in-Err-adopt_verdict.ensures.unchanged i; end = c.self.inside.end; board = c.decide.ensures.board i; known = ghosts.known c.decide.new.self };
    })))
