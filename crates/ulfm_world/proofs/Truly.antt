-- Decisions that ranks of a world adopted are true of what its ranks did, and each log has one pairing.
use Rattle.std.proofs.Common.{◌≡◌, ℕ, ◌<◌, true, length, refl, ap, sym, ◌∙◌, arith, Option, Some, None, is_some}
use Rattle.ulfm_world.proofs.Common.{Topic, Decision, is_member, at, Entry, Adopted, Player, World, player_at, rank_at, report_of, reports_in, same_Some, AdoptsTruly}
use Rattle.ulfm_board.specs.Known.{BothAgree}
use Rattle.ulfm_match.proofs.Exists.{some_pairing}
use Rattle.ulfm_rank.specs.History.{history_of}
use Rattle.ulfm_rank.specs.Paired.{IsPaired}
use Rattle.ulfm_rank.proofs.Pairings.{paired}
use Rattle.ulfm_report_laws.specs.Decisions.{AreTrue, IsTrueOf}
use Rattle.ulfm_report_laws.proofs.Closing.{IsTrueOf as TrueOfLog}
use Rattle.ulfm_world.proofs.Agreed.{IsHeld, Settled}
use Rattle.ulfm_world.proofs.Read.{each_report, report_there}
use Rattle.ulfm_world.proofs.Safe.{adopts-held, held-safe}

-- two that know no other decision than a third agree
pub both_agree : (a b c : Option Decision) → ((d : Decision) → a ≡ Some d → c ≡ Some d) → ((d : Decision) → b ≡ Some d → c ≡ Some d) → BothAgree a b
both_agree None b c f g = tt
both_agree (Some d) None c f g = tt
both_agree (Some d) (Some e) c f g = same_Some e d (sym (g e refl) ∙ f d refl)

-- the log of a player has one pairing
pub one_pairing : (p : Player) → TrueOfLog p.rank p.done → IsPaired p.rank.log
one_pairing p h = let found = some_pairing (history_of p.rank.log) h.formed in paired p.rank.log found.0 h.formed found.1

module _ {n : ℕ} {w : World} (settled : Settled n w) where
  -- a member of the group that a decision is about is a rank of the world
  member_inside : (c : Topic) (d : Decision) → IsHeld n w c d → (r : ℕ) → is_member d.old r ≡ true → r < length w.players
  member_inside c d held r member =
      let low : r < n = ((settled.keeps held.proposer held.inside).belongs c.context.number d.old held.group).below r member in
      omega (arith, low, settled.size)

  true_decision : {c : Topic} (d : Decision) → IsHeld n w c d → IsTrueOf (reports_in w) d
  true_decision {c} d held =
      let safe = held-safe n w settled held in
      record {
        listed = λ r known e.
            record { report = report_of (player_at w r); reported = report_there w r (member_inside c d held r (d.lawful.listed_members r (ap is_some e))); entered = safe.listed r known e };
        excluded = λ r out.
            record { report = report_of (player_at w r); reported = report_there w r (member_inside c d held r (d.lawful.excluded_members r out)); stopped = safe.stopped r out };
      }

  adopts_truly : (s : ℕ) → s < length w.players → (k : ℕ) (entry : Entry) → at (rank_at w s).log k entry → AdoptsTruly (reports_in w) entry
  adopts_truly s i k (Adopted d) here = true_decision d (settled.held d.topic d ((adopts-held n w settled s d i (k, here)).held))
  adopts_truly s i k _ here = tt

  pub decisions_true : AreTrue (reports_in w)
  decisions_true = each_report (λ s told. (k : ℕ) (entry : Entry) → at told.rank.log k entry → AdoptsTruly (reports_in w) entry) w adopts_truly
