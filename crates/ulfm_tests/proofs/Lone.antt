-- What a rank proposes, and what one does that is alone in its world.
use Rattle.std.proofs.Common.{◌≡◌, ◌∙◌, ◌∷◌, [], ℕ, Bool, true, zero, suc, cond, List, replicate, ap, arith, sym, Option, Some, None, IfSome, is_some}
use Rattle.std.proofs.lemmas.Bool.{ne_eqb}
use Rattle.ulfm_base.specs.declared.contribution.Contribution.{Contribution}
use Rattle.ulfm_base.specs.declared.decision.Decision.{Decision}
use Rattle.ulfm_base.specs.declared.rank_set.RankSet.{RankSet}
use Rattle.ulfm_base.specs.declared.topic.Topic.{Topic}
use Rattle.ulfm_base.specs.RankSet.{IsEmpty}
use Rattle.ulfm_base.specs.Topic.{Fits, HasShrink, is_topic}
use Rattle.ulfm_base.proofs.Places.{get_or-blank}
use Rattle.ulfm_base.proofs.Topics.{topic_itself}
use Rattle.ulfm_log.specs.declared.entry.Entry.{Entry}
use Rattle.ulfm_log.specs.declared.entry.Entry.TheVariants.{Entered}
use Rattle.ulfm_log.specs.Communicators.{members_of}
use Rattle.ulfm_log.specs.Entrances.{HasEntries}
use Rattle.ulfm_log.specs.Facts.{Knows}
use Rattle.ulfm_log.specs.Log.{first_given, or_else}
use Rattle.ulfm_log.specs.Proposal.{IsProposal, Proposes, deciders, entry_of, has_entered, heard_of}
use Rattle.ulfm_log.specs.State.{State}
use Rattle.ulfm_board.specs.Proposals.{WasProposed}

-- what a rank proposes was proposed
pub proposed_by : {ranks me : ℕ} {log : List Entry} {topic : Topic} {d : Decision} → IsProposal ranks me log topic d → WasProposed d
proposed_by {ranks} {me} {log} {topic} proposal = ∣ record { ranks = ranks; me = me; log = log; topic = topic; proposal = proposal } ∣₁

module _ (topic : Topic) (mine : Contribution) (fits : Fits topic.purpose mine.flag) (has_shrink : HasShrink topic) (world : topic.context.number ≡ 0) where
  -- it entered, and heard nothing
  abbrev log : List Entry
  log = Entered (record { topic = topic; contribution = mine; fits = fits; has_shrink = has_shrink }) ∷ []

  abbrev rank : State
  rank = record { me = 0; ranks = 1; log = log; marks = []; keeps = true }

  brought : cond (is_topic topic topic) (Some mine) None ≡ Some mine
  brought = ap (λ (b : Bool). cond b (Some mine) None) (topic_itself topic)

  entries : HasEntries 0 log topic (Some mine ∷ replicate 7 None)
  entries zero low = sym (ap (λ (o : Option Contribution). or_else o None) brought)
  entries (suc r) low =
      get_or-blank 7 r None ∙ sym (ap (λ (b : Bool). cond b (first_given (entry_of topic) log) (first_given (heard_of topic (suc r)) log)) (ne_eqb (suc r) 0 (λ same. omega (arith, same))))

  pub lone : (known : RankSet) → IsEmpty known → (found : Option Decision)
      → ((r : State) → Knows r.log known → HasEntries r.me r.log topic (Some mine ∷ replicate 7 None) → deciders r.ranks r.log topic ≡ 0 ∷ [] → has_entered r.log topic ≡ true → Proposes r topic found)
      → IfSome found WasProposed
  lone known empty None h = tt
  lone known empty (Some d) h =
      let entered : has_entered log topic ≡ true = ap (λ (o : Option Contribution). is_some (or_else o None)) brought in
      proposed_by (h rank empty entries (ap (members_of 1 log) world) entered)
