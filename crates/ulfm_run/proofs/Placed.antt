-- At which places of its log a rank proposed a decision.
use Rattle.std.proofs.Common.{◌≡◌, ◌<◌, ◌≤◌, ◌+◌, ℕ, true, List, length, take, slice_index, Some, refl, ap, sym, subst, inl, inr, arith}
use Rattle.ulfm_base.proofs.Topics.{topic_passes, topics_equal}
use Rattle.ulfm_base.specs.Topic.{is_topic}
use Rattle.ulfm_base.specs.declared.contribution.Contribution.{Contribution}
use Rattle.ulfm_base.specs.declared.decision.Decision.{Decision}
use Rattle.ulfm_base.specs.declared.topic.Topic.{Topic}
use Rattle.ulfm_log.specs.declared.entry.Entry.TheVariants.{Adopted}
use Rattle.ulfm_script.specs.Deciding.{topic_of}
use Rattle.ulfm_report_laws.specs.Proposed.{AdoptsAt, ProposesAt, ProposesBy}
use Rattle.ulfm_run.proofs.Common.{at, cases_lt, Entry, Report, same_Some, slice_get_within}
use Rattle.ulfm_run.specs.inside.Listed.{IsAdoption, IsListedAs, IsProposedByRank, IsProposedIn}
use Rattle.ulfm_run.specs.inside.Walk.{IsProposedByWalked}

-- two topics are one exactly where the test passes
pub one_topic : (a b : Topic) → (is_topic a b ≡ true → a ≡ b) × (a ≡ b → is_topic a b ≡ true)
one_topic a b = (topics_equal a b, topic_passes a b)

adopts_at : (log : List Entry) (place : ℕ) (topic : Topic) (entry : Entry) → at log place entry → IsAdoption entry topic → AdoptsAt log place topic
adopts_at log place topic (Adopted d) stands about = record { held = d; stands = stands; about = about }
adopts_at log place topic _ stands about = absurd about

-- some rank proposed a decision at this place, up to which it was walked
pub record IsPlaced (reports : List Report) (fronts : List ℕ) (d : Decision) : Type 0 where
  pub rank : ℕ
  pub told : Report
  pub reported : at reports rank told
  pub place : ℕ
  pub walked : place ≤ slice_index fronts rank
  pub made : ProposesAt rank told.rank.log told.steps place d

-- it adopts one there, or a step found no memory
pub placed : (reports : List Report) (fronts : List ℕ) (d : Decision) → IsProposedByWalked reports fronts d → IsPlaced reports fronts d
placed reports fronts d h = pick h.1.proposed
  where
    pick : IsProposedIn h.0 h.1.told (slice_index fronts h.0) d → IsPlaced reports fronts d
    pick (inl a) =
        let inside = slice_get_within h.1.told.rank.log a.0 a.1 a.2 in record {
          rank = h.0;
          told = h.1.told;
          reported = h.1.reported;
          place = a.0;
          walked = a.3.early;
          made = record { within = omega (arith, inside); asks = inl (adopts_at h.1.told.rank.log a.0 d.topic a.1 a.2 a.3.adopts); proposes = a.3.proposes };
        }
    pick (inr s) = record {
      rank = h.0;
      told = h.1.told;
      reported = h.1.reported;
      place = s.1.at;
      walked = s.3.early;
      made = record { within = s.3.within; asks = inr (record { number = s.0; step = s.1; stands = s.2; placed = refl; about = s.3.about; starves = s.3.starves }); proposes = s.3.proposes };
    }

-- and the other way round
pub by_place : (reports : List Report) (fronts : List ℕ) (d : Decision) → IsPlaced reports fronts d → IsProposedByWalked reports fronts d
by_place reports fronts d h =
    let made = h.made in (
      h.rank,
      record {
        told = h.told;
        reported = h.reported;
        proposed = elim (made.asks) [
          | inl a ↦ inl (h.place, Adopted a.held, a.stands, record { early = h.walked; adopts = a.about; proposes = made.proposes })
          | inr s ↦
              inr (
                s.number,
                s.step,
                s.stands,
                record {
                  early = omega (arith, h.walked, s.placed);
                  within = omega (arith, made.within, s.placed);
                  about = subst (λ k. topic_of (take k h.told.rank.log) s.step.step ≡ Some d.topic) (sym s.placed) s.about;
                  starves = s.starves;
                  proposes = subst (λ k. ProposesBy h.rank (take k h.told.rank.log) d) (sym s.placed) made.proposes;
                },
              )
        ];
      },
    )

-- no rank up to one more
pub none_further : (reports : List Report) (fronts : List ℕ) (d : Decision) (n : ℕ) → ((r : ℕ) → r < n → IsProposedByRank reports fronts r d → ⊥) → (IsProposedByRank reports fronts n d → ⊥) → (r : ℕ) → r < n + 1 → IsProposedByRank reports fronts r d → ⊥
none_further reports fronts d n before here r lt h = elim (cases_lt r n) [
  | inl less ↦ before r less h
  | inr least ↦ let same : r ≡ n = omega (arith, lt, least) in here (subst (λ i. IsProposedByRank reports fronts i d) same h)
]

-- no rank of all
pub none_at_all : (reports : List Report) (fronts : List ℕ) (d : Decision) → ((r : ℕ) → r < length reports → IsProposedByRank reports fronts r d → ⊥) → IsProposedByWalked reports fronts d → ⊥
none_at_all reports fronts d none h = none h.0 (slice_get_within reports h.0 h.1.told h.1.reported) h.1

-- each rank up to one more
pub listed_further : (me : ℕ) (log : List Entry) (d : Decision) (n : ℕ) → ((r : ℕ) → r < n → IsListedAs me log d r) → IsListedAs me log d n → (r : ℕ) → r < n + 1 → IsListedAs me log d r
listed_further me log d n before here r lt = elim (cases_lt r n) [
  | inl less ↦ before r less
  | inr least ↦ let same : n ≡ r = omega (arith, lt, least) in subst (λ i. IsListedAs me log d i) same here
]

-- two listings are the same exactly where what they list is
pub both_listed : (one other : Contribution) → (one ≡ other → Some one ≡ Some other) × (Some one ≡ Some other → one ≡ other)
both_listed one other = (λ same. ap Some same, same_Some one other)
