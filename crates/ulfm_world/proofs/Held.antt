-- What a rank proposes may be held, and what is held may be adopted.
use Rattle.std.proofs.Common.{◌≡◌, ℕ, ◌<◌, ◌≤◌, true, false, cond, List, ap, sym, ◌∙◌, arith, inl, inr, Some, None, is_some}
use Rattle.ulfm_world.proofs.Common.{Decision, Topic, deciders, Entry, IsWorld, false≢true, or_cases, and_parts, cases_Bool, cond-true, same_Some, get_or_from_slice_get, group_of, is_made, IsOwn, has, is_gone, World, rank_at, IsRunning, HasStopped, list_any, entry_at, in_entry, some_from}
use Rattle.ulfm_base.specs.Group.{is_member, numbers_from}
use Rattle.ulfm_log.specs.Proposal.{listed_of, is_out, IsProposal, differ}
use Rattle.ulfm_log.proofs.Grouped.{members_found}
use Rattle.ulfm_log.proofs.Foreign.{not_differ}
use Rattle.ulfm_base.proofs.Among.{excluding_keeps, none_of, member_test}
use Rattle.ulfm_report_laws.proofs.Excluded.{known_by}
use Rattle.ulfm_world.proofs.Agreed.{IsHeld, Settled, one_group, listed_entry, known_stopped}

module _ (n : ℕ) (w : World) (r : ℕ) (c : Topic) (h : IsWorld w) (settled : Settled n w) (i : r < n) where
  -- who is out has stopped
  out_stopped : (group : List ℕ) (x : ℕ) → x < n → ((m : ℕ) → is_member group m ≡ true → m < n) → is_out r group (rank_at w r).log c x ≡ true → HasStopped w x
  out_stopped group x inside below out = elim (or_cases (is_gone (rank_at w r).log x) (list_any (λ m. in_entry (listed_of r (rank_at w r).log c m) x) group) out) [
    | inl gone ↦ known_stopped w x r h settled inside i gone
    | inr told ↦
        let found = member_test group (λ m. in_entry (listed_of r (rank_at w r).log c m) x) told in
        let set = known_by (listed_of r (rank_at w r).log c found.0) x found.2 in
        let lister = below found.0 found.1 in
        known_stopped w x found.0 h settled inside lister ((settled.keeps found.0 lister).knows_sets c x set.0 (listed_entry w r found.0 c h settled i lister set.1) set.2)
  ]

  -- what a rank proposes may be held
  pub proposal_held : {d : Decision} → IsProposal n r (rank_at w r).log c d → IsHeld n w c d
  proposal_held {d} p =
      let log : List Entry = (rank_at w r).log in
      let made = some_from (group_of n log c.context.number) ((settled.keeps r i).enters_made c p.entered) in
      let group = members_found n log c.context.number made.0 made.1 in
      let below : (m : ℕ) → is_member (deciders n log c) m ≡ true → m < n = λ m member. ((settled.keeps r i).belongs c.context.number made.0 made.1).below m (ap (λ (g : List ℕ). is_member g m) (sym group) ∙ member) in
      let small : n ≤ 8 = omega (arith, h.small, settled.size) in
      let of_old : (m : ℕ) → is_member d.old m ≡ true → is_member (deciders n log c) m ≡ true = λ m member. ap (λ (g : List ℕ). is_member g m) (sym p.old_group) ∙ member in
      record {
        about = p.about;
        proposer = r;
        inside = i;
        group = made.1 ∙ ap Some (sym group ∙ sym p.old_group);
        listed = λ x known listed.
            let member = of_old x (d.lawful.listed_members x (ap is_some listed)) in
            let inside = below x member in
            let stands = p.entries x (omega (arith, inside, small)) in
            let same : entry_at d.entries x ≡ cond (is_member (deciders n log c) x) (listed_of r log c x) None = get_or_from_slice_get d.entries x _ None stands in
            listed_entry w r x c h settled i inside (sym (same ∙ cond-true (is_member (deciders n log c) x) (listed_of r log c x) None member) ∙ listed);
        stopped = λ x out.
            let member = of_old x (d.lawful.excluded_members x out) in
            let inside = below x member in
            let both = and_parts (is_member (deciders n log c) x) (is_out r (deciders n log c) log c x) (sym (p.excluded x (omega (arith, inside, small))) ∙ out) in
            out_stopped (deciders n log c) x inside below both.1;
      }

-- a running rank that made the communicator may adopt what is held
pub held_own : (n : ℕ) (w : World) (r : ℕ) (c : Topic) (d : Decision) → IsWorld w → Settled n w → r < n → IsRunning w r → is_made n (rank_at w r).log c.context.number ≡ true → IsHeld n w c d → IsOwn r (deciders n (rank_at w r).log c) (rank_at w r).log c d
held_own n w r c d h settled i running made held =
    let log : List Entry = (rank_at w r).log in
    let mine = some_from (group_of n log c.context.number) made in
    let same = one_group n w held.proposer r c.context.number settled held.inside i held.group mine.1 in
    let belongs = (settled.keeps r i).belongs c.context.number mine.0 mine.1 in
    let stays : has d.excluded r ≡ false = elim (cases_Bool (has d.excluded r)) [
      | inl out ↦ absurd (false≢true (sym running ∙ held.stopped r out))
      | inr stays ↦ stays
    ] in
    let below : (x : ℕ) → is_member d.old x ≡ true → x < n = λ x member. belongs.below x (ap (λ (g : List ℕ). is_member g x) (sym same) ∙ member) in
    record {
      about = held.about;
      old_group = same ∙ sym (members_found n log c.context.number mine.0 mine.1);
      member = ap (λ (g : List ℕ). is_member g r) d.lawful.survivors ∙ excluding_keeps d.old (has d.excluded) r (ap (λ (g : List ℕ). is_member g r) same ∙ belongs.member) stays;
      agrees = none_of (numbers_from 0 8) (λ x. differ (entry_at d.entries x) (listed_of r log c x)) (λ x. not_differ (entry_at d.entries x) (listed_of r log c x) (λ s t listed heard.
          same_Some s t (sym (held.listed x s listed) ∙ listed_entry w r x c h settled i (below x (d.lawful.listed_members x (ap is_some listed))) heard)));
    }
