-- The laws of decisions, from what every world keeps.
use Rattle.std.proofs.Common.{◌≡◌, ℕ, ◌<◌, ◌≤◌, List, length, ap, sym, subst, ◌∙◌, arith, inl, inr, Option, Some, All}
use Rattle.ulfm_world.proofs.Common.{Decision, Contribution, Topic, is_member, Entry, Adopted, Player, World, rank_at, start_world, Reaches, false≢true, or_cases, none-some, same_Some, slice_get_within, get_or_from_slice_get, All-nil, Keeps, keeps-start, has, EntersEachOnce, entry_at, is_listed, in_entry, some_from, Room}
use Rattle.ulfm_board.specs.Known.{nothing_known}
use Rattle.ulfm_world.specs.Safe.{entry_at_rank, EntersOnce, IsSafe, DecidesSafely, AdoptsHeld}
use Rattle.ulfm_report_laws.proofs.Once.{once-start}
use Rattle.ulfm_base.proofs.Among.{excluding_from}
use Rattle.ulfm_world.proofs.Agreed.{IsAdopted, IsHeld, Settled}
use Rattle.ulfm_world.proofs.Moving.{settled-run}
use Rattle.ulfm_world.proofs.Read.{each_report}
use Rattle.ulfm_world.proofs.Starts.{length-start, player-start, world-start}

pub settled-start : (n : ℕ) (room : Room) → Settled n (start_world n room)
settled-start n room = record {
  size = length-start n n;
  keeps = λ r i. subst (λ (p : Player). Keeps n r p.rank.log) (sym (player-start n n r i)) (keeps-start n r i);
  once = λ r i. subst (λ (p : Player). EntersEachOnce p.rank.log) (sym (player-start n n r i)) once-start;
  held = λ c d known. absurd (none-some d (known));
  adopted = λ r i. subst (λ (p : Player). All (IsAdopted nothing_known r) p.rank.log) (sym (player-start n n r i)) (All-nil (IsAdopted nothing_known r));
  unadopted = λ r i asked topic e about. absurd (none-some asked (sym (ap (λ (p : Player). p.current) (player-start n n r i)) ∙ e));
}

-- every world that a schedule leads to is settled
pub settled-reached : (n : ℕ) (room : Room) (w : World) → n ≤ 8 → Reaches (start_world n room) w → Settled n w
settled-reached n room w small k = settled-run n k.0 w (world-start n room small) (settled-start n room) k.1

module _ (n : ℕ) (w : World) (settled : Settled n w) where
  inside : (r : ℕ) → r < length w.players → r < n
  inside r i = omega (arith, i, settled.size)

  pub enters-once : EntersOnce w
  enters-once = record {
    once = each_report (λ r told. EntersEachOnce told.rank.log) w (λ r i. settled.once r (inside r i));
    knows = λ r place entrance i stands.
        let enters = (settled.keeps r (inside r i)).enters_once place entrance stands in record { first = enters.0; knew = enters.1 };
  }

  pub held-safe : {c : Topic} {d : Decision} → IsHeld n w c d → IsSafe w d
  held-safe {d} held = record {
    listed = λ r known listed. ap (entry_at_rank w r) held.about ∙ held.listed r known listed;
    stopped = held.stopped;
    excluded = λ m r known member entered knows of_old.
        let stays = excluding_from d.old (has d.excluded) m (ap (λ (g : List ℕ). is_member g m) (sym d.lawful.survivors) ∙ member) in
        elim (or_cases (is_listed d.entries m) (has d.excluded m) (d.lawful.complete m stays.0)) [
          | inl listed ↦
              let set = some_from (entry_at d.entries m) listed in
              let same : set.0 ≡ known = same_Some set.0 known (sym (held.listed m set.0 set.1) ∙ ap (entry_at_rank w m) (sym held.about) ∙ entered) in
              d.lawful.union m r (ap (λ (o : Option Contribution). in_entry o r) (set.1 ∙ ap Some same) ∙ knows) of_old
          | inr out ↦ absurd (false≢true (sym stays.1 ∙ out))
        ];
  }

  pub decides-safely : DecidesSafely w
  decides-safely c d known = let held = settled.held c d known in record { about = held.about; safe = held-safe held }

  pub adopts-held : AdoptsHeld w
  adopts-held r d i adopted =
      let log : List Entry = (rank_at w r).log in
      let place = slice_get_within log adopted.0 (Adopted d) adopted.1 in
      let now = subst (λ (x : Entry). IsAdopted w.decided r x) (get_or_from_slice_get log adopted.0 (Adopted d) (Adopted d) adopted.1) (settled.adopted r (inside r i) adopted.0 (Adopted d) place) in
      record { held = now.0; member = now.1 }
