-- A player and its end stay together while items go from one to the other.
use Rattle.std.proofs.Common.{◌≡◌, ◌≢◌, ℕ, ◌<◌, false, List, [], ◌∷◌, ◌++◌, refl, ap, sym, subst, ◌∙◌}
use Rattle.std.proofs.Math.Bool.{or-false}
use Rattle.ulfm_rank.proofs.Joining.{joined-pushed, joined-returned, joined-taken}
use Rattle.ulfm_log.proofs.Logs.{stopped-push}
use Rattle.ulfm_script.proofs.Takes.{takes-none, takes-one}
use Rattle.ulfm_run.proofs.Common.{Item, Player, Took, PlayerView, with_rank, WorldRank, State, is_stopped, logged, GoesOut, IsJoined, Moves}

module _ {E N : Type 0} {name : E → N} {place count : E → ℕ} {pushed taken : E → ℕ → List Item} {ready : E → Type 0} where
  -- nothing moved
  moves-none : (v w : PlayerView) (e : E) → IsJoined place count pushed taken ready v.player.rank e → w.player ≡ v.player → w.room ≡ v.room → Moves name place count pushed taken ready v e w e
  moves-none v w e h same room = record {
    same_end = refl;
    joined = subst (λ (p : Player). IsJoined place count pushed taken ready p.rank e) (sym same) h;
    me = ap (λ (p : Player). p.rank.me) same;
    ranks = ap (λ (p : Player). p.rank.ranks) same;
    stops = ap (λ (p : Player). is_stopped p.rank.log) same;
    only = subst (λ (p : Player). p ≡ with_rank v.player p.rank) (sym same) refl;
    room = room;
    takes = takes-none v.player.rank.log w.player.rank.log (ap (λ (p : Player). p.rank.log) same);
  }

  -- the end pushed what left the outbox
  pub moves-pushed : (v w : PlayerView) {e : E} (f : E) {d : ℕ} {item : Item} → IsJoined place count pushed taken ready v.player.rank e → d < v.player.rank.ranks → GoesOut v.player.rank w.player.rank d item → w.player ≡ with_rank v.player w.player.rank → w.room ≡ v.room →
      name f ≡ name e → place f ≡ place e → count f ≡ count e → ready f → ((p : ℕ) → taken f p ≡ taken e p) → ((p : ℕ) → p ≢ d → pushed f p ≡ pushed e p) → pushed f d ≡ pushed e d ++ item ∷ [] → Moves name place count pushed taken ready v e w f
  moves-pushed v w f h inside leaves only room name_same place_same count_same is_ready taken_same others here =
      let log : w.player.rank.log ≡ v.player.rank.log = ap (λ (s : State). s.log) leaves.marked in
      record {
        same_end = name_same;
        joined = joined-pushed f h inside leaves place_same count_same is_ready taken_same others here;
        me = ap (λ (s : State). s.me) leaves.marked;
        ranks = ap (λ (s : State). s.ranks) leaves.marked;
        stops = ap is_stopped log;
        only = only;
        room = room;
        takes = takes-none v.player.rank.log w.player.rank.log log;
      }

  -- the end refused what left the outbox, and it is back there
  pub moves-returned : (v w : PlayerView) {e : E} (f : E) (d : ℕ) → IsJoined place count pushed taken ready v.player.rank e → w.player ≡ v.player → w.room ≡ v.room → name f ≡ name e → place f ≡ place e → count f ≡ count e → ready f →
      ((p : ℕ) → taken f p ≡ taken e p) → ((p : ℕ) → p ≢ d → pushed f p ≡ pushed e p) → pushed f d ≡ pushed e d → Moves name place count pushed taken ready v e w f
  moves-returned v w f d h same room name_same place_same count_same is_ready taken_same others here =
      let n = moves-none v w f (joined-returned f d h place_same count_same is_ready taken_same others here) same room in
      record { same_end = name_same; joined = n.joined; me = n.me; ranks = n.ranks; stops = n.stops; only = n.only; room = n.room; takes = n.takes }

  -- the log took what the end popped
  pub moves-taken : (v w : PlayerView) {e : E} (f : E) (source : WorldRank) (item : Item) → is_stopped v.player.rank.log ≡ false → source.number < v.player.rank.ranks → IsJoined place count pushed taken ready v.player.rank e → w.player ≡ with_rank v.player (logged v.player.rank (Took source item)) → w.room ≡ v.room →
      name f ≡ name e → place f ≡ place e → count f ≡ count e → ready f → ((p : ℕ) → pushed f p ≡ pushed e p) → taken f source.number ≡ taken e source.number ++ item ∷ [] → ((p : ℕ) → p ≢ source.number → taken f p ≡ taken e p) → Moves name place count pushed taken ready v e w f
  moves-taken v w f source item running below h same room name_same place_same count_same is_ready pushed_same here others = record {
    same_end = name_same;
    joined = subst (λ (p : Player). IsJoined place count pushed taken ready p.rank f) (sym same) (joined-taken f source item below h place_same count_same is_ready pushed_same here others);
    me = ap (λ (p : Player). p.rank.me) same;
    ranks = ap (λ (p : Player). p.rank.ranks) same;
    stops = ap (λ (p : Player). is_stopped p.rank.log) same ∙ stopped-push v.player.rank.log (Took source item) ∙ or-false (is_stopped v.player.rank.log);
    only = subst (λ (p : Player). p ≡ with_rank v.player p.rank) (sym same) refl;
    room = room;
    takes = takes-one v.player.rank.log w.player.rank.log source item running (ap (λ (p : Player). p.rank.log) same);
  }
