-- A push keeps what every world keeps.
use Rattle.std.proofs.Common.{◌≡◌, ◌≢◌, ℕ, ◌<◌, cond, eqb, List, [], ◌∷◌, ◌++◌, length, set, refl, ap, sym, ◌∙◌, arith, inl, inr, append-nil, append_assoc, length-set, All}
use Rattle.std.proofs.lemmas.Grind.{flat_map-append}
use Rattle.ulfm_world.proofs.Common.{WorldRank, Item, Entry, Player, with_rank, World, player_in, player_at, rank_at, inbox_at, with_player, with_inbox, Pushes, cases_eq, eq-eqb, ne_eqb, All-push, took, out_other, arrived, IsPosted, IsWorld, State, IsState, went_out, GoesOut}
use Rattle.ulfm_base.specs.Items.{ComesFrom, items_from, item_if_from}
use Rattle.ulfm_rank.proofs.Signed.{front_signed, from_signed}
use Rattle.ulfm_log.proofs.States.{leaves-by}
use Rattle.ulfm_world.proofs.Changed.{player-same, player-other, each_player, inbox-same, inbox-other, each_inbox}

-- a push keeps the logs
record Pushed (old new : State) : Type 0 where
  pub me : new.me ≡ old.me
  pub ranks : new.ranks ≡ old.ranks
  pub log : new.log ≡ old.log
  pub sound : IsState old → IsState new

pushed-same : (r : State) → Pushed r r
pushed-same r = record { me = refl; ranks = refl; log = refl; sound = λ h. h }

pushed-leaves : {old new : State} {d : ℕ} {item : Item} → d < old.ranks → GoesOut old new d item → Pushed old new
pushed-leaves inside k = record {
  me = ap (λ (s : State). s.me) k.marked;
  ranks = ap (λ (s : State). s.ranks) k.marked;
  log = ap (λ (s : State). s.log) k.marked;
  sound = λ h. (leaves-by h inside k).keeps h;
}

from-push : (s : ℕ) (xs : List (WorldRank × Item)) (source : WorldRank) (item : Item) → items_from s (xs ++ (source, item) ∷ []) ≡ items_from s xs ++ cond (eqb source.number s) (item ∷ []) []
from-push s xs source item = flat_map-append (item_if_from s) xs ((source, item) ∷ []) ∙ ap (λ (ys : List Item). items_from s xs ++ ys) (append-nil (cond (eqb source.number s) (item ∷ []) []))

pub from-push_same : (s : ℕ) (xs : List (WorldRank × Item)) (source : WorldRank) (item : Item) → source.number ≡ s → items_from s (xs ++ (source, item) ∷ []) ≡ items_from s xs ++ item ∷ []
from-push_same s xs source item same = from-push s xs source item ∙ ap (λ b. items_from s xs ++ cond b (item ∷ []) []) (eq-eqb source.number s same)

pub from-push_other : (s : ℕ) (xs : List (WorldRank × Item)) (source : WorldRank) (item : Item) → source.number ≢ s → items_from s (xs ++ (source, item) ∷ []) ≡ items_from s xs
from-push_other s xs source item other = from-push s xs source item ∙ ap (λ b. items_from s xs ++ cond b (item ∷ []) []) (ne_eqb source.number s other) ∙ append-nil (items_from s xs)

-- the flow of one pair, where its parts are equal to others
flow_at : {q q' : Player} {log log' : List Entry} {ys ys' : List (WorldRank × Item)} (a b : ℕ) → q' ≡ q → log' ≡ log → ys' ≡ ys → went_out q.rank b ≡ took log a ++ items_from a ys → went_out q'.rank b ≡ took log' a ++ items_from a ys'
flow_at {log'} {ys} a b e f g core =
    ap (λ (p : Player). went_out p.rank b) e ∙ core ∙ ap (λ (l : List Entry). took l a ++ items_from a ys) (sym f) ∙ ap (λ (zs : List (WorldRank × Item)). took log' a ++ items_from a zs) (sym g)

-- the flow items_from a to b after a push items_from s to d
pushed_on : (w : World) (s d a b : ℕ) (sender : WorldRank) (item : Item) {after : State} → IsWorld w → s < length w.players → d < length w.players → sender.number ≡ s → GoesOut (rank_at w s) after d item → a < length w.players → b < length w.players →
    let w' = with_inbox (with_player w s (with_rank (player_at w s) after)) d (inbox_at w d ++ (sender, item) ∷ []) in went_out (rank_at w' a) b ≡ arrived w' a b
pushed_on w s d a b sender item {after} h inside_s inside_d is_sender leaves i j =
    let p = with_rank (player_at w s) after in
    let xs = inbox_at w d ++ (sender, item) ∷ [] in
    let towards : d < (rank_at w s).ranks = omega (arith, h.counted s inside_s, inside_d) in
    let logs : (player_in (set w.players s p) b).rank.log ≡ (rank_at w b).log =
    (each_player w.players s p (λ (x y : Player). Pushed x.rank y.rank) inside_s (pushed-leaves towards leaves) (λ x k. pushed-same (rank_at w x)) b j).log in
    let was = h.passed_on a b i j in
    let many : d < length w.inboxes = omega (arith, inside_d, h.as_many) in
    elim (cases_eq a s) [
      | inl from_s ↦ elim (cases_eq b d) [
        | inl to_d ↦
            flow_at a b (player-same w.players s a p from_s inside_s) logs (inbox-same w.inboxes d b xs to_d many)
            (ap (went_out after) to_d ∙ (leaves-by (h.sound s inside_s) towards leaves).out
            ∙ ap (λ i. went_out (rank_at w i) d ++ item ∷ []) (sym from_s)
            ∙ ap (λ i. went_out (rank_at w a) i ++ item ∷ []) (sym to_d)
            ∙ ap (λ (ys : List Item). ys ++ item ∷ []) was
            ∙ append_assoc (took (rank_at w b).log a) (items_from a (inbox_at w b)) (item ∷ [])
            ∙ ap (λ i. took (rank_at w b).log a ++ (items_from a (inbox_at w i) ++ item ∷ [])) to_d
            ∙ ap (λ (ys : List Item). took (rank_at w b).log a ++ ys) (sym (from-push_same a (inbox_at w d) sender item (is_sender ∙ sym from_s))))
        | inr other ↦
            flow_at a b (player-same w.players s a p from_s inside_s) logs (inbox-other w.inboxes d b xs other)
            (out_other (rank_at w s) after d b item leaves other ∙ ap (λ i. went_out (rank_at w i) b) (sym from_s) ∙ was)
      ]
      | inr other_s ↦ elim (cases_eq b d) [
        | inl to_d ↦
            flow_at a b (player-other w.players s a p other_s) logs (inbox-same w.inboxes d b xs to_d many)
            (was
            ∙ ap (λ i. took (rank_at w b).log a ++ items_from a (inbox_at w i)) to_d
            ∙ ap (λ (ys : List Item). took (rank_at w b).log a ++ ys) (sym (from-push_other a (inbox_at w d) sender item (λ e. other_s (sym e ∙ is_sender)))))
        | inr other ↦ flow_at a b (player-other w.players s a p other_s) logs (inbox-other w.inboxes d b xs other) was
      ]
    ]

-- what is pushed is posted
pushed_posted : (w : World) (s d : ℕ) (sender : WorldRank) (item : Item) {after : State} → IsWorld w → s < length w.players → sender.number ≡ s → GoesOut (rank_at w s) after d item → IsPosted (length w.players) (sender, item)
pushed_posted w s d sender item h inside is_sender leaves =
    let named = h.named s inside in
    let own : ComesFrom (rank_at w s).me item = front_signed (rank_at w s) d item _ (rw named (h.signed s inside)) leaves.front in
    (omega (arith, is_sender, inside), from_signed sender item (rw (named ∙ sym is_sender) at own))

pub keeps-pushes : (w : World) (s d : ℕ) {w' : World} → IsWorld w → Pushes w s d w' → IsWorld w'
keeps-pushes w s d h t =
    let p = with_rank (player_at w s) t.after in
    let xs = inbox_at w d ++ (t.sender, t.item) ∷ [] in
    let l = length-set w.players s p in
    let m = length-set w.inboxes d xs in
    let all : (x : ℕ) → x < length w.players → Pushed (rank_at w x) (player_in (set w.players s p) x).rank =
    each_player w.players s p (λ (a b : Player). Pushed a.rank b.rank) t.inside_s (pushed-leaves (omega (arith, h.counted s t.inside_s, t.inside_d)) t.leaves) (λ x k. pushed-same (rank_at w x)) in
    rw t.only (record {
      small = omega (arith, h.small, l);
      as_many = m ∙ h.as_many ∙ sym l;
      named = λ x k. (all x (omega (arith, k, l))).me ∙ h.named x (omega (arith, k, l));
      counted = λ x k. (all x (omega (arith, k, l))).ranks ∙ h.counted x (omega (arith, k, l)) ∙ sym l;
      sound = λ x k. (all x (omega (arith, k, l))).sound (h.sound x (omega (arith, k, l)));
      signed = λ x k. rw ((all x (omega (arith, k, l))).log) (h.signed x (omega (arith, k, l)));
      posted = λ x k.
          rw l (each_inbox w.inboxes d (length w.players) xs (λ (items : List (WorldRank × Item)). All (IsPosted (length w.players)) items) (omega (arith, t.inside_d, h.as_many)) (All-push (IsPosted (length w.players)) (inbox_at w d) (t.sender, t.item) (h.posted d t.inside_d) (pushed_posted w s d t.sender t.item h t.inside_s t.is_sender t.leaves)) h.posted x (omega (arith, k, l)));
      passed_on = λ a b i j. pushed_on w s d a b t.sender t.item h t.inside_s t.inside_d t.is_sender t.leaves (omega (arith, i, l)) (omega (arith, j, l));
    })
