-- A poll, a step that is given up, and a take keep what every world keeps.
use Rattle.std.proofs.Common.{◌≡◌, ℕ, ◌<◌, List, [], ◌∷◌, ◌++◌, length, get_or, set, ap, sym, subst, ◌∙◌, arith, inl, inr, append_assoc, length-set, All}
use Rattle.ulfm_world.proofs.Common.{WorldRank, Item, Took, State, logged, Player, with_rank, World, player_in, player_at, rank_at, inbox_at, with_player, with_inbox, Takes, items_from, cases_eq, All-head, took, took_by, IsSigned, calm-same, quiet-same, calm-took, arrived, IsPosted, IsWorld, took-push}
use Rattle.std.proofs.lemmas.List.Elements.{All-append, All-tail}
use Rattle.ulfm_rank.specs.inside.Quiet.{Calm, Quiet}
use Rattle.ulfm_world.proofs.Senders.{all-parts, from-passed}
use Rattle.ulfm_world.proofs.Changed.{player-same, player-other, each_player, inbox-same, inbox-other, each_inbox}

-- what a rank sent stays signed
pub signed_still : {me : ℕ} {old new : State} → old.me ≡ me → Calm old new → All (IsSigned me) old.log → All (IsSigned me) new.log
signed_still named calm all = (rw named at calm.signed) all

-- a change of one player that takes nothing and lets nothing go out keeps the world
pub keeps-quiet : (w : World) (r : ℕ) (p : Player) → IsWorld w → r < length w.players → Quiet (rank_at w r) p.rank → IsWorld (with_player w r p)
keeps-quiet w r p h inside quiet =
    let l = length-set w.players r p in
    let all : (x : ℕ) → x < length w.players → Quiet (rank_at w x) (player_in (set w.players r p) x).rank =
    each_player w.players r p (λ (a b : Player). Quiet a.rank b.rank) inside quiet (λ x k. quiet-same (rank_at w x) (h.sound x k)) in
    record {
      small = omega (arith, h.small, l);
      as_many = h.as_many ∙ sym l;
      named = λ x k. (all x (omega (arith, k, l))).calm.me ∙ h.named x (omega (arith, k, l));
      counted = λ x k. (all x (omega (arith, k, l))).calm.ranks ∙ h.counted x (omega (arith, k, l)) ∙ sym l;
      sound = λ x k. (all x (omega (arith, k, l))).calm.sound;
      signed = λ x k. signed_still (h.named x (omega (arith, k, l))) (all x (omega (arith, k, l))).calm (h.signed x (omega (arith, k, l)));
      posted = λ x k. rw l (h.posted x (omega (arith, k, l)));
      passed_on = λ s d i j.
          (all s (omega (arith, i, l))).calm.out d (omega (arith, h.counted s (omega (arith, i, l)), j, l))
          ∙ h.passed_on s d (omega (arith, i, l)) (omega (arith, j, l))
          ∙ ap (λ (xs : List Item). xs ++ items_from s (inbox_at w d)) (sym ((all d (omega (arith, j, l))).took s));
    }

-- what is taken is what left the inbox
took_arrived : (w : World) (r : ℕ) (passed : List (WorldRank × Item)) (source : WorldRank) (item : Item) (rest : List (WorldRank × Item)) (s d : ℕ) → r < length w.players → length w.inboxes ≡ length w.players → inbox_at w r ≡ passed ++ (source, item) ∷ rest → items_from source.number passed ≡ [] →
    arrived (with_inbox (with_player w r (with_rank (player_at w r) (logged (rank_at w r) (Took source item)))) r (passed ++ rest)) s d ≡ arrived w s d
took_arrived w r passed source item rest s d inside many found others = elim (cases_eq d r) [
  | inl same ↦
      let new = with_rank (player_at w r) (logged (rank_at w r) (Took source item)) in
      ap (λ (p : Player). took p.rank.log s ++ items_from s (get_or (set w.inboxes r (passed ++ rest)) d [])) (player-same w.players r d new same inside)
      ∙ ap (λ (xs : List (WorldRank × Item)). took (logged (rank_at w r) (Took source item)).log s ++ items_from s xs) (inbox-same w.inboxes r d (passed ++ rest) same (omega (arith, inside, many)))
      ∙ ap (λ (xs : List Item). xs ++ items_from s (passed ++ rest)) (took-push (rank_at w r).log (Took source item) s)
      ∙ append_assoc (took (rank_at w r).log s) (took_by s (Took source item)) (items_from s (passed ++ rest))
      ∙ ap (λ (xs : List Item). took (rank_at w r).log s ++ xs) (from-passed s passed (source, item) rest others)
      ∙ ap (λ (xs : List (WorldRank × Item)). took (rank_at w r).log s ++ items_from s xs) (sym found)
      ∙ ap (λ i. arrived w s i) (sym same)
  | inr other ↦
      let new = with_rank (player_at w r) (logged (rank_at w r) (Took source item)) in
      ap (λ (p : Player). took p.rank.log s ++ items_from s (get_or (set w.inboxes r (passed ++ rest)) d [])) (player-other w.players r d new other)
      ∙ ap (λ (xs : List (WorldRank × Item)). took (rank_at w d).log s ++ items_from s xs) (inbox-other w.inboxes r d (passed ++ rest) other)
]

-- what is left in an inbox was posted, and so was what is taken
pub posted-taken : (w : World) (r : ℕ) (passed : List (WorldRank × Item)) {w' : World} → IsWorld w → (t : Takes w r passed w') → IsPosted (length w.players) (t.source, t.item)
posted-taken w r passed h t = All-head (IsPosted (length w.players)) (t.source, t.item) t.rest (all-parts (IsPosted (length w.players)) passed ((t.source, t.item) ∷ t.rest) (subst (λ (xs : List (WorldRank × Item)). All (IsPosted (length w.players)) xs) t.found (h.posted r t.inside))).1

posted-passed : (w : World) (r : ℕ) (passed : List (WorldRank × Item)) {w' : World} → IsWorld w → (t : Takes w r passed w') → All (IsPosted (length w.players)) (passed ++ t.rest)
posted-passed w r passed h t =
    let all = all-parts (IsPosted (length w.players)) passed ((t.source, t.item) ∷ t.rest) (subst (λ (xs : List (WorldRank × Item)). All (IsPosted (length w.players)) xs) t.found (h.posted r t.inside)) in
    All-append (IsPosted (length w.players)) passed t.rest all.0 (All-tail (IsPosted (length w.players)) (t.source, t.item) t.rest all.1)

pub keeps-takes : (w : World) (r : ℕ) (passed : List (WorldRank × Item)) {w' : World} → IsWorld w → Takes w r passed w' → IsWorld w'
keeps-takes w r passed h t =
    let p = with_rank (player_at w r) (logged (rank_at w r) (Took t.source t.item)) in
    let l = length-set w.players r p in
    let m = length-set w.inboxes r (passed ++ t.rest) in
    let all : (x : ℕ) → x < length w.players → Calm (rank_at w x) (player_in (set w.players r p) x).rank =
    each_player w.players r p (λ (a b : Player). Calm a.rank b.rank) t.inside (calm-took (rank_at w r) t.source t.item (h.sound r t.inside)) (λ x k. calm-same (rank_at w x) (h.sound x k)) in
    rw t.only (record {
      small = omega (arith, h.small, l);
      as_many = m ∙ h.as_many ∙ sym l;
      named = λ x k. (all x (omega (arith, k, l))).me ∙ h.named x (omega (arith, k, l));
      counted = λ x k. (all x (omega (arith, k, l))).ranks ∙ h.counted x (omega (arith, k, l)) ∙ sym l;
      sound = λ x k. (all x (omega (arith, k, l))).sound;
      signed = λ x k. signed_still (h.named x (omega (arith, k, l))) (all x (omega (arith, k, l))) (h.signed x (omega (arith, k, l)));
      posted = λ x k.
          rw l (each_inbox w.inboxes r (length w.players) (passed ++ t.rest) (λ (items : List (WorldRank × Item)). All (IsPosted (length w.players)) items) (omega (arith, t.inside, h.as_many)) (posted-passed w r passed h t) h.posted x (omega (arith, k, l)));
      passed_on = λ s d i j.
          (all s (omega (arith, i, l))).out d (omega (arith, h.counted s (omega (arith, i, l)), j, l))
          ∙ h.passed_on s d (omega (arith, i, l)) (omega (arith, j, l))
          ∙ sym (took_arrived w r passed t.source t.item t.rest s d t.inside h.as_many t.found t.of_others);
    })
