-- The world that starts.
use Rattle.std.proofs.Common.{◌≡◌, ℕ, zero, suc, ◌+◌, ◌<◌, ◌≤◌, List, [], ◌∷◌, ◌++◌, length, get_or, replicate, refl, ap, sym, subst, ◌∙◌, arith, inl, inr, length-append, Some, None, All}
use Rattle.ulfm_world.proofs.Common.{WorldRank, Item, the_player, players_of, parts, IsPosted, IsWorld, items_from, cases_lt, le-ltb, lt-leb, All-nil, CallError, OutOfMemory, took, IsSigned, World, player_in, no_player, inbox_at, start_players, start_world, Player, PlayerView, start_player, length-replicate, get_or_append_left, get_or_at, map_push, IsState, went_out, no_mark, start_state, get_or-blank, Room}
use Rattle.ulfm_board.specs.Known.{Known, nothing_known}
use Rattle.ulfm_rank.specs.Checks.{Passes, FailsOrStarves, start_checks}

pub length-start : (n k : ℕ) → length (start_players n k) ≡ k
length-start n zero = refl
length-start n (suc k) = omega (arith, length-append (start_players n k) (start_player k n ∷ []), length-start n k)

pub player-start : (n k r : ℕ) → r < k → player_in (start_players n k) r ≡ start_player r n
player-start n zero r h = absurd (omega (arith, h))
player-start n (suc k) r h = elim (cases_lt r k) [
  | inl lower ↦ get_or_append_left (start_players n k) (start_player k n ∷ []) no_player r (omega (arith, length-start n k)) ∙ player-start n k r lower
  | inr last ↦
      let same : r ≡ k = omega arith in
      ap (λ i. player_in (start_players n k ++ start_player k n ∷ []) i) same ∙ get_or_at (start_players n k) (start_player k n) [] no_player k (length-start n k) ∙ ap (λ i. start_player i n) (sym same)
]

inbox-start : (n d : ℕ) → get_or (replicate n (let xs : List (WorldRank × Item) = [] in xs)) d [] ≡ []
inbox-start zero d = refl
inbox-start (suc n) zero = refl
inbox-start (suc n) (suc d) = inbox-start n d

sound-start : (me n : ℕ) → me < n → n ≤ 8 → IsState (start_state me n)
sound-start me n h small = record {
  small = small;
  me = h;
  sized = length-replicate n no_mark;
  within = λ d k. rw (get_or-blank n d no_mark) (omega arith);
  no_notice = λ s d k. rw (get_or-blank n d no_mark) refl;
  no_own_notice = rw (get_or-blank n me no_mark) refl;
}

pub world-start : (n : ℕ) (room : Room) → n ≤ 8 → IsWorld (start_world n room)
world-start n room small = record {
  small = omega (arith, length-start n n);
  as_many = length-replicate n [] ∙ sym (length-start n n);
  named = λ r k. ap (λ (p : Player). p.rank.me) (player-start n n r (omega (arith, k, length-start n n)));
  counted = λ r k. ap (λ (p : Player). p.rank.ranks) (player-start n n r (omega (arith, k, length-start n n))) ∙ sym (length-start n n);
  sound = λ r k.
      subst (λ (p : Player). IsState p.rank) (sym (player-start n n r (omega (arith, k, length-start n n)))) (sound-start r n (omega (arith, k, length-start n n)) small);
  signed = λ r k.
      subst (λ (p : Player). All (IsSigned r) p.rank.log) (sym (player-start n n r (omega (arith, k, length-start n n)))) (All-nil (IsSigned r));
  posted = λ r k.
      subst (λ (xs : List (WorldRank × Item)). All (IsPosted (length (start_players n n))) xs) (sym (inbox-start n r)) (All-nil (IsPosted (length (start_players n n))));
  passed_on = λ s d i j.
      ap (λ (p : Player). went_out p.rank d) (player-start n n s (omega (arith, i, length-start n n)))
      ∙ rw (get_or-blank n d no_mark) (ap (λ (xs : List (WorldRank × Item)). items_from s xs) (sym (inbox-start n d)))
      ∙ ap (λ (p : Player). took p.rank.log s ++ items_from s (inbox_at (start_world n room) d)) (sym (player-start n n d (omega (arith, j, length-start n n))));
}

-- what a loop over the ranks made
pub new_world : (views : List PlayerView) {inboxes : List (List (WorldRank × Item))} {r : ℕ} (n : ℕ) (room : Room) (decided : Known) → players_of views ≡ start_players n r → inboxes ≡ replicate r [] → r ≡ n → decided ≡ nothing_known → parts views inboxes room decided ≡ start_world n room
new_world views {inboxes} n room decided p q e none =
    ap (λ (ps : List Player). let w : World = record { players = ps; inboxes = inboxes; room = room; decided = decided } in w) (p ∙ ap (start_players n) e)
    ∙ ap (λ (is : List (List (WorldRank × Item))). let w : World = record { players = start_players n n; inboxes = is; room = room; decided = decided } in w) (q ∙ ap (λ k. replicate k ([])) e)
    ∙ ap (λ (ds : Known). let w : World = record { players = start_players n n; inboxes = replicate n []; room = room; decided = ds } in w) none

-- a player of one of 1 to 8 ranks is refused by out of memory alone
pub starts_or_starves : (me n : ℕ) (e : CallError) → me < n → n ≤ 8 → FailsOrStarves (start_checks me n) e → e ≡ OutOfMemory
starts_or_starves me n e inside small h = starved h (passes me n inside small)
  where
    passes : (me n : ℕ) → me < n → n ≤ 8 → Passes (start_checks me n)
    passes me n inside small = rw (le-ltb n 1 (omega arith), le-ltb 8 n small, lt-leb n me inside) refl

    starved : FailsOrStarves (start_checks me n) e → Passes (start_checks me n) → e ≡ OutOfMemory
    starved (inl fails) p = let bad : None ≡ Some e = sym p ∙ fails in let f : ⊥ = cc in absurd f
    starved (inr k) p = k.1

replicate-push : (n : ℕ) → replicate n (let xs : List (WorldRank × Item) = [] in xs) ++ [] ∷ [] ≡ replicate (suc n) []
replicate-push zero = refl
replicate-push (suc n) = ap (λ (is : List (List (WorldRank × Item))). [] ∷ is) (replicate-push n)

-- one rank more
pub more_players : (views views' : List PlayerView) (v : PlayerView) (n r : ℕ) → players_of views ≡ start_players n r → views' ≡ views ++ v ∷ [] → v.player ≡ start_player r n → players_of views' ≡ start_players n (r + 1)
more_players views views' v n r were longer starts =
    let next : suc r ≡ r + 1 = omega arith in
    ap players_of longer ∙ map_push the_player views v
    ∙ ap (λ (ps : List Player). ps ++ v.player ∷ []) were
    ∙ ap (λ (p : Player). start_players n r ++ p ∷ []) starts
    ∙ ap (start_players n) next

pub more_inboxes : {inboxes inboxes' : List (List (WorldRank × Item))} {items : List (WorldRank × Item)} (r : ℕ) → inboxes ≡ replicate r [] → inboxes' ≡ inboxes ++ items ∷ [] → items ≡ [] → inboxes' ≡ replicate (r + 1) []
more_inboxes {items} r were longer none =
    let next : suc r ≡ r + 1 = omega arith in
    longer
    ∙ ap (λ (is : List (List (WorldRank × Item))). is ++ items ∷ []) were
    ∙ ap (λ (xs : List (WorldRank × Item)). replicate r [] ++ xs ∷ []) none
    ∙ replicate-push r
    ∙ ap (λ k. replicate k (let xs : List (WorldRank × Item) = [] in xs)) next
