-- Players with their places, and a change of one of them.
use Rattle.std.proofs.Common.{◌≡◌, ◌≢◌, ℕ, ◌<◌, List, [], ◌∷◌, ◌++◌, length, take, drop, get_or, set, ap, sym, subst, ◌∙◌, arith, take_all, append-nil}
use Rattle.ulfm_board.specs.Known.{Known}
use Rattle.ulfm_world.proofs.Common.{WorldRank, Item, Took, logged, GoesOut, IsPosted, items_from, All-head, World, player_in, no_player, with_inbox, with_players, Pushes, Takes, Player, PlayerView, with_rank, map-set, get_or-map, set-get_or, length-map, drop_all, get_or_default, Room, HasRoom}
use Rattle.ulfm_world.specs.Parts.{the_player, players_of, parts}
use Rattle.ulfm_world.specs.inside.Steps.{AreParts, HandsOver, IsHeldBack, IsLivePlayer}
use Rattle.ulfm_log.specs.State.{outbox}
use Rattle.ulfm_world.specs.Room.{IsFull}
use Rattle.ulfm_world.specs.World.{IsRefused}
use Rattle.ulfm_world.specs.declared.event.Event.TheVariants.{Push}
use Rattle.ulfm_world.specs.declared.event.Refused.{Refused}
use Rattle.ulfm_world.specs.declared.event.Refused.TheVariants.{NothingToPush, InboxFull, OutOfMemory}
use Rattle.ulfm_world.proofs.Senders.{all-parts}

pub read_player : (views : List PlayerView) (r : ℕ) (d : PlayerView) → r < length views → player_in (players_of views) r ≡ (get_or views r d).player
read_player views r d h = get_or-map the_player views r d no_player h

-- a player that is one of these has a place among them
pub live_inside : (views : List PlayerView) (r : ℕ) → IsLivePlayer (players_of views) r → r < length views
live_inside views r live = omega (arith, live.0, length-map views the_player)

-- what a reading of the player r gives
pub seen_player : (views : List PlayerView) (r : ℕ) {v : PlayerView} → r < length views → v ≡ get_or views r v → player_in (players_of views) r ≡ v.player
seen_player views r {v} h e = read_player views r v h ∙ ap (λ (x : PlayerView). x.player) (sym e)

pub players-set : (views : List PlayerView) (r : ℕ) (v : PlayerView) → players_of (set views r v) ≡ set (players_of views) r v.player
players-set views r v = map-set the_player views r v

pub players-same : (views : List PlayerView) (r : ℕ) (v d : PlayerView) → r < length views → v.player ≡ (get_or views r d).player → players_of (set views r v) ≡ players_of views
players-same views r v d h same =
    players-set views r v
    ∙ ap (set (players_of views) r) (same ∙ sym (read_player views r d h))
    ∙ set-get_or (players_of views) r no_player

-- what a borrowed slice of a `Vec` leaves in it
pub lent_whole : {X : Type 0} → (xs ys : List X) (n : ℕ) → length ys ≡ length xs → n ≡ length xs → take n (ys ++ drop (length ys) xs) ≡ ys
lent_whole xs ys n l m = rw (drop_all (length ys) xs (omega arith)) (ap (take n) (append-nil ys) ∙ take_all n ys (omega arith))

pub same_parts : (views views' : List PlayerView) (inboxes inboxes' : List (List (WorldRank × Item))) (room : Room) (decided decided' : Known) → players_of views' ≡ players_of views → inboxes' ≡ inboxes → decided' ≡ decided → parts views' inboxes' room decided' ≡ parts views inboxes room decided
same_parts views views' inboxes inboxes' room decided decided' p q e =
    ap (λ (ps : List Player). let w : World = record { players = ps; inboxes = inboxes'; room = room; decided = decided' } in w) p
    ∙ ap (λ (is : List (List (WorldRank × Item))). let w : World = record { players = players_of views; inboxes = is; room = room; decided = decided' } in w) q
    ∙ ap (λ (ds : Known). let w : World = record { players = players_of views; inboxes = inboxes; room = room; decided = ds } in w) e

-- the parts after a change of one player and one inbox
pub parts-set : (views : List PlayerView) (inboxes : List (List (WorldRank × Item))) (room : Room) (decided : Known) (s d : ℕ) (v : PlayerView) (p : Player) (xs ys : List (WorldRank × Item)) →
    v.player ≡ p → xs ≡ ys → parts (set views s v) (set inboxes d xs) room decided ≡ with_inbox (with_players (parts views inboxes room decided) (set (players_of views) s p)) d ys
parts-set views inboxes room decided s d v p xs ys e f =
    ap (λ (ps : List Player). let w : World = record { players = ps; inboxes = set inboxes d xs; room = room; decided = decided } in w) (players-set views s v ∙ ap (set (players_of views) s) e)
    ∙ ap (λ (zs : List (WorldRank × Item)). let w : World = record { players = set (players_of views) s p; inboxes = set inboxes d zs; room = room; decided = decided } in w) f

-- what the inbox of r holds, however it is read
pub read_inbox : (views : List PlayerView) {inboxes : List (List (WorldRank × Item))} (r : ℕ) (d : List (WorldRank × Item)) → AreParts (players_of views) inboxes → r < length views → get_or inboxes r d ≡ get_or inboxes r []
read_inbox views {inboxes} r d h inside = get_or_default inboxes r d [] (omega (arith, inside, length-map views the_player, h.as_many))

-- an item of an inbox was posted
pub taken_posted : (views : List PlayerView) {inboxes : List (List (WorldRank × Item))} (r : ℕ) (d passed : List (WorldRank × Item)) (x : WorldRank × Item) (rest : List (WorldRank × Item)) → AreParts (players_of views) inboxes → r < length views → get_or inboxes r d ≡ passed ++ x ∷ rest → IsPosted (length (players_of views)) x
taken_posted views {inboxes} r d passed x rest h inside found =
    let all = rw (sym (read_inbox views r d h inside) ∙ found) at (h.posted r (omega (arith, inside, length-map views the_player))) in
    All-head (IsPosted (length (players_of views))) x rest (all-parts (IsPosted (length (players_of views))) passed (x ∷ rest) all).1

-- an item that was taken out of an inbox, past those of others, and that went to the log
unfoldable pub takes_done : (views : List PlayerView) (inboxes : List (List (WorldRank × Item))) (r : ℕ) (room : Room) (decided : Known) (v d : PlayerView) (e passed rest left : List (WorldRank × Item)) (source : WorldRank) (item : Item) → AreParts (players_of views) inboxes → IsLivePlayer (players_of views) r →
    get_or inboxes r e ≡ passed ++ (source, item) ∷ rest → items_from source.number passed ≡ [] → v.player ≡ with_rank (get_or views r d).player (logged (get_or views r d).player.rank (Took source item)) → left ≡ passed ++ rest →
    Takes (parts views inboxes room decided) r passed (parts (set views r v) (set inboxes r left) room decided)
takes_done views inboxes r room decided v d e passed rest left source item h live found others took still =
    let inside = live_inside views r live in
    let read = read_player views r d inside in
    record {
      inside = live.0;
      running = live.1;
      source = source;
      item = item;
      rest = rest;
      found = sym (read_inbox views r e h inside) ∙ found;
      of_others = others;
      only = parts-set views inboxes room decided r r v _ left (passed ++ rest) (took ∙ ap (λ (p : Player). with_rank p (logged p.rank (Took source item))) (sym read)) still;
    }

-- an item that was handed over is pushed
pub pushes_done : (views : List PlayerView) (inboxes : List (List (WorldRank × Item))) (s d : ℕ) (room : Room) (decided : Known) (v e : PlayerView) (later f : List (WorldRank × Item)) (sender : WorldRank) → length inboxes ≡ length (players_of views) → s < length views → d < length views → sender.number ≡ s →
    HandsOver (get_or views s e).player (get_or inboxes d f) room sender d v.player later → Pushes (parts views inboxes room decided) s d (parts (set views s v) (set inboxes d later) room decided)
pushes_done views inboxes s d room decided v e later f sender many inside_s inside_d named h =
    let l = length-map views the_player in
    let read = read_player views s e inside_s in
    let same : get_or inboxes d f ≡ get_or inboxes d [] = get_or_default inboxes d f [] (omega (arith, inside_d, l, many)) in
    record {
      inside_s = omega (arith, inside_s, l);
      inside_d = omega (arith, inside_d, l);
      room = subst (λ (k : ℕ). HasRoom room k (get_or inboxes d [])) named (subst (λ (xs : List (WorldRank × Item)). HasRoom room sender.number xs) same h.fits);
      sender = sender;
      is_sender = named;
      item = h.item;
      after = v.player.rank;
      leaves = subst (λ (p : Player). GoesOut p.rank v.player.rank d h.item) (sym read) h.leaves;
      only = parts-set views inboxes room decided s d v _ later _ (h.only ∙ ap (λ (p : Player). with_rank p v.player.rank) (sym read)) (h.added ∙ ap (λ (xs : List (WorldRank × Item)). xs ++ (sender, h.item) ∷ []) same);
    }

-- why nothing is pushed
pub pushes_none : (views : List PlayerView) (inboxes : List (List (WorldRank × Item))) (s d : ℕ) (room : Room) (decided : Known) (e : PlayerView) (f : List (WorldRank × Item)) (why : Refused) → length inboxes ≡ length (players_of views) → s < length views → d < length views →
    IsHeldBack (outbox (get_or views s e).player.rank d) (get_or inboxes d f) room s why → IsRefused (parts views inboxes room decided) (Push s d) why
pushes_none views inboxes s d room decided e f why many inside_s inside_d h = cause why h
  where
    from_s : s < length (players_of views)
    from_s = omega (arith, inside_s, length-map views the_player)

    to_d : d < length (players_of views)
    to_d = omega (arith, inside_d, length-map views the_player)

    read : player_in (players_of views) s ≡ (get_or views s e).player
    read = read_player views s e inside_s

    same : get_or inboxes d f ≡ get_or inboxes d []
    same = get_or_default inboxes d f [] (omega (arith, inside_d, length-map views the_player, many))

    cause : (why : Refused) → IsHeldBack (outbox (get_or views s e).player.rank d) (get_or inboxes d f) room s why → IsRefused (parts views inboxes room decided) (Push s d) why
    cause NothingToPush h = (from_s, to_d, subst (λ (p : Player). outbox p.rank d ≡ []) (sym read) h)
    cause InboxFull h = (from_s, to_d, subst (λ (p : Player). outbox p.rank d ≢ []) (sym read) h.0, subst (λ (xs : List (WorldRank × Item)). IsFull room s xs) same h.1)
    cause OutOfMemory h = (from_s, to_d, subst (λ (p : Player). outbox p.rank d ≢ []) (sym read) h.0, subst (λ (xs : List (WorldRank × Item)). HasRoom room s xs) same h.1)
    cause _ h = absurd h.1
