-- What holds of each player of a world, with what is known for its rank, whatever comes next.
use Rattle.std.proofs.Common.{◌≡◌, ◌≢◌, ℕ, ◌<◌, false, List, [], length, set, refl, ap, sym, ◌∙◌, arith, inl, inr, length-set, get_or-set_same, get_or-set_other, Option, Some, None, replicate}
use Rattle.ulfm_world.proofs.Common.{Context, WorldRank, Item, Topic, Decision, none-some, Took, is_stopped, State, logged, Player, with_rank, Decide, World, player_in, player_at, rank_at, start_player, start_world, Happens, Pushes, Takes, cases_eq, Known, IsDecided, get_or-replicate, length-replicate, known_for, stopped-push, or-false, Room}
use Rattle.ulfm_board.specs.Known.{Agrees, Answers as BoardAnswers, known_at, nothing_known, number_of, with_known}
use Rattle.ulfm_board.proofs.Topics.{known_other, known_with, topics_apart}
use Rattle.ulfm_script.specs.inside.SoFar.{OnlyTakes}
use Rattle.ulfm_script.proofs.Adopted.{agreed, keeps-answered}
use Rattle.ulfm_script.proofs.Takes.{takes-none, takes-one}
use Rattle.ulfm_world.specs.inside.Rounds.{AllSoFar}
use Rattle.ulfm_world.proofs.Changed.{player-same, player-other}
use Rattle.ulfm_world.proofs.Starts.{player-start, length-start}

-- what a decision that is adopted, or the want of memory, keeps of a player
abbrev pub KeptByDecisions : (Known → Player → Type 0) → Type 0
KeptByDecisions Holds = (known later : Known) (p : Player) (comm : Context) (q : Player) → Holds known p → is_stopped p.rank.log ≡ false → IsDecided p comm (Some []) known q later → Holds later q

-- what moves between a player and its end keeps of it
abbrev pub KeptByMoves : (Known → Player → Type 0) → Type 0
KeptByMoves Holds = (known : Known) (p : Player) (r : State) → Holds known p → r.me ≡ p.rank.me → r.ranks ≡ p.rank.ranks → is_stopped r.log ≡ is_stopped p.rank.log → OnlyTakes p.rank.log r.log → Holds known (with_rank p r)

agrees_with : (o : Option Decision) (held : Decision) → ((d : Decision) → o ≡ Some d → d ≡ held) → Agrees o held
agrees_with None held same = tt
agrees_with (Some d) held same = same d refl

-- where what is known at one place is held at another, and nothing is held there, nothing is known
unknown_too : (known held : Option Decision) → ((d : Decision) → known ≡ Some d → held ≡ Some d) → held ≡ None → known ≡ None
unknown_too None held holds none = refl
unknown_too (Some d) held holds none = absurd (none-some d (sym none ∙ holds d refl))

module _ (Holds : Known → Player → Type 0) where
  -- one player is another, and the same is decided
  all-kept : (w w' : World) (r : ℕ) (p : Player) → r < length w.players → w'.players ≡ set w.players r p → w'.decided ≡ w.decided → (h : AllSoFar Holds w) → Holds (known_for h.knows r) p → AllSoFar Holds w'
  all-kept w w' r p inside players decided h honest =
      let size : length w'.players ≡ length w.players = ap (λ (ps : List Player). length ps) players ∙ length-set w.players r p in
      record {
        knows = h.knows;
        many = h.many ∙ sym size;
        held = λ x c d i knows. ap (λ (ds : Known). known_at ds c) decided ∙ h.held x c d (omega (arith, i, size)) knows;
        honest = λ x i.
            rw (ap (λ (ps : List Player). player_in ps x) players) (elim (cases_eq x r) [
              | inl same ↦ rw (player-same w.players r x p same inside) (rw same honest)
              | inr other ↦ rw (player-other w.players r x p other) (h.honest x (omega (arith, i, size)))
            ]);
      }

  pub all-set : (w w' : World) (r : ℕ) (p : Player) → r < length w.players → w'.players ≡ set w.players r p → w'.decided ≡ w.decided → ((known : Known) → Holds known (player_at w r) → Holds known p) → AllSoFar Holds w → AllSoFar Holds w'
  all-set w w' r p inside players decided keeps h = all-kept w w' r p inside players decided h (keeps (known_for h.knows r) (h.honest r inside))

  pub all-pushes : KeptByMoves Holds → (w : World) (s d : ℕ) (w' : World) → Pushes w s d w' → AllSoFar Holds w → AllSoFar Holds w'
  all-pushes moves w s d w' t h =
      let p = player_at w s in
      let same : t.after.log ≡ (rank_at w s).log = ap (λ (r : State). r.log) t.leaves.marked in
      all-set w w' s (with_rank p t.after) t.inside_s (ap (λ (x : World). x.players) t.only) (ap (λ (x : World). x.decided) t.only)
      (λ known q. moves known p t.after q (ap (λ (r : State). r.me) t.leaves.marked) (ap (λ (r : State). r.ranks) t.leaves.marked) (ap is_stopped same) (takes-none (rank_at w s).log t.after.log same)) h

  pub all-takes : KeptByMoves Holds → (w : World) (r : ℕ) (passed : List (WorldRank × Item)) (w' : World) → Takes w r passed w' → AllSoFar Holds w → AllSoFar Holds w'
  all-takes moves w r passed w' t h =
      let after = logged (rank_at w r) (Took t.source t.item) in
      all-set w w' r (with_rank (player_at w r) after) t.inside (ap (λ (x : World). x.players) t.only) (ap (λ (x : World). x.decided) t.only)
      (λ known q. moves known (player_at w r) after q refl refl (stopped-push (rank_at w r).log (Took t.source t.item) ∙ or-false (is_stopped (rank_at w r).log)) (takes-one (rank_at w r).log after.log t.source t.item t.running refl)) h

  -- a decision that is held is known for its rank from now on
  module _ (w : World) (h : AllSoFar Holds w) (r : ℕ) (inside : r < length w.players) (proposal held : Decision) (later : Known) (a : BoardAnswers None w.decided proposal held later) where
    abbrev topic : Topic
    topic = proposal.topic

    abbrev now : Known
    now = with_known (known_for h.knows r) topic held

    before : Agrees (known_at (known_for h.knows r) topic) held
    before = agrees_with (known_at (known_for h.knows r) topic) held (λ d e. agreed (known_at w.decided topic) held d a.as_before (h.held r topic d inside e))

    now_here : known_at now topic ≡ Some held
    now_here = known_with (known_for h.knows r) topic held before

    board_answers : BoardAnswers (Some []) (known_for h.knows r) proposal held now
    board_answers = record {
      as_before = before;
      first_stays = λ e none. absurd (cc);
      known_now = now_here;
      others_stay = refl;
    }

    -- what was decided stays so
    stays : (c : Topic) (d : Decision) → known_at w.decided c ≡ Some d → known_at later c ≡ Some d
    stays c d e = keeps-answered None w.decided proposal held later a c d e

    -- and what is known for the rank is held
    now_held : (c : Topic) (d : Decision) → known_at now c ≡ Some d → known_at later c ≡ Some d
    now_held c d e = elim (cases_eq (number_of c) (number_of topic)) [
      | inl cell ↦ let same = topics_apart c topic cell in ap (known_at later) same ∙ a.known_now ∙ sym now_here ∙ ap (known_at now) (sym same) ∙ e
      | inr other ↦ stays c d (h.held r c d inside (sym (known_other (known_for h.knows r) c topic held other) ∙ e))
    ]

    -- the world after it, where this player has its answer
    all-held : {p : Player} (w' : World) → w'.players ≡ set w.players r p → w'.decided ≡ later → Holds now p → AllSoFar Holds w'
    all-held {p} w' players decided honest =
        let size : length w'.players ≡ length w.players = ap (λ (ps : List Player). length ps) players ∙ length-set w.players r p in
        let ks = set h.knows r now in
        let here : (x : ℕ) → x ≡ r → known_for ks x ≡ now = λ x same. ap (known_for ks) same ∙ get_or-set_same h.knows r now [] (omega (arith, inside, h.many)) in
        let there : (x : ℕ) → x ≢ r → known_for ks x ≡ known_for h.knows x = λ x other. get_or-set_other h.knows r x now [] other in
        record {
          knows = ks;
          many = length-set h.knows r now ∙ h.many ∙ sym size;
          held = λ x c d i e. ap (λ (k : Known). known_at k c) decided ∙ elim (cases_eq x r) [
            | inl same ↦ now_held c d (ap (λ (k : Known). known_at k c) (sym (here x same)) ∙ e)
            | inr other ↦ stays c d (h.held x c d (omega (arith, i, size)) (ap (λ (k : Known). known_at k c) (sym (there x other)) ∙ e))
          ];
          honest = λ x i.
              let at : player_at w' x ≡ player_in (set w.players r p) x = ap (λ (ps : List Player). player_in ps x) players in
              elim (cases_eq x r) [
                | inl same ↦ rw (here x same) (rw (at ∙ player-same w.players r x p same inside) honest)
                | inr other ↦ rw (there x other) (rw (at ∙ player-other w.players r x p other) (h.honest x (omega (arith, i, size))))
              ];
        }

  pub all-decides : KeptByDecisions Holds → (w : World) (r : ℕ) (comm : Context) (w' : World) → Happens w (Decide r comm) w' → AllSoFar Holds w → AllSoFar Holds w'
  all-decides decides w r comm w' t h =
      let s = t.2 in let d = s.decided in
      elim d.decision.outcome [
        | inl a ↦
            let known = known_for h.knows r in
            let later = now w h r s.inside d.decision.proposal a.held t.1 a.board_answers in
            let own : IsDecided (player_at w r) comm (Some []) known s.after later = record {
              asked = d.asked;
              waits = d.waits;
              on = d.on;
              answer = d.answer;
              rank = d.rank;
              decision = record {
                topic = d.decision.topic;
                about = d.decision.about;
                accepted = d.decision.accepted;
                proposal = d.decision.proposal;
                proposed = d.decision.proposed;
                outcome = inl (record { held = a.held; board_answers = board_answers w h r s.inside d.decision.proposal a.held t.1 a.board_answers; adoption = a.adoption });
              };
              only = d.only;
            } in
            all-held w h r s.inside d.decision.proposal a.held t.1 a.board_answers w' (ap (λ (x : World). x.players) t.3 ∙ s.only) (ap (λ (x : World). x.decided) t.3) (decides known later (player_at w r) comm s.after (h.honest r s.inside) s.running own)
        | inr starves ↦
            let known = known_for h.knows r in
            let unknown : known_at known d.decision.proposal.topic ≡ None =
            unknown_too (known_at known d.decision.proposal.topic) (known_at w.decided d.decision.proposal.topic) (λ held e. h.held r d.decision.proposal.topic held s.inside e) starves.starves.unknown in
            let own : IsDecided (player_at w r) comm (Some []) known s.after known = record {
              asked = d.asked;
              waits = d.waits;
              on = d.on;
              answer = d.answer;
              rank = d.rank;
              decision = record {
                topic = d.decision.topic;
                about = d.decision.about;
                accepted = d.decision.accepted;
                proposal = d.decision.proposal;
                proposed = d.decision.proposed;
                outcome = inr (record { starves = record { unknown = unknown }; known_stay = refl; refused = starves.refused; rank_stays = starves.rank_stays });
              };
              only = d.only;
            } in
            all-kept w w' r s.after s.inside (ap (λ (x : World). x.players) t.3 ∙ s.only) (ap (λ (x : World). x.decided) t.3 ∙ starves.known_stay) h (decides known known (player_at w r) comm s.after (h.honest r s.inside) s.running own)
      ]

  -- ranks that start
  pub all-start : ((known : Known) (me n : ℕ) → Holds known (start_player me n)) → (n : ℕ) (room : Room) → AllSoFar Holds (start_world n room)
  all-start starts n room = record {
    knows = replicate n nothing_known;
    many = length-replicate n nothing_known ∙ sym (length-start n n);
    held = λ r c d i e. ap (λ (k : Known). known_at k c) (sym (none_known r (omega (arith, i, length-start n n)))) ∙ e;
    honest = λ r i.
        rw (player-start n n r (omega (arith, i, length-start n n))) (starts (known_for (replicate n nothing_known) r) r n);
  }
    where
      none_known : (r : ℕ) → r < n → known_for (replicate n nothing_known) r ≡ nothing_known
      none_known r inside = get_or-replicate n r nothing_known [] inside
