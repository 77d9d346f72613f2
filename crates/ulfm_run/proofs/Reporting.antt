-- From what the threads gave back to the report of a run.
use Rattle.std.proofs.Common.{◌≡◌, ◌≤◌, ℕ, List, ◌++◌, length, map, refl, ap, sym, ◌∙◌, subst, arith, All, Some, Option, inl, inr}
use Rattle.ulfm_board.specs.Known.{OneBoard}
use Rattle.ulfm_script.specs.Meant.{played_script}
use Rattle.ulfm_script.specs.Played.{FollowsScript}
use Rattle.ulfm_answer.specs.Reacting.{SkipsRightly}
use Rattle.ulfm_script.specs.Script.{through_stop, GivesUpRightly}
use Rattle.ulfm_report_laws.specs.Answers.{AllAgree, AllFollowScripts}
use Rattle.ulfm_report_laws.specs.Lawful.{AreProduced}
use Rattle.ulfm_run.proofs.Common.{at, cases_lt, Global, InPlace, IsGathered, IsPlayed, Item, Keeps, Known, length-map, Report, slice_get_within, Vec, WorldRank, items_from, Flows, there, AreTrue, Ran, NameOneBoard, report_in, end_in, decider_in, WerePlayed, GaveAnswers, JobView}
use Rattle.ulfm_run.specs.Fault.{ShowUntrue, Fits}
use Rattle.ulfm_report_laws.specs.Decisions.{NoneIsForeign}
use Rattle.ulfm_report_laws.specs.Order.{HaveOneOrder}
use Rattle.ulfm_run.specs.Flow.{EndsMatchLogs, contents}
use Rattle.ulfm_run.proofs.Paired.{one_board_names}
use Rattle.ulfm_run.proofs.Flowing.{AllPlayed, carried, flowed, ordered}
use Rattle.ulfm_run.proofs.Handed.{from_map, same_maps, answers_all}

module _ {E D N : Type 0} {name : E → N} {place count : E → ℕ} {pushed taken : E → ℕ → List Item} {ready : E → Type 0} {board : D → Option (List ℕ)} {job : JobView} {ends : List E} {deciders : List D} {ran : List (Ran E D)} (h : WerePlayed name place count pushed taken ready board job ends deciders ran) where
  -- the ends that came back have the names of those that were given
  pub same_names : map name (map end_in ran) ≡ map name ends
  same_names =
      same_maps name name ends (map end_in ran) (length-map ran end_in ∙ h.as_many)
      (λ k e f p q. let r = from_map end_in ran k q in ap name (sym r.2) ∙ (h.played k e r.0 p r.1).same_end)

  -- none was gathered yet
  pub all_ready : (k : ℕ) (f : E) → at (map end_in ran) k f → ready f
  all_ready k f q =
      let r = from_map end_in ran k q in
      let inside = slice_get_within ran k r.0 r.1 in
      let e = there ends k (omega (arith, inside, h.as_many)) in
      subst ready r.2 (h.played k e.0 r.0 e.1 r.1).joined.is_ready

  pub all_played : AllPlayed name place count pushed taken ready job ends (map report_in ran) (map end_in ran)
  all_played k e r f p q s =
      let a = from_map report_in ran k q in
      let b = from_map end_in ran k s in
      let same : Some b.0 ≡ Some a.0 = sym b.1 ∙ a.1 in
      let one : b.0 ≡ a.0 = cc in
      let P : Report → E → Type 0 = λ (x : Report) (y : E). IsPlayed name place count pushed taken ready job e x y in
      subst (λ (x : Report). P x f) a.2 (subst (λ (y : E). P a.0.report y) (ap end_in (sym one) ∙ b.2) (h.played k e a.0 p a.1))

  -- each rank went through its script
  pub all_went : InPlace place ends → AllFollowScripts job (map report_in ran)
  all_went placed k r q =
      let a = from_map report_in ran k q in
      let inside = slice_get_within ran k a.0 a.1 in
      let e = there ends k (omega (arith, inside, h.as_many)) in
      let p = h.played k e.0 a.0 e.1 a.1 in
      subst (λ (x : Report). FollowsScript job k x) a.2 (record {
        counted = p.counted;
        within = λ s l. p.joined.within s (omega (arith, l, p.counted));
        steps = p.steps ∙ ap (λ i. through_stop a.0.report.steps (played_script job i a.0.report.steps)) (placed k e.0 e.1);
        patient = p.patient;
        gives = subst (λ i. GivesUpRightly job i a.0.report.steps) (placed k e.0 e.1) p.gives;
        skips = subst (λ i. SkipsRightly job.conditions i a.0.report.steps) (placed k e.0 e.1) p.skips;
      })

  -- the deciders that came back are seats of the boards of those that were given
  pub same_boards : length deciders ≡ length ends → map board (map decider_in ran) ≡ map board deciders
  same_boards many =
      same_maps board board deciders (map decider_in ran) (length-map ran decider_in ∙ h.as_many ∙ sym many)
      (λ k d f p q. let r = from_map decider_in ran k q in ap board (sym r.2) ∙ h.seated k d r.0 p r.1)

  -- they are few
  pub few_all : Fits place job ends deciders → length ran ≤ 8
  few_all fit = elim (cases_lt 8 (length ran)) [
    | inl more ↦
        let r = there ran 0 (omega (arith, more)) in let e = there ends 0 (omega (arith, more, h.as_many)) in
        let p = h.played 0 e.0 r.0 e.1 r.1 in
        absurd (omega (arith, p.joined.sound.small, p.counted, h.as_many, fit.end_each, more))
    | inr few ↦ few
  ]

  -- the flow of each pair, the order of the reports, and the lists, once the ends are gathered
  module _ (fit : Fits place job ends deciders) where
    pub flow_all : {ranks : List Report} {after : List E} {inboxes : List (Vec (WorldRank × Item) Global)} → ranks ≡ map report_in ran → Keeps name pushed taken (map end_in ran) after → IsGathered pushed taken (map end_in ran) inboxes → EndsMatchLogs pushed taken ranks after inboxes
    flow_all {after} {inboxes} is keeps settled =
        subst (λ (rs : List Report). EndsMatchLogs pushed taken rs after inboxes) (sym is)
        (carried name place count pushed taken ready job ends (map report_in ran) (map end_in ran) after (length-map ran report_in ∙ h.as_many) (length-map ran end_in ∙ h.as_many) all_played keeps settled)

    pub order_all : {ranks : List Report} → ranks ≡ map report_in ran → InPlace (λ (r : Report). r.rank.me) ranks
    order_all is =
        subst (λ (rs : List Report). InPlace (λ (r : Report). r.rank.me) rs) (sym is)
        (ordered name place count pushed taken ready job ends (map report_in ran) (map end_in ran) (length-map ran report_in ∙ h.as_many) (length-map ran end_in ∙ h.as_many) fit.placed all_played)

    pub went_all : {ranks : List Report} → ranks ≡ map report_in ran → AllFollowScripts job ranks
    went_all is = subst (AllFollowScripts job) (sym is) (all_went fit.placed)

    pub sizes_all : {after : List E} (kept : List D) {inboxes : List (Vec (WorldRank × Item) Global)} → Keeps name pushed taken (map end_in ran) after → IsGathered pushed taken (map end_in ran) inboxes → map board kept ≡ map board (map decider_in ran) →
        (length inboxes ≡ job.ranks) × (length after ≡ job.ranks) × (length kept ≡ job.ranks)
    sizes_all {after} kept keeps settled held =
        let many : length ran ≡ job.ranks = h.as_many ∙ fit.end_each in
        let mid = length-map ran end_in in (
          settled.inbox_for_each ∙ mid ∙ many,
          sym (length-map after name) ∙ ap length keeps.names ∙ length-map (map end_in ran) name ∙ mid ∙ many,
          sym (length-map kept board) ∙ ap length held ∙ length-map (map decider_in ran) board ∙ length-map ran decider_in ∙ many,
        )

    -- what is left is what the ends that came back show
    pub settled_all : {after : List E} {inboxes : List (Vec (WorldRank × Item) Global)} → Keeps name pushed taken (map end_in ran) after → IsGathered pushed taken (map end_in ran) inboxes → IsGathered pushed taken after inboxes
    settled_all {after} keeps settled =
        let many : length (map end_in ran) ≡ length after = sym (length-map (map end_in ran) name) ∙ ap length (sym keeps.names) ∙ length-map after name in
        record {
          inbox_for_each = settled.inbox_for_each ∙ many;
          flows = λ s d sender receiver inbox p q r.
              let e = there (map end_in ran) s (omega (arith, many, slice_get_within after s sender p)) in
              let f = there (map end_in ran) d (omega (arith, many, slice_get_within after d receiver q)) in
              keeps.pushed_to s e.0 sender e.1 p d ∙ settled.flows s d e.0 f.0 inbox e.1 f.1 r
              ∙ ap (λ (xs : List Item). xs ++ items_from s inbox.items) (sym (keeps.taken_from d f.0 receiver f.1 q s));
          no_others = λ s d inbox r l. settled.no_others s d inbox r (omega (arith, l, many));
        }

    pub names_all : {after : List E} → Keeps name pushed taken (map end_in ran) after → map name after ≡ map name ends
    names_all keeps = keeps.names ∙ same_names

    pub boards_all : (kept : List D) → map board kept ≡ map board (map decider_in ran) → map board kept ≡ map board deciders
    boards_all kept held = held ∙ same_boards (fit.decider_each ∙ sym fit.end_each)

    -- the deciders that came back are seats of one board
    pub board_all : OneBoard board deciders → NameOneBoard (map board (map decider_in ran))
    board_all one = subst NameOneBoard (sym (same_boards (fit.decider_each ∙ sym fit.end_each))) (one_board_names board deciders one)

    -- what the threads gave back is what an engine has to produce
    pub produced_all : (known : D → Known) → All (GaveAnswers known) ran → {ranks : List Report} (knows : List Known) {inboxes : List (Vec (WorldRank × Item) Global)} → ranks ≡ map report_in ran → knows ≡ map known (map decider_in ran) → IsGathered pushed taken (map end_in ran) inboxes → AllAgree knows → AreTrue ranks → HaveOneOrder ranks → NoneIsForeign ranks → AreProduced job (contents inboxes) knows ranks
    produced_all known answers {ranks} knows {inboxes} is held settled agreed true one_order none_foreign = record {
      each = ap length is ∙ length-map ran report_in ∙ h.as_many ∙ fit.end_each;
      known_each = ap length held ∙ length-map (map decider_in ran) known ∙ length-map ran decider_in ∙ h.as_many ∙ fit.end_each;
      order = order_all is;
      scripts = went_all is;
      flow = subst (λ (rs : List Report). Flows (contents inboxes) rs) (sym is)
          (flowed name place count pushed taken ready job ends (map report_in ran) (map end_in ran) fit.end_each (length-map ran report_in ∙ h.as_many) (length-map ran end_in ∙ h.as_many) fit.placed all_played settled);
      answers = answers_all known ran answers knows is held;
      agreed = agreed;
      decisions = true;
      none_foreign = none_foreign;
      one_order = one_order;
    }

    -- reports that show a decision that isn't true, or isn't one for its rank, or no order
    pub untrue_all : (known : D → Known) → All (GaveAnswers known) ran → {ranks : List Report} → ranks ≡ map report_in ran → (AreTrue ranks × HaveOneOrder ranks × NoneIsForeign ranks → ⊥) → ShowUntrue job ranks
    untrue_all known answers {ranks} is untrue = record {
      each = ap length is ∙ length-map ran report_in ∙ h.as_many ∙ fit.end_each;
      order = order_all is;
      scripts = went_all is;
      knows = map known (map decider_in ran);
      known_each = length-map (map decider_in ran) known ∙ length-map ran decider_in ∙ h.as_many ∙ fit.end_each;
      answered = answers_all known ran answers (map known (map decider_in ran)) is refl;
      untrue = untrue;
    }
