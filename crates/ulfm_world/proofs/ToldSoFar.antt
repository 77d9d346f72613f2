-- The reports of a world on its way, in which polls of open shrinks and agreements are left out, are lawful so far.
use Rattle.std.proofs.Common.{◌≡◌, ℕ, ◌<◌, ◌≤◌, ◌++◌, ◌⊎◌, List, [], length, map, ap, sym, subst, ◌∙◌, arith, inl, inr, Some, take, true}
use Rattle.std.proofs.lemmas.List.FromFn.{get_or-map-range_with_len, length-map-range_with_len}
use Rattle.ulfm_world.proofs.Common.{Adopted, AdoptsTruly, at, Decision, Entry, Flow, Flows, get_or_from_slice_get, inbox_at, IsWorld, items_from, known_at, Known, known_for, player_at, range_with_len, rank_at, Reaches, Report, report_of, reports_in, Room, slice_get-get_or, slice_get_within, start_world, State, Step, Took, took, Topic, topic_of, World, cases_lt, is_stopped, OutOfMemory}
use Rattle.ulfm_answer.specs.declared.answer.StepAnswer.TheVariants.{Refused, Unfinished}
use Rattle.ulfm_base.specs.declared.error.CallError.TheVariants.{NotMember}
use Rattle.ulfm_log.specs.Log.{first_given}
use Rattle.ulfm_log.specs.Proposal.{entry_of}
use Rattle.ulfm_script.specs.Answered.{AnswersFollow}
use Rattle.ulfm_script.specs.GivenUp.{given_up, TellTheSame}
use Rattle.ulfm_script.proofs.Shadows.{Shadowed}
use Rattle.ulfm_script.proofs.Telling.{ToldOf, told_so}
use Rattle.ulfm_report_laws.specs.Decisions.{AreTrue, NoneIsForeign}
use Rattle.ulfm_report_laws.specs.Order.{HaveOneOrder, Owe}
use Rattle.ulfm_report_laws.specs.Proposed.{ProposesAt, StarvesAt}
use Rattle.ulfm_report_laws.specs.Reports.{no_report, report_at}
use Rattle.ulfm_report_laws.proofs.Lawful.{AreMade, lawful_so_far}
use Rattle.ulfm_report_laws.proofs.Taken.{took_none}
use Rattle.ulfm_world.specs.SoFar.{IsLawfulSoFar}
use Rattle.ulfm_world.specs.inside.Rounds.{AllSoFar}
use Rattle.ulfm_world.proofs.Foreign.{none_foreign}
use Rattle.ulfm_world.proofs.Honesty.{true-reached}
use Rattle.ulfm_world.proofs.OneOrder.{one_order}
use Rattle.ulfm_world.proofs.Read.{flows-world, report_inside, report_is, report_there, world-reached}
use Rattle.ulfm_world.proofs.Safe.{settled-reached}
use Rattle.ulfm_world.proofs.Shadowed.{shadowed}
use Rattle.ulfm_world.proofs.ToldSteps.{else_open, kept_at, told_here, told_there}
use Rattle.ulfm_world.proofs.Truly.{both_agree, decisions_true, one_pairing}

module _ (n : ℕ) (room : Room) (w : World) (small : n ≤ 8) (h : Reaches (start_world n room) w) where
  so_far : AllSoFar Shadowed w
  so_far = shadowed n room w small h

  world : IsWorld w
  world = world-reached n room w small h

  told_at : (r : ℕ) → r < length w.players → ToldOf (known_for so_far.knows r) (player_at w r)
  told_at r i = told_so (known_for so_far.knows r) (player_at w r) (one_pairing (player_at w r) (true-reached n room w small h r i)) (so_far.honest r i)

  -- the report of the rank r, if there is one
  abbrev chosen : (r : ℕ) → (r < length w.players) ⊎ (length w.players ≤ r) → Report
  chosen r (inl i) = (told_at r i).report
  chosen r (inr far) = no_report

  abbrev report_for : ℕ → Report
  report_for r = chosen r (cases_lt r (length w.players))

  record IsRight (r : ℕ) (told : Report) : Type 0 where
    rank : told.rank ≡ rank_at w r
    steps : TellTheSame told.steps (given_up (player_at w r)).done
    follows : AnswersFollow (known_for so_far.knows r) told

  right_chosen : (r : ℕ) (c : (r < length w.players) ⊎ (length w.players ≤ r)) → r < length w.players → IsRight r (chosen r c)
  right_chosen r (inl i) inside = let t = told_at r i in record { rank = t.rank; steps = t.steps; follows = t.follows }
  right_chosen r (inr far) inside = absurd (omega (arith, inside, far))

  right : (r : ℕ) → r < length w.players → IsRight r (report_for r)
  right r inside = right_chosen r (cases_lt r (length w.players)) inside

  abbrev reports : List Report
  reports = map report_for (range_with_len 0 (length w.players))

  many_told : length reports ≡ length w.players
  many_told = length-map-range_with_len report_for 0 (length w.players)

  read : (r : ℕ) → r < length w.players → report_at reports r ≡ report_for r
  read r inside = get_or-map-range_with_len report_for 0 (length w.players) r r no_report inside (omega arith)

  inside_of : (r : ℕ) (told : Report) → at reports r told → r < length w.players
  inside_of r told here = let within = slice_get_within reports r told here in omega (arith, within, many_told)

  told_is : (r : ℕ) (told : Report) → at reports r told → told ≡ report_for r
  told_is r told here = sym (get_or_from_slice_get reports r told no_report here) ∙ read r (inside_of r told here)

  told_stands : (r : ℕ) → r < length w.players → at reports r (report_for r)
  told_stands r inside = slice_get-get_or reports r no_report (omega (arith, inside, many_told)) ∙ ap Some (read r inside)

  right_told : (r : ℕ) (told : Report) → at reports r told → IsRight r told
  right_told r told here = subst (IsRight r) (sym (told_is r told here)) (right r (inside_of r told here))

  rank_is : (r : ℕ) (told : Report) → at reports r told → told.rank ≡ rank_at w r
  rank_is r told here = (right_told r told here).rank

  -- what is true of a world's own reports is true of these
  flow : Flows w.inboxes reports
  flow s d sender receiver p q =
      let i = inside_of s sender p in
      let j = inside_of d receiver q in
      let own : Flow (rank_at w s) s d (took (rank_at w d).log s ++ items_from s (inbox_at w d)) =
      flows-world w world s d (report_of (player_at w s)) (report_of (player_at w d)) (report_there w s i) (report_there w d j) in
      let items = items_from s (inbox_at w d) in
      subst (λ (x : State). Flow x s d (took receiver.rank.log s ++ items)) (sym (rank_is s sender p)) (subst (λ (x : State). Flow (rank_at w s) s d (took x.log s ++ items)) (sym (rank_is d receiver q)) own)

  true_too : (entry : Entry) → AdoptsTruly (reports_in w) entry → AdoptsTruly reports entry
  true_too (Adopted d) t = record {
    listed = λ r brought e.
        let x = t.listed r brought e in
        let i = report_inside w r x.reported in
        let log : x.report.rank ≡ (report_for r).rank = ap (λ (y : Report). y.rank) (report_is w r x.reported) ∙ sym (right r i).rank in
        record { report = report_for r; reported = told_stands r i; entered = subst (λ (y : State). first_given (entry_of d.topic) y.log ≡ Some brought) log x.entered };
    excluded = λ r out.
        let x = t.excluded r out in
        let i = report_inside w r x.reported in
        let log : x.report.rank ≡ (report_for r).rank = ap (λ (y : Report). y.rank) (report_is w r x.reported) ∙ sym (right r i).rank in
        record { report = report_for r; reported = told_stands r i; stopped = subst (λ (y : State). is_stopped y.log ≡ true) log x.stopped };
  }
  true_too _ t = tt

  decisions : AreTrue reports
  decisions s told here k entry stands =
      let i = inside_of s told here in
      true_too entry (decisions_true (settled-reached n room w small h) s (report_of (player_at w s)) (report_there w s i) k entry (subst (λ (x : State). at x.log k entry) (rank_is s told here) stands))

  foreign : NoneIsForeign reports
  foreign r k told step here stands bad =
      let i = inside_of r told here in
      let p = player_at w r in
      let told_by = right_told r told here in
      let there = told_there told.steps (given_up p).done told_by.steps k step stands in
      elim (else_open p.current p k there.0 there.1) [
        | inl was ↦ none_foreign n room w small h r k (report_of p) there.0 (report_there w r i) was (sym there.2.answer ∙ bad)
        | inr left ↦ let is : Unfinished ≡ Refused NotMember = sym left ∙ sym there.2.answer ∙ bad in let no : ⊥ = cc in absurd no
      ]

  -- a step that found no memory did so where it is told
  starves_too : (r : ℕ) → r < length w.players → (place : ℕ) (topic : Topic) → StarvesAt (rank_at w r).log (player_at w r).done place topic → StarvesAt (rank_at w r).log (report_for r).steps place topic
  starves_too r i place topic s =
      let p = player_at w r in
      let here = told_here (report_for r).steps (given_up p).done (right r i).steps s.number s.step (kept_at p.current p s.number s.step s.stands) in
      let t = here.2 in
      record {
        number = s.number;
        step = here.0;
        stands = here.1;
        placed = elim t.at [
          | inl left ↦ let is : Unfinished ≡ Refused OutOfMemory = sym left ∙ s.starves in let bad : ⊥ = cc in absurd bad
          | inr same ↦ same ∙ s.placed
        ];
        about = ap (λ (asked : Step). topic_of (take place (rank_at w r).log) asked) t.step ∙ s.about;
        starves = t.answer ∙ s.starves;
      }

  proposes_too : (r : ℕ) → r < length w.players → (place : ℕ) (d : Decision) → ProposesAt r (rank_at w r).log (player_at w r).done place d → ProposesAt r (rank_at w r).log (report_for r).steps place d
  proposes_too r i place d m = record {
    within = m.within;
    asks = elim m.asks [ inl adopts ↦ inl adopts | inr starves ↦ inr (starves_too r i place d.topic starves) ];
    proposes = m.proposes;
  }

  order : HaveOneOrder reports
  order =
      let o = one_order n room w small h in
      record {
        time = o.time;
        onward = λ r k told here lt. o.onward r k (report_of (player_at w r)) (report_there w r (inside_of r told here)) (omega (arith, lt, ap (λ (x : State). length x.log) (rank_is r told here)));
        owed_earlier = λ d k receiver source item here stands.
            let owed = o.owed_earlier d k (report_of (player_at w d)) source item (report_there w d (inside_of d receiver here)) (subst (λ (x : State). at x.log k (Took source item)) (rank_is d receiver here) stands) in
            let s = source.number in
            let i = report_inside w s owed.reported in
            let log : owed.sender.rank ≡ (report_for s).rank = ap (λ (y : Report). y.rank) (report_is w s owed.reported) ∙ sym (right s i).rank in
            record {
              sender = report_for s;
              reported = told_stands s i;
              count = owed.count;
              earlier = owed.earlier;
              owed = subst (λ (x : State). Owe s d (take owed.count x.log) (take k receiver.rank.log) item) log
                  (subst (λ (x : State). Owe s d (take owed.count owed.sender.rank.log) (take k x.log) item) (sym (rank_is d receiver here)) owed.owed);
            };
        proposed_earlier = λ r k told d here stands.
            let before = o.proposed_earlier r k (report_of (player_at w r)) d (report_there w r (inside_of r told here)) (subst (λ (x : State). at x.log k (Adopted d)) (rank_is r told here) stands) in
            let i = report_inside w before.rank before.reported in
            let made : ProposesAt before.rank (rank_at w before.rank).log (player_at w before.rank).done before.place d =
            subst (λ (y : Report). ProposesAt before.rank y.rank.log y.steps before.place d) (report_is w before.rank before.reported) before.made in
            record {
              rank = before.rank;
              told = report_for before.rank;
              reported = told_stands before.rank i;
              place = before.place;
              made = subst (λ (x : State). ProposesAt before.rank x.log (report_for before.rank).steps before.place d) (sym (right before.rank i).rank) (proposes_too before.rank i before.place d made);
              earlier = before.earlier;
            };
      }

  -- what is known at a place is held
  known_held : (r : ℕ) (c : Topic) (known : Known) (d : Decision) → at so_far.knows r known → known_at known c ≡ Some d → known_at w.decided c ≡ Some d
  known_held r c known d here e =
      let within = slice_get_within so_far.knows r known here in
      so_far.held r c d (omega (arith, within, so_far.many)) (ap (λ (k : Known). known_at k c) (get_or_from_slice_get so_far.knows r known [] here) ∙ e)

  made : AreMade w.inboxes so_far.knows reports
  made = record {
    known_each = so_far.many ∙ sym many_told;
    counted = λ r told here. ap (λ (x : State). x.ranks) (rank_is r told here) ∙ world.counted r (inside_of r told here) ∙ sym many_told;
    within = λ r told here s far.
        let i = inside_of r told here in
        let counted = world.counted r i in
        ap (λ (x : State). took x.log s) (rank_is r told here) ∙ took_none (rank_at w r).ranks s (rank_at w r).log (true-reached n room w small h r i).taken (omega (arith, far, counted, many_told));
    order = λ r told here. ap (λ (x : State). x.me) (rank_is r told here) ∙ world.named r (inside_of r told here);
    flow = flow;
    answers = λ r told known here knowing.
        subst (λ (k : Known). AnswersFollow k told) (get_or_from_slice_get so_far.knows r known [] knowing) (right_told r told here).follows;
    agreed = λ r s one other here there c. both_agree (known_at one c) (known_at other c) (known_at w.decided c) (λ d e. known_held r c one d here e) (λ d e. known_held s c other d there e);
    decisions = decisions;
    none_foreign = foreign;
    one_order = order;
  }

  pub is_lawful_so_far : IsLawfulSoFar w
  is_lawful_so_far = record {
    reports = reports;
    many = many_told;
    told = λ r inside.
        let is = subst (IsRight r) (sym (read r inside)) (right r inside) in
        record { rank = is.rank; steps = is.steps };
    knows = so_far.knows;
    held = so_far.held;
    lawful = lawful_so_far w.inboxes so_far.knows reports made;
  }
