-- The reports of a replay are lawful.
use Rattle.std.proofs.Common.{◌≡◌, ℕ, ◌<◌, List, [], length, refl, ap, sym, subst, ◌∙◌, arith, Some}
use Rattle.ulfm_world.proofs.Common.{Topic, Decision, at, Report, World, player_at, rank_at, report_of, reports_in, IsWorld, slice_get_within, get_or_from_slice_get, Known, JobView, IsJob, known_for, IsStuck, IsUnderway, AllHaveFinished, AreProduced, IsReplayed, MadeAtRest, PerInbox}
use Rattle.ulfm_board.specs.Known.{known_at}
use Rattle.ulfm_script.specs.Answered.{AnswersFollow}
use Rattle.ulfm_report_laws.specs.Lawful.{LawfulReport}
use Rattle.ulfm_script.specs.Played.{FollowsScript}
use Rattle.ulfm_script.proofs.Honestly.{honest-answers}
use Rattle.ulfm_report_laws.proofs.Closing.{IsTrueOf as TrueOfLog}
use Rattle.ulfm_report_laws.proofs.Lawful.{lawful}
use Rattle.ulfm_report_laws.proofs.Taken.{took_none}
use Rattle.ulfm_world.proofs.Agreed.{Settled}
use Rattle.ulfm_world.proofs.Ends.{stuck-answered, stuck-rest}
use Rattle.ulfm_world.proofs.Foreign.{none_foreign}
use Rattle.ulfm_world.proofs.Honesty.{true-reached}
use Rattle.ulfm_world.proofs.OneOrder.{one_order}
use Rattle.ulfm_world.proofs.Read.{many_reports, each_report, flowing-world, world-reached}
use Rattle.ulfm_world.proofs.Safe.{settled-reached}
use Rattle.ulfm_world.proofs.Settled.{settled_with}
use Rattle.ulfm_world.proofs.Truly.{both_agree, decisions_true, one_pairing}

module _ (j : JobView) (w : World) (job : IsJob j) (came : IsUnderway j w) (stuck : (r : ℕ) → r < length w.players → IsStuck j w r) where
  world : IsWorld w
  world = world-reached j.ranks (PerInbox j.capacity) w job.few_ranks came.reaches

  settled : Settled j.ranks w
  settled = settled-reached j.ranks (PerInbox j.capacity) w job.few_ranks came.reaches

  answered : AllHaveFinished j w
  answered = stuck-answered j w came.follows stuck

  on_log : (r : ℕ) → r < length w.players → TrueOfLog (rank_at w r) (player_at w r).done
  on_log r i = true-reached j.ranks (PerInbox j.capacity) w job.few_ranks came.reaches r i

  played : (r : ℕ) → r < length w.players → FollowsScript j r (report_of (player_at w r))
  played r i = record {
    counted = world.counted r i ∙ came.size;
    within = λ s far. took_none (rank_at w r).ranks s (rank_at w r).log (on_log r i).taken (omega (arith, far, world.counted r i, came.size));
    steps = (answered r i).steps;
    patient = (answered r i).patient;
    gives = (answered r i).gives;
    skips = (answered r i).skips;
  }

  has_answers : (r : ℕ) (told : Report) (known : Known) → at (reports_in w) r told → at came.answers.knows r known → AnswersFollow known told
  has_answers r told known here knowing = each_report (λ x report. (k : Known) → at came.answers.knows x k → AnswersFollow k report) w (λ x i k stands.
      let is = get_or_from_slice_get came.answers.knows x k [] stands in
      let H : Known → Type 0 = λ (ks : Known). AnswersFollow ks (report_of (player_at w x)) in
      subst H is (honest-answers (known_for came.answers.knows x) (player_at w x) (report_of (player_at w x)) (came.answers.honest x i) (answered x i).closed refl refl (one_pairing (player_at w x) (on_log x i)))) r told here known knowing

  -- what is known at a place is held
  known_held : (r : ℕ) (c : Topic) {known : Known} (d : Decision) → at came.answers.knows r known → known_at known c ≡ Some d → known_at w.decided c ≡ Some d
  known_held r c {known} d here e =
      let inside : r < length w.players = omega (arith, slice_get_within came.answers.knows r known here, came.answers.many) in
      came.answers.held r c d inside (ap (λ (k : Known). known_at k c) (get_or_from_slice_get came.answers.knows r known [] here) ∙ e)

  produced : AreProduced j w.inboxes came.answers.knows (reports_in w)
  produced = record {
    each = many_reports w ∙ came.size;
    known_each = came.answers.many ∙ came.size;
    order = (flowing-world world).order;
    scripts = each_report (λ r told. FollowsScript j r told) w played;
    flow = (flowing-world world).flow;
    answers = has_answers;
    agreed = λ r s one other here there c. both_agree (known_at one c) (known_at other c) (known_at w.decided c) (λ d e. known_held r c d here e) (λ d e. known_held s c d there e);
    decisions = decisions_true settled;
    none_foreign = none_foreign j.ranks (PerInbox j.capacity) w job.few_ranks came.reaches;
    one_order = one_order j.ranks (PerInbox j.capacity) w job.few_ranks came.reaches;
  }

  -- what the replay gives
  pub made-replay : {reports : List Report} → 0 < j.capacity → reports ≡ reports_in w → MadeAtRest j reports
  made-replay {reports} roomy is =
      let replayed : IsReplayed j reports = record { world = w; reaches = came.reaches; rests = stuck-rest j w (rw came.room roomy) stuck; answered = answered; reported = is } in
      settled_with job replayed came.answers.knows came.answers.held
      (subst (λ (rs : List Report). LawfulReport j w.inboxes came.answers.knows rs) (sym is) (lawful j w.inboxes came.answers.knows (reports_in w) produced))
