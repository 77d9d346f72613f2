-- Where logs have one order, each revocation comes after some rank's own call, and each notice of a failure after the stop.
use Rattle.std.proofs.Common.{◌≡◌, ◌<◌, ◌+◌, ℕ, zero, suc, true, List, take, drop, get_or, ap, subst, ◌∙◌, arith}
use Rattle.std.proofs.lemmas.List.Folds.{list_any_at}
use Rattle.std.proofs.lemmas.List.{length-take, take-append-drop}
use Rattle.ulfm_base.proofs.Among.{place_test}
use Rattle.ulfm_base.specs.declared.item.Item.TheVariants.{Letter as Mail, Gone, Revoke, Enter}
use Rattle.ulfm_log.specs.declared.entry.Entry.TheVariants.{Revoked, Took, Stopped}
use Rattle.ulfm_log.specs.Facts.{is_stop}
use Rattle.ulfm_report_laws.proofs.Common.{at, Entry, Item, Report, WorldRank, eq-eqb, eqb-true, false≢true, get_front, get_or_from_slice_get, is_revoked, item_revokes, revokes, slice_get-get_or, slice_get_within}
use Rattle.ulfm_script.proofs.Added.{stop_entry}
use Rattle.ulfm_report_laws.specs.Causes.{RevokedByARank, is_call_to_revoke}
use Rattle.ulfm_report_laws.specs.Order.{FailuresComeLater, HaveOneOrder, IsRevokedBy, RevocationsComeLater}

-- an entry of a log that revokes
revoked_at : (c : ℕ) (log : List Entry) → is_revoked log c ≡ true → (k : ℕ) × (e : Entry) × at log k e × (revokes c e ≡ true)
revoked_at c log h =
    let found = place_test (revokes c) Stopped log h in
    (found.0, get_or log found.0 Stopped, slice_get-get_or log found.0 Stopped found.1, found.2)

-- an entry of the first ones of a log is one of the log
pub front_place : (n : ℕ) (log : List Entry) (k : ℕ) (e : Entry) → at (take n log) k e → (k < n) × at log k e
front_place n log k e here = (
  omega (arith, slice_get_within (take n log) k e here, length-take n log),
  subst (λ (xs : List Entry). at xs k e) (take-append-drop n log) (get_front (take n log) (drop n log) k e here),
)

module _ {reports : List Report} (o : HaveOneOrder reports) (c : ℕ) where
  -- each entry before the time t that revokes has its cause
  abbrev CausedBefore : ℕ → Type 0
  CausedBefore t =
      (d k : ℕ) (told : Report) (e : Entry) → at reports d told → at told.rank.log k e → revokes c e ≡ true → o.time d k < t → IsRevokedBy reports o.time c (o.time d k)

  taken : (t d k : ℕ) (told : Report) (source : WorldRank) (item : Item) → CausedBefore t → at reports d told → at told.rank.log k (Took source item) → item_revokes c item ≡ true → o.time d k < suc t
      → IsRevokedBy reports o.time c (o.time d k)
  taken t d k told source (Revoke context) before here stands revoked lt =
      let owed = o.owed_earlier d k told source (Revoke context) here stands in
      let found = revoked_at c (take owed.count owed.sender.rank.log) (subst (λ n. is_revoked (take owed.count owed.sender.rank.log) n ≡ true) (eqb-true context.number c revoked) owed.owed) in
      let front = front_place owed.count owed.sender.rank.log found.0 found.1 found.2 in
      let earlier = owed.earlier found.0 front.0 in
      let cause = before source.number found.0 owed.sender found.1 owed.reported front.1 found.3 (omega (arith, lt, earlier)) in record {
        rank = cause.rank;
        told = cause.told;
        reported = cause.reported;
        place = cause.place;
        context = cause.context;
        is_context = cause.is_context;
        called = cause.called;
        by_then = omega (arith, cause.by_then, earlier);
      }
  taken t d k told source (Mail letter) before here stands revoked lt = absurd (false≢true revoked)
  taken t d k told source (Enter entrance) before here stands revoked lt = absurd (false≢true revoked)
  taken t d k told source Gone before here stands revoked lt = absurd (false≢true revoked)

  caused : (t : ℕ) → CausedBefore t
  caused zero d k told e here stands h lt = absurd (omega (arith, lt))
  caused (suc t) d k told (Revoked context) here stands h lt = record {
    rank = d;
    told = told;
    reported = here;
    place = k;
    context = context;
    is_context = eqb-true context.number c h;
    called = stands;
    by_then = omega arith;
  }
  caused (suc t) d k told (Took source item) here stands h lt = taken t d k told source item (caused t) here stands h lt
  caused (suc t) d k told _ here stands h lt = absurd (false≢true h)

pub revoked_later : {reports : List Report} (o : HaveOneOrder reports) → RevocationsComeLater reports o.time
revoked_later o d k c told e here stands revoked = caused o c (o.time d k + 1) d k told e here stands revoked (omega arith)

-- each revocation at a rank was made by some rank's own call
pub revoked_by_order : {reports : List Report} → HaveOneOrder reports → RevokedByARank reports
revoked_by_order o d c told here revoked =
    let found = revoked_at c told.rank.log revoked in
    let cause = revoked_later o d found.0 c told found.1 here found.2 found.3 in record {
      rank = cause.rank;
      told = cause.told;
      reported = cause.reported;
      called = list_any_at (is_call_to_revoke c) cause.told.rank.log cause.place (Revoked cause.context) (slice_get_within cause.told.rank.log cause.place (Revoked cause.context) cause.called)
          (ap (is_call_to_revoke c) (get_or_from_slice_get cause.told.rank.log cause.place (Revoked cause.context) (Revoked cause.context) cause.called) ∙ eq-eqb cause.context.number c cause.is_context);
    }

-- each failure that is known happened earlier
pub failed_later : {reports : List Report} (o : HaveOneOrder reports) → FailuresComeLater reports o.time
failed_later o d k receiver source here stands =
    let owed = o.owed_earlier d k receiver source Gone here stands in
    let log = owed.sender.rank.log in
    let found = place_test is_stop (Took source Gone) (take owed.count log) owed.owed in
    let entry = get_or (take owed.count log) found.0 (Took source Gone) in
    let front = front_place owed.count log found.0 entry (slice_get-get_or (take owed.count log) found.0 (Took source Gone) found.1) in record {
      sender = owed.sender;
      reported = owed.reported;
      place = found.0;
      stopped = subst (λ (e : Entry). at log found.0 e) (stop_entry entry found.2) front.1;
      earlier = owed.earlier found.0 front.0;
    }
