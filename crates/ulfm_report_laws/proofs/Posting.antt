-- A receive that is posted, by a step of its own or by a probe, keeps the steps of a rank true of its log.
use Rattle.std.proofs.Common.{◌≡◌, ℕ, ◌<◌, inl, inr, Bool, true, false, cond, List, [], ◌∷◌, ◌++◌, length, refl, ap, sym, ◌∙◌, subst, arith, append_assoc, length-append, Option, Some, None, slice_get}
use Rattle.std.specs.Option.{is_some}
use Rattle.ulfm_report_laws.proofs.Common.{Context, Pattern, Tag, MessageId, RequestId, Status, Entry, group_of, members_of, is_revoked, State, logged, Recv, Probe, Posted, Found, StepReport, AnswersProbe, comm_of, step_report, sent_in, closes, flat_map, not-false, same_Some, slice_get_within, All-push, Posts, IsSourceOf, history-push, MatchEvent, Post, End, PostAt, IsWellFormed, count_before, compared, count_below, count_front, get_here, group_stays, members_found, HasNoPost, none-nil, none-one, formed-posted, formed-probed, history_of, names_gone, some_from, get_in_front, all_pass}
use Rattle.ulfm_log.specs.declared.entry.Entry.TheVariants.{Posted as PostedEntry, Probed}
use Rattle.ulfm_match.proofs.Cut.{cut}
use Rattle.ulfm_match.specs.Pairing.{LawfulPairing, pairs_below}
use Rattle.ulfm_rank.specs.Answer.{Got}
use Rattle.ulfm_rank.specs.Calls.{IsReceive}
use Rattle.ulfm_rank.specs.Checks.{Passes, receive_checks}
use Rattle.ulfm_rank.specs.Messages.{TellsOf}
use Rattle.ulfm_rank.proofs.Stays.{members_stay}
use Rattle.ulfm_report_laws.proofs.Honest.{IsCovered, sends-logged, past}
use Rattle.ulfm_report_laws.proofs.Lasting.{got_longer}
use Rattle.ulfm_report_laws.proofs.Orderly.{orderly-logged, orderly-answered}
use Rattle.ulfm_report_laws.proofs.Mail.{IsTakenFrom, flat-push, sent_entry}
use Rattle.ulfm_report_laws.proofs.Numbers.{number_of, number_front, number_last}
use Rattle.ulfm_report_laws.proofs.Tells.{IsReceipt, IsFinding, Tells}
use Rattle.ulfm_report_laws.proofs.Closing.{IsTrueOf}

-- the communicator of a receive that passes was made, and isn't revoked
may_receive : (r : State) (c : ℕ) (source : Option ℕ) → Passes (receive_checks r c source) → ((group : List ℕ) × (group_of r.ranks r.log c ≡ Some group)) × (is_revoked r.log c ≡ false)
may_receive r c source h =
    let all = all_pass (receive_checks r c source) h in
    (some_from (group_of r.ranks r.log c) (not-false (is_some (group_of r.ranks r.log c)) all.1.0), all.1.1.0)

no_end : (b : Bool) (k : ℕ) → HasNoPost (cond b (End k ∷ []) [])
no_end true k = none-one (End k) (λ p e. cc)
no_end false k = none-nil

-- an entry that posts a receive of this pattern, and what else it gives
pub record IsPosting (r : State) (source : Option ℕ) (tag : Option Tag) (room : ℕ) (comm : Context) (number : ℕ) (e : Entry) : Type 0 where
  pub passes : Passes (receive_checks r comm.number source)
  pub pattern : Pattern
  pub receive : IsReceive r (comm_of comm) source tag room pattern
  pub numbered : number ≡ count_before (history_of r.log) (length (history_of r.log))
  pub tail : List MatchEvent
  pub longer : history_of (r.log ++ e ∷ []) ≡ history_of r.log ++ Post pattern ∷ tail
  pub no_more : HasNoPost tail
  pub formed : IsWellFormed (history_of r.log) → IsWellFormed (history_of (r.log ++ e ∷ []))
  pub sends : (c d : ℕ) → sent_entry c d e ≡ []
  pub takes : IsTakenFrom r.ranks e

module _ (r : State) (done : List StepReport) (source : Option ℕ) (tag : Option Tag) (room : ℕ) (comm : Context) (number : ℕ) (e : Entry) (s : IsPosting r source tag room comm number e) where
  abbrev log : List Entry
  log = r.log

  abbrev old : List MatchEvent
  old = history_of r.log

  abbrev now : List MatchEvent
  now = old ++ Post s.pattern ∷ s.tail

  here : slice_get now (length old) ≡ Some (Post s.pattern)
  here = get_here old (Post s.pattern) s.tail

  its_number : count_before now (length old) ≡ number
  its_number = count_front old (Post s.pattern ∷ s.tail) (length old) (omega arith) ∙ sym s.numbered

  pub receipt : IsReceipt r.ranks (log ++ e ∷ []) source tag room comm number
  receipt =
      let m = may_receive r comm.number source s.passes in
      let made = group_stays r.ranks log e comm.number m.0.0 m.0.1 in
      let same = members_found r.ranks log comm.number m.0.0 m.0.1 ∙ sym (members_found r.ranks (log ++ e ∷ []) comm.number m.0.0 made) in
      record {
        place = length old;
        pattern = s.pattern;
        posted = subst (λ g. PostAt g (length old) s.pattern) (sym s.longer) here;
        numbered = ap (λ g. count_before g (length old)) s.longer ∙ its_number;
        context = s.receive.context;
        has_tag = s.receive.has_tag;
        has_room = s.receive.has_room;
        group = m.0.0;
        made = made;
        asks_for = subst (λ group. IsSourceOf group source s.pattern.source) same s.receive.asks_for;
      }

  below : (other : ℕ) → number ≡ other → other < count_before (history_of (log ++ e ∷ [])) (length (history_of (log ++ e ∷ [])))
  below other same =
      let up = count_below now (length old) (length now) (Post s.pattern) here refl (slice_get_within now (length old) (Post s.pattern) here) in
      subst (λ g. other < count_before g (length g)) (sym s.longer) (omega (arith, up, its_number, same))

  covered : (x : StepReport) → number_of x.answer ≡ Some number → IsCovered log done → IsCovered (log ++ e ∷ []) (done ++ x ∷ [])
  covered x names was place p g =
      let at' = subst (λ xs. PostAt xs place p) s.longer g in
      elim (compared place (length old)) [
        | inl l ↦
            let c = was place p (get_in_front old (Post s.pattern ∷ s.tail) place (Post p) l at') in
            (c.0, c.1, number_front done (x ∷ []) c.0 c.2, ap (λ ys. count_before ys place) s.longer ∙ count_front old (Post s.pattern ∷ s.tail) place (omega (arith, l)) ∙ c.3)
        | inr o ↦ elim o [
          | inl same ↦ (length done, number, number_last done x ∙ names, ap (λ ys. count_before ys place) s.longer ∙ ap (count_before now) same ∙ its_number)
          | inr far ↦
              let at'' = subst (λ xs. PostAt xs place p) (sym (append_assoc old (Post s.pattern ∷ []) s.tail)) at' in
              absurd (past (old ++ Post s.pattern ∷ []) s.tail place p s.no_more (omega (arith, far, length-append old (Post s.pattern ∷ []))) at'')
        ]
      ]

  -- the step that posted it
  pub true-posting : (x : StepReport) (new : State) → IsTrueOf r done → number_of x.answer ≡ Some number → ((group : List ℕ) (c d : ℕ) → sent_in group c d x ≡ []) → closes x.step x.answer ≡ None → Tells r.ranks (log ++ e ∷ []) (done ++ x ∷ []) x.step x.answer → new ≡ logged r e → IsTrueOf new (done ++ x ∷ [])
  true-posting x new h names silent closes_none tells only =
      rw only (record {
        orderly = orderly-answered x (orderly-logged e h.orderly) tells
            (λ other q. let same = same_Some number other (sym names ∙ q) in (below other same, λ k before g. let l = h.orderly.below k before g in omega (arith, l, s.numbered, same)))
            (λ req k y q g f. let bad : None ≡ Some req = sym closes_none ∙ q in cc);
        sends = λ c d.
            let group = members_of r.ranks (log ++ e ∷ []) c in
            flat-push (sent_in group c d) done x
            ∙ ap (λ xs. flat_map (sent_in group c d) done ++ xs) (silent group c d ∙ sym (s.sends c d))
            ∙ sends-logged e c d h;
        covered = covered x names h.covered;
        formed = s.formed h.formed;
        taken = All-push (IsTakenFrom r.ranks) log e h.taken s.takes;
      })

revoked_not : (r : State) (comm : Context) (source : Option ℕ) {tag : Option Tag} {room : ℕ} (pattern : Pattern) → Passes (receive_checks r comm.number source) → IsReceive r (comm_of comm) source tag room pattern → is_revoked r.log pattern.context.number ≡ false
revoked_not r comm source pattern passes receive = ap (λ k. is_revoked r.log k.number) receive.context ∙ (may_receive r comm.number source passes).1

-- a receive that is posted
pub true-posted : (r : State) (done : List StepReport) (source : Option ℕ) (tag : Option Tag) (room : ℕ) (comm : Context) (id : RequestId) (at polls : ℕ) (new : State) → IsTrueOf r done → Passes (receive_checks r comm.number source) → Posts r (comm_of comm) source tag room new → id.number ≡ count_before (history_of r.log) (length (history_of r.log)) →
    IsTrueOf new (done ++ step_report (Recv source tag room comm) (Posted id) at polls ∷ [])
true-posted r done source tag room comm id at polls new h passes s numbered =
    let e = PostedEntry s.pattern in
    let posting : IsPosting r source tag room comm id.number e = record {
      passes = passes;
      pattern = s.pattern;
      receive = s.receive;
      numbered = numbered;
      tail = cond (names_gone r.log s.pattern.source) (End (length (history_of r.log)) ∷ []) [];
      longer = history-push r.log e;
      no_more = no_end (names_gone r.log s.pattern.source) (length (history_of r.log));
      formed = λ was. formed-posted r.log s.pattern was (revoked_not r comm source s.pattern passes s.receive);
      sends = λ c d. refl;
      takes = tt;
    } in
    true-posting r done source tag room comm id.number e posting (step_report (Recv source tag room comm) (Posted id) at polls) new h refl (λ group c d. refl) refl (receipt r done source tag room comm id.number e posting) s.only

-- a probe that found a letter
pub true-found : (r : State) (done : List StepReport) (source : Option ℕ) (tag : Option Tag) (comm : Context) (id : MessageId) (status : Status) (at polls : ℕ) (new : State) → IsTrueOf r done → AnswersProbe r source tag comm (Found id status) new →
    IsTrueOf new (done ++ step_report (Probe source tag comm) (Found id status) at polls ∷ [])
unfolding receipt
true-found r done source tag comm id status at polls new h a =
    let s = a.1 in
    let e = Probed id s.pattern in
    let old = history_of r.log in
    let posting : IsPosting r source tag 1024 comm id.number e = record {
      passes = a.0;
      pattern = s.pattern;
      receive = s.receive;
      numbered = s.numbered;
      tail = End (length old) ∷ [];
      longer = history-push r.log e;
      no_more = no_end true (length old);
      formed = λ was. formed-probed r.log s.pattern was (revoked_not r comm source s.pattern a.0 s.receive) id;
      sends = λ c d. refl;
      takes = tt;
    } in
    let finding : IsFinding r.ranks (r.log ++ e ∷ []) source tag comm id.number status = record {
      receipt = receipt r done source tag 1024 comm id.number e posting;
      letter = s.letter;
      got = λ p law.
          let short = old ++ Post s.pattern ∷ [] in
          let long : history_of (r.log ++ e ∷ []) ≡ short ++ End (length old) ∷ [] = posting.longer ∙ sym (append_assoc old (Post s.pattern ∷ []) (End (length old) ∷ [])) in
          let law' : LawfulPairing (short ++ End (length old) ∷ []) p = subst (λ g. LawfulPairing g p) long law in
          subst (λ g. Got g p (length old) s.letter) (sym long)
          (got_longer short (End (length old) ∷ []) p law' (length old) (s.gets.each (pairs_below (length short) p) (cut short (End (length old) ∷ []) p law')));
      told = members_stay r.ranks r.log e comm.number (λ (group : List ℕ). TellsOf group s.letter status) (λ q. let k = q.sender in cc) s.told;
    } in
    true-posting r done source tag 1024 comm id.number e posting (step_report (Probe source tag comm) (Found id status) at polls) new h refl (λ group c d. refl) refl finding s.only
