-- Which step sent the letter that came at a place of the history.
use Rattle.std.proofs.Common.{◌≡◌, ℕ, ◌<◌, List, ◌∷◌, ◌++◌, length, take, refl, ap, sym, ◌∙◌, arith, append_assoc}
use Rattle.ulfm_report_laws.proofs.Common.{Context, Letter, Tag, group_at, Send, Sent, step_report, Report, report_at, content, history_at, IsStep, sent_in, come_in, letters_come, IsSentBy, Come, ComeAt, same_letter, same_context}
use Rattle.ulfm_report_laws.proofs.Contents.{sent_few, sent_is, sent_one, come_one}
use Rattle.ulfm_report_laws.proofs.Finding.{AreHonest, step_at, same_asked}
use Rattle.ulfm_match.proofs.Places.{gives_at, flat_at, index_same}
use Rattle.ulfm_report_laws.proofs.Sources.{come_bound}

-- a step that sent what the letter carries, on its communicator
pub sent_letter : {own : Report} {k to : ℕ} (letter : Letter) {tag : Tag} {body : List ℕ} {comm : Context} → tag ≡ letter.envelope.tag → body ≡ letter.body → comm ≡ letter.envelope.context → IsStep own k (Send to tag body comm) Sent → IsStep own k (Send to letter.envelope.tag letter.body letter.envelope.context) Sent
sent_letter letter et eb ec step = rw (← et, ← eb, ← ec) step

module _ (reports : List Report) (all : AreHonest reports) (d : ℕ) (inside : d < length reports) where
  abbrev report : Report
  report = report_at reports d

  -- each letter of the history is sent by a step
  pub sender : (b : ℕ) (letter : Letter) → ComeAt (history_at reports d) b letter → (j : ℕ) × IsSentBy reports d b letter letter.envelope.source.number j
  sender b letter came =
      let h = history_at reports d in let s = letter.envelope.source.number in let c = letter.envelope.context.number in
      let bound = come_bound report.rank.ranks report.rank.log (all.honest d inside).taken b letter came in
      let inside_s : s < length reports = omega (arith, bound, all.counted d inside) in
      let whole = all.sent s d c inside_s inside in
      let own = report_at reports s in let group = group_at own.rank c in
      let y = content letter.envelope.tag letter.body in
      let front = letters_come s c (take b h) in
      let parts = flat_at (come_in s c) h b (Come letter) came in
      let list =
      sym whole.1
      ∙ ap (λ xs. xs ++ whole.0) (parts.1 ∙ ap (λ xs. front ++ (xs ++ parts.0)) (come_one s c letter refl refl))
      ∙ append_assoc front (y ∷ parts.0) whole.0 in
      let g = gives_at (sent_in group c d) (sent_few group c d) own.steps front y (parts.0 ++ whole.0) list in
      let k = sent_is group c d g.giver.step g.giver.answer y g.gives in (
        g.index,
        record {
          to = k.to;
          inside = inside_s;
          step = sent_letter letter refl refl (same_context k.comm letter.envelope.context k.context) (step_at own g.index g.at k.step k.sent);
          directed = k.directed;
          came = came;
          source = refl;
          in_order = ap (λ xs. length xs) (sym g.before);
        },
      )

  -- a step sent one letter
  pub same_come : {b e : ℕ} {l m : Letter} (s j : ℕ) → IsSentBy reports d b l s j → IsSentBy reports d e m s j → b ≡ e
  same_come {b} {e} {l} {m} s j x y =
      let own = report_at reports s in let steps = same_asked x.step y.step in
      let comm : l.envelope.context ≡ m.envelope.context = cc in
      let c = m.envelope.context.number in
      index_same (come_in s c) (history_at reports d) b e (Come l) (Come m) (content l.envelope.tag l.body) (content m.envelope.tag m.body) x.came y.came
      (come_one s c l (ap (λ k. k.number) comm) x.source) (come_one s c m refl y.source)
      ((rw (ap (λ k. k.number) comm) at x.in_order) ∙ sym y.in_order)

  -- a letter was sent by one step
  pub same_send : {b : ℕ} {l m : Letter} (s j t k : ℕ) → IsSentBy reports d b l s j → IsSentBy reports d b m t k → (s ≡ t) × (j ≡ k)
  same_send {b} {l} {m} s j t k x y =
      let same = same_letter (history_at reports d) b l m x.came y.came in
      let who = sym x.source ∙ ap (λ w. w.envelope.source.number) same ∙ y.source in
      let y' : IsSentBy reports d b l s k = rw (same, who) y in
      let own = report_at reports s in let c = l.envelope.context.number in let group = group_at own.rank c in
      let w = content l.envelope.tag l.body in (
        who,
        index_same (sent_in group c d) own.steps j k (step_report (Send x.to l.envelope.tag l.body l.envelope.context) Sent x.step.at x.step.polls) (step_report (Send y'.to l.envelope.tag l.body l.envelope.context) Sent y'.step.at y'.step.polls) w w x.step.stands y'.step.stands
            (sent_one group d x.to l.envelope.tag l.body l.envelope.context x.directed) (sent_one group d y'.to l.envelope.tag l.body l.envelope.context y'.directed) (sym x.in_order ∙ y'.in_order),
      )
