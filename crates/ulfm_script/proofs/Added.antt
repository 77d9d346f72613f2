-- What a poll adds makes a log longer, and a stop is its last entry.
use Rattle.std.proofs.Common.{◌≡◌, Bool, true, false, [], ◌∷◌, ◌++◌, refl, ap, sym, ◌∙◌, inl, inr, ◌||◌}
use Rattle.ulfm_log.specs.declared.entry.Entry.TheVariants.{Stopped}
use Rattle.ulfm_script.proofs.Common.{Entry, is_stop, is_stopped, State, false≢true, stopped-push}
use Rattle.ulfm_script.specs.Answered.{EndsAtStop}
use Rattle.ulfm_script.proofs.Beginnings.{Grew, grew-same}
use Rattle.ulfm_script.proofs.Polls.{Adds}

-- what is added makes the log longer
pub grew-adds : (r : State) (stops : Bool) (s : State) → Adds r stops s → Grew r s
grew-adds r stops s (inl same) = grew-same r s same.0
grew-adds r stops s (inr one) = record {
  me = ap (λ (t : State). t.me) one.only;
  ranks = ap (λ (t : State). t.ranks) one.only;
  more = one.entry ∷ [];
  log = ap (λ (t : State). t.log) one.only;
}

pub stop_entry : (e : Entry) → is_stop e ≡ true → e ≡ Stopped
stop_entry Stopped h = refl
stop_entry _ h = absurd (false≢true h)

-- a stop that is added is the last entry
pub ends-adds : (r : State) (stops : Bool) (s : State) → is_stopped r.log ≡ false → Adds r stops s → is_stopped s.log ≡ true → EndsAtStop s.log
ends-adds r stops s running (inl same) stopped = absurd (false≢true (sym running ∙ sym (ap (λ (t : State). is_stopped t.log) same.0) ∙ stopped))
ends-adds r stops s running (inr one) stopped =
    let log : s.log ≡ r.log ++ one.entry ∷ [] = ap (λ (t : State). t.log) one.only in
    let is : is_stop one.entry ≡ true = ap (λ b. b || is_stop one.entry) (sym running) ∙ sym (stopped-push r.log one.entry) ∙ sym (ap is_stopped log) ∙ stopped in
    record { front = r.log; running = running; last = log ∙ ap (λ (e : Entry). r.log ++ e ∷ []) (stop_entry one.entry is) }
