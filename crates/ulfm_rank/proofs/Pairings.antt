-- A log's history has one lawful pairing, which holds in its beginnings too.
use Rattle.std.proofs.Common.{◌≡◌, List, [], ◌∷◌, ◌++◌, ap, sym, ◌∙◌, append-nil, append_assoc}
use Rattle.ulfm_rank.proofs.Common.{MatchEvent, Pairing, LawfulPairing, Entry, events_by, history_of, one_pairing, IsWellFormed, cut, IsPaired}
use Rattle.ulfm_rank.proofs.Histories.{history-push}

-- the history of a longer log goes on where that of its beginning ends
history-more : (front rest : List Entry) → (more : List MatchEvent) × (history_of (front ++ rest) ≡ history_of front ++ more)
history-more front [] = ([], ap history_of (append-nil front) ∙ sym (append-nil (history_of front)))
history-more front (e ∷ rest) =
    let h = history-more (front ++ e ∷ []) rest in
    let added : List MatchEvent = events_by front (history_of front) e in (
      added ++ h.0,
      ap history_of (sym (append_assoc front (e ∷ []) rest)) ∙ h.1
          ∙ ap (λ (es : List MatchEvent). es ++ h.0) (history-push front e)
          ∙ append_assoc (history_of front) added h.0,
    )

pub paired : (log : List Entry) (r : Pairing) → IsWellFormed (history_of log) → LawfulPairing (history_of log) r → IsPaired log
paired log r formed law = record {
  well_formed = formed;
  pairing = r;
  lawful = law;
  only = λ s other i b. (λ p. one_pairing (history_of log) r s law other i b p, λ p. one_pairing (history_of log) s r other law i b p);
  cut = λ front rest e.
      let h = history-more front rest in
      cut (history_of front) h.0 r (rw (ap history_of (sym e) ∙ h.1) at law);
}
