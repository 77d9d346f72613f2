-- A rank enters each topic once.
use Rattle.std.proofs.Common.{◌≡◌, ℕ, ◌+◌, ◌≤◌, Bool, true, false, cond, List, [], ◌∷◌, ◌++◌, length, take, drop, refl, ap, sym, ◌∙◌, arith, Option, Some, None, is_some}
use Rattle.std.proofs.lemmas.List.{take_all, take-append-drop, take-append-le}
use Rattle.ulfm_log.specs.Log.{or_else, first_given}
use Rattle.ulfm_base.specs.Topic.{is_agreement, round_of, topic_on}
use Rattle.ulfm_log.specs.Proposal.{next_round}
use Rattle.ulfm_script.proofs.Common.{Agree, agreement_topic, Context, Topic, Contribution, Entrance, shrink_topic, Entered, EntersBetween, EntersBy, Entry, rounds_of, Shrink, State, Step, false≢true, entry_of, has_entered, none-some, same_Some}
use Rattle.ulfm_log.proofs.Entering.{rounds-more, counts}
use Rattle.ulfm_base.proofs.Topics.{topic_itself}
use Rattle.ulfm_script.proofs.Answers.{took-forth}

-- of two beginnings of a list the longer one begins with the shorter one
longer : (xs ys r s : List Entry) → xs ++ r ≡ ys ++ s → length xs ≤ length ys → ys ≡ xs ++ drop (length xs) ys
longer xs ys r s e h =
    let front : take (length xs) ys ≡ xs =
    sym (take-append-le (length xs) ys s h)
    ∙ ap (take (length xs)) (sym e)
    ∙ take-append-le (length xs) xs r (omega arith)
    ∙ take_all (length xs) xs (omega arith) in
    sym (take-append-drop (length xs) ys) ∙ ap (λ (l : List Entry). l ++ drop (length xs) ys) front

is_second : (o x : Option Contribution) → is_some x ≡ true → is_some (or_else o x) ≡ true
is_second None x h = h
is_second (Some set) x h = refl

-- an entrance enters its topic
pub entered-here : (log : List Entry) (entrance : Entrance) → has_entered (log ++ Entered entrance ∷ []) entrance.topic ≡ true
entered-here [] entrance = ap (λ b. is_some (or_else (cond b (Some entrance.contribution) None) None)) (topic_itself entrance.topic)
entered-here (e ∷ log) entrance = is_second (entry_of entrance.topic e) (first_given (entry_of entrance.topic) (log ++ Entered entrance ∷ [])) (entered-here log entrance)

-- rounds of one kind that are equal have equal numbers
round_alike : (g : Bool) (of comm : Context) (one other : ℕ) → topic_on g of one ≡ topic_on g comm other → one ≡ other
round_alike true of comm one other e = ap (λ (t : Topic). round_of t.purpose) e
round_alike false of comm one other e = ap (λ (t : Topic). round_of t.purpose) e

comm_alike : (g : Bool) (of comm : Context) (one other : ℕ) → topic_on g of one ≡ topic_on g comm other → of ≡ comm
comm_alike true of comm one other e = ap (λ (t : Topic). t.context) e
comm_alike false of comm one other e = ap (λ (t : Topic). t.context) e

-- an entrance into a round counts
one_more : (g : Bool) (comm : Context) (n : ℕ) (entrance : Entrance) → entrance.topic ≡ topic_on g comm n → rounds_of (Entered entrance ∷ []) g comm.number ≡ 1
one_more true comm n entrance is = counts entrance (agreement_topic comm n) is
one_more false comm n entrance is = counts entrance (shrink_topic comm n) is

-- each round that a rank enters has a number of its own
anew : (g : Bool) (h k more : List Entry) (of comm : Context) (entrance : Entrance) → k ≡ (h ++ Entered entrance ∷ []) ++ more → entrance.topic ≡ next_round h g of → next_round h g of ≡ next_round k g comm → ⊥
anew g h k more of comm entrance grown about both =
    let comms : of ≡ comm = comm_alike g of comm _ _ both in
    let rounds : rounds_of h g of.number ≡ rounds_of k g comm.number = round_alike g of comm _ _ both in
    let one : rounds_of (Entered entrance ∷ []) g of.number ≡ 1 = one_more g of (rounds_of h g of.number) entrance about in
    omega (arith, rounds, one, rounds-more h (Entered entrance ∷ []) g of.number, rounds-more (h ++ Entered entrance ∷ []) more g of.number, ap (λ (l : List Entry). rounds_of l g of.number) grown, ap (λ (c : Context). rounds_of k g c.number) comms)

-- what a step enters was not entered before
entered-anew : (h : State) (one : Step) (a : Topic) (new : State) (k : State) (other : Step) (b : Topic) (last : State) (more : List Entry) → EntersBy h one a new → k.log ≡ new.log ++ more → EntersBy k other b last → a ≡ b → ⊥
entered-anew h (Shrink of further) a new k (Shrink comm again) b last more e grown f same =
    anew false h.log k.log more of comm e.enters.entrance (grown ∙ ap (λ (s : State). s.log ++ more) e.enters.only) (e.enters.about ∙ sym (same_Some _ a e.about)) (same_Some _ a e.about ∙ same ∙ sym (same_Some _ b f.about))
entered-anew h (Agree bit of) a new k (Shrink comm again) b last more e grown f same =
    let both : next_round h.log true of ≡ next_round k.log false comm = same_Some _ a e.about ∙ same ∙ sym (same_Some _ b f.about) in
    let kinds : true ≡ false = ap (λ (t : Topic). is_agreement t.purpose) both in
    false≢true (sym kinds)
entered-anew h _ a new k (Shrink comm again) b last more e grown f same = absurd (none-some a e.about)
entered-anew h (Shrink of again) a new k (Agree flag comm) b last more e grown f same =
    let both : next_round h.log false of ≡ next_round k.log true comm = same_Some _ a e.about ∙ same ∙ sym (same_Some _ b f.about) in
    let kinds : false ≡ true = ap (λ (t : Topic). is_agreement t.purpose) both in
    false≢true kinds
entered-anew h (Agree bit of) a new k (Agree flag comm) b last more e grown f same =
    anew true h.log k.log more of comm e.enters.entrance (grown ∙ ap (λ (s : State). s.log ++ more) e.enters.only) (e.enters.about ∙ sym (same_Some _ a e.about)) (same_Some _ a e.about ∙ same ∙ sym (same_Some _ b f.about))
entered-anew h _ a new k (Agree flag comm) b last more e grown f same = absurd (none-some a e.about)
entered-anew h one a new k _ b last more e grown f same = absurd (none-some b f.about)

-- a topic that was entered up to a place isn't entered from there
pub entered-once : (r : State) (one other : Step) (a b : Topic) (from at place to : ℕ) → EntersBetween r one a from at → at ≤ place → EntersBetween r other b place to → a ≡ b → ⊥
entered-once r one other a b from at place to h up k same =
    let short : length h.new.log ≤ length k.old.log =
    omega (arith, h.stood_next.entries, k.stood.entries, up, took-forth r.log (h.place + 1) at h.took_after, took-forth r.log place k.place k.took_before) in
    let more = drop (length h.new.log) k.old.log in
    let grown : k.old.log ≡ h.new.log ++ more =
    longer h.new.log k.old.log h.stood_next.rest k.stood.rest (h.stood_next.beginning ∙ sym k.stood.beginning) short in
    entered-anew h.old one a h.new k.old other b k.new more h.enters grown k.enters same
