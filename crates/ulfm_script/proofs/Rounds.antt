-- How many rounds a log has entered, and which one it entered last.
use Rattle.std.proofs.Common.{◌≡◌, ℕ, ◌+◌, ◌-◌, Bool, true, false, cond, List, [], ◌∷◌, ◌++◌, length, filter, take, refl, ap, sym, ◌∙◌, arith, All, Some}
use Rattle.ulfm_base.specs.Topic.{round_of}
use Rattle.ulfm_base.specs.declared.topic.Purpose.TheVariants.{Agree as ToAgree}
use Rattle.ulfm_job.specs.Job.{decides_on}
use Rattle.ulfm_log.proofs.Entering.{rounds-more, counts}
use Rattle.ulfm_log.specs.Proposal.{last_round, next_round}
use Rattle.ulfm_script.proofs.Common.{Agree, agreement_topic, All-cons, All-head, All-nil, All-tail, Context, Entered, Entrance, EntersBetween, EntersBy, enters_round, Entry, IsTook, none-some, OnlyTook, rounds_of, same_Some, Shrink, shrink_topic, State, Step, StoodAt, Topic, topic_of, Took}
use Rattle.ulfm_script.proofs.Beginnings.{front_is, stood_is, took_is}

-- equal agreements have equal numbers
pub same_round : {one other : ℕ} → ToAgree one ≡ ToAgree other → one ≡ other
same_round e = ap round_of e

-- items that are taken enter none
took_enters : (e : Entry) (g : Bool) (c : ℕ) → IsTook e → enters_round g c e ≡ false
took_enters (Took source item) g c h = refl
took_enters _ g c h = absurd h

took_enter_none : (es : List Entry) (g : Bool) (c : ℕ) → All IsTook es → rounds_of es g c ≡ 0
took_enter_none [] g c h = refl
took_enter_none (e ∷ es) g c h =
    ap (λ b. length (cond b (e ∷ filter (enters_round g c) es) (filter (enters_round g c) es))) (took_enters e g c (All-head IsTook e es h))
    ∙ took_enter_none es g c (All-tail IsTook e es h)

-- items that are taken from one place of a log up to another enter none
took_last : (log : List Entry) (from to : ℕ) (g : Bool) (c : ℕ) → OnlyTook log from to → rounds_of (take to log) g c ≡ rounds_of (take from log) g c
took_last log from to g c h =
    let more : rounds_of (h.front ++ h.between) g c ≡ rounds_of h.front g c = omega (arith, rounds-more h.front h.between g c, took_enter_none h.between g c h.took) in
    ap (λ (l : List Entry). rounds_of l g c) (took_is log from to h) ∙ more ∙ ap (λ (l : List Entry). rounds_of l g c) (sym (front_is log h.front (h.between ++ h.rest) from h.whole h.begins))

-- a round that is entered now is the last one
pub now_last : (g : Bool) (comm : Context) (old new : List Entry) (entrance : Entrance) → new ≡ old ++ Entered entrance ∷ [] → entrance.topic ≡ next_round old g comm → last_round new g comm ≡ next_round old g comm
now_last true comm old new entrance longer about =
    let c = comm.number in
    let is : rounds_of new true c ≡ rounds_of old true c + 1 =
    omega (arith, ap (λ (l : List Entry). rounds_of l true c) longer, rounds-more old (Entered entrance ∷ []) true c, counts entrance (agreement_topic comm (rounds_of old true c)) about) in
    let turn : rounds_of new true c - 1 ≡ rounds_of old true c = omega (arith, is) in
    ap (agreement_topic comm) turn
now_last false comm old new entrance longer about =
    let c = comm.number in
    let is : rounds_of new false c ≡ rounds_of old false c + 1 =
    omega (arith, ap (λ (l : List Entry). rounds_of l false c) longer, rounds-more old (Entered entrance ∷ []) false c, counts entrance (shrink_topic comm (rounds_of old false c)) about) in
    let turn : rounds_of new false c - 1 ≡ rounds_of old false c = omega (arith, is) in
    ap (shrink_topic comm) turn

-- a step that entered its topic is decided on it
pub entered-now : (old : State) (asked : Step) (topic : Topic) (new : State) → EntersBy old asked topic new → topic_of new.log asked ≡ Some topic
entered-now old (Shrink comm again) topic new h = ap (λ (t : Topic). Some t) (now_last false comm old.log new.log h.enters.entrance (ap (λ (s : State). s.log) h.enters.only) (h.enters.about ∙ sym (same_Some _ topic h.about))) ∙ h.about
entered-now old (Agree flag comm) topic new h = ap (λ (t : Topic). Some t) (now_last true comm old.log new.log h.enters.entrance (ap (λ (s : State). s.log) h.enters.only) (h.enters.about ∙ sym (same_Some _ topic h.about))) ∙ h.about
entered-now old _ topic new h = absurd (none-some topic h.about)

-- a step is decided on the same topic where as many rounds were entered
pub topic-same : (old new : List Entry) (asked : Step) → ((g : Bool) (c : ℕ) → rounds_of new g c ≡ rounds_of old g c) → topic_of new asked ≡ topic_of old asked
topic-same old new (Shrink comm again) same = ap (λ n. Some (shrink_topic comm (n - 1))) (same false comm.number)
topic-same old new (Agree flag comm) same = ap (λ n. Some (agreement_topic comm (n - 1))) (same true comm.number)
topic-same old new _ same = refl

-- and where an item was taken
pub topic-took : (log : List Entry) (e : Entry) (asked : Step) → IsTook e → topic_of (log ++ e ∷ []) asked ≡ topic_of log asked
topic-took log e asked took = topic-same log (log ++ e ∷ []) asked (λ g c. omega (arith, rounds-more log (e ∷ []) g c, took_enter_none (e ∷ []) g c (All-cons IsTook e [] took (All-nil IsTook))))

-- once a step entered its topic and items alone were taken, it is decided on that topic
pub entered-topic : (r old : State) (asked : Step) (topic : Topic) (from n : ℕ) → StoodAt r n old → EntersBetween r asked topic from n → topic_of old.log asked ≡ Some topic
entered-topic r old asked topic from n stood h =
    topic-same h.new.log old.log asked (λ g c.
    ap (λ (l : List Entry). rounds_of l g c) (sym (stood_is r n old stood))
    ∙ took_last r.log (h.place + 1) n g c h.took_after
    ∙ ap (λ (l : List Entry). rounds_of l g c) (stood_is r (h.place + 1) h.new h.stood_next))
    ∙ entered-now h.old asked topic h.new h.enters

-- a topic that a step is decided on is about the step's communicator
pub on_topic : (log : List Entry) (asked : Step) (topic : Topic) → topic_of log asked ≡ Some topic → decides_on asked ≡ Some topic.context
on_topic log (Shrink comm again) topic about = ap (λ (t : Topic). Some t.context) (same_Some _ topic about)
on_topic log (Agree flag comm) topic about = ap (λ (t : Topic). Some t.context) (same_Some _ topic about)
on_topic log _ topic about = absurd (none-some topic about)
