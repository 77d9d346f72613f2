-- What a step sent, and what an event brought, is one letter or none.
use Rattle.std.proofs.Common.{◌≡◌, ℕ, ◌⊎◌, inl, inr, Bool, true, false, cond, eqb, List, [], ◌∷◌, refl, ap, Option, Some, None, ◌&&◌, slice_get}
use Rattle.ulfm_report_laws.proofs.Common.{Context, Letter, Tag, Step, Send, StepAnswer, Sent, Content, content, is_rank, sent_by, sent_in, come_in, false≢true, eq-eqb, eqb-true, MatchEvent, Come}
use Rattle.ulfm_match.proofs.Places.{GivesFew}

few : (b : Bool) (x : Content) → (cond b (x ∷ []) [] ≡ []) ⊎ ((y : Content) × (cond b (x ∷ []) [] ≡ y ∷ []))
few true x = inr (x, refl)
few false x = inl refl

one_is : (b : Bool) (x y : Content) → cond b (x ∷ []) [] ≡ y ∷ [] → (b ≡ true) × (x ≡ y)
one_is true x y e = (refl, let same : x ≡ y = cc in same)
one_is false x y e = absurd (cc)

both_true : (a b : Bool) → a && b ≡ true → (a ≡ true) × (b ≡ true)
both_true true b e = (refl, e)
both_true false b e = absurd (false≢true e)

sent_by_few : (group : List ℕ) (c d : ℕ) (asked : Step) (answer : StepAnswer) → (sent_by group c d asked answer ≡ []) ⊎ ((y : Content) × (sent_by group c d asked answer ≡ y ∷ []))
sent_by_few group c d (Send to tag body comm) Sent = few (eqb comm.number c && is_rank d (slice_get group to)) (content tag body)
sent_by_few group c d _ _ = inl refl

pub sent_few : (group : List ℕ) (c d : ℕ) → GivesFew (sent_in group c d)
sent_few group c d x = sent_by_few group c d x.step x.answer

pub come_few : (s c : ℕ) → GivesFew (come_in s c)
come_few s c (Come letter) = few (eqb letter.envelope.context.number c && eqb letter.envelope.source.number s) (content letter.envelope.tag letter.body)
come_few s c _ = inl refl

is_named : (d : ℕ) (o : Option ℕ) → is_rank d o ≡ true → o ≡ Some d
is_named d None e = absurd (false≢true e)
is_named d (Some member) e = ap (λ k. Some k) (eqb-true member d e)

-- a step that sent this on the communicator c to d
pub record IsSend (group : List ℕ) (c d : ℕ) (asked : Step) (answer : StepAnswer) (y : Content) : Type 0 where
  pub to : ℕ
  pub comm : Context
  pub step : asked ≡ Send to y.tag y.body comm
  pub sent : answer ≡ Sent
  pub context : comm.number ≡ c
  pub directed : slice_get group to ≡ Some d

pub sent_is : (group : List ℕ) (c d : ℕ) (asked : Step) (answer : StepAnswer) (y : Content) → sent_by group c d asked answer ≡ y ∷ [] → IsSend group c d asked answer y
sent_is group c d (Send to tag body comm) Sent y e =
    let k = one_is (eqb comm.number c && is_rank d (slice_get group to)) (content tag body) y e in
    let both = both_true (eqb comm.number c) (is_rank d (slice_get group to)) k.0 in
    record {
      to = to;
      comm = comm;
      step = ap (λ z. Send to z.tag z.body comm) k.1;
      sent = refl;
      context = eqb-true comm.number c both.0;
      directed = is_named d (slice_get group to) both.1;
    }
sent_is group c d _ _ y e = absurd (cc)

pub sent_one : (group : List ℕ) (d to : ℕ) (tag : Tag) (body : List ℕ) (comm : Context) → slice_get group to ≡ Some d → sent_by group comm.number d (Send to tag body comm) Sent ≡ content tag body ∷ []
sent_one group d to tag body comm at = rw (eq-eqb comm.number comm.number refl, at, eq-eqb d d refl) refl

-- an event that brought this from s on the communicator c
pub record IsLetter (s c : ℕ) (event : MatchEvent) (y : Content) : Type 0 where
  pub letter : Letter
  pub came : event ≡ Come letter
  pub context : letter.envelope.context.number ≡ c
  pub source : letter.envelope.source.number ≡ s
  pub carries : content letter.envelope.tag letter.body ≡ y

pub come_is : (s c : ℕ) (event : MatchEvent) {y : Content} → come_in s c event ≡ y ∷ [] → IsLetter s c event y
come_is s c (Come letter) {y} e =
    let k = one_is (eqb letter.envelope.context.number c && eqb letter.envelope.source.number s) (content letter.envelope.tag letter.body) y e in
    let both = both_true (eqb letter.envelope.context.number c) (eqb letter.envelope.source.number s) k.0 in
    record { letter = letter; came = refl; context = eqb-true letter.envelope.context.number c both.0; source = eqb-true letter.envelope.source.number s both.1; carries = k.1 }
come_is s c _ e = absurd (cc)

pub come_one : (s c : ℕ) (letter : Letter) → letter.envelope.context.number ≡ c → letter.envelope.source.number ≡ s → come_in s c (Come letter) ≡ content letter.envelope.tag letter.body ∷ []
come_one s c letter ec es = rw (eq-eqb letter.envelope.context.number c ec, eq-eqb letter.envelope.source.number s es) refl
