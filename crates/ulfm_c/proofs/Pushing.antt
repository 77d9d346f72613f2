-- What the parts of a turn push, one after the other.
use Rattle.std.proofs.Common.{◌≡◌, ◌≢◌, ◌↔◌, ℕ, ◌<◌, ◌==◌, Bool, true, false, cond, List, [], ◌∷◌, ◌++◌, length, length-append, refl, ap, sym, subst, ◌∙◌, arith, inl, inr, IsTrue, get_or-set_other}
use Rattle.std.proofs.lemmas.Bool.{cases_lt, false≢true}
use Rattle.std.proofs.lemmas.List.Sums.{sum_by-append, sum_by-cons}
use Rattle.ulfm_base.specs.declared.item.Item.{Item}
use Rattle.ulfm_log.specs.State.{GoesOut, RankView, State, is_ready, mark_at, marked, no_mark, outbox}
use Rattle.ulfm_commute.specs.World.{GoOut}
use Rattle.ulfm_c.specs.Turning.{GoesOn, IsSameProcess, TakesNone}
use Rattle.ulfm_c.specs.View.{ProcessView}
use Rattle.ulfm_c.specs.inside.Pushing.{PushesOne}

pub same-then : {a b c : ProcessView} → IsSameProcess a b → IsSameProcess b c → IsSameProcess a c
same-then h k = record { end = k.end ∙ h.end; board = k.board ∙ h.board; known = k.known ∙ h.known }

pub takes-none-then : {a b c : ProcessView} → TakesNone a b → TakesNone b c → TakesNone a c
takes-none-then h k = record { seen = λ s. k.seen s ∙ h.seen s; next = k.next ∙ h.next; same = same-then h.same k.same }

pub go-then : (ds es : List ℕ) (a b c : State) → GoOut ds a b → GoOut es b c → GoOut (ds ++ es) a c
go-then [] es a b c h k = subst (λ (r : State). GoOut es r c) h k
go-then (d ∷ ds) es a b c h k = (h.0, h.1, h.2, h.3, go-then ds es h.0 b c h.4 k)

pub go-ranks : (ds : List ℕ) (a b : State) → GoOut ds a b → b.ranks ≡ a.ranks
go-ranks [] a b h = ap (λ (r : State). r.ranks) h
go-ranks (d ∷ ds) a b h = go-ranks ds h.0 b h.4 ∙ ap (λ (r : State). r.ranks) h.3.marked

-- what waits for another rank than that to which an item goes out
pub box-apart : (old new : State) (d x : ℕ) (item : Item) → GoesOut old new d item → x ≢ d → outbox new x ≡ outbox old x
box-apart old new d x item k other = rw k.marked (rw (get_or-set_other old.marks d x (marked old (mark_at old d)) no_mark other) refl)

-- a rank with the room of another is as ready
pub same-room : (v w : RankView) → w.prepared ≡ v.prepared → w.has_place ≡ v.has_place → is_ready w ≡ is_ready v
same-room v w prepared place = rw (prepared, place) refl

-- nothing goes out
pub goes-none : (a : ProcessView) → GoesOn a a false
goes-none a = record { went = []; out = refl; told = (λ t. absurd (false≢true t), λ l. absurd (omega (arith, l))); rooms = λ p. omega arith; takes_none = record { seen = λ s. refl; next = refl; same = record { end = refl; board = refl; known = refl } } }

told-then : (n m : Bool) (ds es : List ℕ) → (IsTrue m ↔ (0 < length ds)) → (IsTrue n ↔ (0 < length es)) → IsTrue (cond n true m) ↔ (0 < length (ds ++ es))
told-then true m ds es p q = (λ t. omega (arith, q.0 refl, length-append ds es), λ l. refl)
told-then false true ds es p q = (λ t. omega (arith, p.0 refl, length-append ds es), λ l. refl)
told-then false false ds es p q = (
  λ t. absurd (false≢true t),
  λ l. absurd (elim (cases_lt 0 (length ds)) [
    | inl d ↦ false≢true (p.1 d)
    | inr d ↦ false≢true (q.1 (omega (arith, l, d, length-append ds es)))
  ]),
)

-- something goes out, and then something or nothing
pub goes-then : {a b c : ProcessView} {m k : Bool} (n : Bool) → GoesOn a b m → GoesOn b c n → k ≡ cond n true m → GoesOn a c k
goes-then {a} {b} {c} {m} n h g is = record {
  went = h.went ++ g.went;
  out = go-then h.went g.went a.rank b.rank c.rank h.out g.out;
  told = subst (λ x. IsTrue x ↔ (0 < length (h.went ++ g.went))) (sym is) (told-then n m h.went g.went h.told g.told);
  rooms = λ p. omega (arith, h.rooms p, g.rooms p, sum_by-append (λ x. cond (x == p) 1 0) h.went g.went);
  takes_none = takes-none-then h.takes_none g.takes_none;
}

-- one item goes out
pub goes-one : {a b : ProcessView} {d : ℕ} → d < a.rank.ranks → PushesOne a b d true → GoesOn a b true
goes-one {b = b} {d} inside h = let went = h.went refl in record {
  went = d ∷ [];
  out = (b.rank, went.0, inside, went.1, refl);
  told = (λ t. omega arith, λ l. refl);
  rooms = λ p. omega (arith, h.rooms p, sum_by-cons (λ x. cond (x == p) 1 0) d []);
  takes_none = h.takes_none;
}

-- none does
pub goes-none-by : {a b : ProcessView} {d : ℕ} → PushesOne a b d false → GoesOn a b false
goes-none-by h = record {
  went = [];
  out = h.stays refl;
  told = (λ t. absurd (false≢true t), λ l. absurd (omega (arith, l)));
  rooms = λ p. omega (arith, h.rooms p);
  takes_none = h.takes_none;
}
