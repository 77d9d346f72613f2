-- Two counters are a lawful system.
use Rattle.std.proofs.Common.{◌≡◌, ℕ, zero, suc, ◌∷◌, [], Bool, false, nat_lt, sym, subst, ◌∙◌, refl, true≢false}
use Rattle.ulfm_reach.specs.Graph.{IsIdle, IsLawful}
use Rattle.ulfm_reach.proofs.FirstKinds.{none-first}
use Rattle.ulfm_tests.specs.Counters.{Counts, CountsOn, IsAlike, IsBlocked, counting}

-- what is alike is so both ways
back : (s t : Counts) → IsAlike s t → IsAlike t s
back s t alike = record { first = sym alike.first; second = sym alike.second }

-- and goes on
onward : (s t u : Counts) → IsAlike s t → IsAlike t u → IsAlike s u
onward s t u a b = record { first = a.first ∙ b.first; second = a.second ∙ b.second }

-- a counter that is at 2 stays there, and isn't counted
stays_at_two : (n m o p a b : ℕ) (c : Bool) → nat_lt n 2 ≡ false → n ≡ m → o ≡ p → CountsOn m p a b c → (n ≡ a) × (o ≡ b) × (c ≡ false)
stays_at_two n m o p a b c two first second counts =
    let test : nat_lt m 2 ≡ false = subst (λ k. nat_lt k 2 ≡ false) first two in
    let same : a ≡ m = rw test at counts.goes_up in
    (first ∙ sym same, second ∙ sym counts.stays, counts.counted ∙ test)

-- a blocked event leads to states alike, and tells nothing
idle : (s : Counts) (e : ℕ) → IsBlocked s e → IsIdle counting s e
idle s zero two t u alike leads =
    let at = stays_at_two s.first t.first s.second t.second u.first u.second u.counted two alike.first alike.second leads in
    (record { first = at.0; second = at.1 }, λ row tells. true≢false (sym tells.counted ∙ at.2))
idle s (suc zero) two t u alike leads =
    let at = stays_at_two s.second t.second s.first t.first u.second u.first u.counted two alike.second alike.first leads in
    (record { first = at.1; second = at.0 }, λ row tells. true≢false (sym tells.counted ∙ at.2))
idle s (suc (suc e)) none t u alike leads = absurd leads

pub lawful : IsLawful counting
lawful = record {
  itself = λ s. record { first = refl; second = refl };
  back = back;
  onward = onward;
  one_key = λ s t key a b. let same : s.first ∷ s.second ∷ [] ≡ t.first ∷ t.second ∷ [] = sym a ∙ b in record { first = cc; second = cc };
  idle = idle;
  final_alike = λ s t row alike final also tells. tells;
  one_weight = λ s t alike. refl;
  first = none-first counting (λ s e. ⊥);
}
