-- Two counters that two events count up to 2 each.
use Rattle.std.specs.Prelude.{◌≡◌, ℕ, ⊤, zero, suc, ◌+◌, ◌<◌, List, [], ◌∷◌, Bool, false, IsTrue, nat_lt, if◌then◌else◌}
use Rattle.ulfm_reach.specs.Graph.{Graph}

-- where the counters are, and whether the last event counted
pub record Counts : Type 0 where
  pub first : ℕ
  pub second : ℕ
  pub counted : Bool

-- one counter goes up by one, where it isn't at 2, and the other stays
pub record CountsOn (old other new other_after : ℕ) (did : Bool) : Type 0 where
  pub goes_up : new ≡ (if nat_lt old 2 then old + 1 else old)
  pub stays : other_after ≡ other
  pub counted : did ≡ nat_lt old 2

-- event 0 counts the first, and event 1 the second
abbrev pub Leads : Counts → ℕ → Counts → Type 0
Leads old zero new = CountsOn old.first old.second new.first new.second new.counted
Leads old (suc zero) new = CountsOn old.second old.first new.second new.first new.counted
Leads old (suc (suc e)) new = ⊥

-- an event is blocked where its counter is at 2, or it has none
abbrev pub IsBlocked : Counts → ℕ → Type 0
IsBlocked s zero = nat_lt s.first 2 ≡ false
IsBlocked s (suc zero) = nat_lt s.second 2 ≡ false
IsBlocked s (suc (suc e)) = ⊤

-- both counters are the same
pub record IsAlike (s t : Counts) : Type 0 where
  pub first : s.first ≡ t.first
  pub second : s.second ≡ t.second

-- an event that counted tells its number and where the counters are
pub record Tells (e : ℕ) (s : Counts) (row : List ℕ) : Type 0 where
  pub number : e < 2
  pub counted : IsTrue s.counted
  pub is : row ≡ e ∷ s.first ∷ s.second ∷ []

-- the whole: the counters are the key, a final state tells 9, and no event goes first
abbrev pub counting : Graph Counts
counting = record {
  start = record { first = 0; second = 0; counted = false };
  leads = Leads;
  blocked = IsBlocked;
  alike = IsAlike;
  has_key = λ s key. key ≡ s.first ∷ s.second ∷ [];
  tells = Tells;
  tells_final = λ s row. row ≡ 9 ∷ [];
  first = λ s e. ⊥;
  weight = λ s. 0;
}
