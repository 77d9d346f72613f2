-- Names are labels.
use Rattle.std.proofs.Common.{◌≡◌, ℕ, List, [], ◌∷◌, length, Bool, true, false, ◌&&◌, ◌||◌, Some, refl, ap₂}
use Rattle.std.proofs.lemmas.Bool.{false≢true}
use Rattle.std.specs.Prelude.{nat_le, nat_lt, ◌==◌}
use Rattle.ulfm_job.specs.Label.{is_label, is_label_byte, label_of}
use Rattle.ulfm_reader.proofs.Common.{Name, list_all}
use Rattle.ulfm_reader.specs.Reacting.{is_name, is_name_byte, is_new_name}

left : (a b : Bool) → (a && b) ≡ true → a ≡ true
left true b h = refl
left false b h = absurd (false≢true h)

right : (a b : Bool) → (a && b) ≡ true → b ≡ true
right true b h = h
right false b h = absurd (false≢true h)

-- two more cases
wider : (a b c u m s d : Bool) → (a || b || c || u || m) ≡ true → (a || b || c || s || u || m || d) ≡ true
wider true b c u m s d h = refl
wider false true c u m s d h = refl
wider false false true u m s d h = refl
wider false false false u m true d h = refl
wider false false false true m false d h = refl
wider false false false false true false d h = refl
wider false false false false false false d h = absurd (false≢true h)

byte : (b : ℕ) → is_name_byte b ≡ true → is_label_byte b ≡ true
byte b h = wider (nat_le 97 b && nat_le b 122) (nat_le 65 b && nat_le b 90) (nat_le 48 b && nat_le b 57) (b == 95) (b == 45) (b == 32) (b == 46) h

bytes : (text : List ℕ) → list_all is_name_byte text ≡ true → list_all is_label_byte text ≡ true
bytes [] h = refl
bytes (b ∷ text) h = ap₂ (λ x y. x && y) (byte b (left (is_name_byte b) _ h)) (bytes text (right (is_name_byte b) _ h))

-- a name that is new may be that of a label
pub labelled : (names : List Name) (rank : ℕ) (text : List ℕ) → is_new_name names rank text ≡ true → label_of text ≡ Some text
labelled names rank text new =
    let named : is_name text ≡ true = left (is_name text) _ new in
    let sized : (nat_lt 0 (length text) && nat_le (length text) 32) ≡ true = left _ (list_all is_name_byte text) named in
    let good : is_label text ≡ true = ap₂ (λ x y. x && y) sized (bytes text (right _ (list_all is_name_byte text) named)) in
    rw good refl
