-- Rows of `never` that are read say no word in place of a rank.
use Rattle.std.proofs.Common.{◌≡◌, ◌<◌, ◌+◌, ℕ, List, [], ◌∷◌, ◌++◌, length, Bool, true, false, Some, None, Result, Ok, Err, refl, sym, ap, ◌∙◌, arith, suc}
use Rattle.std.proofs.lemmas.Bool.{false≢true}
use Rattle.std.proofs.lemmas.Bool.Decides.{nat_tests}
use Rattle.std.proofs.lemmas.Slice.Eq.{bytes_eq-Decides}
use Rattle.std.specs.List.{after_first, before_first, position_or_len}
use Rattle.std.specs.Prelude.{codes, nat_lt, option_map, if◌then◌else◌, ◌==◌}
use Rattle.toml.specs.Data.{Data, Items, no_items, item, string, integer, float, boolean, datetime, array, table, as_str}
use Rattle.ulfm_job.proofs.Starred.{around}
use Rattle.ulfm_job.specs.declared.clause.Clause.{Clause}
use Rattle.ulfm_job.specs.declared.fault.Fault.{Fault}
use Rattle.ulfm_job.specs.declared.fault.Fault.TheVariants.{OutOfRange}
use Rattle.ulfm_reader.specs.Iterations.{is_text}
use Rattle.ulfm_reader.specs.Members.{listed}
use Rattle.ulfm_reader.specs.Never.{byte_in, claim_at, claim_in, claims_onto, place_in}
use Rattle.ulfm_reader.specs.Never as never
use Rattle.ulfm_reader.specs.Plan.{Order}
use Rattle.ulfm_reader.specs.Rows.{names, parted, says}
use Rattle.ulfm_reader.specs.declared.name.Name.{Name}
use Rattle.ulfm_program.proofs.Plain.{ok_first}

-- what stands before the first that passes, where the next doesn't, and where it does
goes_on : (p : ℕ → Bool) (x : ℕ) (xs : List ℕ) → p x ≡ false → before_first p (x ∷ xs) ≡ x ∷ before_first p xs
goes_on p x xs fails =
    let more : 1 + position_or_len p xs ≡ suc (position_or_len p xs) = omega arith in
    rw (fails, more) refl

ends : (p : ℕ → Bool) (x : ℕ) (xs : List ℕ) → p x ≡ true → before_first p (x ∷ xs) ≡ []
ends p x xs passes = rw passes refl

-- a text that says a word begins with it and a dot
begins_with : (word t : List ℕ) → is_text word (option_map (λ (parts : List ℕ × List ℕ). parts.0) (parted 46 t)) ≡ true → (rest : List ℕ) × (t ≡ word ++ 46 ∷ rest)
begins_with word t is = by (nat_lt (position_or_len (λ b. b == 46) t) (length t)) refl is
  where
    by : (b : Bool) → nat_lt (position_or_len (λ c. c == 46) t) (length t) ≡ b
        → is_text word (option_map (λ (parts : List ℕ × List ℕ). parts.0) (if b then Some (before_first (λ c. c == 46) t, after_first (λ c. c == 46) t) else None)) ≡ true → (rest : List ℕ) × (t ≡ word ++ 46 ∷ rest)
    by true inside says_it =
        let low : position_or_len (λ c. c == 46) t < length t = grind (arith, nat_tests, inside) in
        let same : before_first (λ c. c == 46) t ≡ word = (bytes_eq-Decides (before_first (λ c. c == 46) t) word).0 says_it in
        (after_first (λ c. c == 46) t, sym (around 46 t low) ∙ ap (λ (s : List ℕ). s ++ 46 ∷ after_first (λ c. c == 46) t) same)
    by false none says_it = absurd (false≢true says_it)

-- the first part of a text that is parted
front_of : (c : ℕ) (t : List ℕ) (parts : List ℕ × List ℕ) → never.parted c t ≡ Ok parts → parts.0 ≡ before_first (λ b. b == c) t
front_of c t parts is = by (nat_lt (position_or_len (λ b. b == c) t) (length t)) is
  where
    front : Result (List ℕ × List ℕ) Fault → List ℕ
    front (Ok both) = both.0
    front (Err e) = []

    by : (b : Bool) → (if b then Ok (before_first (λ d. d == c) t, after_first (λ d. d == c) t) else Err OutOfRange) ≡ Ok parts → parts.0 ≡ before_first (λ b. b == c) t
    by true found = sym (ap front found)
    by false none = absurd cc

no_number_all : (n : ℕ) → byte_in (codes "all") ≡ Ok n → ⊥
no_number_all n is = cc

no_number_any : (n : ℕ) → byte_in (codes "any") ≡ Ok n → ⊥
no_number_any n is = cc

module _ (scripts : List (List Order)) (known : List Name) where
  -- the byte of a text that is read as a claim
  byte_of : (t : List ℕ) (c : Clause) → claim_in scripts known t ≡ Ok c → (n : ℕ) × (byte_in (before_first (λ b. b == 46) (before_first (λ b. b == 32) t)) ≡ Ok n)
  unfolding claim_in place_in
  byte_of t c is =
      let parts = ok_first (never.parted 32 t) _ c is in
      let place = ok_first (place_in known parts.0.0) _ c parts.2 in
      let inner = ok_first (never.parted 46 parts.0.0) _ place.0 place.1 in
      let number = ok_first (byte_in inner.0.0) _ place.0 inner.2 in
      (number.0, sym (ap byte_in (front_of 46 parts.0.0 inner.0 inner.1 ∙ ap (before_first (λ b. b == 46)) (front_of 32 t parts.0 parts.1))) ∙ number.1)

  no_all : (rest : List ℕ) (c : Clause) → claim_in scripts known (97 ∷ 108 ∷ 108 ∷ 46 ∷ rest) ≡ Ok c → ⊥
  no_all rest c is =
      let blank = λ (b : ℕ). b == 32 in
      let dot = λ (b : ℕ). b == 46 in
      let place : before_first blank (97 ∷ 108 ∷ 108 ∷ 46 ∷ rest) ≡ 97 ∷ 108 ∷ 108 ∷ 46 ∷ before_first blank rest =
      goes_on blank 97 (108 ∷ 108 ∷ 46 ∷ rest) refl ∙ ap (λ (s : List ℕ). 97 ∷ s) (goes_on blank 108 (108 ∷ 46 ∷ rest) refl ∙ ap (λ (s : List ℕ). 108 ∷ s) (goes_on blank 108 (46 ∷ rest) refl ∙ ap (λ (s : List ℕ). 108 ∷ s) (goes_on blank 46 rest refl))) in
      let word : before_first dot (97 ∷ 108 ∷ 108 ∷ 46 ∷ before_first blank rest) ≡ codes "all" =
      goes_on dot 97 (108 ∷ 108 ∷ 46 ∷ before_first blank rest) refl ∙ ap (λ (s : List ℕ). 97 ∷ s) (goes_on dot 108 (108 ∷ 46 ∷ before_first blank rest) refl ∙ ap (λ (s : List ℕ). 108 ∷ s) (goes_on dot 108 (46 ∷ before_first blank rest) refl ∙ ap (λ (s : List ℕ). 108 ∷ s) (ends dot 46 (before_first blank rest) refl))) in
      let byte = byte_of (97 ∷ 108 ∷ 108 ∷ 46 ∷ rest) c is in
      no_number_all byte.0 (sym (ap byte_in (ap (before_first dot) place ∙ word)) ∙ byte.1)

  no_any : (rest : List ℕ) (c : Clause) → claim_in scripts known (97 ∷ 110 ∷ 121 ∷ 46 ∷ rest) ≡ Ok c → ⊥
  no_any rest c is =
      let blank = λ (b : ℕ). b == 32 in
      let dot = λ (b : ℕ). b == 46 in
      let place : before_first blank (97 ∷ 110 ∷ 121 ∷ 46 ∷ rest) ≡ 97 ∷ 110 ∷ 121 ∷ 46 ∷ before_first blank rest =
      goes_on blank 97 (110 ∷ 121 ∷ 46 ∷ rest) refl ∙ ap (λ (s : List ℕ). 97 ∷ s) (goes_on blank 110 (121 ∷ 46 ∷ rest) refl ∙ ap (λ (s : List ℕ). 110 ∷ s) (goes_on blank 121 (46 ∷ rest) refl ∙ ap (λ (s : List ℕ). 121 ∷ s) (goes_on blank 46 rest refl))) in
      let word : before_first dot (97 ∷ 110 ∷ 121 ∷ 46 ∷ before_first blank rest) ≡ codes "any" =
      goes_on dot 97 (110 ∷ 121 ∷ 46 ∷ before_first blank rest) refl ∙ ap (λ (s : List ℕ). 97 ∷ s) (goes_on dot 110 (121 ∷ 46 ∷ before_first blank rest) refl ∙ ap (λ (s : List ℕ). 110 ∷ s) (goes_on dot 121 (46 ∷ before_first blank rest) refl ∙ ap (λ (s : List ℕ). 121 ∷ s) (ends dot 46 (before_first blank rest) refl))) in
      let byte = byte_of (97 ∷ 110 ∷ 121 ∷ 46 ∷ rest) c is in
      no_number_any byte.0 (sym (ap byte_in (ap (before_first dot) place ∙ word)) ∙ byte.1)

  -- a text that is read says neither word
  text_alone : (t : List ℕ) (c : Clause) → claim_in scripts known t ≡ Ok c → (says (codes "all") (string t) ≡ false) × (says (codes "any") (string t) ≡ false)
  text_alone t c is = (by_all (says (codes "all") (string t)) refl, by_any (says (codes "any") (string t)) refl)
    where
      by_all : (b : Bool) → says (codes "all") (string t) ≡ b → says (codes "all") (string t) ≡ false
      by_all false lacks = lacks
      by_all true says_it = let begins = begins_with (codes "all") t says_it in absurd (no_all begins.0 c (ap (claim_in scripts known) (sym begins.1) ∙ is))

      by_any : (b : Bool) → says (codes "any") (string t) ≡ b → says (codes "any") (string t) ≡ false
      by_any false lacks = lacks
      by_any true says_it = let begins = begins_with (codes "any") t says_it in absurd (no_any begins.0 c (ap (claim_in scripts known) (sym begins.1) ∙ is))

  data_alone : (d : Data) (c : Clause) → claim_at scripts known (as_str d) ≡ Ok c → (says (codes "all") d ≡ false) × (says (codes "any") d ≡ false)
  data_alone (string t) c is = text_alone t c is
  data_alone (integer z) c is = (refl, refl)
  data_alone (float x) c is = (refl, refl)
  data_alone (boolean b) c is = (refl, refl)
  data_alone (datetime t) c is = (refl, refl)
  data_alone (array ds) c is = (refl, refl)
  data_alone (table ms) c is = (refl, refl)

  -- so it is with the texts of a row that is read
  pub row_alone : (before : List Clause) (ds : Items) (row : List Clause) → claims_onto scripts known before ds ≡ Ok row → (names (codes "all") (listed ds) ≡ false) × (names (codes "any") (listed ds) ≡ false)
  unfolding claims_onto
  row_alone before no_items row is = (refl, refl)
  row_alone before (item d ds) row is =
      let claim = ok_first (claim_at scripts known (as_str d)) _ row is in
      let one = data_alone d claim.0 claim.1 in
      let more = row_alone (before ++ claim.0 ∷ []) ds row claim.2 in
      (rw (one.0, more.0) refl, rw (one.1, more.1) refl)
