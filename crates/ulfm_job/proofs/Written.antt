-- A text that is read as a place is the one in which that place is written.
use Rattle.std.proofs.Common.{◌≡◌, ℕ, ◌<◌, ◌==◌, List, ◌∷◌, ◌++◌, append_assoc, length, leb, ltb, Bool, true, false, ◌&&◌, not, Option, Some, None, IfSome, option_map, codes, if◌then◌else◌, refl, sym, ap, ap₂, ◌∙◌, arith}
use Rattle.std.proofs.lemmas.Bool.{ltb-true}
use Rattle.std.proofs.lemmas.Bool.Decides.{nat_tests}
use Rattle.std.proofs.lemmas.List.Sums.{prefix_len-le-length}
use Rattle.std.proofs.lemmas.Slice.Eq.{bytes_eq-Decides}
use Rattle.std.specs.Fmt.{decimal}
use Rattle.std.specs.List.{after_first, before_first, position_or_len}
use Rattle.std.specs.Str.{bytes_eq}
use Rattle.std.specs.Str.Parse.{digits_value}
use Rattle.ulfm_job.specs.Text.{is_starred, number_of_text, place_of_text, place_text, star_if, stop_by, stop_of_text, stop_text, stops_of_text, two_by, unstarred}
use Rattle.ulfm_job.specs.declared.place.Place.{Place}
use Rattle.ulfm_job.specs.declared.place.Place.TheVariants.{Nowhere, One, Two}
use Rattle.ulfm_job.specs.declared.stop.Stop.{Stop}
use Rattle.ulfm_job.proofs.Numbers.{no_dot}
use Rattle.ulfm_job.proofs.Starred.{around, star_written}

some_same : {A : Type 0} (x y : A) → Some x ≡ Some y → x ≡ y
some_same x y e = cc

-- a number
number_written : (most n : ℕ) (text : List ℕ) → number_of_text most text ≡ Some n → decimal n ≡ text
number_written most n text = by (leb (digits_value 10 text) most) (bytes_eq text (decimal (digits_value 10 text))) refl
  where
    by : (a b : Bool) → bytes_eq text (decimal (digits_value 10 text)) ≡ b → (if a && b then Some (digits_value 10 text) else None) ≡ Some n → decimal n ≡ text
    by true true same e = ap decimal (sym (some_same (digits_value 10 text) n e)) ∙ sym ((bytes_eq-Decides text (decimal (digits_value 10 text))).0 same)
    by true false same e = absurd cc
    by false b same e = absurd cc

-- a text that is a stop has a dot
has_dot : (text : List ℕ) (stop : Stop) → stop_of_text text ≡ Some stop → position_or_len (λ b. b == 46) text < length text
has_dot text stop e = by (ltb (position_or_len (λ b. b == 46) text) (length text)) refl
  where
    by : (b : Bool) → ltb (position_or_len (λ b. b == 46) text) (length text) ≡ b → position_or_len (λ b. b == 46) text < length text
    by true lt = ltb-true _ _ lt
    by false ge =
        let none : position_or_len (λ b. b == 46) text ≡ length text = grind (arith, prefix_len-le-length (λ b. not (b == 46)) text, nat_tests) in
        let missing : None ≡ stop_of_text text = no_dot text none in
        absurd cc

-- a stop
stop_written : (text : List ℕ) (stop : Stop) → stop_of_text text ≡ Some stop → stop_text stop ≡ text
stop_written text stop e = by (number_of_text 255 (before_first (λ c. c == 46) text)) (number_of_text 65535 (unstarred (after_first (λ c. c == 46) text))) refl refl e
  where
    by : (rank at : Option ℕ) → number_of_text 255 (before_first (λ c. c == 46) text) ≡ rank → number_of_text 65535 (unstarred (after_first (λ c. c == 46) text)) ≡ at → stop_by rank at (is_starred (after_first (λ c. c == 46) text)) ≡ Some stop → stop_text stop ≡ text
    by None at r a e = absurd cc
    by (Some rank) None r a e = absurd cc
    by (Some rank) (Some at) r a e =
        let step = after_first (λ c. c == 46) text in
        let star = star_if (is_starred step) in
        let is : record { rank = rank; at = at; dies = is_starred step } ≡ stop = some_same _ stop e in
        ap stop_text (sym is) ∙ append_assoc (decimal rank ++ codes ".") (decimal at) star ∙ append_assoc (decimal rank) (codes ".") (decimal at ++ star)
        ∙ ap₂ (λ (front rest : List ℕ). front ++ (46 ∷ rest)) (number_written 255 rank _ r) (ap (λ (number : List ℕ). number ++ star) (number_written 65535 at _ a) ∙ star_written step)
        ∙ around 46 text (has_dot text stop whole)
      where
        whole : stop_of_text text ≡ Some stop
        whole = ap₂ (λ (x y : Option ℕ). stop_by x y (is_starred (after_first (λ c. c == 46) text))) r a ∙ e

place_written : (text : List ℕ) (place : Place) → place_of_text text ≡ Some place → place_text place ≡ text
place_written text place = by (bytes_eq text (codes "-")) refl
  where
    two : (text : List ℕ) (place : Place) (first second : Option Stop) → position_or_len (λ c. c == 43) text < length text → stop_of_text (before_first (λ c. c == 43) text) ≡ first → stop_of_text (after_first (λ c. c == 43) text) ≡ second → two_by first second ≡ Some place → place_text place ≡ text
    two text place None second lt f s e = absurd cc
    two text place (Some first) None lt f s e = absurd cc
    two text place (Some first) (Some second) lt f s e = rises (ltb first.rank second.rank) e
      where
        rises : (b : Bool) → (if b then Some (Two first second) else None) ≡ Some place → place_text place ≡ text
        rises true e =
            ap place_text (sym (some_same (Two first second) place e)) ∙ append_assoc (stop_text first) (codes "+") (stop_text second)
            ∙ ap₂ (λ (front rest : List ℕ). front ++ (43 ∷ rest)) (stop_written _ first f) (stop_written _ second s) ∙ around 43 text lt
        rises false e = absurd cc

    one : (text : List ℕ) (place : Place) (stop : Option Stop) → stop_of_text text ≡ stop → option_map One stop ≡ Some place → place_text place ≡ text
    one text place None s e = absurd cc
    one text place (Some stop) s e = ap place_text (sym (some_same (One stop) place e)) ∙ stop_written text stop s

    stops : (b : Bool) → ltb (position_or_len (λ c. c == 43) text) (length text) ≡ b → (if b then two_by (stop_of_text (before_first (λ c. c == 43) text)) (stop_of_text (after_first (λ c. c == 43) text)) else option_map One (stop_of_text text)) ≡ Some place → place_text place ≡ text
    stops true lt e = two text place _ _ (ltb-true _ _ lt) refl refl e
    stops false lt e = one text place _ refl e

    by : (b : Bool) → bytes_eq text (codes "-") ≡ b → (if b then Some Nowhere else stops_of_text text) ≡ Some place → place_text place ≡ text
    by true is e = ap place_text (sym (some_same Nowhere place e)) ∙ sym ((bytes_eq-Decides text (codes "-")).0 is)
    by false is e = stops (ltb (position_or_len (λ c. c == 43) text) (length text)) refl e

pub read_written : (place : Option Place) (text : List ℕ) → place ≡ place_of_text text → IfSome place (λ p. place_text p ≡ text)
read_written None text e = tt
read_written (Some place) text e = place_written text place (sym e)
