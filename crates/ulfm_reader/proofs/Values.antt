-- Tables with another value at a key, and the numbers among values.
use Rattle.std.proofs.Common.{◌≡◌, ℕ, List, [], ◌∷◌, Bool, ◌&&◌, cond, String, Global, Option, Some, None, is_some, option_map, Ordering, Less, Equal, Greater, string_bytes, map, refl, ap, ◌∙◌}
use Rattle.std.proofs.lemmas.List.{append-nil}
use Rattle.std.specs.BTreeMap.{insert_entry}
use Rattle.std.specs.List.{filter_map, list_all}
use Rattle.std.specs.Option.{option_and_then}
use Rattle.std.specs.Ordering.{match_ordering}
use Rattle.std.specs.String.{string_cmp}
use Rattle.toml.specs.Data.{Data, Items, string, integer, float, boolean, datetime, array, table, as_array, as_integer, as_str}
use Rattle.ulfm_reader.proofs.WrittenOut.{Value, items_view, members_view, view}
use Rattle.ulfm_reader.specs.Members.{list_in, listed, put}
use Rattle.ulfm_reader.specs.Ranks.{numbers, several}

members_of-cases : (o : Ordering) (a b c : List (String Global × Value)) → members_view (match_ordering o a b c) ≡ match_ordering o (members_view a) (members_view b) (members_view c)
members_of-cases Less a b c = refl
members_of-cases Equal a b c = refl
members_of-cases Greater a b c = refl

-- what an insert into the map of a table leaves
pub put-view : (es : List (String Global × Value)) (k : String Global) (v : Value) → members_view (insert_entry string_cmp es k v) ≡ put (string_bytes k) (view v) (members_view es)
put-view [] k v = refl
put-view (e ∷ es) k v = members_of-cases (string_cmp k e.0) _ _ _ ∙ rw (put-view es k v)

-- values as a list of data
pub listed-view : (vs : List Value) → listed (items_view vs) ≡ map view vs
listed-view [] = refl
listed-view (v ∷ vs) = ap (λ ds. view v ∷ ds) (listed-view vs)

pub all_view : (p : Data → Bool) (vs : List Value) → list_all p (map view vs) ≡ list_all (λ v. p (view v)) vs
all_view p [] = refl
all_view p (v ∷ vs) = ap (λ b. p (view v) && b) (all_view p vs)

pub found-view : {X : Type 0} (f : Data → Option X) (vs : List Value) → filter_map f (map view vs) ≡ filter_map (λ v. f (view v)) vs
found-view f [] = refl
found-view f (v ∷ vs) = rw (found-view f vs) refl

-- the numbers of values, by whether there is nothing else
pub numbers-if : (vs : List Value) (are : Bool) → are ≡ list_all (λ v. is_some (as_integer (view v))) vs → numbers (map view vs) ≡ cond are (filter_map (λ v. as_integer (view v)) vs) []
numbers-if vs are is = rw (all_view (λ d. is_some (as_integer d)) vs, ← is, found-view as_integer vs) refl

-- an array is no text
no_text : (d : Data) (ds : Items) → as_array d ≡ Some ds → as_str d ≡ None
no_text (array ds) es is = refl
no_text (string s) es is = absurd cc
no_text (integer z) es is = refl
no_text (float x) es is = refl
no_text (boolean b) es is = refl
no_text (datetime t) es is = refl
no_text (table ms) es is = refl

-- the ranks of an array
pub several-array : (ranks : ℕ) (d : Data) (vs : List Value) → as_array d ≡ Some (items_view vs) → several ranks (Some d) ≡ numbers (map view vs)
several-array ranks d vs is = rw (is, no_text d (items_view vs) is, listed-view vs) (append-nil (numbers (map view vs)))

-- the steps of a table
pub steps-found : (vs : List Value) (d : Data) (found : Option Data) → Some d ≡ found → Some (items_view vs) ≡ as_array d → Some (map view vs) ≡ option_map listed (option_and_then as_array found)
steps-found vs d found a b = rw (← a, ← b, listed-view vs) refl

-- the list of an array
pub list-found : (vs : List Value) (d : Data) → Some (items_view vs) ≡ as_array d → Some (map view vs) ≡ list_in d
list-found vs d is = rw (← is, listed-view vs) refl
