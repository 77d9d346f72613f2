-- Parts of the objects.
use Rattle.std.specs.Prelude.{ℕ, ◌==◌, Bool, List, [], ◌∷◌, ◌++◌, codes}
use Rattle.std.specs.Fmt.{decimal}
use Rattle.std.specs.List.{after_first, before_first, flat_map}
use Rattle.ulfm_base.specs.Error.{error_text}
use Rattle.ulfm_base.specs.declared.error.CallError.{CallError}

-- items, each behind a comma
abbrev pub behind_commas : {A : Type 0} → (A → List ℕ) → List A → List ℕ
behind_commas shown items = flat_map (λ item. codes "," ++ shown item) items

-- an array of items
abbrev pub array_json : {A : Type 0} → (A → List ℕ) → List A → List ℕ
array_json shown [] = codes "[]"
array_json shown (item ∷ items) = codes "[" ++ shown item ++ behind_commas shown items ++ codes "]"

-- a number
abbrev pub number_json : ℕ → List ℕ
number_json n = decimal n

-- an array of numbers
abbrev pub numbers_json : List ℕ → List ℕ
numbers_json numbers = array_json number_json numbers

-- a text in quotes: one that has neither quotes nor backslashes
abbrev pub text_json : List ℕ → List ℕ
text_json text = codes "\"" ++ text ++ codes "\""

-- an array of texts
abbrev pub texts_json : List (List ℕ) → List ℕ
texts_json texts = array_json text_json texts

-- an object that is written already
abbrev pub object_json : List ℕ → List ℕ
object_json object = object

-- an array of objects
abbrev pub objects_json : List (List ℕ) → List ℕ
objects_json objects = array_json object_json objects

-- the space in the words of a refusal
abbrev pub is_space : ℕ → Bool
is_space byte = byte == 32

-- the keys of a refusal: what stands in its words before the space, and behind it
abbrev pub error_json : CallError → List ℕ
error_json error = codes ",\"error\":" ++ before_first is_space (error_text error) ++ codes ",\"name\":\"" ++ after_first is_space (error_text error) ++ codes "\""
