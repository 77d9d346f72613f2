-- A ring is emptied into a list.
use Rattle.std.proofs.Common.{◌≡◌, ℕ, Option, None, Some, List, [], ◌∷◌, ◌++◌, length, map, refl, ap, sym, ◌∙◌, append-nil}
use Rattle.ulfm_carrier.proofs.Common.{Carried, item_from, map-append, nil_from_length, shown, signed, with_sender, WorldRank}

pub all_moved : {X Y : Type 0} (f : X → Y) (done all : List Y) (ahead : List X) → length ahead ≡ 0 → done ++ map f ahead ≡ all → done ≡ all
all_moved f done all ahead none was = sym (append-nil done) ∙ ap (λ l. done ++ map f l) (sym (nil_from_length ahead none)) ∙ was

pub tagged_twice : (source : WorldRank) (xs : List Carried) → map (signed source) xs ≡ map (with_sender source) (map (item_from source) xs)
tagged_twice source [] = refl
tagged_twice source (x ∷ xs) = ap (λ l. signed source x ∷ l) (tagged_twice source xs)

-- what was sent is what was taken and then what is ahead
pub sent_rest : (source : WorldRank) (gathered : Option ℕ) {sent sent' was now : List Carried} (ahead : List Carried) → gathered ≡ None → sent' ≡ sent → now ≡ was → now ++ ahead ≡ sent' → map (item_from source) sent ≡ map (item_from source) (shown gathered was) ++ map (item_from source) ahead
sent_rest source None {was} ahead live same looked fifo = ap (map (item_from source)) (sym same ∙ sym fifo ∙ ap (λ l. l ++ ahead) looked) ∙ map-append (item_from source) was ahead
sent_rest source (Some count) ahead live same looked fifo = absurd (cc)
