-- Beginnings of two texts, one behind the other, and of the line above the answer of a file.
use Rattle.std.proofs.Common.{◌≡◌, ℕ, ◌+◌, ◌≤◌, min, Bool, true, List, codes, ◌++◌, length, take, Option, refl, sym, ap₂, subst, ◌∙◌, arith, take-add, take_at, drop_at}
use Rattle.std.proofs.KnownBytes.{Appends-trans}
use Rattle.std.proofs.lemmas.List.{take_min, take-append-le}
use Rattle.std.specs.Io.KnownBytes.{Appends}
use Rattle.ulfm_program.specs.Files.{head_of}
use Rattle.ulfm_program.specs.Replies.{GetsFrontOf}

-- a beginning of the first is one of both
pub front_before : (old new : Option (List ℕ)) (xs ys : List ℕ) → GetsFrontOf old new xs → GetsFrontOf old new (xs ++ ys)
front_before old new xs ys front =
    let within : min front.0 (length xs) ≤ length xs = omega arith in
    let same : take front.0 xs ≡ take (min front.0 (length xs)) (xs ++ ys) = sym (take_min front.0 xs) ∙ sym (take-append-le (min front.0 (length xs)) xs ys within) in
    (min front.0 (length xs), subst (Appends old new) same front.1)

-- the first, and a beginning of the second
pub front_behind : (old mid new : Option (List ℕ)) (xs ys : List ℕ) → Appends old mid xs → GetsFrontOf mid new ys → GetsFrontOf old new (xs ++ ys)
front_behind old mid new xs ys first front =
    let same : take (length xs + front.0) (xs ++ ys) ≡ xs ++ take front.0 ys =
    take-add (length xs) front.0 (xs ++ ys) ∙ ap₂ (λ (a b : List ℕ). a ++ take front.0 b) (take_at xs ys (length xs) refl) (drop_at xs ys (length xs) refl) in
    (length xs + front.0, subst (Appends old new) (sym same) (Appends-trans old mid new xs (take front.0 ys) first front.1))

-- a beginning of what stands before the name
pub front_of_sign : (has_head : Bool) (file : List ℕ) (old new : Option (List ℕ)) → has_head ≡ true → GetsFrontOf old new (codes "== ") → GetsFrontOf old new (head_of has_head file)
front_of_sign has_head file old new wanted front =
    subst (λ b. GetsFrontOf old new (head_of b file)) (sym wanted) (front_before old new (codes "== " ++ file) (codes "\n") (front_before old new (codes "== ") file front))

-- that, and a beginning of the name
pub front_of_name : (has_head : Bool) (file : List ℕ) (old mid new : Option (List ℕ)) → has_head ≡ true → Appends old mid (codes "== ") → GetsFrontOf mid new file
    → GetsFrontOf old new (head_of has_head file)
front_of_name has_head file old mid new wanted sign front =
    subst (λ b. GetsFrontOf old new (head_of b file)) (sym wanted) (front_before old new (codes "== " ++ file) (codes "\n") (front_behind old mid new (codes "== ") file sign front))

-- both, and a beginning of the end of the line
pub front_of_line : (has_head : Bool) (file : List ℕ) (old mid late new : Option (List ℕ)) → has_head ≡ true → Appends old mid (codes "== ") → Appends mid late file → GetsFrontOf late new (codes "\n")
    → GetsFrontOf old new (head_of has_head file)
front_of_line has_head file old mid late new wanted sign name front =
    subst (λ b. GetsFrontOf old new (head_of b file)) (sym wanted) (front_behind old late new (codes "== " ++ file) (codes "\n") (Appends-trans old mid late (codes "== ") file sign name) front)
