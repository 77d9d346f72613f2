-- How something is read off a log.
use Rattle.std.specs.Prelude.{List, [], ◌∷◌, ◌++◌, Option, Some, None}
use Rattle.ulfm_log.specs.declared.entry.Entry.{Entry}

-- What is gathered from the left: `by` gives what an entry adds, from the entries before it and from what was gathered there.
abbrev pub gathered_from : {X : Type 0} → (List Entry → List X → Entry → List X) → List Entry → List X → List Entry → List X
gathered_from by before found [] = found
gathered_from by before found (e ∷ rest) = gathered_from by (before ++ e ∷ []) (found ++ by before found e) rest

-- what an entry adds by the entries before it alone
abbrev pub by_before : {X : Type 0} → (List Entry → Entry → List X) → List Entry → List X → Entry → List X
by_before by before _ entry = by before entry

-- what an entry adds by what was gathered before it alone
abbrev pub by_found : {X : Type 0} → (List X → Entry → List X) → List Entry → List X → Entry → List X
by_found by _ found entry = by found entry

-- what is gathered from the whole log
abbrev pub gathered : {X : Type 0} → List X → (List Entry → List X → Entry → List X) → List Entry → List X
gathered start by log = gathered_from by [] start log

-- the first of two that is there
abbrev pub or_else : {X : Type 0} → Option X → Option X → Option X
or_else None second = second
or_else (Some x) second = Some x

-- the first thing that an entry gives
abbrev pub first_given : {X : Type 0} → (Entry → Option X) → List Entry → Option X
first_given give [] = None
first_given give (e ∷ rest) = or_else (give e) (first_given give rest)
