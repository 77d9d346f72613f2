-- The own keys of a job, and of the same one written out.
use Rattle.std.proofs.Common.{◌≡◌, ℕ, ℤ, List, [], ◌∷◌, All, Bool, true, false, ◌&&◌, Option, Some, None, is_some, Ok, Err, refl, subst, ap, ◌∙◌}
use Rattle.std.proofs.lemmas.List.Elements.{All-head, All-tail}
use Rattle.std.specs.List.{list_all}
use Rattle.std.specs.Option.{option_and_then}
use Rattle.std.specs.Prelude.{codes, if◌then◌else◌, nat_le, pos, negsuc}
use Rattle.std.specs.Str.{bytes_eq}
use Rattle.toml.specs.Data.{Data, Items, Members, string, integer, float, boolean, datetime, array, table, as_integer, as_table, get_member}
use Rattle.toml.specs.View.{items_of}
use Rattle.ulfm_job.specs.declared.fault.Fault.TheVariants.{OutOfRange, UnknownKey}
use Rattle.ulfm_reader.specs.Documents.{ranks_in, ranks_or_eight, with_lines, with_rows}
use Rattle.ulfm_reader.specs.JobText.{Head, are_tables, head_of, step_items, step_items_in}
use Rattle.ulfm_reader.specs.Keys.{in_range, is_among, keys_of, only_keys, required, required_number}
use Rattle.ulfm_reader.specs.Line.{Line, steps_of}
use Rattle.ulfm_reader.specs.Members.{listed}
use Rattle.ulfm_reader.specs.Never.{never_items}
use Rattle.ulfm_program.proofs.Numbered.{IsPlainStep}
use Rattle.ulfm_program.proofs.Keyed.{get-put, get-put-other, keys-put}
use Rattle.ulfm_program.proofs.Plain.{ok_first, ok_is}

-- the keys that a job may have
abbrev pub job_keys : List (List ℕ)
job_keys = codes "ranks" ∷ codes "capacity" ∷ codes "turns" ∷ codes "step" ∷ codes "never" ∷ []

-- what is read of a job's own keys
pub record HeadParts (ms : Members) (h : Head) : Type 0 where
  pub ranks_key : ℤ
  pub capacity_key : ℤ
  pub turns_key : ℤ
  pub ranks : required_number (codes "ranks") ms ≡ Ok ranks_key
  pub capacity : required_number (codes "capacity") ms ≡ Ok capacity_key
  pub turns : required_number (codes "turns") ms ≡ Ok turns_key
  pub steps : step_items ms ≡ Ok h.steps
  pub never : never_items ms ≡ Ok h.never
  pub unit : Unit {0}
  pub keys : only_keys job_keys ms ≡ Ok unit
  pub ranks_are : in_range 1 8 ranks_key ≡ Ok h.ranks
  pub capacity_is : in_range 1 64 capacity_key ≡ Ok h.capacity
  pub turns_are : in_range 1 10000000 turns_key ≡ Ok h.turns

pub head_parts : (ms : Members) (h : Head) → head_of ms ≡ Ok h → HeadParts ms h
unfolding head_of
head_parts ms h is =
    let ranks_key = ok_first (required_number (codes "ranks") ms) _ h is in
    let capacity_key = ok_first (required_number (codes "capacity") ms) _ h ranks_key.2 in
    let turns_key = ok_first (required_number (codes "turns") ms) _ h capacity_key.2 in
    let steps = ok_first (step_items ms) _ h turns_key.2 in
    let never = ok_first (never_items ms) _ h steps.2 in
    let keys = ok_first (only_keys job_keys ms) _ h never.2 in
    let ranks = ok_first (in_range 1 8 ranks_key.0) _ h keys.2 in
    let capacity = ok_first (in_range 1 64 capacity_key.0) _ h ranks.2 in
    let turns = ok_first (in_range 1 10000000 turns_key.0) _ h capacity.2 in
    subst (HeadParts ms) (ok_is (record { ranks = ranks.0; capacity = capacity.0; turns = turns.0; steps = steps.0; never = never.0 }) h turns.2)
    (record {
      ranks_key = ranks_key.0;
      capacity_key = capacity_key.0;
      turns_key = turns_key.0;
      ranks = ranks_key.1;
      capacity = capacity_key.1;
      turns = turns_key.1;
      steps = steps.1;
      never = never.1;
      unit = keys.0;
      keys = keys.1;
      ranks_are = ranks.1;
      capacity_is = capacity.1;
      turns_are = turns.1;
    })

-- the same keys with other steps and rows
pub head_again : (ms other : Members) (h : Head) (steps : Items) (never : Option Items) → HeadParts ms h → get_member (codes "ranks") other ≡ get_member (codes "ranks") ms → get_member (codes "capacity") other ≡ get_member (codes "capacity") ms
    → get_member (codes "turns") other ≡ get_member (codes "turns") ms → step_items other ≡ Ok steps → never_items other ≡ Ok never → list_all (is_among job_keys) (keys_of other) ≡ true
    → head_of other ≡ Ok (record h { steps = steps; never = never })
unfolding head_of
head_again ms other h steps never parts ranks capacity turns their_steps their_rows keys =
    let ranks_there : required_number (codes "ranks") other ≡ Ok parts.ranks_key = ap (required as_integer) ranks ∙ parts.ranks in
    let capacity_there : required_number (codes "capacity") other ≡ Ok parts.capacity_key = ap (required as_integer) capacity ∙ parts.capacity in
    let turns_there : required_number (codes "turns") other ≡ Ok parts.turns_key = ap (required as_integer) turns ∙ parts.turns in
    let no_others : only_keys job_keys other ≡ Ok tt = rw keys refl in
    rw (ranks_there, capacity_there, turns_there, their_steps, their_rows, no_others, parts.ranks_are, parts.capacity_is, parts.turns_are) refl

-- the keys of a job that is read
pub keys_are : (ms : Members) (h : Head) → HeadParts ms h → list_all (is_among job_keys) (keys_of ms) ≡ true
keys_are ms h parts = by (list_all (is_among job_keys) (keys_of ms)) refl
  where
    by : (b : Bool) → list_all (is_among job_keys) (keys_of ms) ≡ b → list_all (is_among job_keys) (keys_of ms) ≡ true
    by true all = all
    by false some = let bad : only_keys job_keys ms ≡ Err UnknownKey = rw some refl in absurd cc

-- how many ranks it has
pub ranks_same : (ms : Members) (h : Head) → HeadParts ms h → ranks_in ms ≡ h.ranks
ranks_same ms h parts = by (get_member (codes "ranks") ms) parts.ranks
  where
    of_number : (z : ℤ) → in_range 1 8 z ≡ Ok h.ranks → ranks_or_eight (Some z) ≡ h.ranks
    of_number (pos n) is = test (nat_le 1 n && nat_le n 8) is
      where
        test : (b : Bool) → (if b then Ok n else Err OutOfRange) ≡ Ok h.ranks → (if b then n else 8) ≡ h.ranks
        test true inside = ok_is n h.ranks inside
        test false outside = absurd cc
    of_number (negsuc n) is = absurd cc

    by : (found : Option Data) → required as_integer found ≡ Ok parts.ranks_key → ranks_or_eight (option_and_then as_integer found) ≡ h.ranks
    by None none = absurd cc
    by (Some (integer z)) some = of_number z (ap (in_range 1 8) (ok_is z parts.ranks_key some) ∙ parts.ranks_are)
    by (Some (string s)) some = absurd cc
    by (Some (float x)) some = absurd cc
    by (Some (boolean b)) some = absurd cc
    by (Some (datetime t)) some = absurd cc
    by (Some (array ds)) some = absurd cc
    by (Some (table ns)) some = absurd cc

-- other keys than those of steps and of rows stay
rows_kept : (key : List ℕ) (ms : Members) (rows : Option (List Data)) → bytes_eq key (codes "never") ≡ false → get_member key (with_rows ms rows) ≡ get_member key ms
rows_kept key ms None apart = refl
rows_kept key ms (Some rows) apart = get-put-other key (codes "never") (array (items_of rows)) ms apart

pub lines_kept : (key : List ℕ) (ms : Members) (lines : Option (List Line)) → bytes_eq key (codes "step") ≡ false → get_member key (with_lines ms lines) ≡ get_member key ms
lines_kept key ms None apart = refl
lines_kept key ms (Some lines) apart = get-put-other key (codes "step") (array (items_of (steps_of lines))) ms apart

pub kept : (key : List ℕ) (ms : Members) (lines : Option (List Line)) (rows : Option (List Data)) → bytes_eq key (codes "step") ≡ false → bytes_eq key (codes "never") ≡ false
    → get_member key (with_rows (with_lines ms lines) rows) ≡ get_member key ms
kept key ms lines rows no_step no_row = rows_kept key (with_lines ms lines) rows no_row ∙ lines_kept key ms lines no_step

pub keys_kept : (ms : Members) (lines : Option (List Line)) (rows : Option (List Data)) → list_all (is_among job_keys) (keys_of ms) ≡ true → list_all (is_among job_keys) (keys_of (with_rows (with_lines ms lines) rows)) ≡ true
keys_kept ms None None all = all
keys_kept ms None (Some rows) all = keys-put (is_among job_keys) (codes "never") (array (items_of rows)) ms refl all
keys_kept ms (Some lines) None all = keys-put (is_among job_keys) (codes "step") (array (items_of (steps_of lines))) ms refl all
keys_kept ms (Some lines) (Some rows) all =
    keys-put (is_among job_keys) (codes "never") (array (items_of rows)) (with_lines ms (Some lines)) refl (keys-put (is_among job_keys) (codes "step") (array (items_of (steps_of lines))) ms refl all)

-- the steps that were put
pub tables_of : (ds : List Data) → All IsPlainStep ds → are_tables (items_of ds) ≡ true
tables_of [] all = refl
tables_of (d ∷ ds) all = rw (one d (All-head IsPlainStep d ds all)) (tables_of ds (All-tail IsPlainStep d ds all))
  where
    one : (e : Data) → IsPlainStep e → is_some (as_table e) ≡ true
    one (table ms) is = refl
    one (string s) is = absurd is
    one (integer z) is = absurd is
    one (float x) is = absurd is
    one (boolean b) is = absurd is
    one (datetime t) is = absurd is
    one (array es) is = absurd is

pub steps_put : (ms : Members) (lines : List Line) (rows : Option (List Data)) → All IsPlainStep (steps_of lines) → step_items (with_rows (with_lines ms (Some lines)) rows) ≡ Ok (items_of (steps_of lines))
steps_put ms lines rows all =
    let there : get_member (codes "step") (with_rows (with_lines ms (Some lines)) rows) ≡ Some (array (items_of (steps_of lines))) =
    rows_kept (codes "step") (with_lines ms (Some lines)) rows refl ∙ get-put (codes "step") (array (items_of (steps_of lines))) ms in
    ap step_items_in there ∙ rw (tables_of (steps_of lines) all) refl

-- a list as items, and back
pub listed_of : (ds : List Data) → listed (items_of ds) ≡ ds
listed_of [] = refl
listed_of (d ∷ ds) = ap (λ (es : List Data). d ∷ es) (listed_of ds)
