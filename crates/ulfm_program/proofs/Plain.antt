-- A step that is read names one rank, and has no key of a block.
use Rattle.std.proofs.Common.{◌≡◌, ℕ, ℤ, List, Bool, true, false, Option, Some, None, Result, Ok, Err, refl, ap}
use Rattle.std.specs.Prelude.{codes}
use Rattle.std.specs.List.{list_all}
use Rattle.std.specs.Option.{option_and_then}
use Rattle.toml.specs.Data.{Data, Members, string, integer, float, boolean, datetime, array, table, get_member, as_integer, as_str}
use Rattle.ulfm_job.specs.Ops.{op_keys}
use Rattle.ulfm_job.specs.declared.fault.Fault.{Fault}
use Rattle.ulfm_job.specs.declared.op.Op.{Op}
use Rattle.ulfm_reader.specs.Keys.{◌>>=◌, is_among, keys_of, only_keys, optional, required, required_number}
use Rattle.ulfm_program.proofs.Keyed.{absent}

-- a step's members of one rank, whose `to` and `from` are no texts, without the keys of a block
pub record IsPlain (ms : Members) : Type 0 where
  pub number : ℤ
  pub rank : get_member (codes "rank") ms ≡ Some (integer number)
  pub to : option_and_then as_str (get_member (codes "to") ms) ≡ None
  pub from : option_and_then as_str (get_member (codes "from") ms) ≡ None
  pub steps : get_member (codes "steps") ms ≡ None
  pub leads : get_member (codes "on_error") ms ≡ None

-- what was checked first, and what came of the rest
pub ok_first : {A B E : Type 0} (r : Result A E) (f : A → Result B E) (y : B) → (r >>= f) ≡ Ok y → (x : A) × (r ≡ Ok x) × (f x ≡ Ok y)
ok_first (Ok x) f y is = (x, refl, is)
ok_first (Err e) f y is = absurd cc

-- what is answered well is one
pub ok_is : {A E : Type 0} (x y : A) → ◌≡◌ {A = Result A E} (Ok x) (Ok y) → x ≡ y
ok_is {A = A} {E = E} x y is = ap by is
  where
    by : Result A E → A
    by (Ok z) = z
    by (Err e) = x

-- a key that has to have a number has one
pub number_there : (found : Option Data) (z : ℤ) → required as_integer found ≡ Ok z → found ≡ Some (integer z)
number_there None z is = absurd cc
number_there (Some (integer w)) z is = ap (λ (r : Result ℤ Fault). Some (integer (by r))) is
  where
    by : Result ℤ Fault → ℤ
    by (Ok v) = v
    by (Err e) = w
number_there (Some (string s)) z is = absurd cc
number_there (Some (float x)) z is = absurd cc
number_there (Some (boolean b)) z is = absurd cc
number_there (Some (datetime t)) z is = absurd cc
number_there (Some (array ds)) z is = absurd cc
number_there (Some (table ms)) z is = absurd cc

-- one that may have a number has no text
pub no_text : (found : Option Data) (z : Option ℤ) → optional as_integer found ≡ Ok z → option_and_then as_str found ≡ None
no_text None z is = refl
no_text (Some (integer w)) z is = refl
no_text (Some (string s)) z is = absurd cc
no_text (Some (float x)) z is = refl
no_text (Some (boolean b)) z is = refl
no_text (Some (datetime t)) z is = refl
no_text (Some (array ds)) z is = refl
no_text (Some (table ms)) z is = refl

pub number_no_text : (found : Option Data) (z : ℤ) → required as_integer found ≡ Ok z → option_and_then as_str found ≡ None
number_no_text found z is = rw (number_there found z is) refl

-- no key but those of an op
pub keys_all : (names : List (List ℕ)) (ms : Members) (u : Unit {0}) → only_keys names ms ≡ Ok u → list_all (is_among names) (keys_of ms) ≡ true
keys_all names ms u is = by (list_all (is_among names) (keys_of ms)) refl
  where
    by : (b : Bool) → list_all (is_among names) (keys_of ms) ≡ b → list_all (is_among names) (keys_of ms) ≡ true
    by true all = all
    by false some = absurd cc

module _ (ms : Members) (z : ℤ) (rank : required_number (codes "rank") ms ≡ Ok z) (names : List (List ℕ)) (u : Unit {0}) (keys : only_keys names ms ≡ Ok u) where
  gone : (key : List ℕ) → is_among names key ≡ false → get_member key ms ≡ None
  gone key not = absent names key ms not (keys_all names ms u keys)

  pub plain : option_and_then as_str (get_member (codes "to") ms) ≡ None → option_and_then as_str (get_member (codes "from") ms) ≡ None
      → is_among names (codes "steps") ≡ false → is_among names (codes "on_error") ≡ false → IsPlain ms
  plain to from no_steps no_goal = record {
    number = z;
    rank = number_there (get_member (codes "rank") ms) z rank;
    to = to;
    from = from;
    steps = gone (codes "steps") no_steps;
    leads = gone (codes "on_error") no_goal;
  }

  pub gone_text : (key : List ℕ) → is_among names key ≡ false → option_and_then as_str (get_member key ms) ≡ None
  gone_text key not = ap (option_and_then as_str) (gone key not)

-- of an op that has neither `to` nor `from`, once its keys are known
pub other_plain : (ms : Members) (z : ℤ) (names : List (List ℕ)) (u : Unit {0}) → required_number (codes "rank") ms ≡ Ok z → only_keys names ms ≡ Ok u → is_among names (codes "to") ≡ false → is_among names (codes "from") ≡ false
    → is_among names (codes "steps") ≡ false → is_among names (codes "on_error") ≡ false → IsPlain ms
other_plain ms z names u rank keys no_to no_from no_steps no_goal =
    plain ms z rank names u keys (gone_text ms z rank names u keys (codes "to") no_to) (gone_text ms z rank names u keys (codes "from") no_from) no_steps no_goal

-- what is asked of an op's keys
abbrev pub HasNoSuch : Op → Type 0
HasNoSuch o = (is_among (op_keys o) (codes "to") ≡ false) × (is_among (op_keys o) (codes "from") ≡ false) × (is_among (op_keys o) (codes "steps") ≡ false) × (is_among (op_keys o) (codes "on_error") ≡ false)
