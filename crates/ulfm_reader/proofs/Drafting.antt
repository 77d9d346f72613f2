-- One more step of a draft.
use Rattle.std.proofs.Common.{◌≡◌, ℕ, ◌<◌, ◌≤◌, List, [], ◌∷◌, ◌++◌, length, map, set, get_or, slice_index_or, Ok, Err, Vec, Global, refl, sym, ap, ◌∙◌, arith}
use Rattle.std.proofs.lemmas.List.{length-map, get_or-map}
use Rattle.toml.specs.Data.{Members, get_member}
use Rattle.std.specs.Prelude.{codes}
use Rattle.ulfm_reader.proofs.Asking.{in_step-err}
use Rattle.ulfm_reader.proofs.Common.{Clause, Condition, JobFault, Name, Order, Step, lists_of, order_of, step_count}
use Rattle.ulfm_job.proofs.Scripts.{one_of_all}
use Rattle.ulfm_reader.proofs.Scripts.{orders-put}
use Rattle.ulfm_reader.specs.JobText.{drafted, filed_at, in_step}
use Rattle.ulfm_reader.specs.Provisos.{step_provisos}
use Rattle.ulfm_reader.specs.Reacting.{conditions_in, expected_in, names_in, namings_in}
use Rattle.ulfm_job.specs.declared.naming.Naming.{Naming}
use Rattle.ulfm_reader.specs.declared.proviso.Proviso.{Proviso}
use Rattle.ulfm_reader.specs.declared.draft.Draft.{Draft as CodedDraft}
use Rattle.ulfm_reader.specs.inside.Reading.{draft_view}

-- a rank's script and the names so far, as a draft has them, and the number of the rank's next step
pub record IsFront (d : CodedDraft) (r at : ℕ) (script : List Step) (names : List Name) : Type 0 where
  pub orders : slice_index_or (map (map order_of) (lists_of d.scripts.items)) r [] ≡ map order_of script
  pub number : at ≡ length script
  pub known : names ≡ d.names.items

script-of : (d : CodedDraft) (r : ℕ) (w : Vec Step Global) (script : List Step) → r < length d.scripts.items → w ≡ get_or d.scripts.items r w → script ≡ w.items → get_or (lists_of d.scripts.items) r [] ≡ script
script-of d r w script inside here is =
    get_or-map (λ (v : Vec Step Global). v.items) d.scripts.items r w [] inside ∙ ap (λ (v : Vec Step Global). v.items) (sym here) ∙ sym is

-- a script has no more steps than there are in all
pub short : (d : CodedDraft) (r : ℕ) (w : Vec Step Global) (script : List Step) → r < length d.scripts.items → w ≡ get_or d.scripts.items r w → script ≡ w.items
    → step_count (lists_of d.scripts.items) ≤ 255 → length script ≤ 255
short d r w script inside here is few = omega (arith, few, one_of_all (lists_of d.scripts.items) r, ap length (script-of d r w script inside here is))

pub front : (d : CodedDraft) (r at : ℕ) (w : Vec Step Global) (script : List Step) (names : List Name) → r < length d.scripts.items → w ≡ get_or d.scripts.items r w → script ≡ w.items
    → at ≡ length script → names ≡ d.names.items → IsFront d r at script names
front d r at w script names inside here is number known =
    let long : length (lists_of d.scripts.items) ≡ length d.scripts.items = length-map d.scripts.items (λ (v : Vec Step Global). v.items) in
    let orders : get_or (map (map order_of) (lists_of d.scripts.items)) r [] ≡ map order_of (get_or (lists_of d.scripts.items) r []) = get_or-map (map order_of) (lists_of d.scripts.items) r [] [] (omega (arith, inside, long)) in
    record {
      orders = orders ∙ ap (map order_of) (script-of d r w script inside here is);
      number = number;
      known = known;
    }

-- the fault of a condition
pub conditions-fault : (d : CodedDraft) (r at k : ℕ) (script : List Step) (names more : List Name) (o : Order) (ms : Members) (e : JobFault) → IsFront d r at script names
    → Ok more ≡ names_in names r at (get_member (codes "name") ms)
    → in_step k (conditions_in (record { rank = r; at = at; script = map order_of script; names = names }) d.conditions.items (get_member (codes "if") ms)) ≡ Err e
    → in_step k (drafted k (draft_view d) ms (record { rank = r; order = o })) ≡ Err e
unfolding drafted
conditions-fault d r at k script names more o ms e h named read = rw (h.orders, length-map script order_of, ← h.number, ← h.known, ← named) (in_step-err k _ _ e read)

-- the fault of a proviso
pub proviso-fault : (d : CodedDraft) (r at k : ℕ) (script : List Step) (names more : List Name) (conditions : List Condition) (o : Order) (ms : Members) (e : JobFault) → IsFront d r at script names
    → Ok more ≡ names_in names r at (get_member (codes "name") ms)
    → conditions_in (record { rank = r; at = at; script = map order_of script; names = names }) d.conditions.items (get_member (codes "if") ms) ≡ Ok conditions
    → in_step k (step_provisos r at d.provisos.items (get_member (codes "expect") ms)) ≡ Err e
    → in_step k (drafted k (draft_view d) ms (record { rank = r; order = o })) ≡ Err e
unfolding drafted
proviso-fault d r at k script names more conditions o ms e h named asked read = rw (h.orders, length-map script order_of, ← h.number, ← h.known, ← named, asked) (in_step-err k _ _ e read)

-- the fault of what is expected
pub expected-fault : (d : CodedDraft) (r at k : ℕ) (script : List Step) (names more : List Name) (conditions : List Condition) (provisos : List Proviso) (o : Order) (ms : Members) (e : JobFault) → IsFront d r at script names
    → Ok more ≡ names_in names r at (get_member (codes "name") ms)
    → conditions_in (record { rank = r; at = at; script = map order_of script; names = names }) d.conditions.items (get_member (codes "if") ms) ≡ Ok conditions
    → step_provisos r at d.provisos.items (get_member (codes "expect") ms) ≡ Ok provisos
    → in_step k (expected_in r at o d.expected.items (get_member (codes "expect") ms)) ≡ Err e
    → in_step k (drafted k (draft_view d) ms (record { rank = r; order = o })) ≡ Err e
unfolding drafted
expected-fault d r at k script names more conditions provisos o ms e h named asked given read = rw (h.orders, length-map script order_of, ← h.number, ← h.known, ← named, asked, given) (in_step-err k _ _ e read)

-- the fault of the communicator that the step names
pub naming-fault : (d : CodedDraft) (r at k : ℕ) (script : List Step) (names more : List Name) (conditions : List Condition) (provisos : List Proviso) (expected : List Clause) (o : Order) (ms : Members) (e : JobFault) → IsFront d r at script names
    → Ok more ≡ names_in names r at (get_member (codes "name") ms)
    → conditions_in (record { rank = r; at = at; script = map order_of script; names = names }) d.conditions.items (get_member (codes "if") ms) ≡ Ok conditions
    → step_provisos r at d.provisos.items (get_member (codes "expect") ms) ≡ Ok provisos
    → expected_in r at o d.expected.items (get_member (codes "expect") ms) ≡ Ok expected
    → in_step k (namings_in (record { rank = r; at = at; script = map order_of script; names = names }) d.namings.items (get_member (codes "comm") ms)) ≡ Err e
    → in_step k (drafted k (draft_view d) ms (record { rank = r; order = o })) ≡ Err e
unfolding drafted
naming-fault d r at k script names more conditions provisos expected o ms e h named asked given wanted read = rw (h.orders, length-map script order_of, ← h.number, ← h.known, ← named, asked, given, wanted) (in_step-err k _ _ e read)

-- one more step
pub one-more : (d new : CodedDraft) (r at k : ℕ) (script : List Step) (names more : List Name) (conditions : List Condition) (provisos : List Proviso) (expected : List Clause) (namings : List Naming) (x : Step) (ms : Members) → IsFront d r at script names
    → r < length d.scripts.items
    → Ok more ≡ names_in names r at (get_member (codes "name") ms)
    → conditions_in (record { rank = r; at = at; script = map order_of script; names = names }) d.conditions.items (get_member (codes "if") ms) ≡ Ok conditions
    → step_provisos r at d.provisos.items (get_member (codes "expect") ms) ≡ Ok provisos
    → expected_in r at (order_of x) d.expected.items (get_member (codes "expect") ms) ≡ Ok expected
    → namings_in (record { rank = r; at = at; script = map order_of script; names = names }) d.namings.items (get_member (codes "comm") ms) ≡ Ok namings
    → lists_of new.scripts.items ≡ set (lists_of d.scripts.items) r (slice_index_or (lists_of d.scripts.items) r [] ++ x ∷ [])
    → new.names.items ≡ more → new.filed.items ≡ d.filed.items ++ filed_at k r at ∷ [] → new.conditions.items ≡ conditions → new.provisos.items ≡ provisos → new.expected.items ≡ expected → new.namings.items ≡ namings
    → drafted k (draft_view d) ms (record { rank = r; order = order_of x }) ≡ Ok (draft_view new)
unfolding drafted
one-more d new r at k script names more conditions provisos expected namings x ms h inside named asked given wanted called grown n f c p e m =
    let long : length (lists_of d.scripts.items) ≡ length d.scripts.items = length-map d.scripts.items (λ (v : Vec Step Global). v.items) in
    let put : map (map order_of) (lists_of new.scripts.items) ≡ set (map (map order_of) (lists_of d.scripts.items)) r (slice_index_or (map (map order_of) (lists_of d.scripts.items)) r [] ++ order_of x ∷ []) =
    ap (map (map order_of)) grown ∙ orders-put (lists_of d.scripts.items) r x (omega (arith, inside, long)) in
    rw (put, n, f, c, p, e, m, h.orders, length-map script order_of, ← h.number, ← h.known, ← named, asked, given, wanted, called) refl
