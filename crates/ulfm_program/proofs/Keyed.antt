-- Values of keys of a table, and of one in which another value is put.
use Rattle.std.proofs.Common.{◌≡◌, ℕ, List, Bool, true, false, Some, None, Ordering, Less, Equal, Greater, refl, sym, ap, ◌∙◌}
use Rattle.std.proofs.lemmas.Bool.{and_parts, false≢true}
use Rattle.std.proofs.lemmas.Map.Text.{is_eq-slice_cmp}
use Rattle.std.proofs.lemmas.Slice.Eq.{bytes_eq-Decides}
use Rattle.std.specs.Cmp.{Equal-is}
use Rattle.std.specs.Cmp.Lexicographic.{slice_cmp}
use Rattle.std.specs.List.{list_all}
use Rattle.std.specs.Ordering.{is_eq, match_ordering, nat_cmp}
use Rattle.std.specs.Str.{bytes_eq}
use Rattle.toml.specs.Data.{Data, Members, no_members, member, get_member}
use Rattle.ulfm_reader.specs.Keys.{is_among, keys_of}
use Rattle.ulfm_reader.specs.Members.{put}

-- keys that compare as equal
key_is : (k l : List ℕ) → slice_cmp nat_cmp k l ≡ Equal → bytes_eq k l ≡ true
key_is k l same = sym (is_eq-slice_cmp k l) ∙ ap is_eq same

key_self : (k : List ℕ) → slice_cmp nat_cmp k k ≡ Equal
key_self k = (Equal-is (slice_cmp nat_cmp k k)).0 (is_eq-slice_cmp k k ∙ (bytes_eq-Decides k k).1 refl)

-- a key that isn't asked for is passed
passed : (other key : List ℕ) (d : Data) (ms : Members) → bytes_eq other key ≡ false → get_member other (member key d ms) ≡ get_member other ms
passed other key d ms apart = by (slice_cmp nat_cmp other key) refl
  where
    by : (o : Ordering) → slice_cmp nat_cmp other key ≡ o → match_ordering o (get_member other ms) (Some d) (get_member other ms) ≡ get_member other ms
    by Less is = refl
    by Equal is = absurd (false≢true (sym apart ∙ key_is other key is))
    by Greater is = refl

-- the value that was put
pub get-put : (key : List ℕ) (d : Data) (ms : Members) → get_member key (put key d ms) ≡ Some d
get-put key d no_members = rw (key_self key) refl
get-put key d (member k e ms) = by (slice_cmp nat_cmp key k) refl (get-put key d ms)
  where
    by : (o : Ordering) → slice_cmp nat_cmp key k ≡ o → get_member key (put key d ms) ≡ Some d → get_member key (match_ordering o (member key d (member k e ms)) (member k d ms) (member k e (put key d ms))) ≡ Some d
    by Less is more = rw (key_self key) refl
    by Equal is more = rw is refl
    by Greater is more = rw is more

-- the others stay
pub get-put-other : (other key : List ℕ) (d : Data) (ms : Members) → bytes_eq other key ≡ false → get_member other (put key d ms) ≡ get_member other ms
get-put-other other key d no_members apart = passed other key d no_members apart
get-put-other other key d (member k e ms) apart = by (slice_cmp nat_cmp key k) refl (get-put-other other key d ms apart)
  where
    by : (o : Ordering) → slice_cmp nat_cmp key k ≡ o → get_member other (put key d ms) ≡ get_member other ms
        → get_member other (match_ordering o (member key d (member k e ms)) (member k d ms) (member k e (put key d ms))) ≡ get_member other (member k e ms)
    by Less is more = passed other key d (member k e ms) apart
    by Equal is more =
        let same : key ≡ k = (bytes_eq-Decides key k).0 (key_is key k is) in
        let apart_here : bytes_eq other k ≡ false = ap (bytes_eq other) (sym same) ∙ apart in
        passed other k d ms apart_here ∙ sym (passed other k e ms apart_here)
    by Greater is more = rw more refl

-- keys that pass a test, and one more
pub keys-put : (p : List ℕ → Bool) (key : List ℕ) (d : Data) (ms : Members) → p key ≡ true → list_all p (keys_of ms) ≡ true → list_all p (keys_of (put key d ms)) ≡ true
keys-put p key d no_members here all = rw here refl
keys-put p key d (member k e ms) here all = by (slice_cmp nat_cmp key k) (keys-put p key d ms here (and_parts (p k) (list_all p (keys_of ms)) all).1)
  where
    by : (o : Ordering) → list_all p (keys_of (put key d ms)) ≡ true → list_all p (keys_of (match_ordering o (member key d (member k e ms)) (member k d ms) (member k e (put key d ms)))) ≡ true
    by Less more = rw here all
    by Equal more = all
    by Greater more = rw ((and_parts (p k) (list_all p (keys_of ms)) all).0) more

-- a key that isn't among those of a table has no value
pub absent : (names : List (List ℕ)) (key : List ℕ) (ms : Members) → is_among names key ≡ false → list_all (is_among names) (keys_of ms) ≡ true → get_member key ms ≡ None
absent names key no_members not all = refl
absent names key (member k d ms) not all = by (slice_cmp nat_cmp key k) refl (absent names key ms not (and_parts (is_among names k) (list_all (is_among names) (keys_of ms)) all).1)
  where
    by : (o : Ordering) → slice_cmp nat_cmp key k ≡ o → get_member key ms ≡ None → match_ordering o (get_member key ms) (Some d) (get_member key ms) ≡ None
    by Less is more = more
    by Equal is more =
        let same : key ≡ k = (bytes_eq-Decides key k).0 (key_is key k is) in
        absurd (false≢true (sym not ∙ ap (is_among names) same ∙ (and_parts (is_among names k) (list_all (is_among names) (keys_of ms)) all).0))
    by Greater is more = more
