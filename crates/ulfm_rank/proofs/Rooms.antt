-- What a rank that is prepared has room for.
use Rattle.std.proofs.Common.{ℕ, ◌+◌, ◌<◌, Bool, true, false, refl, arith, ◌&&◌, nat_lt, IsTrue, ◌≡◌}
use Rattle.ulfm_rank.proofs.Common.{and_parts, nat_tests}

-- a further entry of the log
pub room_of : (a : Bool) (x y : ℕ) (b : Bool) → IsTrue (a && (nat_lt (x + 1) y && b)) → x + 1 < y
room_of true x y b h = within (nat_lt (x + 1) y) refl h
  where
    within : (t : Bool) → nat_lt (x + 1) y ≡ t → IsTrue (t && b) → x + 1 < y
    within true e h = grind (arith, nat_tests)
    within false e h = cc
room_of false x y b h = cc

-- a rank that is prepared has room for what becomes known
pub facts_room_of : (a b c d e f g : Bool) → IsTrue (a && (b && (c && (d && (e && (f && g)))))) → IsTrue f
facts_room_of a b c d e f g h =
    let after_a = (and_parts a (b && (c && (d && (e && (f && g))))) h).1 in
    let after_b = (and_parts b (c && (d && (e && (f && g)))) after_a).1 in
    let after_c = (and_parts c (d && (e && (f && g))) after_b).1 in
    let after_d = (and_parts d (e && (f && g)) after_c).1 in
    let after_e = (and_parts e (f && g) after_d).1 in
    (and_parts f g after_e).0
