-- A letter is taken out by a receive that ends at once.
use Rattle.std.proofs.Common.{◌≡◌, ℕ, ◌+◌, ◌<◌, List, [], ◌∷◌, ◌++◌, length, refl, sym, ◌∙◌, subst, append_assoc, arith, max, Contains, Some, false}
use Rattle.ulfm_match.specs.Calls.{ProbeGets, KeepsNone, TracksProbe}
use Rattle.ulfm_match.proofs.Common.{Pattern, Admits, Letter, MatchEvent, Post, Come, End, PostAt, IsLiveLetter, count_before, Pairing, Pairs, LawfulPairing, pairs_below, Matching, IsAscending, IsUncleared, is_cleared, Tracks, Contains-push, slice_get_within}
use Rattle.ulfm_match.proofs.Cut.{cut, inside_to, inside_back}
use Rattle.ulfm_match.proofs.EndSteps.{end_idle}
use Rattle.ulfm_match.proofs.Extend.{letter_within}
use Rattle.ulfm_match.proofs.Histories.{same_number, letter_less}
use Rattle.ulfm_base.proofs.Longer.{get_new, below_last, length_more}
use Rattle.ulfm_match.proofs.Least.{IsLeast, TakesLeast, least_out}
use Rattle.ulfm_match.proofs.PostTakes.{post_takes}
use Rattle.ulfm_match.proofs.Steps.{posted_here}
use Rattle.ulfm_match.proofs.Unique.{one_pairing}

-- a receive that has a letter ends
pub paired_ends : (h : List MatchEvent) (r : Pairing) (s : Matching) (i b : ℕ) (p : Pattern) → Tracks h r s → PostAt h i p → Pairs r i b → Tracks (h ++ End i ∷ []) r s
paired_ends h r s i b p t posted q =
    end_idle h r s t i p posted (count_before h i) refl
    (λ y m e.
    let w = t.remains.waiting.sound y.0 y.1 m in
    let same : w.0 ≡ i = same_number h w.0 i (Post y.1) (Post p) w.2.live.posted refl posted refl (w.1 ∙ e) in
    w.2.unpaired b (letter_within h r t.lawful i b q) (rw same q))

module _ (h : List MatchEvent) (r : Pairing) (s : Matching) (p : Pattern) (t : Tracks h r s) where
  -- the first kept letter that fits is taken
  pub probe_takes : IsUncleared h p.context.number → (kept' : List (ℕ × Letter)) (z : ℕ × Letter) → TakesLeast (λ (y : ℕ × Letter). Admits p y.1.envelope) s.kept kept' z → (s' : Matching) → s'.count ≡ s.count + 1 → s'.waiting ≡ s.waiting → s'.kept ≡ kept' → s'.cleared ≡ s.cleared → ProbeGets h r p z.1 s'
  probe_takes open' kept' z taken s' ec ew ek em =
      let g = post_takes h r s p t open' kept' z taken s' ec ew ek em in
      let r' : Pairing = r ++ (length h, g.place) ∷ [] in
      record {
        place = g.place;
        came = g.came;
        tracks = subst (λ es. Tracks es r' s') (append_assoc h (Post p ∷ []) (End (length h) ∷ []))
            (paired_ends (h ++ Post p ∷ []) r' s' (length h) g.place p g.tracks (get_new h (Post p)) (Contains-push r (length h, g.place)));
      }

  -- no kept letter fits
  pub probe_misses : ((y : ℕ × Letter) → Contains s.kept y → Admits p y.1.envelope → ⊥) → KeepsNone h r p
  probe_misses none b l k = none (count_before h b, l) (t.remains.kept.complete b l k)

-- the earliest kept letter that fits is the one that a probe takes
pub would_take : (s : Matching) (p : Pattern) → is_cleared s p.context.number ≡ false → IsAscending s.kept → (z : ℕ × Letter) → IsLeast (λ (y : ℕ × Letter). Admits p y.1.envelope) s.kept z → (new : Matching) × TracksProbe p s (Some z.1) new
would_take s p open' ascending z least =
    let out = least_out (λ (y : ℕ × Letter). Admits p y.1.envelope) s.kept ascending z least in
    let new : Matching = record { waiting = s.waiting; kept = out.0; count = s.count + 1; cleared = s.cleared; prepared = s.prepared } in
    (new, λ h r t. probe_takes h r s p t ((t.remains.cleared p.context.number).0 open') out.0 z out.1 new refl refl refl refl)

-- a lawful pairing once the receive is posted, in which it has this letter
pub record IsPostedWith (h : List MatchEvent) (p : Pattern) (place : ℕ) : Type 0 where
  pub pairing : Pairing
  pub lawful : LawfulPairing (h ++ Post p ∷ []) pairing
  pub pairs : Pairs pairing (length h) place

module _ {h : List MatchEvent} {r : Pairing} {p : Pattern} {l : Letter} {s : Matching} (g : ProbeGets h r p l s) where
  -- before its end the receive had the letter
  pub posted_with : IsPostedWith h p g.place
  posted_with =
      let h' : List MatchEvent = h ++ Post p ∷ [] in
      let r' : Pairing = r ++ (length h, g.place) ∷ [] in
      let more = length_more h (Post p) in
      let low = slice_get_within h g.place (Come l) g.came in
      record {
        pairing = pairs_below (length h') r';
        lawful = cut h' (End (length h) ∷ []) r' (subst (λ es. LawfulPairing es r') (sym (append_assoc h (Post p ∷ []) (End (length h) ∷ []))) g.tracks.lawful);
        pairs = inside_back (length h') r' (length h) g.place (omega (arith, more)) (omega (arith, more, low)) (Contains-push r (length h, g.place));
      }

  -- a receive that is posted then has the letter
  pub probe_gives : (other : Pairing) → LawfulPairing (h ++ Post p ∷ []) other → Pairs other (length h) g.place
  probe_gives other law = one_pairing (h ++ Post p ∷ []) posted_with.pairing other posted_with.lawful law (length h) g.place posted_with.pairs

-- where no kept letter fits, a receive that is posted then has none
pub probe_leaves : (h : List MatchEvent) (r : Pairing) (p : Pattern) → LawfulPairing h r → KeepsNone h r p → (other : Pairing) → LawfulPairing (h ++ Post p ∷ []) other → (b : ℕ) → Pairs other (length h) b → ⊥
probe_leaves h r p law none other law' b q =
    let m = law'.matched (length h) b q in
    let lb : b < length h = below_last h (Post p) b (Come m.letter) m.letter_live.came (λ e. cc) in
    let top : max (length h) b ≡ length h = omega arith in
    none b m.letter
    (record {
      live = letter_less h (Post p) lb (subst (λ n. IsLiveLetter (h ++ Post p ∷ []) b m.letter (n + 1)) top m.letter_live);
      unpaired = λ j lj old.
          let below = one_pairing h r (pairs_below (length h) other) law (cut h (Post p ∷ []) other law') j b old in
          let same : j ≡ length h = law'.one_receive j (length h) b (inside_to (length h) other j b below).0 q in
          omega arith;
    })
    (subst (λ (w : Pattern). Admits w m.letter.envelope) (sym (posted_here h p m.pattern (length h) refl m.receive_live.posted)) m.admits)
