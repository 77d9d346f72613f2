-- A log that grows by what is taken.
use Rattle.std.proofs.Common.{◌≡◌, false, List, [], ◌∷◌, ◌++◌, refl, sym, ◌∙◌, append-nil}
use Rattle.ulfm_base.specs.declared.rank.WorldRank.{WorldRank}
use Rattle.ulfm_base.specs.declared.item.Item.{Item}
use Rattle.ulfm_script.proofs.Common.{All-nil, All-push, Entry, is_stopped, IsTook, Took, false≢true}
use Rattle.ulfm_script.specs.inside.SoFar.{OnlyTakes}

-- a log that stays
pub takes-none : (old new : List Entry) → new ≡ old → OnlyTakes old new
takes-none old new e = record { more = []; only = e ∙ sym (append-nil old); took = All-nil IsTook; stopped = λ _. refl }

-- one item is taken by a rank that runs
pub takes-one : (old new : List Entry) (source : WorldRank) (item : Item) → is_stopped old ≡ false → new ≡ old ++ Took source item ∷ [] → OnlyTakes old new
takes-one old new source item running e = record {
  more = Took source item ∷ [];
  only = e;
  took = All-push IsTook [] (Took source item) (All-nil IsTook) tt;
  stopped = λ s. absurd (false≢true (sym running ∙ s));
}
