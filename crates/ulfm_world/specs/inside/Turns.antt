-- What the parts of a turn do to a world, and how they join: the laws of a turn cite it.
use Rattle.std.specs.Prelude.{◌≡◌, Bool, true, false, length}
use Rattle.std.proofs.Common.{cond, refl, sym, ◌∙◌}
use Rattle.std.proofs.lemmas.Bool.{false≢true}
use Rattle.ulfm_job.specs.Job.{JobView}
use Rattle.ulfm_world.specs.World.{World}
use Rattle.ulfm_world.specs.inside.Rounds.{Follows, Moves}

-- what moved from some first world to `old` moves on to `new`
pub record Onward (j : JobView) (old new : World) (moved : Bool) : Type 0 where
  pub size : length new.players ≡ length old.players
  pub follows : Follows j old → Follows j new
  pub stays : moved ≡ false → new ≡ old
  pub leads : (first : World) (any : Bool) → Moves j first old any → Moves j first new (cond moved true any)

pub onward-none : (j : JobView) (w : World) → Onward j w w false
onward-none j w = record { size = refl; follows = λ f. f; stays = λ _. refl; leads = λ first any x. x }

-- something moved in the second part
pub onward-on : (j : JobView) (m : Bool) (u v w : World) → Onward j u v m → Onward j v w true → Onward j u w true
onward-on j m u v w h k = record {
  size = k.size ∙ h.size;
  follows = λ f. k.follows (h.follows f);
  stays = λ e. absurd (false≢true (sym e));
  leads = λ first any x. k.leads first (cond m true any) (h.leads first any x);
}

-- nothing moved in the second part
pub onward-not : (j : JobView) (m : Bool) (u v w : World) → Onward j u v m → Onward j v w false → Onward j u w m
onward-not j m u v w h k = record {
  size = k.size ∙ h.size;
  follows = λ f. k.follows (h.follows f);
  stays = λ e. k.stays refl ∙ h.stays e;
  leads = λ first any x. k.leads first (cond m true any) (h.leads first any x);
}
