use Rattle.ulfm_world.proofs.Rings.{rings-happens, rings-run}
use Rattle.ulfm_world.proofs.laws.rings_give_all.Goals as goal

pub returns : goal.returns
returns c = record { each = rings-happens; schedules = rings-run }
