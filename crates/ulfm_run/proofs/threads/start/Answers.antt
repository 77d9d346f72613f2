use mathlib.Core.List.{[], ◌∷◌}
use mir.Syntax.{named, Sym}
use denote.Exit.{no}
use denote.Param.Send.{param_send, arg_send}
use Rattle.ulfm_run.proofs.Crossing.{begun_send, ran_send}
use Rattle.ulfm_run.proofs.threads.start.Goals as goal

-- the bytes of `ulfm_run::threads::fn::start::spawn_with+Self`
abbrev closure : Sym
closure = 117 ∷ 108 ∷ 102 ∷ 109 ∷ 95 ∷ 114 ∷ 117 ∷ 110 ∷ 58 ∷ 58 ∷ 116 ∷ 104 ∷ 114 ∷ 101 ∷ 97 ∷ 100 ∷ 115 ∷ 58 ∷ 58 ∷ 102 ∷ 110 ∷ 58 ∷ 58 ∷ 115 ∷ 116 ∷ 97 ∷ 114 ∷ 116 ∷ 58 ∷ 58 ∷ 115 ∷ 112 ∷ 97 ∷ 119 ∷ 110 ∷ 95 ∷ 119 ∷ 105 ∷ 116 ∷ 104 ∷ 43 ∷ 83 ∷ 101 ∷ 108 ∷ 102 ∷ []

pub spawn_with-requires-send-F : goal.spawn_with-requires-send-F
spawn_with-requires-send-F g c κs within =
    param_send 2 _ (arg_send _ no _ (begun_send closure (named 6) (named 7) (named 8) _ _ _ _ _ _ c.type_bounds.send-E c.type_bounds.send-D c.type_bounds.sync-R))

pub spawn_with-requires-send-T : goal.spawn_with-requires-send-T
spawn_with-requires-send-T g c κs within = param_send 3 _ (arg_send _ no _ (ran_send _ _ c.type_bounds.send-E c.type_bounds.send-D))
