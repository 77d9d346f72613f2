use Rattle.std.proofs.Common.{◌∙◌, ap, sym, inl, inr, ◌||◌}
use Rattle.ulfm_c.proofs.process.Process.turn.Goals as goal

pub returns-then-came-clause-turn : goal.returns-then-came-clause-turn
returns-then-came-clause-turn c = record {
  between = _;
  took = c.in_ok-came.came;
  went = c.push-went.result;
  takes = c.in_ok-came.ensures.takes;
  pushes = c.push-went.ensures.pushes;
  told = ap (λ b. b || c.push-went.result) (sym c.if-came.true);
}

pub returns-clause-turn : goal.returns-clause-turn
returns-clause-turn c = record {
  between = _;
  took = c.in_ok-came.came;
  went = c.push-went.result;
  takes = c.in_ok-came.ensures.takes;
  pushes = c.push-went.ensures.pushes;
  told = ap (λ b. b || c.push-went.result) (sym c.if-came.false);
}

pub returns-clause-room : goal.returns-clause-room
returns-clause-room c = λ _. elim (c.in_ok-came.ensures.room c.if-came.false) [
  | inl stopped ↦ inl stopped
  | inr ready ↦ inr (c.push-went.ensures.room ∙ ready)
]
