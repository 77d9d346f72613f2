use Rattle.ulfm_run.proofs.order.have_one_order.Goals as goal

pub returns : goal.returns
returns c = (λ found. (c.have_order.ensures.0 found).0, λ order. c.have_order.ensures.1 (order, tt))
