-- The last of a list, and the others: the lemmas of `ulfm_carrier`, as the tactic of a function names them.
pub use Rattle.ulfm_carrier.proofs.Last.{of_last, of_others}
