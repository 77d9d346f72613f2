use Rattle.std.proofs.Common.{◌≡◌, ℕ, List, refl, ap, subst, sym, ◌∙◌, arith}
use Rattle.std.specs.List.{insert}
use Rattle.ulfm_base.specs.Lists.{IsAscending}
use Rattle.ulfm_base.specs.Table.{TableView, places_below, put_at, value_of}
use Rattle.ulfm_base.proofs.Tables.{put_over, put_beside, put_ascends, value_there}
use Rattle.ulfm_base.proofs.table.Table.put.Goals as goal
use Rattle.ulfm_base.proofs.table.Table.put.Goals.{else-place-len-via-then-place-len+else-index-number, else-place-len-via-else-place-len}

pub returns-then-index-number-clause-entries : goal.returns-then-index-number-clause-entries
returns-then-index-number-clause-entries g c =
    put_over c.args.context.number c.args.value c.self.inside.entries.items c.place_of-place.result c.args.context.number c.index.result.now refl (c.place_of-place.ensures.place ∙ ap (λ (t : TableView g.row.V.Denot). places_below c.args.context.number t.entries) (sym c.self.view_is)) (omega (arith, c.if-place-len.true, c.len.ensures, c.self.inside.entries.ok)) (ap (λ (x : ℕ × g.row.V.Denot). x.0) (sym c.index.ensures) ∙ c.if-index-number.true)
    ∙ ap (λ (t : TableView g.row.V.Denot). put_at c.args.context.number c.args.value t.entries) c.self.view_is

pub invariant_of-self : goal.invariant_of-self
invariant_of-self g c =
    let now = put_over c.args.context.number c.args.value c.self.inside.entries.items c.place_of-place.result c.args.context.number c.index.result.now refl (c.place_of-place.ensures.place ∙ ap (λ (t : TableView g.row.V.Denot). places_below c.args.context.number t.entries) (sym c.self.view_is)) (omega (arith, c.if-place-len.true, c.len.ensures, c.self.inside.entries.ok)) (ap (λ (x : ℕ × g.row.V.Denot). x.0) (sym c.index.ensures) ∙ c.if-index-number.true) in
    subst (λ (xs : List (ℕ × g.row.V.Denot)). IsAscending xs) (sym now) (put_ascends c.args.context.number c.args.value c.self.inside.entries.items c.self.invariant)

pub returns-then-index-number-clause-values : goal.returns-then-index-number-clause-values
returns-then-index-number-clause-values g c d =
    ap (value_of d) (returns-then-index-number-clause-entries g c) ∙ value_there c.args.context.number c.args.value d c.args.self.now.entries

pub returns-clause-entries : goal.returns-clause-entries
returns-clause-entries g c =
    let now : insert c.self.inside.entries.items c.place_of-place.result (c.args.context.number, c.args.value) ≡ put_at c.args.context.number c.args.value c.self.inside.entries.items =
    elim c.else-place-len.branch [
      | else-place-len-via-then-place-len+else-index-number w ↦
          put_beside c.args.context.number c.args.value c.self.inside.entries.items c.place_of-place.result c.args.context.number w.index.result.now refl (c.place_of-place.ensures.place ∙ ap (λ (t : TableView g.row.V.Denot). places_below c.args.context.number t.entries) (sym c.self.view_is)) (λ h e. w.if-index-number.false (ap (λ (x : ℕ × g.row.V.Denot). x.0) w.index.ensures ∙ e))
      | else-place-len-via-else-place-len w ↦
          put_beside c.args.context.number c.args.value c.self.inside.entries.items c.place_of-place.result c.args.context.number (c.args.context.number, c.args.value) refl (c.place_of-place.ensures.place ∙ ap (λ (t : TableView g.row.V.Denot). places_below c.args.context.number t.entries) (sym c.self.view_is)) (λ h e. omega (arith, h, w.if-place-len.false, c.len.ensures, c.self.inside.entries.ok))
    ] in
    c.in-Ok.ensures.items ∙ now ∙ ap (λ (t : TableView g.row.V.Denot). put_at c.args.context.number c.args.value t.entries) c.self.view_is

pub returns-clause-values : goal.returns-clause-values
returns-clause-values g c d = ap (value_of d) (returns-clause-entries g c) ∙ value_there c.args.context.number c.args.value d c.args.self.now.entries

pub invariant_of-self-2 : goal.invariant_of-self-2
invariant_of-self-2 g c =
    let asc = subst (λ (t : TableView g.row.V.Denot). IsAscending t.entries) c.self.view_is c.self.invariant in
    subst (λ (xs : List (ℕ × g.row.V.Denot)). IsAscending xs) (sym (returns-clause-entries g c)) (put_ascends c.args.context.number c.args.value c.args.self.now.entries asc)
