use Rattle.std.proofs.Common.{List, ap, sym, ◌∙◌}
use Rattle.ulfm_reader.specs.declared.name.Name.{Name}
use Rattle.ulfm_command_line.specs.Named.{no_name}
use Rattle.ulfm_command_line.specs.Naming.{place_named}
use Rattle.ulfm_command_line.proofs.place_by_names.settled_by.Goals as goal

pub returns-in-Some : goal.returns-in-Some
returns-in-Some c = λ bytes read is same. record {
  read = read;
  is_read = is;
  named = ap (λ (names : List Name). place_named names c.args.text.now) same ∙ sym c.in_ok-place.ensures ∙ c.in-Some.is;
}

pub returns-in_ok-unnamed-in-None : goal.returns-in_ok-unnamed-in-None
returns-in_ok-unnamed-in-None c = λ bytes read is same form.
    let h = c.in_ok-unnamed-in-None.ensures in
    rw (h.0, h.1 form) (no_name read is (ap (λ (names : List Name). place_named names c.args.text.now) same ∙ sym c.in_ok-place.ensures ∙ c.in-None.is))
