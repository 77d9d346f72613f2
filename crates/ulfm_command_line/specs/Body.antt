-- What is written with a status, as a text.
use Rattle.std.specs.Prelude.{ℕ, List, string_bytes}
use Rattle.ulfm_forms.specs.declared.form.Form.{Form}
use Rattle.ulfm_command_line.specs.Failure.{failed_in}
use Rattle.ulfm_command_line.specs.Unknown.{no_goal, no_name, no_place_in, unnamed_in}
use Rattle.ulfm_command_line.specs.Places.{places_in}
use Rattle.ulfm_command_line.specs.Replies.{good_in, refused_in}
use Rattle.ulfm_command_line.specs.declared.body.Body.{Body}
use Rattle.ulfm_command_line.specs.declared.body.Body.TheVariants.{Good, Refused, NoPlace, Unnamed, NoGoal, NoName, Failed, Places, Text}

-- its text in this form
abbrev pub body_in : Form → Body → List ℕ
body_in form (Good ranks steps) = good_in form ranks steps
body_in form (Refused fault) = refused_in form fault
body_in form (NoPlace place) = no_place_in form place
body_in form (Unnamed text) = unnamed_in form (string_bytes text)
body_in form (NoGoal text) = no_goal (string_bytes text)
body_in form (NoName name) = no_name (string_bytes name)
body_in form (Failed failure) = failed_in form failure
body_in form (Places places) = places_in form places.items
body_in form (Text text) = string_bytes text
