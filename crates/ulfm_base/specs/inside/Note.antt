-- What a note says.
use Rattle.ulfm_base.specs.declared.noted.Note.{Note, fold-Note}
use Rattle.ulfm_base.specs.declared.noted.Note.TheOpen.{Note-F}

-- what one note says, where the note that it names is already read
abbrev pub read : {T : Type 0} → Note-F T T → T
read (Note-F.Of value) = value.value
read (Note-F.Again note) = note.value

-- the value that is noted
abbrev pub value_of : {T : Type 0} → Note T → T
value_of {T} = fold-Note T T read
