-- What is looked for in envelopes.
use Rattle.std.specs.Prelude.{◌≡◌, ℕ, ◌+◌, ◌*◌}
use Rattle.ulfm_base.specs.declared.envelope.Envelope.{Envelope}
use Rattle.ulfm_match.specs.declared.glance.Glance.{Glance}
use Rattle.ulfm_match.specs.declared.glance.Glance.TheVariants.{Named, From, Tagged}

-- a context, a source and a tag, in one word
abbrev pub word_of : ℕ → ℕ → ℕ → ℕ
word_of context source tag = context * 262144 + source * 32768 + tag

-- the envelope has what is looked for
abbrev pub Suits : Glance → Envelope → Type 0
Suits (Named word) envelope = word ≡ word_of envelope.context.number envelope.source.number envelope.tag.number
Suits (From number) envelope = envelope.source.number ≡ number
Suits (Tagged number) envelope = envelope.tag.number ≡ number
