-- The keys of buckets.
use Rattle.std.specs.Prelude.{◌≡◌, ℕ, ◌+◌, ◌*◌, ◌<◌, ◌⊎◌, Bool, true, false, Option, Some, None, cond}
use Rattle.ulfm_base.specs.RankSet.{has}
use Rattle.ulfm_base.specs.declared.pattern.Pattern.{Pattern}
use Rattle.ulfm_base.specs.declared.pattern.Source.{Source}
use Rattle.ulfm_base.specs.declared.pattern.Source.TheVariants.{One, Any}
use Rattle.ulfm_base.specs.declared.rank.WorldRank.{WorldRank}
use Rattle.ulfm_base.specs.declared.envelope.Envelope.{Envelope}
use Rattle.ulfm_base.specs.declared.envelope.Letter.{Letter}
use Rattle.ulfm_base.specs.declared.tag.Tag.{Tag}

-- each context, source and tag has one number
abbrev pub key_number : ℕ → ℕ → ℕ → ℕ
key_number context source tag = (context * 9 + source) * 32769 + tag

-- the source that a receive names, or 8
abbrev pub source_of : Source → ℕ
source_of (One rank) = rank.number
source_of (Any members) = 8

-- the tag that a receive names, or 32768
abbrev pub tag_of : Option Tag → ℕ
tag_of (Some tag) = tag.number
tag_of None = 32768

-- the key of a receive
abbrev pub key_of : Pattern → ℕ
key_of pattern = key_number pattern.context.number (source_of pattern.source) (tag_of pattern.tag)

-- the source of a letter, or 8 where it is left open
abbrev pub source_at : Bool → WorldRank → ℕ
source_at any_source rank = cond any_source 8 rank.number

-- the tag of a letter, or 32768 where it is left open
abbrev pub tag_at : Bool → Tag → ℕ
tag_at any_tag tag = cond any_tag 32768 tag.number

-- the key of the receives that name the letter's source or any, and its tag or any
abbrev pub key_at : Bool → Bool → Envelope → ℕ
key_at any_source any_tag envelope = key_number envelope.context.number (source_at any_source envelope.source) (tag_at any_tag envelope.tag)

-- a key of any source or of any tag
pub record IsWild (k : ℕ) : Type 0 where
  pub envelope : Envelope
  pub any_source : Bool
  pub any_tag : Bool
  pub is_wild : (any_source ≡ true) ⊎ (any_tag ≡ true)
  pub is : k ≡ key_at any_source any_tag envelope

-- receives that admit the envelope have one of four keys
pub record IsKeyAt (envelope : Envelope) (k : ℕ) : Type 0 where
  pub any_source : Bool
  pub any_tag : Bool
  pub is : k ≡ key_at any_source any_tag envelope

-- a kept letter stands in the buckets of its source, of its tag or of any
abbrev pub IsKeyOf : Letter → ℕ → Type 0
IsKeyOf letter k = (any_tag : Bool) × (k ≡ key_at false any_tag letter.envelope)

-- s is a source of which a receive asks
abbrev pub AsksOf : Source → ℕ → Type 0
AsksOf (One rank) s = s ≡ rank.number
AsksOf (Any members) s = (s < 8) × (has members s ≡ true)

-- the key of the letters from source s that a receive may get
abbrev pub key_from : ℕ → Pattern → ℕ
key_from s pattern = key_number pattern.context.number s (tag_of pattern.tag)

-- a receive that waits stands in the bucket of its own
abbrev pub IsKeyOfReceive : Pattern → ℕ → Type 0
IsKeyOfReceive pattern k = k ≡ key_of pattern
