-- Which envelopes a receive admits (MPI 4.0, 3.2.4 and 3.5).
use Rattle.std.specs.Prelude.{◌≡◌, ℕ, Bool, true, false, ◌==◌, ⊤, Option, Some, None}
use Rattle.ulfm_base.specs.declared.rank.WorldRank.{WorldRank}
use Rattle.ulfm_base.specs.declared.pattern.Source.{Source}
use Rattle.ulfm_base.specs.declared.pattern.Source.TheVariants.{One, Any}
use Rattle.ulfm_base.specs.declared.tag.Tag.{Tag}
use Rattle.ulfm_base.specs.declared.envelope.Envelope.{Envelope}
use Rattle.ulfm_base.specs.declared.pattern.Pattern.{Pattern}
use Rattle.ulfm_base.specs.RankSet.{IsMember}

-- the source is the named one, or a member
abbrev pub AdmitsSource : Source → WorldRank → Type 0
AdmitsSource (One rank) source = source ≡ rank
AdmitsSource (Any members) source = IsMember members source

-- the tag is equal or left open
abbrev pub AdmitsTag : Option Tag → Tag → Type 0
AdmitsTag None tag = ⊤
AdmitsTag (Some named) tag = tag ≡ named

-- a receive with this pattern may be paired with a letter of this envelope
pub record Admits (pattern : Pattern) (envelope : Envelope) : Type 0 where
  pub context : envelope.context.number ≡ pattern.context.number
  pub source : AdmitsSource pattern.source envelope.source
  pub tag : AdmitsTag pattern.tag envelope.tag

-- the source is this rank by name
abbrev pub names : Source → ℕ → Bool
names (One rank) s = rank.number == s
names (Any members) s = false

-- the source is left open
abbrev pub is_any : Source → Bool
is_any (One rank) = false
is_any (Any members) = true
