-- Whether a pattern admits an envelope is decided.
use Rattle.std.proofs.Common.{◌≡◌, inl, inr, Bool, true, false, refl, ap, Option, Some, None}
use Rattle.std.proofs.lemmas.Bool.{false≢true}
use Rattle.ulfm_base.specs.declared.envelope.Envelope.{Envelope}
use Rattle.ulfm_match.proofs.Common.{Pattern, Admits, AdmitsSource, AdmitsTag, WorldRank, Tag, Source, One, Any}
use Rattle.ulfm_base.specs.RankSet.{has}
use Rattle.ulfm_match.proofs.Decide.{Either, eq_either}
use Rattle.ulfm_base.proofs.Numbers.{same_rank, same_tag}

bool_either : (b : Bool) → Either (b ≡ true)
bool_either true = inl refl
bool_either false = inr (λ e. false≢true e)

source_either : (source : Source) (r : WorldRank) → Either (AdmitsSource source r)
source_either (One rank) r = elim (eq_either r.number rank.number) [ inl e ↦ inl (same_rank r rank e) | inr n ↦ inr (λ e. n (ap (λ (w : WorldRank). w.number) e)) ]
source_either (Any members) r = bool_either (has members r.number)

tag_either : (named : Option Tag) (tag : Tag) → Either (AdmitsTag named tag)
tag_either None tag = inl tt
tag_either (Some named) tag = elim (eq_either tag.number named.number) [ inl e ↦ inl (same_tag tag named e) | inr n ↦ inr (λ e. n (ap (λ (w : Tag). w.number) e)) ]

pub admits_either : (p : Pattern) (e : Envelope) → Either (Admits p e)
admits_either p e =
    elim (eq_either e.context.number p.context.number) [
      | inr n ↦ inr (λ a. n a.context)
      | inl c ↦ elim (source_either p.source e.source) [
        | inr n ↦ inr (λ a. n a.source)
        | inl s ↦ elim (tag_either p.tag e.tag) [ inr n ↦ inr (λ a. n a.tag) | inl t ↦ inl (record { context = c; source = s; tag = t }) ]
      ]
    ]
