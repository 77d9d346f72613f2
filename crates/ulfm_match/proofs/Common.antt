-- The names that most proofs of matching cite, passed on from one place. Declares nothing.
pub use Rattle.indexmap.specs.IndexMap.{IsUnique, get}
pub use Rattle.std.proofs.lemmas.Bool.{and_parts}
pub use Rattle.std.proofs.lemmas.Bool.Decides.{nat_tests}
pub use Rattle.std.proofs.lemmas.List.Elements.{Contains-append_cases, Contains-append_left, Contains-append_right, Contains-push, Contains-push_cases}
pub use Rattle.std.proofs.lemmas.Option.{slice_get_within}
pub use Rattle.ulfm_base.specs.Pattern.{Admits, AdmitsSource, AdmitsTag, names}
pub use Rattle.ulfm_base.specs.declared.envelope.Envelope.{Envelope}
pub use Rattle.ulfm_base.specs.declared.envelope.Letter.{Letter}
pub use Rattle.ulfm_base.specs.declared.pattern.Pattern.{Pattern}
pub use Rattle.ulfm_match.specs.Calls.{ArrivalGoesTo, EndsNamed, PostGets}
pub use Rattle.ulfm_match.specs.History.{Clear, Come, ComeAt, End, MatchEvent, IsLiveLetter, IsLiveReceive, IsWellFormed, Post, PostAt, StandsBetween, count_before, counts_as}
pub use Rattle.ulfm_match.specs.Pairing.{IsKept, IsMatch, IsWaiting, LawfulPairing, Pairing, Pairs, pairs_below}
pub use Rattle.ulfm_match.specs.State.{IsAscending, IsUncleared, Keeps, Lists, Matching, Tracks, is_cleared}
pub use Rattle.ulfm_match.specs.inside.Buckets.{Buckets, Entries, FindsLeast, Grows, IsIndexed, IsLesser, NoneIsWild, NonePass, Passes, Rises, Sweeps, SweepsFor, TakesEarliest, TakesOut, StandsFrom, numbers_at, numbers_of}
pub use Rattle.ulfm_match.specs.inside.Key.{AsksOf, IsKeyAt, IsKeyOf, IsKeyOfReceive, IsWild, key_at, key_from, key_number, key_of, source_at, source_of, tag_at, tag_of}
pub use Rattle.ulfm_match.specs.inside.Order.{in_order, place}
pub use Rattle.ulfm_match.specs.inside.Pools.{FindsFirst, HasPlace, IsFirstAt, IsPool, IsSamePool, IsWhole, NoneOf, TakesFirst, TakesLeast, all_of, few, IsLeast}
pub use Rattle.ulfm_match.specs.declared.pool.Pool.{Pool}
pub use Rattle.indexmap.proofs.CallerLemmas.{filter-RetainsPairs}
pub use Rattle.std.proofs.lemmas.Map.Views.{exact_unsigned_eq, hash_map_get_iff}
pub use Rattle.ulfm_base.specs.declared.pattern.Source.{Source}
pub use Rattle.ulfm_base.specs.declared.pattern.Source.TheVariants.{Any, One}
pub use Rattle.ulfm_base.specs.declared.rank.WorldRank.{WorldRank}
pub use Rattle.ulfm_base.specs.declared.tag.Tag.{Tag}
pub use Rattle.ulfm_match.specs.declared.bucket.Bucket.{Bucket}
