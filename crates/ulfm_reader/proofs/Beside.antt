-- Lists of conditions with more tables beside each.
use Rattle.std.proofs.Common.{◌≡◌, List, map, Some}
use Rattle.toml.specs.Data.{Data, string, integer, float, boolean, datetime, array, table, as_array}
use Rattle.ulfm_reader.proofs.Blocks.{items-changed}
use Rattle.ulfm_reader.proofs.WrittenOut.{Value, items_view, view}
use Rattle.ulfm_reader.specs.Together.{condition_with, conditions_with}

pub each-array : (more : List Data) (d : Data) (vs found : List Value) → Some (items_view vs) ≡ as_array d → map view found ≡ map (condition_with more) (map view vs) → array (items_view found) ≡ conditions_with more d
each-array more (array ds) vs found same is = let these : ds ≡ items_view vs = cc in items-changed (condition_with more) ds vs found these is
each-array more (string s) vs found same is = absurd cc
each-array more (integer z) vs found same is = absurd cc
each-array more (float x) vs found same is = absurd cc
each-array more (boolean b) vs found same is = absurd cc
each-array more (datetime t) vs found same is = absurd cc
each-array more (table ms) vs found same is = absurd cc
