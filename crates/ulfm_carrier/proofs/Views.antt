-- An end, with its outgoing rings by their names and by what was sent.
use Rattle.std.proofs.Common.{◌≡◌, ℕ, List, [], length, map, set, get_or, ap, sym, ◌∙◌, Some, slice_get}
use Rattle.ulfm_carrier.proofs.Common.{at, at_view, Carried, Global, Inlet, Item, lane_pushed, LaneEnds, length-map, map-map, map-set_same, Outlet, outlet_name, RingName, sent, Vec, WorldRank}

-- what an end is, but for what it knows of its outgoing rings
pub record EndView : Type 0 where
  pub me : WorldRank
  pub outs : List RingName
  pub sents : List (List Carried)
  pub ins : Vec Inlet Global
  pub left : Vec (WorldRank × Item) Global

abbrev pub view : LaneEnds → EndView
view e = record { me = e.me; outs = map outlet_name e.outs.items; sents = map sent e.outs.items; ins = e.ins; left = e.left }

-- one ring of one end was looked at
pub view_looked : (e f : LaneEnds) (k : ℕ) {p : Outlet} (q : Outlet) → f.me ≡ e.me → f.ins ≡ e.ins → f.left ≡ e.left → f.outs.items ≡ set e.outs.items k q → p ≡ get_or e.outs.items k p → outlet_name q ≡ outlet_name p → sent q ≡ sent p → view f ≡ view e
view_looked e f k {p} q me ins left outs here name kept =
    let sents : map sent f.outs.items ≡ map sent e.outs.items = ap (map sent) outs ∙ map-set_same sent e.outs.items k q p (kept ∙ ap sent here) in
    λ i. record { me = me i; outs = (ap (map outlet_name) outs ∙ map-set_same outlet_name e.outs.items k q p (name ∙ ap outlet_name here)) i; sents = sents i; ins = ins i; left = left i }

pub views_looked : (now : List LaneEnds) {all : List EndView} (k : ℕ) (e f : LaneEnds) → e ≡ get_or now k e → view f ≡ view e → map view now ≡ all → map view (set now k f) ≡ all
views_looked now k e f here same was = map-set_same view now k f e (same ∙ ap view here) ∙ was

-- what follows from a view
pub of_views : {Y : Type 0} (h : EndView → Y) (now was : List LaneEnds) → map view now ≡ map view was → map (λ e. h (view e)) now ≡ map (λ e. h (view e)) was
of_views h now was same = sym (map-map h view now) ∙ ap (map h) same ∙ map-map h view was

-- where two lists show the same, they show the same at each place
pub same_at : {X Y : Type 0} (f : X → Y) (now was : List X) (k : ℕ) {x y : X} → map f now ≡ map f was → at now k x → at was k y → f x ≡ f y
same_at f now was k {x} {y} same here there = let e : Some (f x) ≡ Some (f y) = sym (at_view f now k x here) ∙ ap (λ l. slice_get l k) same ∙ at_view f was k y there in cc

pub as_many : {X Y : Type 0} (f : X → Y) (now was : List X) → map f now ≡ map f was → length now ≡ length was
as_many f now was same = sym (length-map now f) ∙ ap length same ∙ length-map was f

-- what the end s pushed to the rank d
abbrev pub pushed_at : List LaneEnds → ℕ → ℕ → List Item
pushed_at ends s d = get_or (map (λ e. lane_pushed e d) ends) s []
