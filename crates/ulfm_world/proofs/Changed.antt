-- A list of players or of inboxes after a change of one.
use Rattle.std.proofs.Common.{◌≡◌, ◌≢◌, ℕ, ◌<◌, List, [], length, get_or, set, ap, sym, subst, ◌∙◌, inl, inr, get_or-set_other, get_or-set_same}
use Rattle.ulfm_world.proofs.Common.{WorldRank, Item, Player, player_in, no_player, cases_eq}

pub player-same : (ps : List Player) (r x : ℕ) (p : Player) → x ≡ r → r < length ps → player_in (set ps r p) x ≡ p
player-same ps r x p same inside = ap (λ i. get_or (set ps r p) i no_player) same ∙ get_or-set_same ps r p no_player inside

pub player-other : (ps : List Player) (r x : ℕ) (p : Player) → x ≢ r → player_in (set ps r p) x ≡ player_in ps x
player-other ps r x p other = get_or-set_other ps r x p no_player other

-- what holds of the changed player and of each unchanged one holds of each
pub each_player : (ps : List Player) (r : ℕ) (p : Player) (P : Player → Player → Type 0) → r < length ps → P (player_in ps r) p → ((x : ℕ) → x < length ps → P (player_in ps x) (player_in ps x)) → (x : ℕ) → x < length ps → P (player_in ps x) (player_in (set ps r p) x)
each_player ps r p P inside changed unchanged x h = elim (cases_eq x r) [
  | inl same ↦ rw (player-same ps r x p same inside) (rw same changed)
  | inr other ↦ rw (player-other ps r x p other) (unchanged x h)
]

pub inbox-same : (inboxes : List (List (WorldRank × Item))) (d x : ℕ) (items : List (WorldRank × Item)) → x ≡ d → d < length inboxes → get_or (set inboxes d items) x [] ≡ items
inbox-same inboxes d x items same inside = ap (λ i. get_or (set inboxes d items) i []) same ∙ get_or-set_same inboxes d items [] inside

pub inbox-other : (inboxes : List (List (WorldRank × Item))) (d x : ℕ) (items : List (WorldRank × Item)) → x ≢ d → get_or (set inboxes d items) x [] ≡ get_or inboxes x []
inbox-other inboxes d x items other = get_or-set_other inboxes d x items [] other

-- what holds of the changed inbox and of each unchanged one holds of each
pub each_inbox : (inboxes : List (List (WorldRank × Item))) (d n : ℕ) (items : List (WorldRank × Item)) (P : List (WorldRank × Item) → Type 0) → d < length inboxes → P items → ((x : ℕ) → x < n → P (get_or inboxes x [])) → (x : ℕ) → x < n → P (get_or (set inboxes d items) x [])
each_inbox inboxes d n items P inside changed unchanged x h = elim (cases_eq x d) [
  | inl same ↦ subst P (sym (inbox-same inboxes d x items same inside)) changed
  | inr other ↦ subst P (sym (inbox-other inboxes d x items other)) (unchanged x h)
]
