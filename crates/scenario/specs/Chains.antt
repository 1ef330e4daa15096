-- Lists in which each element, the newest first, may follow those before it.
use Rattle.std.specs.Prelude.{List, [], ◌∷◌}

-- each of these follows those before it
abbrev pub EachFollows : {X : Type 0} → (List X → X → Type 0) → List X → Type 0
EachFollows Follows [] = Unit {0}
EachFollows Follows (newest ∷ before) = EachFollows Follows before × Follows before newest
