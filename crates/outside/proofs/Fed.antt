-- Children that were started.
use Rattle.std.proofs.Common.{◌≡◌, ℕ, zero, suc, List, length, Option, None, Some, refl}
use Rattle.std.specs.Prelude.{slice_get}
use Rattle.std.specs.Option.{option_map}
use Rattle.std.proofs.lemmas.List.{length-set}
use Rattle.outside.specs.Forms.{ChildForm, with_child, changed_at}

length-with_child : (started : List ChildForm) (place : ℕ) (c : Option ChildForm) → length (with_child started place c) ≡ length started
length-with_child started place None = refl
length-with_child started place (Some c) = length-set started place c

-- to change one makes none more
pub as_many : (started : List ChildForm) (chan : ℕ) (change : ChildForm → ChildForm) → length (changed_at started chan change) ≡ length started
as_many started zero change = refl
as_many started (suc place) change = length-with_child started place (option_map change (slice_get started place))
