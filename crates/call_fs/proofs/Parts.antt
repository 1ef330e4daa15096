-- A text is parts exactly if each of its parts is one.
use Rattle.std.proofs.Common.{ℕ, ◌<◌, Bool, true, false, List, length, IsTrue, MatchBool, All, ◌↔◌, [], refl, arith}
use Rattle.std.specs.List.{HoldsAt, AllWithin}
use Rattle.std.proofs.lemmas.Bool.{false≢true}
use Rattle.call_fs.specs.Names.{IsPart}

pub decided_by_parts : (r : Bool) (parts : List (List ℕ)) → MatchBool r (AllWithin IsPart parts 0 (length parts)) ((k : ℕ) × (k < length parts) × HoldsAt (λ part. ¬ (IsPart part)) parts k) → IsTrue r ↔ All IsPart parts
decided_by_parts true parts each = (λ _ k d within. each k d (omega arith) within, λ _. refl)
decided_by_parts false parts some = (λ never. absurd (false≢true never), λ each. absurd (some.2 [] (each some.0 [] some.1)))
