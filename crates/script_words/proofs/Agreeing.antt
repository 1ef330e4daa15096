-- Whether an entry agrees with each of some.
use Rattle.std.proofs.Common.{ℕ, ◌<◌, List, length, Bool, true, false, All, refl, arith, ◌↔◌, IsTrue}
use Rattle.std.specs.Bool.{MatchBool}
use Rattle.std.specs.List.{AllWithin, HoldsAt}
use Rattle.std.proofs.lemmas.Bool.{false≢true}
use Rattle.script_words.specs.declared.entry.Entry.{Entry}
use Rattle.script_words.specs.Entries.{Agree}

pub decided_by_each : (r : Bool) (entries : List Entry) (entry : Entry)
    → MatchBool r (AllWithin (λ e. Agree e entry) entries 0 (length entries)) ((k : ℕ) × (k < length entries) × HoldsAt (λ e. ¬ (Agree e entry)) entries k)
    → IsTrue r ↔ All (λ e. Agree e entry) entries
decided_by_each true entries entry each = (λ _ k d within. each k d (omega arith) within, λ _. refl)
decided_by_each false entries entry some = (λ never. absurd (false≢true never), λ each. absurd (some.2 entry (each some.0 entry some.1)))
