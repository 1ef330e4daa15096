-- What a child is fed, and what is written of it.
use Rattle.std.specs.Prelude.{◌≡◌, ℕ, Bool, true, false, List, [], ◌∷◌, ◌++◌, Option}
use Rattle.std.specs.List.{flat_map}
use Rattle.std.specs.Io.KnownBytes.{Appends}
use mathlib.Core.Option.{some}
use lib.ListN.{get_elem?}
use Rattle.child_input.specs.declared.feed_rule.Fed.{Fed}
use Rattle.child_input.specs.declared.feed_rule.Fed.TheVariants as fed
use Rattle.child_input.specs.declared.feed_rule.Feed.{Feed}
use Rattle.child_input.specs.declared.feed_rule.Step.{Step}
use Rattle.child_input.specs.declared.feed_rule.Step.TheVariants as step

-- What passes show

abbrev pub feed : Bool → Bool → List Fed → List Fed → Feed
feed feeds writes fed taken = record { feeds = feeds; writes = writes; fed = fed; taken = taken }

-- a pass that feeds, and has fed this
abbrev pub feeder : List Fed → Feed
feeder given = feed true false given []

-- a pass that writes, and has taken this
abbrev pub writer : List Fed → Feed
writer taken = feed false true [] taken

-- a pass that does both
abbrev pub both : List Fed → List Fed → Feed
both given taken = feed true true given taken

-- a pass that may do nothing
abbrev pub idle : Feed
idle = feed false false [] []

abbrev pub fed_on : Feed → Fed → Feed
fed_on v x = record v { fed = v.fed ++ x ∷ [] }

abbrev pub taken_on : Feed → Fed → Feed
taken_on v x = record v { taken = v.taken ++ x ∷ [] }

abbrev pub fed_if : Bool → Feed → Fed → Feed
fed_if true v x = fed_on v x
fed_if false v x = v

-- the first list begins the second
abbrev pub IsPrefixOf : List Fed → List Fed → Type 0
IsPrefixOf taken given = (rest : List Fed) × (given ≡ taken ++ rest)

-- The rule

-- one pass feeds and one writes, at most
abbrev pub FitsTurn : ℕ → ℕ → List Fed → List Fed → ℕ → Feed → Type 0
FitsTurn feeding writing given taken port v = (v.feeds ≡ true → (port ≡ feeding) × (v.fed ≡ given)) × (v.writes ≡ true → (port ≡ writing) × (v.taken ≡ taken))

-- what was fed is what was taken, and then what the queue holds
abbrev pub KeepsTurn : List Fed → List Feed → Type 0
KeepsTurn items views = (feeding : ℕ) × (writing : ℕ) × (given : List Fed) × (taken : List Fed) × (given ≡ taken ++ items)
    × ((port : ℕ) (v : Feed) → get_elem? views port ≡ some v → FitsTurn feeding writing given taken port v)

-- Bytes

abbrev pub bytes_of : Fed → List ℕ
bytes_of (fed.Text text) = text.items
bytes_of fed.End = []

-- the bytes of all of these, in order
abbrev pub all_bytes : List Fed → List ℕ
all_bytes given = flat_map bytes_of given

-- the input was ended
abbrev pub HasEnd : List Fed → Type 0
HasEnd given = (before : List Fed) × (given ≡ before ++ fed.End ∷ [])

-- what a child was fed so far, and whether more may follow
pub record Feeding : Type 0 where
  pub bytes : List ℕ
  pub is_open : Bool

abbrev pub feeding_of : Feed → Bool → Feeding
feeding_of v is_open = record { bytes = all_bytes v.fed; is_open = is_open }

abbrev pub nothing_fed : Feeding
nothing_fed = record { bytes = []; is_open = true }

-- after a feeding that was taken, or failed: then nothing more may follow
abbrev pub after_feeding : Bool → List ℕ → Feeding → Feeding
after_feeding true bytes f = record f { bytes = f.bytes ++ bytes }
after_feeding false bytes f = record f { is_open = false }

abbrev pub after_end : Feeding → Feeding
after_end f = record f { is_open = false }

-- One end more was fed, or none if there was no memory for it; and none if nothing more might be fed.
abbrev pub EndsOnce : Bool → Bool → Feed → Feed → Type 0
EndsOnce result true before after = after ≡ fed_if result before fed.End
EndsOnce result false before after = (result ≡ true) × (after ≡ before)

-- These bytes were written, or if that failed the first of them.
abbrev pub WritesText : Bool → Option (List ℕ) → Option (List ℕ) → List ℕ → Type 0
WritesText is_whole before after text = (bytes : List ℕ) × (rest : List ℕ) × Appends before after bytes × (text ≡ bytes ++ rest) × (is_whole ≡ true → rest ≡ [])

-- Of what was taken the bytes were written, in order; if that failed the first of them. All were written only once the end was
-- taken.
abbrev pub WritesFed : Bool → Option (List ℕ) → Option (List ℕ) → List Fed → Type 0
WritesFed is_whole before after taken = WritesText is_whole before after (all_bytes taken) × (is_whole ≡ true → HasEnd taken)

-- The next of what was fed was taken and written: before it these were taken, and after it those.
abbrev pub Steps : Step → Option (List ℕ) → Option (List ℕ) → List Fed → List Fed → Type 0
Steps step.Wrote before after old new = (x : Fed) × (new ≡ old ++ x ∷ []) × WritesText true before after (bytes_of x)
Steps step.Broke before after old new = (x : Fed) × (new ≡ old ++ x ∷ []) × WritesText false before after (bytes_of x)
Steps step.Over before after old new = (new ≡ old ++ fed.End ∷ []) × (after ≡ before)
Steps step.Nothing before after old new = (new ≡ old) × (after ≡ before)
