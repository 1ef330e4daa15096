-- What a script prints, with what holds of the queue all the while.
use Rattle.std.specs.Prelude.{◌≡◌, ◌⊎◌, List, [], ℕ, true}
use Rattle.std.specs.List.{list_all}
use Rattle.scenario.specs.Deeds.{history_of}
use Rattle.scenario.specs.Text.{IsPrefix, Prints}
use Rattle.scenario.specs.Working.{PrintsWorked, deeds_of, is_quiet}
use Rattle.world_law.specs.Headline.{EachPromised, IsSafeBy}

-- The script with these bytes prints this. The promise holds of each prefix of the history that it plays; if no generation was started, each accepted
-- message waits in todo after each.
pub record PrintsSafely (script text : List ℕ) : Type 0 where
  pub prints : Prints script text
  pub safe : IsSafeBy prints.played.disk (history_of prints.played.deeds)

-- nothing, or a prefix of the text of the script with these bytes
abbrev pub IsSafePrefixAtMost : List ℕ → List ℕ → Type 0
IsSafePrefixAtMost script text = (text ≡ []) ⊎ ((whole : List ℕ) × PrintsSafely script whole × IsPrefix text whole)

-- The same of `work`, in whose history no moment, stop or machine stop comes, and nothing fails.
pub record WorksSafely (script text : List ℕ) : Type 0 where
  pub prints : PrintsWorked script text
  pub quiet : list_all is_quiet (history_of (deeds_of prints.content.opening prints.content.lines text prints.worked)) ≡ true
  pub safe : EachPromised prints.worked.disk (history_of (deeds_of prints.content.opening prints.content.lines text prints.worked))
