-- Which programs a past has: those that were started, and whose status wasn't taken since; and which of its takings failed.
use Rattle.std.specs.Prelude.{◌≡◌, ◌⊎◌, ℕ, ◌<◌, List, [], ◌∷◌, replicate, Bool, true, false, ◌==◌, ◌&&◌, ◌||◌, not, Some, None}
use Rattle.call_fs.specs.declared.past.GotData.{GotData}
use Rattle.call_fs.specs.declared.past.GotData.TheVariants as got
use Rattle.call_fs.specs.declared.past.NeedData.{NeedData}
use Rattle.call_fs.specs.declared.past.NeedData.TheVariants.{Start, Take}
use Rattle.call_fs.specs.declared.past.Own.{Own}
use Rattle.call_fs.specs.declared.program.Port.TheVariants as port
use Rattle.program_runner.specs.Lines.{LineState, link_of, slot_of}

abbrev pub program_after : ℕ → Bool → NeedData → GotData → Bool
program_after slot old (Start child) (got.Started pid) = (slot_of child == slot) || old
program_after slot old (Take (port.Status d)) came = not (d == slot) && old
program_after slot old due came = old

-- the delivery in this slot has a program; an only child is in slot 0
abbrev pub has_program : ℕ → List Own → Bool
has_program slot [] = false
has_program slot (event ∷ before) = program_after slot (has_program slot before) event.due event.came

-- its last event was a taking of its input, or of what a program of it printed, that failed
pub record FailsToHear (before : List Own) (event : Own) : Type 0 where
  pub came : event.came ≡ got.Failed
  pub of : (event.due ≡ Take port.Input) ⊎ ((slot : ℕ) × (slot < 256) × (event.due ≡ Take (port.Program slot)) × (has_program slot before ≡ true))

abbrev pub HasFailedToHear : List Own → Type 0
HasFailedToHear [] = ⊥
HasFailedToHear (event ∷ before) = FailsToHear before event

-- lines with an input, of which nothing came yet, and no program
pub record AreFresh (lines : LineState) : Type 0 where
  pub input : ℕ
  pub linked : link_of lines 0 ≡ Some input
  pub none : lines.programs ≡ replicate 256 None
  pub kept : lines.kept ≡ []
