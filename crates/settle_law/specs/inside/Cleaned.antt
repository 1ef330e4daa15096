-- What a cleaner answers where nothing fails.
use Rattle.std.specs.Prelude.{◌≡◌, ◌⊎◌, ℕ, List, [], true, Some, None, codes}
use Rattle.std.specs.List.{list_all}
use Rattle.call_fs.specs.Disk.{Disk}
use Rattle.call_fs.specs.declared.past.NeedData.TheVariants as needs
use Rattle.call_fs.specs.declared.past.Own.{Own}
use Rattle.call_fs.specs.declared.program.Port.{Port}
use Rattle.call_fs.specs.declared.program.Ready.{Ready}
use Rattle.queue_clean.specs.Causes.{last_command}
use Rattle.queue_clean.specs.Commands.{command_of}
use Rattle.queue_clean.specs.Table.{Next, place_after}
use Rattle.queue_clean.specs.declared.command.Command.TheVariants.{Todo}
use Rattle.program_law.specs.Errand.Errands.Awaits.{Answer}
use Rattle.world_events.specs.declared.event.Program.TheVariants.{Cleaner}
use Rattle.mail_world.specs.History.{Actor, Event, Legal, after}
use Rattle.world_law.specs.Crew.{link_in}
use Rattle.settle_law.specs.Well.{GoesWell, goes_well}

-- it answers `x`, since what it took up last is no command
pub record IsUnknown (past : List Own) (bytes : List ℕ) : Type 0 where
  pub text : List ℕ
  pub taken_up : last_command (place_after past) ≡ Some text
  pub no_command : command_of text ≡ None
  pub answer : bytes ≡ codes "x"

-- It answers `+`, or `x` to what is no command, and never `!`.
abbrev pub CleanersAnswerWell : Type 0
CleanersAnswerWell = (d : Disk) (h : List Event) → Legal d h → list_all goes_well h ≡ true → (a : List ℕ) (x : Actor) → (after d h).actors a ≡ Some x → (began : ℕ) → x.program ≡ Cleaner began
    → (now : ℕ) (ready : Ready) (port : Port) (bytes : List ℕ) → Next tt x.past now ready ≡ needs.Give port bytes → (bytes ≡ codes "+") ⊎ IsUnknown x.past bytes

-- So while a sender waits for the answer to `todo/N`, nothing lies in its pipe from the cleaner, or `+`.
abbrev pub TodoAnswersAreWell : Type 0
TodoAnswersAreWell = (d : Disk) (h : List Event) → GoesWell d h → (n : ℕ) → (link_in (after d h)).awaits ≡ Answer (Todo n)
    → ((link_in (after d h)).answers ≡ []) ⊎ ((link_in (after d h)).answers ≡ codes "+")
