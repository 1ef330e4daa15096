-- What machines stand for and need.
use Rattle.std.proofs.Common.{◌≡◌, ℕ, List, ◌∷◌, ap, ◌∙◌}
use Rattle.call_fs.specs.declared.program.Ready.{Ready}
use Rattle.call_fs.specs.declared.past.NeedData.{NeedData}
use Rattle.call_fs.specs.declared.past.Own.{Own}
use Rattle.queue_clean.specs.Machine.{Machine as Cleaning}
use Rattle.queue_clean.specs.Stands.{Stands as Cleaned}
use Rattle.world_events.specs.declared.event.Program.{Program}
use Rattle.world_events.specs.declared.event.Program.TheVariants.{Cleaner}
use Rattle.mail_world.specs.declared.any_machine.AnyMachine.{AnyMachine}
use Rattle.mail_world.specs.ByKind.{Cleans, present_of, found_of, need_of, with_own}

-- a cleaner that stands for each past for which that one stands, stands so for that program
pub still_cleans : (m n : Cleaning) (program : Program) (past later : List Own) → ((args : Unit {0}) → Cleaned m args past → Cleaned n args later)
    → Cleans m program past → Cleans n program later
still_cleans m n (Cleaner start) past later stands f = stands tt f
still_cleans m n other past later stands f = absurd f

-- What an actor does

-- what its machine was told and what came of its need are its event
pub own_is : (m : AnyMachine) (own : Own) (past : List Own) → present_of m ≡ own.read → found_of m ≡ own.ready → need_of m ≡ own.due → with_own m own.came past ≡ own ∷ past
own_is m own past read ready due =
    ap (λ (read : ℕ). (record { read = read; ready = found_of m; due = need_of m; came = own.came }) ∷ past) read
    ∙ ap (λ (ready : Ready). (record { read = own.read; ready = ready; due = need_of m; came = own.came }) ∷ past) ready
    ∙ ap (λ (due : NeedData). (record { read = own.read; ready = own.ready; due = due; came = own.came }) ∷ past) due
