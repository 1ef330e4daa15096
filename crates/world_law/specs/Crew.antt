-- Which name goes with which program, and what lies between the sender and its cleaner, by the state.
use Rattle.std.specs.Prelude.{◌≡◌, ℕ, ◌==◌, List, Bool, true, false, Option, Some, None, codes, Contains}
use Rattle.actor_names.specs.MailNames.{members}
use Rattle.call_fs.specs.declared.program.Port.TheVariants as port
use Rattle.call_fs.specs.declared.past.Own.{Own}
use Rattle.queue_clean.specs.Table.{Place, start, place_after}
use Rattle.send_core.specs.Table.{place_after as sender_after}
use Rattle.world_events.specs.declared.event.Program.{Program}
use Rattle.world_events.specs.declared.event.Program.TheVariants.{Injector, Cleaner, Sender, LocalSpawner, RemoteSpawner, Delivery}
use Rattle.program_law.specs.Errand.Errands.{Awaits, Link}
use Rattle.program_law.specs.Errand.Errands.Awaits.{Over}
use Rattle.program_law.specs.Sender.Waits.{awaits}
use Rattle.mail_world.specs.Pipework.{Pipework}
use Rattle.mail_world.specs.History.{Actor, Life, State}
use Rattle.mail_world.specs.History.Life.{Alive, Over as Ended, Stopped}

-- A member of a generation has the name of its program, and a delivery none of theirs. An injector may have any name, also one of theirs, as
-- long as no generation started.
abbrev pub IsNamed : List ℕ → Program → Type 0
IsNamed a (Injector args) = Unit {0}
IsNamed a (Cleaner since) = a ≡ codes "clean"
IsNamed a (Sender since) = a ≡ codes "sender"
IsNamed a (LocalSpawner since) = a ≡ codes "lspawn"
IsNamed a (RemoteSpawner since) = a ≡ codes "rspawn"
IsNamed a (Delivery since args) = Contains members a → ⊥

-- it lives, or has ended with 0
abbrev pub is_alive : Life → Bool
is_alive Alive = true
is_alive (Ended status) = false
is_alive Stopped = false

abbrev pub is_well : Life → Bool
is_well Alive = false
is_well (Ended status) = status == 0
is_well Stopped = false

-- the cleaner lives
abbrev pub lives_by : Program → Life → Bool
lives_by (Cleaner since) life = is_alive life
lives_by program life = false

abbrev pub lives_in : Option Actor → Bool
lives_in None = false
lives_in (Some x) = lives_by x.program x.life

-- What the sender waits for: one that has ended or was stopped gives and takes nothing more.
abbrev pub awaits_by : Life → Program → List Own → Awaits
awaits_by Alive (Sender since) past = awaits (sender_after None past)
awaits_by life program past = Over

abbrev pub awaits_in : Option Actor → Awaits
awaits_in None = Over
awaits_in (Some x) = awaits_by x.life x.program x.past

-- where the cleaner stands, or where it stood when it ended or was stopped
abbrev pub place_by : Program → List Own → Place
place_by (Cleaner since) past = place_after past
place_by program past = start

abbrev pub place_in : Option Actor → Place
place_in None = start
place_in (Some x) = place_by x.program x.past

-- the sender and the cleaner, with the two pipes between them
abbrev pub link_by : Option Actor → Option Actor → Pipework → Link
link_by sender cleaner pipework = record {
  awaits = awaits_in sender;
  place = place_in cleaner;
  given = (pipework.pipes (codes "clean") port.Input).bytes;
  answers = (pipework.pipes (codes "sender") port.Clean).bytes;
}

abbrev pub link_in : State → Link
link_in s = link_by (s.actors (codes "sender")) (s.actors (codes "clean")) s.pipework
