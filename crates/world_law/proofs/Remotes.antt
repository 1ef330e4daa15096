-- The events of the remote spawner.
use Rattle.std.proofs.Common.{◌≡◌, ℕ, List, Option, Some, refl, sym, subst, codes}
use Rattle.call_fs.specs.declared.past.Own.{Own}
use Rattle.remote_spawn.specs.Table.{place_after, program_of as asked_for, remote}
use Rattle.send_known.specs.declared.channel.Channel.TheVariants.{Remote}
use Rattle.spawner_parts.specs.declared.place.Place.{Place}
use Rattle.spawner_parts.specs.Table.{IsKind}
use Rattle.spawner_parts.specs.Table.IsReadied.{IsGiven}
use Rattle.world_events.specs.declared.event.Program.{Program}
use Rattle.world_events.specs.declared.event.Program.TheVariants.{RemoteSpawner}
use Rattle.mail_world.specs.History.{Actor, ComesOf, IsRemoteSpawner, Life, State, acted, next_of}
use Rattle.mail_world.specs.History.Life.{Alive}
use Rattle.world_law.specs.Crew.{IsNamed}
use Rattle.world_law.specs.Inv.{Inv}
use Rattle.world_law.specs.Laws.{RemotesKeep}
use Rattle.world_law.proofs.Spawners.{serves}

-- its program is given the message as it was read
is_kind : IsKind remote
is_kind p = IsGiven refl

module _ (s : State) (I : Inv s) (wrote : ℕ) (began : ℕ) (past : List Own) (own : Own) where
  abbrev spawner : Actor
  spawner = record { program = RemoteSpawner began; past = past; life = Alive }

  remote_event : s.actors (codes "rspawn") ≡ Some spawner → next_of (RemoteSpawner began) past own.read own.ready ≡ own.due → ComesOf s (codes "rspawn") own.due own.came wrote
      → Inv (acted s (codes "rspawn") own wrote (Some spawner))
  remote_event is due comes =
      let p : Place = place_after past in
      serves s wrote began past own I Remote is remote is_kind (asked_for p.request) tt p (λ r due came h. h) (I.fares (codes "rspawn") spawner is) due comes

by_program : (s : State) (I : Inv s) (a : List ℕ) (wrote : ℕ) (program : Program) (past : List Own) (life : Life) (own : Own) → IsRemoteSpawner program
    → IsNamed a program → life ≡ Alive → s.actors a ≡ Some (record { program = program; past = past; life = life }) → next_of program past own.read own.ready ≡ own.due
    → ComesOf s a own.due own.came wrote → Inv (acted s a own wrote (Some (record { program = program; past = past; life = life })))
by_program s I a wrote (RemoteSpawner began) past Alive own it named alive is due comes =
    subst (λ (b : List ℕ). Inv (acted s b own wrote (Some (record { program = RemoteSpawner began; past = past; life = Alive })))) (sym named)
    (remote_event s I wrote began past own
    (subst (λ (b : List ℕ). s.actors b ≡ Some (record { program = RemoteSpawner began; past = past; life = Alive })) named is) due
    (subst (λ (b : List ℕ). ComesOf s b own.due own.came wrote) named comes))
by_program s I a wrote (RemoteSpawner began) past life own it named alive is due comes = absurd (cc)
by_program s I a wrote other past life own it named alive is due comes = absurd it

pub remotes_keep : RemotesKeep
remotes_keep a own wrote s I may it =
    let x = may.actor in
    subst (λ (o : Option Actor). Inv (acted s a own wrote o)) (sym may.reads.is)
    (by_program s I a wrote x.program x.past x.life own it (I.crew a x may.reads.is) may.reads.alive may.reads.is may.due may.came)
