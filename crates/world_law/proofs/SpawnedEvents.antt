-- Events of actors: each keeps what stands between the sender and the spawner of a channel.
use Rattle.std.proofs.Common.{◌≡◌, ℕ, ◌≤◌, List, [], ◌∷◌, Bool, true, false, Option, Some, None, refl, sym, ap, ◌∙◌, subst, arith, codes}
use Rattle.call_fs.specs.Maps.{put_at}
use Rattle.call_fs.specs.Program.{MayCome}
use Rattle.call_fs.proofs.Maps.{put_at_other, put_at_same}
use Rattle.call_fs.specs.declared.past.NeedData.TheVariants as needs
use Rattle.call_fs.specs.declared.past.Own.{Own}
use Rattle.call_fs.specs.declared.program.Port.TheVariants as port
use Rattle.mail_bytes.specs.Moments.{IsMoment}
use Rattle.program_law.specs.Post.Posts.{IsOffered, due_of}
use Rattle.program_law.specs.Post.Senders.{AsksFor, IsSome}
use Rattle.send_core.specs.declared.desk.Desk.{Desk}
use Rattle.send_core.specs.Table.{place_after as sender_after, due_at, port_of, row_now}
use Rattle.send_known.specs.declared.channel.Channel.{Channel}
use Rattle.send_known.specs.declared.channel.Channel.TheVariants as channel
use Rattle.program_law.proofs.Sender.Asking.{requests_are_texts}
use Rattle.world_pipes.specs.Pipework.{Pipework, is_writer, with_child, writer}
use Rattle.world_events.specs.declared.event.Program.{Program}
use Rattle.world_events.specs.declared.event.Program.TheVariants.{Sender, LocalSpawner, RemoteSpawner}
use Rattle.mail_world.specs.History.{Actor, IsSender, Life, State, acted, bears, finished, newborn, next_of, slot_by}
use Rattle.mail_world.specs.History.Life.{Alive}
use Rattle.mail_world.specs.Untouched.{queue}
use Rattle.world_law.specs.Crew.{IsNamed, is_alive}
use Rattle.world_law.specs.Fares.{SenderFares}
use Rattle.world_law.specs.Inv.{Inv}
use Rattle.world_law.specs.inside.Posts.{desk_in, sends_by, sends_in}
use Rattle.world_law.specs.Spawned.{IsSpawner, spawner_name}
use Rattle.world_law.proofs.Gone.{bytes_shut}
use Rattle.world_law.proofs.PostEvents.{IsAside, IsMild, IsOther, acts_aside, calm, mild, tenant_not}
use Rattle.world_law.proofs.PostPipes.{asked_output, asked_sent, asked_spawned, not_spawner, told_output, told_sent, told_spawned}
use Rattle.world_law.proofs.PostSends.{asks_for}
use Rattle.world_law.proofs.PostViews.{put_seen}
use Rattle.world_law.proofs.SendersPut.{sender}
use Rattle.world_law.proofs.SpawnedViews.{Sight, Stands, gone as none_serves, lost, sender_stands, side_by, side_in, side_worked, sight_of, sight_sent, sight_worked, works}

-- An actor as it is seen

abbrev pub StandsIn : Channel → State → Type 0
StandsIn c s = Stands c (sight_of c s.actors s.pipework)

abbrev pub sender_in : Option Actor → Desk × Bool
sender_in o = (desk_in o, sends_in o)

pub sight_same : (c : Channel) (old new : List ℕ → Option Actor) (v w : Pipework) → sender_in (new (codes "sender")) ≡ sender_in (old (codes "sender"))
    → side_in c (new (spawner_name c)) ≡ side_in c (old (spawner_name c))
    → (w.pipes (codes "sender") (port_of c)).bytes ≡ (v.pipes (codes "sender") (port_of c)).bytes → (w.pipes (spawner_name c) port.Input).bytes ≡ (v.pipes (spawner_name c) port.Input).bytes
    → sight_of c new w ≡ sight_of c old v
sight_same c old new v w sends spawner told asked = λ i. record { desk = (sends i).0; sends = (sends i).1; side = spawner i; told = told i; asked = asked i }

pub other_sender : (c : Channel) (program : Program) → IsOther c program → (past : List Own) (life : Life) → sender_in (Some (record { program = program; past = past; life = life })) ≡ sender_in None
other_sender channel.Local (Sender since) it past life = absurd it
other_sender channel.Remote (Sender since) it past life = absurd it
other_sender c program it past life = refl

pub other_side : (c : Channel) (program : Program) → IsOther c program → (past : List Own) (life : Life) → side_in c (Some (record { program = program; past = past; life = life })) ≡ side_in c None
other_side channel.Local (LocalSpawner since) it past life = absurd it
other_side channel.Remote (RemoteSpawner since) it past life = absurd it
other_side channel.Local program it past life = refl
other_side channel.Remote program it past life = refl

pub other_acts : (s : State) → Inv s → (c : Channel) → StandsIn c s → (a : List ℕ) (own : Own) (wrote : ℕ) (x : Actor) → s.actors a ≡ Some x → IsOther c x.program
    → next_of x.program x.past own.read own.ready ≡ own.due → StandsIn c (acted s a own wrote (Some x))
other_acts s I c S a own wrote x is it due =
    let y : Actor = record { program = x.program; past = own ∷ x.past; life = x.life } in
    let aside : IsAside c s a own.due own.came wrote = acts_aside s I c a own wrote x is it due in
    let sends : sender_in (Some y) ≡ sender_in (s.actors a) = other_sender c x.program it (own ∷ x.past) x.life ∙ sym (other_sender c x.program it x.past x.life) ∙ ap sender_in (sym is) in
    let side : side_in c (Some y) ≡ side_in c (s.actors a) = other_side c x.program it (own ∷ x.past) x.life ∙ sym (other_side c x.program it x.past x.life) ∙ ap (side_in c) (sym is) in
    subst (Stands c) (sym (sight_same c s.actors (put_at s.actors a (Some y)) s.pipework (acted s a own wrote (Some x)).pipework
    (put_seen sender_in s.actors a y (codes "sender") sends) (put_seen (side_in c) s.actors a y (spawner_name c) side) aside.told aside.asked)) S

-- A child starts

pub begins_stand : (c : Channel) (s : State) → StandsIn c s → (a : List ℕ) (program : Program) → IsOther c program → s.actors a ≡ None → (w : Pipework)
    → (w.pipes (codes "sender") (port_of c)).bytes ≡ (s.pipework.pipes (codes "sender") (port_of c)).bytes
    → (w.pipes (spawner_name c) port.Input).bytes ≡ (s.pipework.pipes (spawner_name c) port.Input).bytes
    → Stands c (sight_of c (put_at s.actors a (Some (newborn program))) w)
begins_stand c s S a program it new w told asked =
    let y : Actor = newborn program in
    let sends : sender_in (Some y) ≡ sender_in (s.actors a) = other_sender c program it [] Alive ∙ ap sender_in (sym new) in
    let side : side_in c (Some y) ≡ side_in c (s.actors a) = other_side c program it [] Alive ∙ ap (side_in c) (sym new) in
    subst (Stands c) (sym (sight_same c s.actors (put_at s.actors a (Some y)) s.pipework w
    (put_seen sender_in s.actors a y (codes "sender") sends) (put_seen (side_in c) s.actors a y (spawner_name c) side) told asked)) S

pub bears_stand : (c : Channel) (s : State) → StandsIn c s → (parent : List ℕ) (own : Own) (a : List ℕ) (program : Program) → IsOther c program → s.actors a ≡ None
    → StandsIn c (bears s parent own a program)
bears_stand c s S parent own a program it new =
    begins_stand c s S a program it new (with_child s.pipework parent (slot_by own.due) a)
    (told_output s.pipework c parent (slot_by own.due)) (asked_output s.pipework c parent (slot_by own.due))

-- An event of the sender

module _ (s : State) (I : Inv s) (c : Channel) (S : StandsIn c s) (own : Own) (wrote began : ℕ) (past : List Own)
    (is : s.actors (codes "sender") ≡ Some (sender began past))
    (soon : own.read ≤ s.now) (due : due_at (row_now (sender_after None past) own.read own.ready) (sender_after None past) ≡ own.due)
    (may : MayCome own.due own.came) (takes : own.due ≡ needs.Take (port_of c) → IsSome own.came (s.pipework.pipes (codes "sender") (port_of c)).bytes) where
  abbrev before_sent : Sight
  before_sent = record {
    desk = sender_after None past;
    sends = true;
    side = side_in c (s.actors (spawner_name c));
    told = (s.pipework.pipes (codes "sender") (port_of c)).bytes;
    asked = (s.pipework.pipes (spawner_name c) port.Input).bytes;
  }

  seen_sender : sight_of c s.actors s.pipework ≡ before_sent
  seen_sender = λ i. record {
    desk = desk_in (is i);
    sends = sends_in (is i);
    side = side_in c (s.actors (spawner_name c));
    told = (s.pipework.pipes (codes "sender") (port_of c)).bytes;
    asked = (s.pipework.pipes (spawner_name c) port.Input).bytes;
  }

  moment : IsMoment own.read
  moment = let m = I.moment in omega (arith, m, soon)

  fares : SenderFares s.now (queue s I.role) (codes "sender") (sender_after None past)
  fares = I.fares (codes "sender") (sender began past) is

  gives : (text : List ℕ) → own.due ≡ needs.Give (port_of c) text → AsksFor c (sender_after None past) text
  gives text e = asks_for (queue s I.role) (sender_after None past) c text I.sound.fine
      (requests_are_texts s.now (queue s I.role) (codes "sender") (sender_after None past) own.read own.ready c text soon moment fares.stands fares.texts (due ∙ e))

  abbrev then_sent : State
  then_sent = acted s (codes "sender") own wrote (Some (sender began past))

  sender_here : then_sent.actors (codes "sender") ≡ Some (sender began (own ∷ past))
  sender_here = put_at_same s.actors (codes "sender") (Some (sender began (own ∷ past)))

  spawner_there : then_sent.actors (spawner_name c) ≡ s.actors (spawner_name c)
  spawner_there = put_at_other s.actors (codes "sender") (Some (sender began (own ∷ past))) (spawner_name c) (λ same. not_spawner c (sym same))

  seen_sent : sight_of c then_sent.actors then_sent.pipework ≡ sight_sent c before_sent own wrote
  seen_sent = λ i. record {
    desk = desk_in (sender_here i);
    sends = sends_in (sender_here i);
    side = side_in c (spawner_there i);
    told = told_sent s.pipework c own.due own.came wrote i;
    asked = asked_sent s.pipework c (tenant_not s I c (codes "sender")) own.due own.came wrote i;
  }

  sender_event : StandsIn c then_sent
  sender_event = subst (Stands c) (sym seen_sent) (sender_stands c before_sent (subst (Stands c) seen_sender S) own wrote refl (sym due) may takes gives)

sends_by_program : (s : State) → Inv s → (c : Channel) → StandsIn c s → (a : List ℕ) (wrote : ℕ) (program : Program) (past : List Own) (life : Life) (own : Own)
    → IsSender program
    → IsNamed a program → life ≡ Alive → s.actors a ≡ Some (record { program = program; past = past; life = life }) → own.read ≤ s.now → next_of program past own.read own.ready ≡ own.due
    → MayCome own.due own.came → (own.due ≡ needs.Take (port_of c) → IsSome own.came (s.pipework.pipes a (port_of c)).bytes)
    → StandsIn c (acted s a own wrote (Some (record { program = program; past = past; life = life })))
sends_by_program s I c S a wrote (Sender began) past Alive own it named alive is soon due may takes =
    subst (λ (b : List ℕ). StandsIn c (acted s b own wrote (Some (sender began past)))) (sym named)
    (sender_event s I c S own wrote began past
    (subst (λ (b : List ℕ). s.actors b ≡ Some (sender began past)) named is) soon due may
    (subst (λ (b : List ℕ). own.due ≡ needs.Take (port_of c) → IsSome own.came (s.pipework.pipes b (port_of c)).bytes) named takes))
sends_by_program s I c S a wrote (Sender began) past life own it named alive is soon due may takes = absurd (cc)
sends_by_program s I c S a wrote other past life own it named alive is soon due may takes = absurd it

pub sender_acts : (s : State) → Inv s → (c : Channel) → StandsIn c s → (a : List ℕ) (own : Own) (wrote : ℕ) (x : Actor) → s.actors a ≡ Some x → x.life ≡ Alive
    → IsSender x.program
    → own.read ≤ s.now → next_of x.program x.past own.read own.ready ≡ own.due → MayCome own.due own.came
    → (own.due ≡ needs.Take (port_of c) → IsSome own.came (s.pipework.pipes a (port_of c)).bytes) → StandsIn c (acted s a own wrote (Some x))
sender_acts s I c S a own wrote x is alive it soon due may takes = sends_by_program s I c S a wrote x.program x.past x.life own it (I.crew a x is) alive is soon due may takes

-- An event of the spawner

-- what it does is due
record Works (c : Channel) (program : Program) (past : List Own) (life : Life) (own : Own) : Type 0 where
  due : own.due ≡ due_of (side_by c program past life).spawner own.ready
  next : side_by c program (own ∷ past) life ≡ side_worked (side_by c program past life) own
  mild_due : IsMild own.due

works_by : (c : Channel) (program : Program) (past : List Own) (life : Life) (own : Own) → IsSpawner c program → life ≡ Alive → next_of program past own.read own.ready ≡ own.due
    → Works c program past life own
works_by channel.Local (LocalSpawner since) past Alive own it alive due =
    record { due = sym due; next = refl; mild_due = subst IsMild due (mild (LocalSpawner since) (λ none. none) past own.read own.ready) }
works_by channel.Remote (RemoteSpawner since) past Alive own it alive due =
    record { due = sym due; next = refl; mild_due = subst IsMild due (mild (RemoteSpawner since) (λ none. none) past own.read own.ready) }
works_by channel.Local (LocalSpawner since) past life own it alive due = absurd (cc)
works_by channel.Remote (RemoteSpawner since) past life own it alive due = absurd (cc)
works_by channel.Local program past life own it alive due = absurd it
works_by channel.Remote program past life own it alive due = absurd it

module _ (s : State) (I : Inv s) (c : Channel) (S : StandsIn c s) (own : Own) (wrote : ℕ) (x : Actor) (is : s.actors (spawner_name c) ≡ Some x)
    (W : Works c x.program x.past x.life own) (may : MayCome own.due own.came)
    (offered : own.due ≡ needs.Take port.Input → IsOffered (s.pipework.pipes (spawner_name c) port.Input).bytes own.came) where
  abbrev before_worked : Sight
  before_worked = record {
    desk = desk_in (s.actors (codes "sender"));
    sends = sends_in (s.actors (codes "sender"));
    side = side_by c x.program x.past x.life;
    told = (s.pipework.pipes (codes "sender") (port_of c)).bytes;
    asked = (s.pipework.pipes (spawner_name c) port.Input).bytes;
  }

  seen_spawner : sight_of c s.actors s.pipework ≡ before_worked
  seen_spawner = λ i. record {
    desk = desk_in (s.actors (codes "sender"));
    sends = sends_in (s.actors (codes "sender"));
    side = side_in c (is i);
    told = (s.pipework.pipes (codes "sender") (port_of c)).bytes;
    asked = (s.pipework.pipes (spawner_name c) port.Input).bytes;
  }

  abbrev then_worked : State
  then_worked = acted s (spawner_name c) own wrote (Some x)

  abbrev moved : Actor
  moved = record { program = x.program; past = own ∷ x.past; life = x.life }

  side_then : side_in c (then_worked.actors (spawner_name c)) ≡ side_worked (side_by c x.program x.past x.life) own
  side_then = ap (side_in c) (put_at_same s.actors (spawner_name c) (Some moved)) ∙ W.next

  sender_there : then_worked.actors (codes "sender") ≡ s.actors (codes "sender")
  sender_there = put_at_other s.actors (spawner_name c) (Some moved) (codes "sender") (not_spawner c)

  seen_worked : sight_of c then_worked.actors then_worked.pipework ≡ sight_worked before_worked own wrote
  seen_worked = λ i. record {
    desk = desk_in (sender_there i);
    sends = sends_in (sender_there i);
    side = side_then i;
    told = told_spawned s.pipework c own.due own.came wrote i;
    asked = asked_spawned s.pipework c (tenant_not s I c (spawner_name c)) own.due own.came wrote (calm c own.due W.mild_due) i;
  }

  spawner_event : StandsIn c then_worked
  spawner_event = subst (Stands c) (sym seen_worked) (works c before_worked (subst (Stands c) seen_spawner S) own wrote [] W.due may offered)

spawner_named : (c : Channel) (a : List ℕ) (program : Program) → IsSpawner c program → IsNamed a program → a ≡ spawner_name c
spawner_named channel.Local a (LocalSpawner since) it named = named
spawner_named channel.Remote a (RemoteSpawner since) it named = named
spawner_named channel.Local a program it named = absurd it
spawner_named channel.Remote a program it named = absurd it

pub spawner_acts : (s : State) → Inv s → (c : Channel) → StandsIn c s → (a : List ℕ) (own : Own) (wrote : ℕ) (x : Actor) → s.actors a ≡ Some x → x.life ≡ Alive
    → IsSpawner c x.program
    → next_of x.program x.past own.read own.ready ≡ own.due → MayCome own.due own.came
    → (own.due ≡ needs.Take port.Input → IsOffered (s.pipework.pipes a port.Input).bytes own.came) → StandsIn c (acted s a own wrote (Some x))
spawner_acts s I c S a own wrote x is alive it due may offered =
    let named = spawner_named c a x.program it (I.crew a x is) in
    subst (λ (b : List ℕ). StandsIn c (acted s b own wrote (Some x))) (sym named)
    (spawner_event s I c S own wrote x (subst (λ (b : List ℕ). s.actors b ≡ Some x) named is) (works_by c x.program x.past x.life own it alive due) may
    (subst (λ (b : List ℕ). own.due ≡ needs.Take port.Input → IsOffered (s.pipework.pipes b port.Input).bytes own.came) named offered))

-- An end or a stop

dead_side : (c : Channel) (program : Program) → IsSpawner c program → (past : List Own) (life : Life) → is_alive life ≡ false → (side_by c program past life).serves ≡ false
dead_side channel.Local (LocalSpawner since) it past life dead = dead
dead_side channel.Remote (RemoteSpawner since) it past life dead = dead
dead_side channel.Local program it past life dead = absurd it
dead_side channel.Remote program it past life dead = absurd it

dead_sender : (program : Program) → IsSender program → (past : List Own) (after : Life) → is_alive after ≡ false → sends_by program after ≡ false
dead_sender (Sender since) it past after dead = dead
dead_sender program it past after dead = absurd it

module _ (c : Channel) (s : State) (S : StandsIn c s) (a : List ℕ) (x : Actor) (is : s.actors a ≡ Some x) (life : Life) (dead : is_alive life ≡ false) where
  abbrev gone : Actor
  gone = record { program = x.program; past = x.past; life = life }

  abbrev over : State
  over = finished s a life (Some x)

  told_shut : (over.pipework.pipes (codes "sender") (port_of c)).bytes ≡ (s.pipework.pipes (codes "sender") (port_of c)).bytes
  told_shut = bytes_shut (is_writer a (writer s.pipework (codes "sender") (port_of c))) (s.pipework.pipes (codes "sender") (port_of c))

  asked_shut : (over.pipework.pipes (spawner_name c) port.Input).bytes ≡ (s.pipework.pipes (spawner_name c) port.Input).bytes
  asked_shut = bytes_shut (is_writer a (writer s.pipework (spawner_name c) port.Input)) (s.pipework.pipes (spawner_name c) port.Input)

  other_over : IsOther c x.program → StandsIn c over
  other_over it =
      let sends : sender_in (Some gone) ≡ sender_in (s.actors a) = other_sender c x.program it x.past life ∙ sym (other_sender c x.program it x.past x.life) ∙ ap sender_in (sym is) in
      let side : side_in c (Some gone) ≡ side_in c (s.actors a) = other_side c x.program it x.past life ∙ sym (other_side c x.program it x.past x.life) ∙ ap (side_in c) (sym is) in
      subst (Stands c) (sym (sight_same c s.actors over.actors s.pipework over.pipework
      (put_seen sender_in s.actors a gone (codes "sender") sends) (put_seen (side_in c) s.actors a gone (spawner_name c) side) told_shut asked_shut)) S

  sender_over : IsSender x.program → a ≡ codes "sender" → StandsIn c over
  sender_over it name =
      let here : over.actors (codes "sender") ≡ Some gone = ap over.actors (sym name) ∙ put_at_same s.actors a (Some gone) in
      let there : over.actors (spawner_name c) ≡ s.actors (spawner_name c) = put_at_other s.actors a (Some gone) (spawner_name c) (λ same. not_spawner c (sym (same ∙ name))) in
      let desk_is : desk_in (over.actors (codes "sender")) ≡ desk_in (s.actors (codes "sender")) = put_seen desk_in s.actors a gone (codes "sender") (ap desk_in (sym is)) in
      let sends_is : sends_in (over.actors (codes "sender")) ≡ false = ap sends_in here ∙ dead_sender x.program it x.past life dead in
      let v : Sight = sight_of c s.actors s.pipework in
      let same : sight_of c over.actors over.pipework ≡ record v { sends = false } =
      λ i. record { desk = desk_is i; sends = sends_is i; side = side_in c (there i); told = told_shut i; asked = asked_shut i } in
      subst (Stands c) (sym same) (lost c v S)

  spawner_over : IsSpawner c x.program → a ≡ spawner_name c → StandsIn c over
  spawner_over it name =
      let here : over.actors (spawner_name c) ≡ Some gone = ap over.actors (sym name) ∙ put_at_same s.actors a (Some gone) in
      none_serves c (sight_of c over.actors over.pipework) (ap (λ (o : Option Actor). (side_in c o).serves) here ∙ dead_side c x.program it x.past life dead)

over_by : (c : Channel) (s : State) → StandsIn c s → (a : List ℕ) (x : Actor) → s.actors a ≡ Some x → (life : Life) → is_alive life ≡ false → (program : Program) → x.program ≡ program
    → IsNamed a program
    → StandsIn c (finished s a life (Some x))
over_by c s S a x is life dead (Sender began) runs name = sender_over c s S a x is life dead (subst IsSender (sym runs) tt) name
over_by channel.Local s S a x is life dead (LocalSpawner began) runs name = spawner_over channel.Local s S a x is life dead (subst (IsSpawner channel.Local) (sym runs) tt) name
over_by channel.Remote s S a x is life dead (RemoteSpawner began) runs name = spawner_over channel.Remote s S a x is life dead (subst (IsSpawner channel.Remote) (sym runs) tt) name
over_by channel.Local s S a x is life dead program runs name = other_over channel.Local s S a x is life dead (subst (IsOther channel.Local) (sym runs) tt)
over_by channel.Remote s S a x is life dead program runs name = other_over channel.Remote s S a x is life dead (subst (IsOther channel.Remote) (sym runs) tt)

pub ends_stand : (s : State) → Inv s → (c : Channel) → StandsIn c s → (a : List ℕ) (x : Actor) → s.actors a ≡ Some x → (life : Life) → is_alive life ≡ false
    → StandsIn c (finished s a life (s.actors a))
ends_stand s I c S a x is life dead = subst (λ (o : Option Actor). StandsIn c (finished s a life o)) (sym is) (over_by c s S a x is life dead x.program refl (I.crew a x is))
