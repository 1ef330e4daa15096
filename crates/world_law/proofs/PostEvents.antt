-- Events of others than the sender and a spawner, and their ends.
use Rattle.std.specs.Prelude.{Contains}
use Rattle.std.proofs.Common.{◌≡◌, ◌≢◌, ℕ, List, ◌∷◌, Bool, true, false, Option, Some, None, refl, sym, ap, ◌∙◌, subst, codes, if◌then◌else◌}
use Rattle.actor_names.specs.MailNames.{members}
use Rattle.call_fs.specs.Maps.{put_at}
use Rattle.call_fs.proofs.Maps.{put_at_other, put_at_same}
use Rattle.call_fs.specs.declared.past.ChildData.{ChildData}
use Rattle.call_fs.specs.declared.past.GotData.{GotData}
use Rattle.call_fs.specs.declared.past.NeedData.{NeedData}
use Rattle.call_fs.specs.declared.past.NeedData.TheVariants as needs
use Rattle.call_fs.specs.declared.past.Own.{Own}
use Rattle.call_fs.specs.declared.calls.CallData.{CallData}
use Rattle.call_fs.specs.declared.calls.CallData.TheVariants as call
use Rattle.call_fs.specs.declared.program.Port.TheVariants as port
use Rattle.call_fs.specs.declared.program.Ready.{Ready}
use Rattle.local_deliver.specs.Table.{place_after as delivery_after}
use Rattle.local_spawn.specs.declared.place.Place.{Place as LocalPlace}
use Rattle.local_spawn.specs.declared.row.Row.{Row as LocalRow}
use Rattle.local_spawn.specs.declared.row.Row.TheVariants as local
use Rattle.local_spawn.specs.Table.{due_at as local_due, place_after as local_after, program_of}
use Rattle.program_law.specs.Post.Posts.{Posted}
use Rattle.program_law.specs.Post.Senders.{IsFirst}
use Rattle.program_law.proofs.Post.Asks.{losses_keep}
use Rattle.queue_clean.specs.declared.row.Row.{Row as CleanRow}
use Rattle.queue_clean.specs.declared.row.Row.TheVariants as clean
use Rattle.queue_clean.specs.Table.{due_at as clean_due, is_old, pid_path, place_after as clean_after, search_after}
use Rattle.queue_inject.proofs.Acts.{IsAlone, next_alone}
use Rattle.remote_spawn.specs.Table.{place_after as remote_after, program_of as remote_program}
use Rattle.send_known.specs.declared.channel.Channel.{Channel}
use Rattle.send_known.specs.declared.channel.Channel.TheVariants as channel
use Rattle.send_parts.specs.Channels.{port_of}
use Rattle.spawner_parts.specs.declared.place.Place.{Place}
use Rattle.spawner_parts.specs.declared.row.Row.{Row}
use Rattle.spawner_parts.specs.declared.row.Row.TheVariants as work_at
use Rattle.spawner_parts.specs.Table.{due_at as work_due, row_now as work_now}
use Rattle.world_pipes.specs.Pipework.{is_writer, pipes_after, programs_after, writer}
use Rattle.world_pipes.specs.Pipework.Tenant.{Runs}
use Rattle.world_events.specs.declared.event.Program.{Program}
use Rattle.world_events.specs.declared.event.Program.TheVariants.{Injector, Cleaner, Sender, LocalSpawner, RemoteSpawner, Delivery}
use Rattle.mail_world.specs.History.{Actor, IsSender, Life, State, acted, finished, next_of}
use Rattle.mail_world.specs.History.Life.{Alive, Over}
use Rattle.mail_world.proofs.Members.{member_contained}
use Rattle.world_law.specs.Crew.{IsNamed, is_alive}
use Rattle.world_law.specs.Inv.{Inv}
use Rattle.world_law.specs.inside.Posts.{PostsStand, View, desk_in, place_in, post_of, sends_by, sends_in, serves_by, serves_in, view_of}
use Rattle.world_law.specs.Spawned.{spawner_name}
use Rattle.world_law.proofs.Deliveries.{IsDelivering, row_delivers}
use Rattle.world_law.proofs.Gone.{bytes_shut}
use Rattle.world_law.proofs.PostPipes.{IsCalm, asked_left, names_apart, programs_left, told_left}
use Rattle.world_law.proofs.PostViews.{KeepsDone, Leaves, halves, posts_left, put_keeps_done, put_seen, task_kept, view_same, was_kept}

-- a program that is neither the sender nor the local spawner
abbrev pub IsNeither : Program → Type 0
IsNeither (Sender since) = ⊥
IsNeither (LocalSpawner since) = ⊥
IsNeither program = Unit {0}

-- neither the sender nor the remote one
abbrev pub IsNoRemote : Program → Type 0
IsNoRemote (Sender since) = ⊥
IsNoRemote (RemoteSpawner since) = ⊥
IsNoRemote program = Unit {0}

-- neither the sender nor the spawner of a channel
abbrev pub IsOther : Channel → Program → Type 0
IsOther channel.Local program = IsNeither program
IsOther channel.Remote program = IsNoRemote program

-- it is seen as nobody
pub neither_seen : (program : Program) → IsNeither program → (past : List Own) (life : Life) → halves (Some (record { program = program; past = past; life = life })) ≡ halves None
neither_seen (Sender since) it past life = absurd it
neither_seen (LocalSpawner since) it past life = absurd it
neither_seen other it past life = refl

-- What it gives: only the sender gives to spawners

abbrev pub IsMild : NeedData → Type 0
IsMild (needs.Give port.Lspawn bytes) = ⊥
IsMild (needs.Give port.Rspawn bytes) = ⊥
IsMild due = Unit {0}

mild_judged : (old : Bool) (unlink : CallData) (name : List ℕ) → IsMild (if old then needs.File unlink else search_after name)
mild_judged true unlink name = tt
mild_judged false unlink name = tt

mild_clean : (row : CleanRow) (name : List ℕ) (now : ℕ) → IsMild (clean_due row name now)
mild_clean (clean.JudgePid moment) name now = mild_judged (is_old moment now) (call.Unlink (pid_path name)) name
mild_clean row name now = tt

mild_work : (program : ChildData) (row : Row) (p : Place) → IsMild (work_due program row p)
mild_work program work_at.Start p = tt
mild_work program row p = tt

mild_local : (row : LocalRow) (ready : Ready) (p : LocalPlace) → IsMild (local_due row ready p)
mild_local local.Serves ready p = mild_work (program_of p) (work_now p.work ready) p.work
mild_local row ready p = tt

mild_alone : (due : NeedData) → IsAlone due → IsMild due
mild_alone (needs.Give p bytes) alone = absurd alone
mild_alone due alone = tt

mild_delivering : (due : NeedData) → IsDelivering due → IsMild due
mild_delivering (needs.Give port.Lspawn bytes) it = it
mild_delivering (needs.Give port.Rspawn bytes) it = it
mild_delivering due it = tt

pub mild : (program : Program) → (IsSender program → ⊥) → (past : List Own) (now : ℕ) (ready : Ready) → IsMild (next_of program past now ready)
mild (Injector args) apart past now ready = mild_alone (next_of (Injector args) past now ready) (next_alone args past now ready)
mild (Cleaner since) apart past now ready = let p = clean_after past in mild_clean p.row p.name now
mild (LocalSpawner since) apart past now ready = let p = local_after past in mild_local p.row ready p
mild (RemoteSpawner since) apart past now ready = let p = remote_after past in mild_work (remote_program p.request) (work_now p ready) p
mild (Delivery since args) apart past now ready = let p = delivery_after args past in mild_delivering (next_of (Delivery since args) past now ready) (row_delivers args p.row p)
mild (Sender since) apart past now ready = absurd (apart tt)

pub calm : (c : Channel) (due : NeedData) → IsMild due → IsCalm c due
calm channel.Local (needs.Give port.Lspawn bytes) it = it
calm channel.Remote (needs.Give port.Rspawn bytes) it = it
calm c due it = tt

-- a spawner is a member
spawner_member : (c : Channel) → Contains members (spawner_name c)
spawner_member channel.Local = member_contained (codes "lspawn") refl
spawner_member channel.Remote = member_contained (codes "rspawn") refl

-- and no member runs in a slot
pub tenant_not : (s : State) → Inv s → (c : Channel) (a : List ℕ) (d : ℕ) (b : List ℕ) → s.pipework.programs a d ≡ Some (Runs b) → b ≢ spawner_name c
tenant_not s I c a d b runs same = (I.tenants a d (Runs b) runs).apart (subst (λ (n : List ℕ). Contains members n) (sym same) (spawner_member c))

-- by its name it is neither side; an injector may have any name, but gives and takes nothing
pub record IsAside (c : Channel) (s : State) (a : List ℕ) (due : NeedData) (came : GotData) (wrote : ℕ) : Type 0 where
  pub told : (pipes_after s.pipework a due came wrote (codes "sender") (port_of c)).bytes ≡ (s.pipework.pipes (codes "sender") (port_of c)).bytes
  pub asked : (pipes_after s.pipework a due came wrote (spawner_name c) port.Input).bytes ≡ (s.pipework.pipes (spawner_name c) port.Input).bytes
  pub slots : (slot : ℕ) → programs_after s.pipework.programs a due came (spawner_name c) slot ≡ s.pipework.programs (spawner_name c) slot

alone_aside : (c : Channel) (s : State) (a : List ℕ) (due : NeedData) (came : GotData) (wrote : ℕ) → IsAlone due → IsAside c s a due came wrote
alone_aside c s a (needs.File it) came wrote alone = record { told = refl; asked = refl; slots = λ slot. refl }
alone_aside c s a (needs.Ended status) came wrote alone = record { told = refl; asked = refl; slots = λ slot. refl }
alone_aside c s a needs.Wait came wrote alone = record { told = refl; asked = refl; slots = λ slot. refl }
alone_aside c s a due came wrote alone = absurd alone

at_name : (a b name : List ℕ) → a ≡ name → name ≢ b → a ≢ b
at_name a b name is apart same = apart (sym is ∙ same)

clean_apart : (c : Channel) → codes "clean" ≢ spawner_name c
clean_apart channel.Local = names_apart (codes "clean") (codes "lspawn") refl
clean_apart channel.Remote = names_apart (codes "clean") (codes "rspawn") refl

module _ (s : State) (I : Inv s) where
  named_aside : (c : Channel) (a : List ℕ) (due : NeedData) (came : GotData) (wrote : ℕ) → IsMild due → a ≢ spawner_name c → a ≢ codes "sender" → IsAside c s a due came wrote
  named_aside c a due came wrote it apart other = record {
    told = told_left s.pipework a c due came wrote apart other;
    asked = asked_left s.pipework a c (tenant_not s I c a) due came wrote (calm c due it) apart;
    slots = λ slot. programs_left s.pipework a (spawner_name c) due came slot apart;
  }

  other_aside : (c : Channel) (a : List ℕ) (program : Program) → IsOther c program → IsNamed a program → (past : List Own) (read : ℕ) (ready : Ready) (came : GotData) (wrote : ℕ)
      → IsAside c s a (next_of program past read ready) came wrote
  other_aside c a (Injector args) it named past read ready came wrote = alone_aside c s a (next_of (Injector args) past read ready) came wrote (next_alone args past read ready)
  other_aside c a (Cleaner since) it named past read ready came wrote =
      named_aside c a (next_of (Cleaner since) past read ready) came wrote (mild (Cleaner since) (λ none. none) past read ready)
      (at_name a (spawner_name c) (codes "clean") named (clean_apart c)) (at_name a (codes "sender") (codes "clean") named (names_apart (codes "clean") (codes "sender") refl))
  other_aside channel.Local a (RemoteSpawner since) it named past read ready came wrote =
      named_aside channel.Local a (next_of (RemoteSpawner since) past read ready) came wrote (mild (RemoteSpawner since) (λ none. none) past read ready)
      (at_name a (codes "lspawn") (codes "rspawn") named (names_apart (codes "rspawn") (codes "lspawn") refl))
      (at_name a (codes "sender") (codes "rspawn") named (names_apart (codes "rspawn") (codes "sender") refl))
  other_aside channel.Remote a (LocalSpawner since) it named past read ready came wrote =
      named_aside channel.Remote a (next_of (LocalSpawner since) past read ready) came wrote (mild (LocalSpawner since) (λ none. none) past read ready)
      (at_name a (codes "rspawn") (codes "lspawn") named (names_apart (codes "lspawn") (codes "rspawn") refl))
      (at_name a (codes "sender") (codes "lspawn") named (names_apart (codes "lspawn") (codes "sender") refl))
  other_aside c a (Delivery since args) it named past read ready came wrote =
      named_aside c a (next_of (Delivery since args) past read ready) came wrote (mild (Delivery since args) (λ none. none) past read ready)
      (λ same. named (subst (λ (n : List ℕ). Contains members n) (sym same) (spawner_member c)))
      (λ same. named (subst (λ (n : List ℕ). Contains members n) (sym same) (member_contained (codes "sender") refl)))
  other_aside channel.Local a (LocalSpawner since) it named past read ready came wrote = absurd it
  other_aside channel.Remote a (RemoteSpawner since) it named past read ready came wrote = absurd it
  other_aside channel.Local a (Sender since) it named past read ready came wrote = absurd it
  other_aside channel.Remote a (Sender since) it named past read ready came wrote = absurd it

  pub acts_aside : (c : Channel) (a : List ℕ) (own : Own) (wrote : ℕ) (x : Actor) → s.actors a ≡ Some x → IsOther c x.program
      → next_of x.program x.past own.read own.ready ≡ own.due → IsAside c s a own.due own.came wrote
  acts_aside c a own wrote x is it due =
      subst (λ (d : NeedData). IsAside c s a d own.came wrote) due (other_aside c a x.program it (I.crew a x is) x.past own.read own.ready own.came wrote)

-- An event of it

pub neither_leaves : (s : State) → Inv s → (a : List ℕ) (own : Own) (wrote : ℕ) (x : Actor) → s.actors a ≡ Some x → IsNeither x.program
    → next_of x.program x.past own.read own.ready ≡ own.due → Leaves s (acted s a own wrote (Some x))
neither_leaves s I a own wrote x is it due =
    let y : Actor = record { program = x.program; past = own ∷ x.past; life = x.life } in
    let aside : IsAside channel.Local s a own.due own.came wrote = acts_aside s I channel.Local a own wrote x is it due in
    let seen : halves (Some y) ≡ halves (s.actors a) = neither_seen x.program it (own ∷ x.past) x.life ∙ sym (neither_seen x.program it x.past x.life) ∙ ap halves (sym is) in
    record {
      view = view_same s.actors (put_at s.actors a (Some y)) s.pipework (acted s a own wrote (Some x)).pipework
          (put_seen halves s.actors a y (codes "sender") seen) (put_seen halves s.actors a y (codes "lspawn") seen) aside.told aside.asked;
      keeps = put_keeps_done s.actors a x y is refl (λ h. h);
      homes = λ b z there. refl;
      slots = aside.slots;
    }

pub neither_acts : (s : State) → Inv s → PostsStand s → (a : List ℕ) (own : Own) (wrote : ℕ) (x : Actor) → s.actors a ≡ Some x → IsNeither x.program
    → next_of x.program x.past own.read own.ready ≡ own.due → PostsStand (acted s a own wrote (Some x))
neither_acts s I P a own wrote x is it due = posts_left s (acted s a own wrote (Some x)) (neither_leaves s I a own wrote x is it due) P

-- An end or a stop

module _ (s : State) (P : PostsStand s) (a : List ℕ) (x : Actor) (is : s.actors a ≡ Some x) (alive : x.life ≡ Alive) (life : Life) (dead : is_alive life ≡ false) where
  abbrev gone : Actor
  gone = record { program = x.program; past = x.past; life = life }

  abbrev over : State
  over = finished s a life (Some x)

  pub told_shut : (over.pipework.pipes (codes "sender") port.Lspawn).bytes ≡ (s.pipework.pipes (codes "sender") port.Lspawn).bytes
  told_shut = bytes_shut (is_writer a (writer s.pipework (codes "sender") port.Lspawn)) (s.pipework.pipes (codes "sender") port.Lspawn)

  pub asked_shut : (over.pipework.pipes (codes "lspawn") port.Input).bytes ≡ (s.pipework.pipes (codes "lspawn") port.Input).bytes
  asked_shut = bytes_shut (is_writer a (writer s.pipework (codes "lspawn") port.Input)) (s.pipework.pipes (codes "lspawn") port.Input)

  -- it had not ended with 0
  pub keeps_over : KeepsDone s.actors over.actors
  keeps_over = put_keeps_done s.actors a x gone is refl (λ h. let w : Alive ≡ Over 0 = sym alive ∙ h in absurd (cc))

  -- with another view
  unfoldable pub seen_over : (v : View) → view_of over.actors over.pipework ≡ v → Posted (post_of v P.tasks P.last P.done) → IsFirst v.desk.row v.desk → PostsStand over
  seen_over v same posted first = record {
    tasks = P.tasks;
    last = P.last;
    done = P.done;
    posted = subst (λ (u : View). Posted (post_of u P.tasks P.last P.done)) (sym same) posted;
    first = subst (λ (u : View). IsFirst u.desk.row u.desk) (sym same) first;
    run = λ slot k there. task_kept s over keeps_over slot k refl (P.run slot k there);
    was = λ d among. was_kept s over keeps_over (λ b y there. refl) d (P.was d among);
  }

  pub neither_ends : IsNeither x.program → Leaves s over
  neither_ends it =
      let seen : halves (Some gone) ≡ halves (s.actors a) = neither_seen x.program it x.past life ∙ sym (neither_seen x.program it x.past x.life) ∙ ap halves (sym is) in
      record {
        view = view_same s.actors over.actors s.pipework over.pipework
            (put_seen halves s.actors a gone (codes "sender") seen) (put_seen halves s.actors a gone (codes "lspawn") seen) told_shut asked_shut;
        keeps = keeps_over;
        homes = λ b z there. refl;
        slots = λ slot. refl;
      }

  neither_over : IsNeither x.program → PostsStand over
  neither_over it = posts_left s over (neither_ends it) P

  -- the sender is lost
  pub sender_over : (began : ℕ) → x.program ≡ Sender began → a ≡ codes "sender" → PostsStand over
  sender_over began runs name =
      let here : over.actors (codes "sender") ≡ Some gone = ap over.actors (sym name) ∙ put_at_same s.actors a (Some gone) in
      let there : over.actors (codes "lspawn") ≡ s.actors (codes "lspawn") = put_at_other s.actors a (Some gone) (codes "lspawn") (λ same. apart (same ∙ name)) in
      let desk_is : desk_in (over.actors (codes "sender")) ≡ desk_in (s.actors (codes "sender")) = put_seen desk_in s.actors a gone (codes "sender") (ap desk_in (sym is)) in
      let sends_is : sends_in (over.actors (codes "sender")) ≡ false = ap sends_in here ∙ ap (λ (p : Program). sends_by p life) runs ∙ dead in
      let lost : View = record (view_of s.actors s.pipework) { sends = false } in
      seen_over lost
      (λ i. record { desk = desk_is i; sends = sends_is i; place = place_in (there i); serves = serves_in (there i); told = told_shut i; asked = asked_shut i })
      (losses_keep.lost (post_of (view_of s.actors s.pipework) P.tasks P.last P.done) P.posted) P.first
    where
      apart : codes "lspawn" ≢ codes "sender"
      apart = names_apart (codes "lspawn") (codes "sender") refl

  -- or the local spawner is
  unfoldable pub spawner_over : (began : ℕ) → x.program ≡ LocalSpawner began → a ≡ codes "lspawn" → PostsStand over
  unfolding seen_over
  spawner_over began runs name =
      let here : over.actors (codes "lspawn") ≡ Some gone = ap over.actors (sym name) ∙ put_at_same s.actors a (Some gone) in
      let there : over.actors (codes "sender") ≡ s.actors (codes "sender") = put_at_other s.actors a (Some gone) (codes "sender") (λ same. apart (same ∙ name)) in
      let place_is : place_in (over.actors (codes "lspawn")) ≡ place_in (s.actors (codes "lspawn")) = put_seen place_in s.actors a gone (codes "lspawn") (ap place_in (sym is)) in
      let serves_is : serves_in (over.actors (codes "lspawn")) ≡ false = ap serves_in here ∙ ap (λ (p : Program). serves_by p life) runs ∙ dead in
      let stopped : View = record (view_of s.actors s.pipework) { serves = false } in
      seen_over stopped
      (λ i. record { desk = desk_in (there i); sends = sends_in (there i); place = place_is i; serves = serves_is i; told = told_shut i; asked = asked_shut i })
      (losses_keep.stopped (post_of (view_of s.actors s.pipework) P.tasks P.last P.done) P.posted) P.first
    where
      apart : codes "sender" ≢ codes "lspawn"
      apart = names_apart (codes "sender") (codes "lspawn") refl

  over_by : (program : Program) → x.program ≡ program → IsNamed a program → PostsStand over
  over_by (Sender began) runs name = sender_over began runs name
  over_by (LocalSpawner began) runs name = spawner_over began runs name
  over_by other runs name = neither_over (subst IsNeither (sym runs) tt)

pub ends_leave : (s : State) → Inv s → PostsStand s → (a : List ℕ) (x : Actor) → s.actors a ≡ Some x → x.life ≡ Alive → (life : Life) → is_alive life ≡ false
    → PostsStand (finished s a life (s.actors a))
ends_leave s I P a x is alive life dead =
    subst (λ (o : Option Actor). PostsStand (finished s a life o)) (sym is) (over_by s P a x is alive life dead x.program refl (I.crew a x is))
