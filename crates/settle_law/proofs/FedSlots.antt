-- Where nothing fails each child has its whole input, or its parent lives and is next to give it.
use Rattle.std.proofs.Common.{◌≡◌, ◌≢◌, ◌⊎◌, inl, inr, ⊎_elim, ℕ, ◌==◌, List, [], ◌∷◌, Bool, true, false, ◌&&◌, if◌then◌else◌, Option, Some, None, refl, sym, ap, ◌∙◌, subst, bytes_eq, codes}
use Rattle.std.specs.List.{list_all}
use Rattle.std.specs.Prelude.{Contains}
use Rattle.std.proofs.lemmas.Bool.{and_parts, eq-eqb}
use Rattle.actor_names.specs.MailNames.{members}
use Rattle.bounce_record.specs.Returning.{Returning, moved_at as return_moved_at}
use Rattle.bounce_record.specs.declared.return_row.ReturnRow.{ReturnRow}
use Rattle.bounce_record.specs.declared.return_row.ReturnRow.TheVariants as back
use Rattle.call_fs.specs.Disk.{Disk}
use Rattle.call_fs.specs.Maps.{put_at}
use Rattle.call_fs.proofs.Maps.{put_at_cases, put_at_other, put_at_same}
use Rattle.call_fs.specs.Past.{IsRunBy}
use Rattle.call_fs.specs.Program.{MayCome}
use Rattle.call_fs.specs.declared.past.ChildData.{ChildData}
use Rattle.call_fs.specs.declared.past.GotData.{GotData}
use Rattle.call_fs.specs.declared.past.GotData.TheVariants as came
use Rattle.call_fs.specs.declared.past.NeedData.{NeedData}
use Rattle.call_fs.specs.declared.past.NeedData.TheVariants as needs
use Rattle.call_fs.specs.declared.past.Own.{Own}
use Rattle.call_fs.specs.declared.program.Port.TheVariants as port
use Rattle.call_fs.specs.declared.program.Ready.{Ready}
use Rattle.program_law.proofs.Sender.Programs.{starts_of}
use Rattle.queue_law.proofs.Tests.{same_text}
use Rattle.send_core.specs.Desk.{ready}
use Rattle.send_core.specs.Finish.{finish_at, returned_to}
use Rattle.send_core.specs.Table.{Next, due_at, moved_by, place_after, row_now}
use Rattle.send_core.specs.declared.desk.Desk.{Desk}
use Rattle.send_parts.specs.declared.row.Row.{Row}
use Rattle.send_known.specs.Known.{sender_of}
use Rattle.world_events.specs.declared.event.Program.{Program}
use Rattle.world_events.specs.declared.event.Program.TheVariants.{Sender, LocalSpawner, Delivery}
use Rattle.world_pipes.specs.Pipework.{Pipe, Pipework, Slot, Tenant, closed, fresh, given, is_member, is_writer, mouth, pipes_after, slot_of, writer}
use Rattle.world_pipes.specs.Pipework.Tenant.{Remote, Runs}
use Rattle.mail_world.specs.History.{Actor, Allowed, Event, Legal, Life, MayBear, State, acted, after, bears, finished, happens, newborn, next_of, slot_by}
use Rattle.mail_world.specs.History.Event.{Start, Act, Child, Generation, Report, End, Stop, Moment, Halt}
use Rattle.mail_world.specs.History.Life.{Alive, Over}
use Rattle.mail_world.proofs.Coming.{may_come}
use Rattle.mail_world.proofs.Members.{are_four, four_other}
use Rattle.world_law.specs.Inv.{Bears, Inv}
use Rattle.world_law.proofs.Histories.{always}
use Rattle.world_law.proofs.Pipes.{away_same}
use Rattle.world_law.proofs.PostPipes.{programs_left}
use Rattle.world_law.proofs.Ran.{HaveRun, born_comes, have_run}
use Rattle.world_law.proofs.Tenants.{slot_named, slot_numbered, some_actor}
use Rattle.settle_law.specs.Well.{came_well, goes_well}
use Rattle.settle_law.proofs.Tended.{FeedsNow, and_true, fed_now, feeds_after, input_shut, no_member, put_left, same_if, shut_if}

-- the parent of a child lives, and is next to give it its input
pub record IsFeeding (actors : List ℕ → Option Actor) (w : Pipework) (slot : Slot) (a : List ℕ) : Type 0 where
  pub parent : Actor
  pub is : actors slot.parent ≡ Some parent
  pub alive : parent.life ≡ Alive
  pub runs : w.programs slot.parent slot.number ≡ Some (Runs a)
  pub feeds : FeedsNow parent slot.number

-- it was given, or is to be given; and a child has no name of a member
pub record IsFed (actors : List ℕ → Option Actor) (w : Pipework) (slot : Slot) (a : List ℕ) : Type 0 where
  pub apart : Contains members a → ⊥
  pub fed : ((w.pipes a port.Input).shut ≡ true) ⊎ IsFeeding actors w slot a

abbrev pub AreFed : (List ℕ → Option Actor) → Pipework → Type 0
AreFed actors w = (a : List ℕ) (slot : Slot) → w.slots a ≡ Some slot → IsFed actors w slot a

some_slot : (x y : Slot) → ◌≡◌ {A = Option Slot} (Some x) (Some y) → x ≡ y
some_slot x y e = cc

-- A sender that has started the injector of a bounce is next to give it its input

module _ (d : Desk) (n pid now later : ℕ) (found : Ready) where
  abbrev back_by : ReturnRow → Returning
  back_by r = return_moved_at d.book.controls (sender_of n d.book.messages.known) r d.bounce now (came.Started pid)

  abbrev desk_by : ReturnRow → Desk
  desk_by r = let b = back_by r in ready (finish_at (returned_to b.row) n now (record d { bounce = b }))

  gives_bounce : d.bounce.row ≡ back.Start → due_at (row_now (desk_by d.bounce.row) later found) (desk_by d.bounce.row) ≡ needs.Give (port.Program 0) d.bounce.input
  gives_bounce is = ap (λ (r : ReturnRow). due_at (row_now (desk_by r) later found) (desk_by r)) is

sender_feeds : (start : ℕ) (past : List Own) (own : Own) (asked : ChildData) (pid : ℕ) (life : Life) → IsRunBy (Next None) (own ∷ past) → own.due ≡ needs.Start asked → own.came ≡ came.Started pid
    → FeedsNow (record { program = Sender start; past = own ∷ past; life = life }) (slot_of asked)
sender_feeds start past own asked pid life run due got now found =
    let d : Desk = place_after None past in
    let row : Row = row_now d own.read own.ready in
    let w = starts_of d row asked (run.1.0 ∙ due) in
    let first : slot_of asked ≡ 0 = ap slot_of w.asked_is in (
      d.bounce.input,
      ap (λ (g : GotData). let e = moved_by row own.read g d in due_at (row_now e now found) e) got
          ∙ ap (λ (r : Row). let e = moved_by r own.read (came.Started pid) d in due_at (row_now e now found) e) w.at_return
          ∙ gives_bounce d w.n pid own.read now found w.due
          ∙ ap (λ (k : ℕ). needs.Give (port.Program k) d.bounce.input) (sym first),
    )

-- so is each that starts a child
starts_feeds : (program : Program) (past : List Own) (own : Own) (other : Program) (asked : ChildData) (pid : ℕ) (life : Life) → Bears program other → IsRunBy (next_of program) (own ∷ past)
    → own.due ≡ needs.Start asked → own.came ≡ came.Started pid → FeedsNow (record { program = program; past = own ∷ past; life = life }) (slot_of asked)
starts_feeds (Sender start) past own other asked pid life bears run due got = sender_feeds start past own asked pid life run due got
starts_feeds (LocalSpawner start) past own other asked pid life bears run due got = feeds_after (LocalSpawner start) past own other asked pid life bears (λ e. e) run due got
starts_feeds (Delivery start args) past own other asked pid life bears run due got = feeds_after (Delivery start args) past own other asked pid life bears (λ e. e) run due got
starts_feeds program past own other asked pid life bears run due got = absurd bears

-- An event of an actor

-- a giving to a child is whole
gave_well : (text : List ℕ) (d : ℕ) (due : NeedData) (got : GotData) → MayCome due got → came_well got ≡ true → due ≡ needs.Give (port.Program d) text → got ≡ came.Gave
gave_well text d due got may well e = by got (subst (λ (n : NeedData). MayCome n got) e may) well
  where
    by : (got : GotData) → MayCome (needs.Give (port.Program d) text) got → came_well got ≡ true → got ≡ came.Gave
    by came.Gave may well = refl
    by came.Failed may well = absurd (cc)
    by got may well = absurd may

module _ (s : State) (F : AreFed s.actors s.pipework) (a : List ℕ) (own : Own) (wrote : ℕ) (x : Actor) (is : s.actors a ≡ Some x) (alive : x.life ≡ Alive)
    (due : next_of x.program x.past own.read own.ready ≡ own.due) (may : MayCome own.due own.came) (well : came_well own.came ≡ true) where
  abbrev y : Actor
  y = record { program = x.program; past = own ∷ x.past; life = x.life }

  abbrev t : State
  t = acted s a own wrote (Some x)

  fed_so : (b : List ℕ) (d : ℕ) → FeedsNow x d → s.pipework.programs a d ≡ Some (Runs b) → (t.pipework.pipes b port.Input).shut ≡ true
  fed_so b d feeds runs =
      let f = feeds own.read own.ready in
      let gives_it : own.due ≡ needs.Give (port.Program d) f.0 = sym due ∙ f.1 in
      let got = gave_well f.0 d own.due own.came may well gives_it in
      subst (λ (n : NeedData). (pipes_after s.pipework a n own.came wrote b port.Input).shut ≡ true) (sym gives_it)
      (subst (λ (g : GotData). (pipes_after s.pipework a (needs.Give (port.Program d) f.0) g wrote b port.Input).shut ≡ true) (sym got)
      (fed_now s.pipework a d f.0 b (s.pipework.programs a d) runs))

  -- what another one is next to give it gives still
  left_feeding : (b : List ℕ) (slot : Slot) → (f : IsFeeding s.actors s.pipework slot b) → slot.parent ≢ a → t.actors slot.parent ≡ s.actors slot.parent → IsFeeding t.actors t.pipework slot b
  left_feeding b slot f apart same = record {
    parent = f.parent;
    is = same ∙ f.is;
    alive = f.alive;
    runs = programs_left s.pipework a slot.parent own.due own.came slot.number (λ e. apart (sym e)) ∙ f.runs;
    feeds = f.feeds;
  }

  feeding_then : (b : List ℕ) (slot : Slot) → IsFeeding s.actors s.pipework slot b → ((t.pipework.pipes b port.Input).shut ≡ true) ⊎ IsFeeding t.actors t.pipework slot b
  feeding_then b slot f = ⊎_elim
      (λ (c : (slot.parent ≡ a) × (put_at s.actors a (Some y) slot.parent ≡ Some y)).
      let same : f.parent ≡ x = some_actor f.parent x (sym f.is ∙ ap s.actors c.0 ∙ is) in
      inl (fed_so b slot.number (subst (λ (o : Actor). FeedsNow o slot.number) same f.feeds) (subst (λ (m : List ℕ). s.pipework.programs m slot.number ≡ Some (Runs b)) c.0 f.runs)))
      (λ (c : (slot.parent ≢ a) × (put_at s.actors a (Some y) slot.parent ≡ s.actors slot.parent)). inr (left_feeding b slot f c.0 c.1))
      (put_at_cases s.actors a (Some y) slot.parent)

  fed_then : (b : List ℕ) (slot : Slot) → IsFed s.actors s.pipework slot b → IsFed t.actors t.pipework slot b
  fed_then b slot f = record {
    apart = f.apart;
    fed = ⊎_elim
        (λ (h : (s.pipework.pipes b port.Input).shut ≡ true). inl (input_shut s.pipework a own.due own.came wrote b h))
        (feeding_then b slot)
        f.fed;
  }

  acted_fed : AreFed t.actors t.pipework
  acted_fed b slot at_it = fed_then b slot (F b slot at_it)

-- The start of a child

module _ (s : State) (F : AreFed s.actors s.pipework) (parent : List ℕ) (own : Own) (a : List ℕ) (program : Program) (may : MayBear s parent own a program)
    (run : IsRunBy (next_of may.actor.program) (own ∷ may.actor.past)) (J : Inv (bears (acted s parent own 0 (Some may.actor)) parent own a program)) where
  abbrev bearer : Actor
  bearer = record { program = may.actor.program; past = own ∷ may.actor.past; life = may.actor.life }

  abbrev mid : State
  mid = acted s parent own 0 (Some may.actor)

  abbrev born : State
  born = bears (acted s parent own 0 (Some may.actor)) parent own a program

  no_actor : (z : Actor) → s.actors a ≡ Some z → ⊥
  no_actor z there = let both : ◌≡◌ {A = Option Actor} None (Some z) = sym may.new ∙ there in absurd (cc)

  parted : parent ≢ a
  parted same = no_actor may.actor (ap s.actors (sym same) ∙ may.reads.is)

  bearer_there : born.actors parent ≡ Some bearer
  bearer_there = put_at_other mid.actors a (Some (newborn program)) parent parted ∙ put_at_same s.actors parent (Some bearer)

  child_there : born.actors a ≡ Some (newborn program)
  child_there = put_at_same mid.actors a (Some (newborn program))

  child_runs : born.pipework.programs parent (slot_by own.due) ≡ Some (Runs a)
  child_runs = ap (λ (t : Bool). if t then Some (Runs a) else mid.pipework.programs parent (slot_by own.due))
      (and_true (bytes_eq parent parent) (slot_by own.due == slot_by own.due) (same_text parent) (eq-eqb (slot_by own.due) (slot_by own.due) refl))

  bears_it : Bears may.actor.program program
  bears_it =
      let t = J.tenants parent (slot_by own.due) (Runs a) child_runs in
      let one : t.bearer.program ≡ may.actor.program = ap (λ (o : Actor). o.program) (some_actor t.bearer bearer (sym t.bearer_is ∙ bearer_there)) in
      let two : t.actor.program ≡ program = ap (λ (o : Actor). o.program) (some_actor t.actor (newborn program) (sym t.is ∙ child_there)) in
      subst (λ (p : Program). Bears p program) one (subst (Bears t.bearer.program) two t.bears)

  abbrev its_slot : Slot
  its_slot = record { parent = parent; number = slot_by own.due }

  new_fed : IsFed born.actors born.pipework its_slot a
  new_fed = record {
    apart = (J.tenants parent (slot_by own.due) (Runs a) child_runs).apart;
    fed = inr (record {
      parent = bearer;
      is = bearer_there;
      alive = may.reads.alive;
      runs = child_runs;
      feeds = subst (FeedsNow bearer) (sym (ap slot_by may.starts)) (starts_feeds may.actor.program may.actor.past own program may.asked may.pid may.actor.life bears_it run may.starts may.came);
    });
  }

  -- the parent was next to give nothing
  gave_none : (d : ℕ) → FeedsNow may.actor d → ⊥
  gave_none d feeds = let f = feeds own.read own.ready in let both : needs.Start may.asked ≡ needs.Give (port.Program d) f.0 = sym may.starts ∙ sym may.due ∙ f.1 in absurd (cc)

  old_feeding : (b : List ℕ) (slot : Slot) → IsFeeding s.actors s.pipework slot b → IsFeeding born.actors born.pipework slot b
  old_feeding b slot f =
      let not_parent : slot.parent ≢ parent = λ e. gave_none slot.number (subst (λ (o : Actor). FeedsNow o slot.number) (some_actor f.parent may.actor (sym f.is ∙ ap s.actors e ∙ may.reads.is)) f.feeds) in
      let not_child : slot.parent ≢ a = λ e. no_actor f.parent (ap s.actors (sym e) ∙ f.is) in
      record {
        parent = f.parent;
        is = put_at_other mid.actors a (Some (newborn program)) slot.parent not_child ∙ put_at_other s.actors parent (Some bearer) slot.parent not_parent ∙ f.is;
        alive = f.alive;
        runs = put_left mid.pipework.programs parent (slot_by own.due) (Some (Runs a)) slot.parent slot.number not_parent
            ∙ programs_left s.pipework parent slot.parent own.due own.came slot.number (λ e. not_parent (sym e)) ∙ f.runs;
        feeds = f.feeds;
      }

  old_fed : (b : List ℕ) (slot : Slot) → IsFed s.actors s.pipework slot b → IsFed born.actors born.pipework slot b
  old_fed b slot f = record {
    apart = f.apart;
    fed = ⊎_elim
        (λ (h : (s.pipework.pipes b port.Input).shut ≡ true).
        inl (ap (λ (pipe : Pipe). pipe.shut) (away_same mid.pipework.pipes (Some (mouth parent (port.Program (slot_by own.due)))) (λ pipe. fresh) b port.Input refl)
        ∙ input_shut s.pipework parent own.due own.came 0 b h))
        (λ (g : IsFeeding s.actors s.pipework slot b). inr (old_feeding b slot g))
        f.fed;
  }

  child_fed : AreFed born.actors born.pipework
  child_fed b slot at_it = ⊎_elim
      (λ (c : (b ≡ a) × (put_at s.pipework.slots a (Some its_slot) b ≡ Some its_slot)).
      subst (λ (m : List ℕ). IsFed born.actors born.pipework slot m) (sym c.0)
      (subst (λ (o : Slot). IsFed born.actors born.pipework o a) (some_slot its_slot slot (sym c.1 ∙ at_it)) new_fed))
      (λ (c : (b ≢ a) × (put_at s.pipework.slots a (Some its_slot) b ≡ s.pipework.slots b)). old_fed b slot (F b slot (sym c.1 ∙ at_it)))
      (put_at_cases s.pipework.slots a (Some its_slot) b)

-- A generation starts

generation_fed : (s : State) → AreFed s.actors s.pipework → (sender clean lspawn rspawn : Program) → Allowed s (Generation (sender ∷ clean ∷ lspawn ∷ rspawn ∷ []))
    → let t = happens s (Generation (sender ∷ clean ∷ lspawn ∷ rspawn ∷ [])) in AreFed t.actors t.pipework
generation_fed s F sender clean lspawn rspawn may b slot at_it =
    let f = F b slot at_it in
    let t : State = happens s (Generation (sender ∷ clean ∷ lspawn ∷ rspawn ∷ [])) in
    let pipe_left = same_if (is_member b) fresh (s.pipework.pipes b port.Input) (no_member (is_member b) b refl f.apart) in
    record {
      apart = f.apart;
      fed = ⊎_elim
          (λ (h : (s.pipework.pipes b port.Input).shut ≡ true). inl (ap (λ (pipe : Pipe). pipe.shut) pipe_left ∙ h))
          (λ (g : IsFeeding s.actors s.pipework slot b).
          let off = no_member (is_member slot.parent) slot.parent refl (λ member. may.over slot.parent g.parent member g.is g.alive) in
          inr (record {
            parent = g.parent;
            is = four_other s.actors sender clean lspawn rspawn slot.parent off ∙ g.is;
            alive = g.alive;
            runs = same_if (is_member slot.parent) None (s.pipework.programs slot.parent slot.number) off ∙ g.runs;
            feeds = g.feeds;
          }))
          f.fed;
    }

-- A report comes

report_fed : (s : State) → AreFed s.actors s.pipework → (slot : ℕ) (output : List ℕ) → s.pipework.programs (codes "rspawn") slot ≡ Some (Remote false)
    → let t = happens s (Report slot output) in AreFed t.actors t.pipework
report_fed s F slot output far b at_slot at_it =
    let f = F b at_slot at_it in
    record {
      apart = f.apart;
      fed = ⊎_elim
          (λ (h : (s.pipework.pipes b port.Input).shut ≡ true).
          inl (ap (λ (pipe : Pipe). pipe.shut) (away_same s.pipework.pipes (Some (mouth (codes "rspawn") (port.Program slot))) (λ pipe. closed (given output pipe)) b port.Input refl) ∙ h))
          (λ (g : IsFeeding s.actors s.pipework at_slot b).
          inr (record { parent = g.parent; is = g.is; alive = g.alive; runs = left g.runs (bytes_eq at_slot.parent (codes "rspawn") && (at_slot.number == slot)) refl; feeds = g.feeds }))
          f.fed;
    }
  where
    left : s.pipework.programs at_slot.parent at_slot.number ≡ Some (Runs b) → (u : Bool) → (bytes_eq at_slot.parent (codes "rspawn") && (at_slot.number == slot)) ≡ u
        → (if u then Some (Remote true) else s.pipework.programs at_slot.parent at_slot.number) ≡ Some (Runs b)
    left runs true at_it =
        let parent = slot_named at_slot.parent (codes "rspawn") (at_slot.number == slot) at_it in
        let number = slot_numbered at_slot.parent (codes "rspawn") at_slot.number slot at_it in
        let both : ◌≡◌ {A = Option Tenant} (Some (Remote false)) (Some (Runs b)) =
        sym far ∙ ap (s.pipework.programs (codes "rspawn")) (sym number) ∙ ap (λ (m : List ℕ). s.pipework.programs m at_slot.number) (sym parent) ∙ runs in
        absurd (cc)
    left runs false at_it = runs

-- An end

end_fed : (s : State) → AreFed s.actors s.pipework → (a : List ℕ) (x : Actor) (life : Life) → s.actors a ≡ Some x → ((d : ℕ) → FeedsNow x d → ⊥)
    → let t = finished s a life (Some x) in AreFed t.actors t.pipework
end_fed s F a x life is none b slot at_it =
    let f = F b slot at_it in
    let t : State = finished s a life (Some x) in
    let over : Actor = record { program = x.program; past = x.past; life = life } in
    record {
      apart = f.apart;
      fed = ⊎_elim
          (λ (h : (s.pipework.pipes b port.Input).shut ≡ true).
          inl (shut_if (is_writer a (writer s.pipework b port.Input)) (closed (s.pipework.pipes b port.Input)) (s.pipework.pipes b port.Input) refl h))
          (λ (g : IsFeeding s.actors s.pipework slot b).
          let other : slot.parent ≢ a = λ e. none slot.number (subst (λ (o : Actor). FeedsNow o slot.number) (some_actor g.parent x (sym g.is ∙ ap s.actors e ∙ is)) g.feeds) in
          inr (record { parent = g.parent; is = put_at_other s.actors a (Some over) slot.parent other ∙ g.is; alive = g.alive; runs = g.runs; feeds = g.feeds }))
          f.fed;
    }

-- A start alone

start_fed : (s : State) → AreFed s.actors s.pipework → (a : List ℕ) (program : Program) → s.actors a ≡ None → let t = happens s (Start a program) in AreFed t.actors t.pipework
start_fed s F a program new b slot at_it =
    let f = F b slot at_it in
    record {
      apart = f.apart;
      fed = ⊎_elim
          (λ (h : (s.pipework.pipes b port.Input).shut ≡ true). inl h)
          (λ (g : IsFeeding s.actors s.pipework slot b).
          let other : slot.parent ≢ a = λ e. none g.parent (sym new ∙ ap s.actors (sym e) ∙ g.is) in
          inr (record { parent = g.parent; is = put_at_other s.actors a (Some (newborn program)) slot.parent other ∙ g.is; alive = g.alive; runs = g.runs; feeds = g.feeds }))
          f.fed;
    }
  where
    none : (z : Actor) → ◌≡◌ {A = Option Actor} None (Some z) → ⊥
    none z e = cc

-- Each event

abbrev FedIn : State → Type 0
FedIn s = AreFed s.actors s.pipework

event_fed : (e : Event) (s : State) → HaveRun s.actors → Inv (happens s e) → FedIn s → Allowed s e → goes_well e ≡ true → FedIn (happens s e)
event_fed (Start a program) s R J F may well = start_fed s F a program may.new
event_fed (Act a own wrote) s R J F may well =
    subst (λ (o : Option Actor). FedIn (acted s a own wrote o)) (sym may.reads.is)
    (acted_fed s F a own wrote may.actor may.reads.is may.reads.alive may.due (may_come s a own.due own.came wrote may.came) well)
event_fed (Child parent own a program) s R J F may well =
    subst (λ (o : Option Actor). FedIn (bears (acted s parent own 0 o) parent own a program)) (sym may.reads.is)
    (child_fed s F parent own a program may (R parent may.actor may.reads.is, (may.due, born_comes s parent own a program may))
    (subst (λ (o : Option Actor). Inv (bears (acted s parent own 0 o) parent own a program)) may.reads.is J))
event_fed (Generation (sender ∷ clean ∷ lspawn ∷ rspawn ∷ [])) s R J F may well = generation_fed s F sender clean lspawn rspawn may
event_fed (Generation crew) s R J F may well = absurd (are_four crew may.kinds)
event_fed (Report slot output) s R J F may well = report_fed s F slot output may.runs
event_fed (End a read found status) s R J F may well =
    subst (λ (o : Option Actor). FedIn (finished s a (Over status) o)) (sym may.reads.is)
    (end_fed s F a may.actor (Over status) may.reads.is (λ d feeds. let f = feeds read found in
    let both : needs.Ended status ≡ needs.Give (port.Program d) f.0 = sym may.due ∙ f.1 in absurd (cc)))
event_fed (Stop a) s R J F may well = absurd (cc)
event_fed (Moment m) s R J F may well = λ b slot at_it.
    let f = F b slot at_it in record { apart = f.apart; fed = f.fed }
event_fed (Halt how contents) s R J F may well = absurd (cc)

pub fed_always : (d : Disk) (h : List Event) → Legal d h → list_all goes_well h ≡ true → let s = after d h in AreFed s.actors s.pipework
fed_always d [] legal well = λ b slot at_it. absurd (cc)
fed_always d (e ∷ h) legal well =
    let parts = and_parts (goes_well e) (list_all goes_well h) well in
    event_fed e (after d h) (have_run d h legal.0) (always d (e ∷ h) legal) (fed_always d h legal.0 parts.1) legal.1 parts.0
