-- Births are the moments of info files.
use Rattle.std.proofs.Common.{◌≡◌, ℕ, List, [], ◌∷◌, false, Bool, true, Option, Some, None, refl, sym, ap, ◌∙◌, subst}
use Rattle.std.specs.List.{list_all}
use Rattle.call_fs.specs.Disk.{Disk}
use Rattle.call_fs.specs.Past.{IsRunBy}
use Rattle.call_fs.specs.declared.past.GotData.TheVariants as came
use Rattle.call_fs.specs.declared.past.GotData.{GotData}
use Rattle.call_fs.specs.declared.past.Own.{Own}
use Rattle.queue_paths.specs.Names.Part.{Info}
use Rattle.retry_law.proofs.Infos.{AreInfos, else_said, infos_on, known_said, none_at_first}
use Rattle.retry_law.specs.Infos.{lets_go, pass_tells, tells}
use Rattle.send_core.specs.Agrees.{has_ended}
use Rattle.send_core.specs.Births.{Birth}
use Rattle.send_core.specs.Table.{Next, place_after, row_now}
use Rattle.send_core.specs.declared.desk.Desk.{Desk}
use Rattle.send_parts.specs.declared.row.Row.TheVariants as at
use Rattle.send_parts.specs.declared.row.Row.{Row}
use Rattle.send_parts.specs.declared.rows.StartRow.TheVariants as start
use Rattle.todo_pass.specs.Table.{Pass}
use Rattle.todo_pass.specs.declared.part.Target.TheVariants as target
use Rattle.todo_pass.specs.declared.row.Row.TheVariants as todo
use Rattle.todo_pass.specs.declared.row.Row.{Row as PassRow}
use Rattle.world_events.specs.declared.event.Program.TheVariants.{Sender}
use Rattle.world_events.specs.declared.event.Program.{Program}
use Rattle.mail_world.specs.History.Life.{Alive}
use Rattle.mail_world.specs.History.{Actor, Event, Legal, MayBear, State, after, disk_after, next_of}
use Rattle.world_law.proofs.Ran.{have_run}
use Rattle.settle_law.proofs.InfoFiles.{has_info, info_in, info_is, same_look}
use Rattle.settle_law.proofs.Concerns.Concerns.{Knows, KnowsNext}
use Rattle.settle_law.proofs.Concerns.{Concerns, LeavesItsOwn}
use Rattle.settle_law.proofs.LivingSenders.{all_held}
use Rattle.settle_law.proofs.OwnInfos.{own_tells}
use Rattle.settle_law.specs.inside.Births.{KnownAreBorn}
use Rattle.settle_law.specs.Rests.{BeginsTurn}
use Rattle.settle_law.specs.Suffices.{desk_of}

-- what a sender knows, and what becomes known next, has the birth that its info file says
abbrev Born : Disk → List Own → Type 0
Born d past = AreInfos (info_in d) None past

-- who leaves the info files of its own numbers leaves that
others_born : (d e : Disk) (past : List Own) → LeavesItsOwn d e past → Born d past → Born e past
others_born d e past left h =
    ((λ n moment held known there. h.0 n moment held known (same n (Knows known held) moment there)), (λ it moment is there. h.1 it moment is (same it.n (KnowsNext it is refl) moment there))) where
      same : (n : ℕ) → Concerns past n → (moment : ℕ) → info_in e n ≡ Some moment → info_in d n ≡ Some moment
      same n concerns moment there = info_is d n moment (same_look d e n (left Info n refl concerns) moment (has_info e n moment there))

-- the start of a child tells nothing

started_pass : (row : PassRow) (n now pid : ℕ) → pass_tells row n now (came.Started pid) ≡ None
started_pass (todo.Append target.Info fd done) n now pid = refl
started_pass row n now pid = refl

started_none : (row : Row) (p : Pass) (now pid : ℕ) → tells row p now (came.Started pid) ≡ None
started_none (at.Start (start.StatInfo split n)) p now pid = refl
started_none at.InTodo p now pid = started_pass p.row p.n now pid
started_none row p now pid = refl

none_told : (it : Birth) {A : Type 0} → ◌≡◌ {A = Option Birth} None (Some it) → A
none_told it e = absurd (cc)

child_born : (s : State) (parent : List ℕ) (own : Own) (a : List ℕ) (program : Program) (may : MayBear s parent own a program) → IsRunBy (Next None) (own ∷ may.actor.past) → Born s.disk may.actor.past
    → Born s.disk (own ∷ may.actor.past)
child_born s parent own a program may run h = else_said None (info_in s.disk) (own ∷ may.actor.past)
    (infos_on None (info_in s.disk) (info_in s.disk) own may.actor.past run
    (record {
      told = λ it e moment there. none_told it (sym tells_none ∙ e);
      known = λ n moment held known there. there;
      next = λ it e none moment there. there;
    })
    h)
  where
    tells_none : let d : Desk = place_after None may.actor.past in tells (row_now d own.read own.ready) d.pass own.read own.came ≡ None
    tells_none =
        let d : Desk = place_after None may.actor.past in
        ap (λ (g : GotData). tells (row_now d own.read own.ready) d.pass own.read g) may.came ∙ started_none (row_now d own.read own.ready) d.pass own.read may.pid

abbrev any_event : Event → Bool
any_event e = true

all_any : (h : List Event) → list_all any_event h ≡ true
all_any [] = refl
all_any (e ∷ h) = all_any h

all_born : (d : Disk) → (h : List Event) → Legal d h → (a : List ℕ) (x : Actor) → (after d h).actors a ≡ Some x → (start : ℕ) → x.program ≡ Sender start → x.life ≡ Alive
    → IsRunBy (Next None) x.past → Born (after d h).disk x.past
all_born d h legal = all_held any_event Born (λ e. none_at_first None (info_in e))
    (λ s I a own wrote may start is good run h.
    let later = info_in (disk_after s.disk own.read own.due own.came wrote) in
    else_said None later (own ∷ may.actor.past) (infos_on None (info_in s.disk) later own may.actor.past run (own_tells s I a own wrote may start is run.0) h))
    (λ s a own b program may start is run h. child_born s a own b program may run h)
    others_born d h legal (all_any h)

begins_lives : (row : Row) → BeginsTurn row → has_ended row ≡ false
begins_lives (at.Ended status) begins = absurd begins
begins_lives r begins = refl

begins_held : (row : Row) (n : ℕ) → BeginsTurn row → lets_go row n ≡ false
begins_held (at.Ended status) n begins = absurd begins
begins_held (at.Finish r m) n begins = absurd begins
begins_held r n begins = refl

pub known_are_born : KnownAreBorn
known_are_born d h legal a x start is alive program begins k info known there =
    let t : State = after d h in
    let run : IsRunBy (Next None) x.past = subst (λ (p : Program). IsRunBy (next_of p) x.past) program (have_run d h legal a x is) in
    let born = all_born d h legal a x is start program alive run in
    sym (known_said None (info_in t.disk) x.past run (begins_lives (desk_of x.past).row begins) (λ n moment lives. born.0 n moment (begins_held (desk_of x.past).row n begins)) k known (t.disk.files info).moment
    (info_is t.disk k.n (t.disk.files info).moment (info, there, refl)))
