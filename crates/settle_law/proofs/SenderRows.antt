-- Where a sender stands at an event, and what comes there.
use Rattle.std.proofs.Common.{◌≡◌, ℕ, List, None, arith, sym, subst}
use Rattle.call_fs.specs.declared.past.NeedData.{NeedData}
use Rattle.call_fs.specs.declared.past.Own.{Own}
use Rattle.mail_bytes.specs.Moments.{IsMoment}
use Rattle.send_core.specs.Table.{due_at, place_after, row_now}
use Rattle.send_core.specs.declared.desk.Desk.{Desk}
use Rattle.send_parts.specs.declared.row.Row.{Row}
use Rattle.program_law.proofs.Sender.Arrive.{arrived}
use Rattle.program_law.specs.Sender.Stands.{StandsAt}
use Rattle.queue_law.specs.Numbers.{Queue}
use Rattle.world_events.specs.declared.event.Program.TheVariants.{Sender}
use Rattle.world_events.specs.declared.event.Program.{Program}
use Rattle.mail_world.specs.History.{ComesOf, MayDo, State, next_of}
use Rattle.mail_world.specs.Untouched.{queue}
use Rattle.world_law.proofs.Histories.{sender_fares}
use Rattle.world_law.specs.Inv.{Inv}

module _ (s : State) (I : Inv s) (a : List ℕ) (own : Own) (wrote : ℕ) (may : MayDo s a own wrote) (start : ℕ) (is : may.actor.program ≡ Sender start) where
  abbrev q : Queue
  q = queue s I.role

  abbrev d : Desk
  d = place_after None may.actor.past

  abbrev row : Row
  row = row_now d own.read own.ready

  pub stands : StandsAt s.now q a row d
  stands =
      let soon = may.reads.no_later in
      let moment : IsMoment own.read = (let m = I.moment in omega (arith, m, soon)) in
      arrived s.now own.read q a soon moment d own.ready (sender_fares s.now q a may.actor.program may.actor.past may.actor.life start is may.reads.alive (I.fares a may.actor may.reads.is)).stands

  pub due : due_at row d ≡ own.due
  due = subst (λ (p : Program). next_of p may.actor.past own.read own.ready ≡ own.due) is may.due

  pub comes : ComesOf s a (due_at row d) own.came wrote
  comes = subst (λ (x : NeedData). ComesOf s a x own.came wrote) (sym due) may.came
