-- How old a message is that a sweep gives the cleaner to remove.
use Rattle.std.proofs.Common.{◌≡◌, ℕ, List, None, sym, ap, ◌∙◌, subst, arith}
use Rattle.call_fs.specs.declared.past.Own.{Own}
use Rattle.mail_bytes.specs.Moments.{IsMoment}
use Rattle.queue_law.specs.Numbers.{Queue}
use Rattle.queue_law.specs.Numbers.Role.{AsOld}
use Rattle.send_core.specs.declared.desk.Desk.{Desk}
use Rattle.send_parts.specs.declared.row.Row.{Row}
use Rattle.send_parts.specs.declared.row.Row.TheVariants.{Sweep}
use Rattle.send_core.specs.Table.{place_after as sender_after, row_now}
use Rattle.send_parts.specs.declared.rows.SweepRow.TheVariants.{Give}
use Rattle.program_law.specs.Sender.Rows.{IsAged}
use Rattle.program_law.specs.Sender.Stands.{StandsAt}
use Rattle.program_law.proofs.Sender.Arrive.{arrived}
use Rattle.world_events.specs.declared.event.Program.TheVariants.{Sender}
use Rattle.mail_world.specs.History.{Actor, MayDo, State, after}
use Rattle.mail_world.specs.Untouched.{queue}
use Rattle.world_law.specs.Inv.{Inv}
use Rattle.world_law.specs.Standing.{SweepsAreOld}
use Rattle.world_law.proofs.Histories.{always, sender_fares}
use Rattle.world_law.proofs.Tenants.{some_actor}

-- what the row of the giving rests on
given_aged : (now : ℕ) (q : Queue) (a : List ℕ) (d : Desk) (row : Row) (split n : ℕ) → row ≡ Sweep (Give split n) → StandsAt now q a row d → IsAged now q n
given_aged now q a d row split n is h = (subst (λ (z : Row). StandsAt now q a z d) is h).rests.1.1.1

module _ (s : State) (I : Inv s) (a : List ℕ) (own : Own) (wrote : ℕ) (may : MayDo s a own wrote) (start : ℕ) (is : may.actor.program ≡ Sender start) where
  swept : (split n : ℕ) → row_now (sender_after None may.actor.past) own.read own.ready ≡ Sweep (Give split n) → IsAged s.now (queue s (λ i. AsOld)) n
  swept split n row =
      let x = may.actor in
      let q = queue s I.role in
      let F = sender_fares s.now q a x.program x.past x.life start is may.reads.alive (I.fares a x may.reads.is) in
      let d = sender_after None x.past in
      let soon = may.reads.no_later in
      let moment : IsMoment own.read = (let m = I.moment in omega (arith, m, soon)) in
      let aged = given_aged s.now q a d (row_now d own.read own.ready) split n row (arrived s.now own.read q a soon moment d own.ready F.stands) in
      record { mess = aged.mess; there = aged.there; old = aged.old }

pub sweeps_are_old : SweepsAreOld
sweeps_are_old d a own wrote before legal x is start program split n row =
    let may = legal.1 in
    let same : may.actor ≡ x = some_actor may.actor x (sym may.reads.is ∙ is) in
    swept (after d before) (always d before legal.0) a own wrote may start (ap (λ (y : Actor). y.program) same ∙ program) split n
    (subst (λ (y : Actor). row_now (sender_after None y.past) own.read own.ready ≡ Sweep (Give split n)) (sym same) row)
