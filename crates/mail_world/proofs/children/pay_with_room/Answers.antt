use Rattle.std.proofs.Common.{◌≡◌, ℕ, List, Some, sym, subst}
use Rattle.call_fs.specs.declared.past.Own.{Own}
use Rattle.world_events.specs.declared.event.Event.{Event as Kept}
use Rattle.world_events.specs.declared.event.Program.{Program}
use Rattle.mail_world.specs.ByKind.{Follows}
use Rattle.mail_world.specs.Inside.{Owes, StandsFor}
use Rattle.mail_world.proofs.children.pay_with_room.Goals as goal

pub pay-requires : goal.pay-requires
pay-requires c =
    let x = c.args.actor.now in
    subst (λ (l : List Kept). (at : ℕ) → x.owed ≡ Some at → (past : List Own) × Owes x l past at) (sym c.in_ok-reserve.ensures.same) c.requires

pub returns-clause-paid : goal.returns-clause-paid
returns-clause-paid c =
    let x = c.args.actor.now in
    let paid = c.in_ok-pay.ensures in
    record {
      follows = subst (λ (l : List Kept). (program : Program) (past : List Own) → ((at : ℕ) → x.owed ≡ Some at → Owes x l past at) → StandsFor x program past → Follows c.pay.new.self.machine program past)
          c.in_ok-reserve.ensures.same paid.follows;
      name = paid.name;
      ended = paid.ended;
      status = paid.status;
      awaits = paid.awaits;
      paid = paid.paid;
      descriptors = paid.descriptors;
      stays = paid.stays;
    }
