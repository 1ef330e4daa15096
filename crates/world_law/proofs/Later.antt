-- What time leaves, and a report of a remote program.
use Rattle.std.proofs.Common.{inl, inr, ℕ, ◌≤◌, ◌==◌, List, Bool, true, ◌&&◌, Some, None, refl, bytes_eq, codes}
use Rattle.call_fs.specs.declared.past.Own.{Own}
use Rattle.program_law.specs.Errand.Errands.{Link}
use Rattle.queue_clean.specs.Commands.{message_of}
use Rattle.queue_clean.specs.Table.{place_after}
use Rattle.send_core.specs.Table.{place_after as sender_after}
use Rattle.queue_law.specs.Numbers.{Queue}
use Rattle.queue_law.proofs.Injectors.{injector_later}
use Rattle.queue_law.proofs.Rests.{closed_later}
use Rattle.queue_law.proofs.RestIsKept.{rest_is_kept}
use Rattle.program_law.proofs.Sender.LeftAlone.{senders_are_left_alone}
use Rattle.world_events.specs.declared.event.Program.{Program}
use Rattle.world_events.specs.declared.event.Program.TheVariants.{Injector, Cleaner, Sender}
use Rattle.world_pipes.specs.Pipework.{Pipework, with_report}
use Rattle.world_pipes.specs.Pipework.Tenant.{Remote}
use Rattle.mail_world.specs.History.{Life, happens}
use Rattle.mail_world.specs.History.Event.{Moment, Report}
use Rattle.mail_world.specs.History.Life.{Alive}
use Rattle.mail_world.specs.Untouched.{queue}
use Rattle.world_law.specs.Crew.{is_alive, is_well, lives_in, link_in}
use Rattle.world_law.specs.Fares.{FaresBy}
use Rattle.world_law.specs.Inv.{ErrandRests}
use Rattle.world_law.specs.Laws.{MomentsKeep, ReportsKeep}
use Rattle.world_law.proofs.Tenants.{RunsNoMore, child_kept, slot_put, slot_named, tenants_kept}

fares_later : (now m : ℕ) → now ≤ m → (q : Queue) (a : List ℕ) (program : Program) (past : List Own) (life : Life)
    → FaresBy now q a program past life → FaresBy m q a program past life
fares_later now m later q a (Injector args) past life F = injector_later now m later q a args past (is_alive life) (is_well life) F
fares_later now m later q a (Cleaner start) past Alive F = rest_is_kept.later now m later q (place_after past) F
fares_later now m later q a (Sender start) past Alive F =
    record { stands = senders_are_left_alone.later now m later q a (sender_after None past) F.stands; texts = F.texts }
fares_later now m later q a other past life F = F

errands_later : (now m : ℕ) → now ≤ m → (q : Queue) (cleans : Bool) (x : Link) → ErrandRests now q cleans x → ErrandRests m q cleans x
errands_later now m later q cleans x E = record {
  waits = E.waits;
  errand = E.errand;
  rests = λ lives command is. let w = E.rests lives command is in record { closed = closed_later now m later q (message_of command) w.closed; rest = w.rest };
  asked = λ n is. closed_later now m later q n (E.asked n is);
  told = λ n is well. let w = E.told n is well in record { closed = closed_later now m later q n w.closed; rest = w.rest };
}

pub moments_keep : MomentsKeep
moments_keep m s I may = record {
  role = I.role;
  moment = may.moment;
  sound = I.sound;
  bounces = I.bounces;
  crew = I.crew;
  crewed = I.crewed;
  fares = λ a x h. fares_later s.now m may.no_earlier (queue s I.role) a x.program x.past x.life (I.fares a x h);
  tenants = tenants_kept s (happens s (Moment m)) (λ a x h. (x, h, refl)) (λ a x h. refl) (λ a d t h. inl h) I.tenants;
  child = λ a x h. child_kept s (happens s (Moment m)) (λ a x h. (x, h, refl)) (λ a d t h. inl h) I.tenants a x.program x.past x.life (I.child a x h);
  errands = errands_later s.now m may.no_earlier (queue s I.role) (lives_in (s.actors (codes "clean"))) (link_in s) I.errands;
}

-- its program is in a slot of the remote spawner
reported_runs : (w : Pipework) (slot : ℕ) (bytes : List ℕ) → RunsNoMore w (with_report w slot bytes)
reported_runs w slot bytes b d t is = slot_put (bytes_eq b (codes "rspawn") && (d == slot)) b (w.programs b d) (Some (Remote true)) t
    (λ both. inr (true, refl, slot_named b (codes "rspawn") (d == slot) both)) is

-- it is put into a pipe of the remote spawner
pub reports_keep : ReportsKeep
reports_keep slot output s I may = record {
  role = I.role;
  moment = I.moment;
  sound = I.sound;
  bounces = I.bounces;
  crew = I.crew;
  crewed = I.crewed;
  fares = I.fares;
  tenants = tenants_kept s (happens s (Report slot output)) (λ a x h. (x, h, refl)) (λ a x h. refl) (reported_runs s.pipework slot output) I.tenants;
  child = λ a x h. child_kept s (happens s (Report slot output)) (λ a x h. (x, h, refl)) (reported_runs s.pipework slot output) I.tenants a x.program x.past x.life (I.child a x h);
  errands = I.errands;
}
