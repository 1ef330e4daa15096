use Rattle.std.proofs.Common.{Ok, Err, refl}
use Rattle.send_command.proofs.Linked.{as_begun, lacked, none_more, ran}
use Rattle.send_command.proofs.links.start_links.Goals as goal

pub returns-in-Err : goal.returns-in-Err
returns-in-Err g c = as_begun _ _ _ _ _ _ c.begun_so.ensures (lacked _ _ c.in-Err.status (Err c.in-Err.status) _ _ refl c.in-Err.ensures) (λ is. absurd (cc))

pub returns-in-Err-start_link : goal.returns-in-Err-start_link
returns-in-Err-start_link g c =
    as_begun _ _ _ _ _ _ c.begun_so-in-Err-start_link.ensures
    (ran _ _ c.in-Ok.chan _ _ (Ok c.in-Ok.chan) _ _ _ refl c.in-Ok.ensures
    (lacked _ _ c.in-Err-start_link.status (Err c.in-Err-start_link.status) _ _ refl c.in-Err-start_link.ensures))
    (λ is. absurd (cc))

pub returns-in-Ok-start_link-2 : goal.returns-in-Ok-start_link-2
returns-in-Ok-start_link-2 g c =
    as_begun _ _ _ _ _ _ c.begun_so-in-Ok-start_link-2.ensures
    (ran _ _ c.in-Ok.chan _ _ (Ok c.in-Ok.chan) _ _ _ refl c.in-Ok.ensures
    (ran _ _ c.in-Ok-start_link.chan _ _ (Ok c.in-Ok-start_link.chan) _ _ _ refl c.in-Ok-start_link.ensures
    (ran _ _ c.in-Ok-start_link-2.rspawn _ _ (Ok c.in-Ok-start_link-2.rspawn) _ _ _ refl c.in-Ok-start_link-2.ensures (none_more _))))
    (λ is. (c.in-Ok.chan, c.in-Ok-start_link.chan, c.in-Ok-start_link-2.rspawn, refl))

pub returns-in-Err-start_link-2 : goal.returns-in-Err-start_link-2
returns-in-Err-start_link-2 g c =
    as_begun _ _ _ _ _ _ c.begun_so-in-Err-start_link-2.ensures
    (ran _ _ c.in-Ok.chan _ _ (Ok c.in-Ok.chan) _ _ _ refl c.in-Ok.ensures
    (ran _ _ c.in-Ok-start_link.chan _ _ (Ok c.in-Ok-start_link.chan) _ _ _ refl c.in-Ok-start_link.ensures
    (lacked _ _ c.in-Err-start_link-2.status (Err c.in-Err-start_link-2.status) _ _ refl c.in-Err-start_link-2.ensures)))
    (λ is. absurd (cc))
