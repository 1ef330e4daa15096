use Rattle.std.proofs.Common.{Some, refl, rules}
use Rattle.std.specs.Prelude.{codes}
use Rattle.mail_world.specs.History.{bouncer_of}
use Rattle.scenario.specs.declared.fates.Following.{Following}
use Rattle.scenario.proofs.Followed.{follows_sender, is_next, on_both}
use Rattle.scenario.proofs.fates.Following.hear.Goals as goal

pub returns-in-Some : goal.returns-in-Some
returns-in-Some c =
    let old : Following = c.args.self.now in
    let own = c.args.own.now in
    let m = c.in-Some.sender in
    let new : Following = record { fates = c.hear_from.new.self; sender = Some c.hear_from.new.sender } in
    on_both c.hear_from.result
    (λ stands books s wrote moment does h.
    let next = is_next old s own wrote m moment does (search rules) h in
    let past = next.actor.past in
    follows_sender new s own wrote m c.hear_from.new.sender next refl (stands past next.due next.stands) (books (bouncer_of s (codes "sender")) past s.books next.due next.stands h.fates))
    c.hear_from.ensures.stands c.hear_from.ensures.books
