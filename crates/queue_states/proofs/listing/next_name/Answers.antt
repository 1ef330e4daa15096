use Rattle.queue_states.proofs.Searches.{has_searched, has_found}
use Rattle.queue_states.proofs.listing.next_name.Goals as goal

pub returns-clause-searched : goal.returns-clause-searched
returns-clause-searched g c =
    let asked = c.next_name-answer.ensures.went in
    has_searched c.args.dir.now c.args.after.now c.next_name-answer.new.into _ _ c.next_name-answer.result asked.told asked.cause c.named.result asked.recorded c.named.ensures.ok c.named.ensures.why

pub returns-clause-found : goal.returns-clause-found
returns-clause-found g c =
    let asked = c.next_name-answer.ensures.went in
    has_found (g.D.CallFs.disk c.args.disk.now) (g.D.CallFs.disk c.next_name-answer.new.self) c.args.dir.now c.args.after.now c.next_name-answer.new.into c.next_name-answer.result asked.told c.named.result c.named.ensures.ok
