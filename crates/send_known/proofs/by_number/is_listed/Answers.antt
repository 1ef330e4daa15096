use Rattle.std.proofs.Common.{nat_cmp, sym, ◌∙◌}
use Rattle.std.specs.BTreeMap.{get}
use Rattle.send_known.proofs.ByNumber.{covers_more, covers_still}
use Rattle.send_known.proofs.by_number.is_listed.Goals as goal

pub returns-then-not-is_done-clause-covers : goal.returns-then-not-is_done-clause-covers
returns-then-not-is_done-clause-covers c = λ _ old covers keeps. covers_still old (get nat_cmp c.args.known.now) c.args.done.now.items c.args.n covers keeps (sym c.is_done.ensures ∙ c.if-not-is_done.true)

pub returns-in-Ok-clause-covers : goal.returns-in-Ok-clause-covers
returns-in-Ok-clause-covers c = λ _ old covers keeps.
    rw c.in-Ok.ensures.items (covers_more old (get nat_cmp c.args.known.now) c.args.done.now.items c.args.n covers keeps)
