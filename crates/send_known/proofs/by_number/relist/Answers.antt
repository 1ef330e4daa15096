use Rattle.std.proofs.Common.{true}
use Rattle.send_known.proofs.ByNumber.{kept_listed}
use Rattle.send_known.proofs.by_number.relist.Goals as goal

pub returns-then-listed-clause-listed : goal.returns-then-listed-clause-listed
returns-then-listed-clause-listed c = kept_listed c.args.known.now c.args.done.now.items c.args.done.now.items c.args.listed.now true c.requires (λ _. c.requires.covers c.if-listed.true)

pub returns-in_err-list_again-clause-kept : goal.returns-in_err-list_again-clause-kept
returns-in_err-list_again-clause-kept c = kept_listed c.args.known.now c.args.done.now.items c.list_again.new.done.items c.args.listed.now c.args.listed.now c.requires (λ h. let no = c.if-listed.false in absurd (cc))

pub returns-clause-kept : goal.returns-clause-kept
returns-clause-kept c = kept_listed c.args.known.now c.args.done.now.items c.list_again.new.done.items c.args.listed.now true c.requires (λ _. c.in_ok-list_again.ensures)

pub returns-clause-listed : goal.returns-clause-listed
returns-clause-listed c = kept_listed c.args.known.now c.args.done.now.items c.list_again.new.done.items c.args.listed.now true c.requires (λ _. c.in_ok-list_again.ensures)
