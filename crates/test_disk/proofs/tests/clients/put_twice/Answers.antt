use Rattle.mem_fs.proofs.InTurn.{told_after, told_weaker}
use Rattle.test_disk.proofs.TwoNames.{may_append, in_turn}
use Rattle.test_disk.proofs.tests.clients.put_twice.Goals as goal

pub append-requires-clause-fits : goal.append-requires-clause-fits
append-requires-clause-fits g c =
    told_after (g.D.CallFs.disk c.args.disk.now) (g.D.CallFs.disk c.create_excl.new.self) (λ x y a. may_append x y c.args.now c.args.first.now c.in_ok-fd.fd c.in_ok-fd.number a) c.in_ok-fd.ensures.went.told

pub returns-clause-names : goal.returns-clause-names
returns-clause-names g c =
    let D = g.D.CallFs.disk in
    told_weaker (D c.args.disk.now) (D c.link.new.self) (λ x y h. h.names)
    (in_turn (D c.args.disk.now) (D c.create_excl.new.self) (D c.append.new.self) (D c.sync.new.self) (D c.close.new.self) (D c.link.new.self)
    c.args.now c.in_ok-fd.number c.in_ok-fd.fd c.args.first.now c.args.second.now c.args.bytes.now
    c.in_ok-fd.ensures.went.told c.in_ok-append.ensures.went.told c.in_ok-sync.ensures.went.told c.in_ok-close.ensures.went.told c.in_ok-link.ensures.went.told)

pub returns-clause-free : goal.returns-clause-free
returns-clause-free g c =
    let D = g.D.CallFs.disk in
    told_weaker (D c.args.disk.now) (D c.link.new.self) (λ x y h. h.free)
    (in_turn (D c.args.disk.now) (D c.create_excl.new.self) (D c.append.new.self) (D c.sync.new.self) (D c.close.new.self) (D c.link.new.self)
    c.args.now c.in_ok-fd.number c.in_ok-fd.fd c.args.first.now c.args.second.now c.args.bytes.now
    c.in_ok-fd.ensures.went.told c.in_ok-append.ensures.went.told c.in_ok-sync.ensures.went.told c.in_ok-close.ensures.went.told c.in_ok-link.ensures.went.told)

pub returns-clause-synced : goal.returns-clause-synced
returns-clause-synced g c =
    let D = g.D.CallFs.disk in
    told_weaker (D c.args.disk.now) (D c.link.new.self) (λ x y h. h.is_synced)
    (in_turn (D c.args.disk.now) (D c.create_excl.new.self) (D c.append.new.self) (D c.sync.new.self) (D c.close.new.self) (D c.link.new.self)
    c.args.now c.in_ok-fd.number c.in_ok-fd.fd c.args.first.now c.args.second.now c.args.bytes.now
    c.in_ok-fd.ensures.went.told c.in_ok-append.ensures.went.told c.in_ok-sync.ensures.went.told c.in_ok-close.ensures.went.told c.in_ok-link.ensures.went.told)

pub returns-clause-others : goal.returns-clause-others
returns-clause-others g c =
    let D = g.D.CallFs.disk in
    told_weaker (D c.args.disk.now) (D c.link.new.self) (λ x y h. h.others)
    (in_turn (D c.args.disk.now) (D c.create_excl.new.self) (D c.append.new.self) (D c.sync.new.self) (D c.close.new.self) (D c.link.new.self)
    c.args.now c.in_ok-fd.number c.in_ok-fd.fd c.args.first.now c.args.second.now c.args.bytes.now
    c.in_ok-fd.ensures.went.told c.in_ok-append.ensures.went.told c.in_ok-sync.ensures.went.told c.in_ok-close.ensures.went.told c.in_ok-link.ensures.went.told)

pub returns-clause-closed : goal.returns-clause-closed
returns-clause-closed g c =
    let D = g.D.CallFs.disk in
    told_weaker (D c.args.disk.now) (D c.link.new.self) (λ x y h. h.opens)
    (in_turn (D c.args.disk.now) (D c.create_excl.new.self) (D c.append.new.self) (D c.sync.new.self) (D c.close.new.self) (D c.link.new.self)
    c.args.now c.in_ok-fd.number c.in_ok-fd.fd c.args.first.now c.args.second.now c.args.bytes.now
    c.in_ok-fd.ensures.went.told c.in_ok-append.ensures.went.told c.in_ok-sync.ensures.went.told c.in_ok-close.ensures.went.told c.in_ok-link.ensures.went.told)
