use Rattle.std.proofs.Common.{take, arith}
use Rattle.std.proofs.lemmas.List.{length-take-le}
use Rattle.queue_command.proofs.Heads.{head_read, bad_read, part_short}
use Rattle.queue_command.proofs.netstring.take_head.Goals as goal

pub returns-in-Len-clause-read : goal.returns-in-Len-clause-read
returns-in-Len-clause-read g c =
    let l = c.loop-len in
    head_read (g.S.Source.left c.args.source.now) (g.S.Source.left l.source) (g.S.Source.left c.take_byte.new.source) l.text l.len c.in-Some.byte c.in-Len.value c.in-Len.used
    (omega arith) l.invariant.taken c.in-Some.ensures.read l.invariant.none ((c.net_head.ensures.len c.in-Len.value c.in-Len.used).0 c.in-Len.is)

pub returns-in-Bad-clause-read : goal.returns-in-Bad-clause-read
returns-in-Bad-clause-read g c =
    let l = c.loop-len in
    bad_read (g.S.Source.left c.args.source.now) (g.S.Source.left l.source) (g.S.Source.left c.take_byte.new.source) l.text l.len c.in-Some.byte
    (omega arith) l.invariant.taken c.in-Some.ensures.read l.invariant.part (c.net_head.ensures.bad.0 c.in-Bad.is)

pub unreachable-requires : goal.unreachable-requires
unreachable-requires g c =
    let l = c.loop-len in
    let short = part_short (take l.len l.text) l.invariant.part in
    let size = length-take-le l.len l.text (omega arith) in
    omega arith
