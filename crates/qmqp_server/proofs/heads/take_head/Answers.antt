use Rattle.std.proofs.Common.{◌≡◌, ◌+◌, ◌++◌, ◌∷◌, [], ℕ, List, length, length-append, sym, ap, ◌∙◌, subst, arith}
use Rattle.mail_bytes.specs.declared.netstrings.NetHead.TheVariants as net
use Rattle.mail_bytes.specs.Netstring.{IsHead, IsNoHead, IsPartOfHead}
use Rattle.queue_command.proofs.Heads.{part_short}
use Rattle.qmqp_server.specs.declared.heads.Head.TheVariants as was
use Rattle.qmqp_server.specs.Sources.{Takes}
use Rattle.qmqp_server.specs.inside.Taken.{IsHeadTaken}
use Rattle.qmqp_server.proofs.NetHeads.{empty_is_none, head_bad, head_cut, head_past, head_read}
use Rattle.qmqp_server.proofs.Taken.{stream, takes_none, takes_then}
use Rattle.qmqp_server.proofs.Values.{nothing_begins}
use Rattle.qmqp_server.proofs.heads.take_head.Goals as goal

pub loop-len-init : goal.loop-len-init
loop-len-init g c = record {
  taken = subst (λ (t : List ℕ). Takes t (stream (g.S.Source.left c.args.source.now) (g.S.Source.faults c.args.source.now) (g.S.Source.left c.args.source.now) (g.S.Source.faults c.args.source.now))) (sym c.new-text.ensures) (takes_none (g.S.Source.left c.args.source.now) (g.S.Source.faults c.args.source.now));
  long = ap length c.new-text.ensures;
  few = omega arith;
  part = subst IsPartOfHead (sym c.new-text.ensures) nothing_begins;
  none = empty_is_none c.new-text.result (ap length c.new-text.ensures);
}

more_is_none : (value used : ℕ) → net.More ≡ net.Len value used → ⊥
more_is_none value used is = cc

pub loop-len-preserved : goal.loop-len-preserved
loop-len-preserved g c =
    let l = c.loop-len in
    let long = l.invariant.long in
    let few = l.invariant.few in
    let other = c.if-len-most.false in
    let size = length-append l.text (c.in-Some.byte ∷ []) in
    let grown = ap length c.put_byte.ensures in
    record {
      taken = subst (λ (t : List ℕ). Takes t (stream (g.S.Source.left c.args.source.now) (g.S.Source.faults c.args.source.now) (g.S.Source.left c.take_byte.new.source) (g.S.Source.faults c.take_byte.new.source))) (sym c.put_byte.ensures)
          (takes_then (g.S.Source.left c.args.source.now) (g.S.Source.left c.loop-len.source) (g.S.Source.left c.take_byte.new.source) (g.S.Source.faults c.args.source.now) (g.S.Source.faults c.loop-len.source) (g.S.Source.faults c.take_byte.new.source) l.text (c.in-Some.byte ∷ []) l.invariant.taken c.in-Some.ensures);
      long = omega arith;
      few = omega arith;
      part = subst IsPartOfHead c.as_slice.ensures.name (c.net_head.ensures.more.0 c.in-More.is);
      none = λ n used is. more_is_none n used (sym c.in-More.is ∙ (c.net_head.ensures.len n used).1 (subst (λ (t : List ℕ). IsHead t n used) (sym c.as_slice.ensures.name) is));
    }

pub returns-then-len-most : goal.returns-then-len-most
returns-then-len-most g c =
    let l = c.loop-len in
    let long = l.invariant.long in
    let same = c.if-len-most.true in
    head_past (g.S.Source.left c.args.source.now) (g.S.Source.left c.loop-len.source) (g.S.Source.left c.loop-len.source) (g.S.Source.faults c.args.source.now) (g.S.Source.faults c.loop-len.source) (g.S.Source.faults c.loop-len.source) l.text c.args.most l.invariant.taken l.invariant.part (omega arith)

pub returns-in_default : goal.returns-in_default
returns-in_default g c =
    let l = c.loop-len in
    let long = l.invariant.long in
    let few = l.invariant.few in
    let other = c.if-len-most.false in
    head_cut (g.S.Source.left c.args.source.now) (g.S.Source.left c.loop-len.source) (g.S.Source.left c.take_byte.new.source) (g.S.Source.faults c.args.source.now) (g.S.Source.faults c.loop-len.source) (g.S.Source.faults c.take_byte.new.source) l.text c.args.most l.invariant.taken l.invariant.part (omega arith) c.in_default.ensures

pub put_byte-requires : goal.put_byte-requires
put_byte-requires g c = let long = c.loop-len.invariant.long in omega arith

pub returns-in-Len : goal.returns-in-Len
returns-in-Len g c =
    let l = c.loop-len in
    let long = l.invariant.long in
    let few = l.invariant.few in
    let other = c.if-len-most.false in
    let whole : c.as_slice.result.now ≡ l.text ++ c.in-Some.byte ∷ [] = c.as_slice.ensures.name ∙ c.put_byte.ensures in
    subst (λ k. IsHeadTaken (was.Length c.in-Len.value (k + 1)) c.args.most (stream (g.S.Source.left c.args.source.now) (g.S.Source.faults c.args.source.now) (g.S.Source.left c.take_byte.new.source) (g.S.Source.faults c.take_byte.new.source))) long
    (head_read (g.S.Source.left c.args.source.now) (g.S.Source.left c.loop-len.source) (g.S.Source.left c.take_byte.new.source) (g.S.Source.faults c.args.source.now) (g.S.Source.faults c.loop-len.source) (g.S.Source.faults c.take_byte.new.source) l.text c.args.most l.invariant.taken c.in-Some.byte c.in-Len.value c.in-Len.used l.invariant.none (omega arith) c.in-Some.ensures
    (subst (λ (t : List ℕ). IsHead t c.in-Len.value c.in-Len.used) whole ((c.net_head.ensures.len c.in-Len.value c.in-Len.used).0 c.in-Len.is)))

pub returns-in-Bad : goal.returns-in-Bad
returns-in-Bad g c =
    let l = c.loop-len in
    let long = l.invariant.long in
    let few = l.invariant.few in
    let other = c.if-len-most.false in
    let whole : c.as_slice.result.now ≡ l.text ++ c.in-Some.byte ∷ [] = c.as_slice.ensures.name ∙ c.put_byte.ensures in
    head_bad (g.S.Source.left c.args.source.now) (g.S.Source.left c.loop-len.source) (g.S.Source.left c.take_byte.new.source) (g.S.Source.faults c.args.source.now) (g.S.Source.faults c.loop-len.source) (g.S.Source.faults c.take_byte.new.source) l.text c.args.most l.invariant.taken c.in-Some.byte l.invariant.part (omega arith) c.in-Some.ensures (subst IsNoHead whole (c.net_head.ensures.bad.0 c.in-Bad.is))

pub unreachable-requires : goal.unreachable-requires
unreachable-requires g c =
    let l = c.loop-len in
    let short = part_short l.text l.invariant.part in
    let long = l.invariant.long in
    omega arith
