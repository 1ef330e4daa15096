use Rattle.std.proofs.Common.{◌≡◌, ◌∙◌, Some, sym}
use mathlib.Core.Option.{some-injective}
use Rattle.yard_lock.proofs.Whole.{closes}
use Rattle.yard_lock.proofs.ticket_lock.TicketLock.close.Goals as goal

pub unreachable-requires : goal.unreachable-requires
unreachable-requires g c =
    let v = c.close_with-closed.ensures.values.2 in
    let k = closes _ _ v.0 v.1.0 c.args.pass.id c.args.pass.me.0 v.1.1 c.requires.rests.2 c.requires.rests.1 in
    let e : c.take-out.result ≡ Some k.0 = some-injective _ _ (sym c.take-out.ensures.value ∙ v.4 0 (Some k.0) k.1) in
    c.in_default.not-Some k.0 e

pub returns-clause-replay : goal.returns-clause-replay
returns-clause-replay g c =
    let v = c.close_with-closed.ensures.values.2 in
    let k = closes _ _ v.0 v.1.0 c.args.pass.id c.args.pass.me.0 v.1.1 c.requires.rests.2 c.requires.rests.1 in
    let e : c.take-out.result ≡ Some k.0 = some-injective _ _ (sym c.take-out.ensures.value ∙ v.4 0 (Some k.0) k.1) in
    let s : Some c.in-Some.state ≡ Some k.0 = sym c.in-Some.is ∙ e in
    let same : c.in-Some.state ≡ k.0 = cc in
    rw same k.2

pub returns-clause-all : goal.returns-clause-all
returns-clause-all g c =
    let v = c.close_with-closed.ensures.values.2 in
    let k = closes _ _ v.0 v.1.0 c.args.pass.id c.args.pass.me.0 v.1.1 c.requires.rests.2 c.requires.rests.1 in
    let e : c.take-out.result ≡ Some k.0 = some-injective _ _ (sym c.take-out.ensures.value ∙ v.4 0 (Some k.0) k.1) in
    let s : Some c.in-Some.state ≡ Some k.0 = sym c.in-Some.is ∙ e in
    let same : c.in-Some.state ≡ k.0 = cc in
    rw same k.3
