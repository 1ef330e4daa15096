use Rattle.std.proofs.Common.{◌≡◌, ◌-◌, ℕ, List, length, take, drop, sym, ap, ◌∙◌, subst}
use Rattle.std.specs.Prelude.{Ok, IfOk, IfErr}
use Rattle.std.proofs.lemmas.List.{take_rest, take_all}
use Rattle.envelope_records.specs.Envelope.{read_envelope}
use Rattle.todo_pass.specs.Todo.{envelope_by}
use Rattle.todo_pass.specs.Sorting.{sorted_by}
use Rattle.todo_pass.specs.Feeding.{IsFaultOf}
use Rattle.todo_pass.proofs.Records.{fed_at, bad_at, has_read}
use Rattle.todo_pass.proofs.sorting.sort_records.Goals as goal

pub loop-at-preserved : goal.loop-at-preserved
loop-at-preserved c =
    let rest : List ℕ = take (length c.args.bytes.now - c.args.head.next) (drop c.args.head.next c.args.bytes.now) in
    let read = has_read c.args.controls.now c.args.head (take c.loop-at.at rest) c.loop-at.sorter c.loop-at.invariant in
    fed_at c.args.controls.now c.args.head rest c.loop-at.at c.loop-at.sorter c.feed.new.self c.in_ok-feed.field-0 c.loop-at-test.true c.loop-at.invariant
    (c.in_ok-feed.ensures (take c.loop-at.at rest) read) c.if-not-branch.false

pub returns-then-not-branch-clause-err : goal.returns-then-not-branch-clause-err
returns-then-not-branch-clause-err c =
    let bytes : List ℕ = c.args.bytes.now in
    let rest : List ℕ = take (length bytes - c.args.head.next) (drop c.args.head.next bytes) in
    let read = has_read c.args.controls.now c.args.head (take c.loop-at.at rest) c.loop-at.sorter c.loop-at.invariant in
    ap (λ r. sorted_by c.args.controls.now (envelope_by c.args.head (length bytes) (read_envelope r))) (sym (take_rest bytes c.args.head.next))
    ∙ bad_at c.args.controls.now c.args.head (length bytes) rest c.loop-at.at c.loop-at.sorter c.feed.new.self c.in_ok-feed.field-0 c.loop-at-test.true c.loop-at.invariant
    (c.in_ok-feed.ensures (take c.loop-at.at rest) read) c.if-not-branch.true

pub returns-clause-ok : goal.returns-clause-ok
returns-clause-ok c =
    let bytes : List ℕ = c.args.bytes.now in
    let rest : List ℕ = take (length bytes - c.args.head.next) (drop c.args.head.next bytes) in
    let whole : take c.loop-at.at rest ≡ drop c.args.head.next bytes = take_all c.loop-at.at rest c.loop-at-test.false ∙ take_rest bytes c.args.head.next in
    subst (λ r. IfOk c.finish.result (λ s. sorted_by c.args.controls.now (envelope_by c.args.head (length bytes) (read_envelope r)) ≡ Ok s)) whole
    (c.finish.ensures.ok c.args.controls.now c.args.head (take c.loop-at.at rest) c.loop-at.invariant)

pub returns-clause-err : goal.returns-clause-err
returns-clause-err c =
    let bytes : List ℕ = c.args.bytes.now in
    let rest : List ℕ = take (length bytes - c.args.head.next) (drop c.args.head.next bytes) in
    let whole : take c.loop-at.at rest ≡ drop c.args.head.next bytes = take_all c.loop-at.at rest c.loop-at-test.false ∙ take_rest bytes c.args.head.next in
    subst (λ r. IfErr c.finish.result (IsFaultOf (sorted_by c.args.controls.now (envelope_by c.args.head (length bytes) (read_envelope r))))) whole
    (c.finish.ensures.err c.args.controls.now c.args.head (take c.loop-at.at rest) c.loop-at.invariant)
