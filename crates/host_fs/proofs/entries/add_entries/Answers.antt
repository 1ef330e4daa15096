use Rattle.std.proofs.Common.{length, map, take, string_bytes, subst, sym, rules, tests, eqb, arith}
use Rattle.std.proofs.lemmas.List.{length_push}
use Rattle.std.proofs.lemmas.Iterator.Splits.{YieldsList-from_slice_split}
use Rattle.std.proofs.lemmas.Iterator.Consumers.{YieldsList-turn, YieldsList-end}
use Rattle.host_fs.specs.Entries.{Adds, entries_of}
use Rattle.host_fs.proofs.Ordered.{adds_none, adds_more, adds_all}
use Rattle.host_fs.proofs.entries.add_entries.Goals as goal

pub loop-name-init : goal.loop-name-init
loop-name-init c = adds_none (map string_bytes c.args.names.now.items)

pub loop-name-preserved : goal.loop-name-preserved
loop-name-preserved c =
    let t = YieldsList-turn (YieldsList-from_slice_split _ (λ b. eqb b 0) c.args.piece.now (cc) (cc) (cc) (λ x b q k. search (rules, tests)))
    c.loop-name.yielded _ c.loop-name.yielded_by _ _ c.in-Some.name c.in-Some.is c.next.ensures.steps in
    let old = map string_bytes c.args.names.now.items in
    let new = map string_bytes c.add_entry.new.names.items in
    let entries = entries_of c.args.piece.now in
    subst (λ n. Adds old (take n entries) new) (sym (length_push c.loop-name.yielded c.in-Some.name))
    (adds_more old (map string_bytes c.loop-name.names.items) new entries c.in-Some.name.now (length c.loop-name.yielded) c.loop-name.invariant t.0 t.1 c.in_ok-add_entry.ensures)

pub returns : goal.returns
returns c =
    let t = YieldsList-end (YieldsList-from_slice_split _ (λ b. eqb b 0) c.args.piece.now (cc) (cc) (cc) (λ x b q k. search (rules, tests)))
    c.loop-name.yielded _ c.loop-name.yielded_by _ _ c.in-None.is c.next.ensures.steps in
    adds_all (map string_bytes c.args.names.now.items) (map string_bytes c.loop-name.names.items) (entries_of c.args.piece.now) (length c.loop-name.yielded) c.loop-name.invariant (omega (arith, t.1))
