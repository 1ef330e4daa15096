use Rattle.std.proofs.Common.{◌≡◌, IsTrue, Contains, string_bytes, ◌∙◌, subst, sym, arith}
use Rattle.host_fs.specs.Listing.{is_before, IsEntry}
use Rattle.host_fs.proofs.Ordered.{one_after}
use Rattle.host_fs.proofs.listing.Place.search.Goals as goal

pub returns-then-branch-clause-found : goal.returns-then-branch-clause-found
returns-then-branch-clause-found g c =
    let limit = c.args.self.now.after.now in
    let is : c.put.new.into ≡ string_bytes c.name-item.result = c.put.ensures ∙ c.as_bytes-name.ensures.value in
    let one = one_after limit c.args.entries.now c.after-name-items.result.now c.name-item.result c.after-name-items.ensures (c.loop-name.name-index, omega arith, sym c.name-item.is) in
    (subst (λ n. IsTrue (is_before limit n)) (sym is) one.0, subst IsEntry (sym c.put.ensures) (c.in_ok-is_file.ensures.entry c.if-branch.true))

pub returns-then-branch-clause-kept : goal.returns-then-branch-clause-kept
returns-then-branch-clause-kept g c = λ found.
    let is : c.put.new.into ≡ string_bytes c.name-item.result = c.put.ensures ∙ c.as_bytes-name.ensures.value in
    let one = one_after c.args.self.now.after.now c.args.entries.now c.after-name-items.result.now c.name-item.result c.after-name-items.ensures (c.loop-name.name-index, omega arith, sym c.name-item.is) in
    subst (Contains c.args.entries.now) (sym is) one.1
