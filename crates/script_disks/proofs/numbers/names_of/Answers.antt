use Rattle.std.proofs.Common.{List, ℕ, [], ◌∷◌, map, Bor, sym, ◌∙◌, ap, subst}
use Rattle.std.proofs.lemmas.List.{map-append}
use Rattle.mem_fs.specs.MemDisk.{disk_of}
use Rattle.queue_states.proofs.Listed.{Found, found_more}
use Rattle.script_disks.proofs.NamesAfter.{fewer_names}
use Rattle.script_disks.proofs.numbers.names_of.Goals as goal

pub loop-name-smaller : goal.loop-name-smaller
loop-name-smaller c =
    let next = c.in-Some.ensures.some in
    fewer_names c.args.dir.now c.loop-name.last.now c.in-Some.name.now c.args.disk.now.held.names next.stands.1.later next.stands.0

pub loop-name-preserved : goal.loop-name-preserved
loop-name-preserved c =
    let now : Bor (List ℕ) → List ℕ = λ b. b.now in
    let more = found_more (disk_of c.args.disk.now.held) c.args.dir.now (map now c.loop-name.names.items) c.loop-name.last.now c.in-Some.name.now c.loop-name.invariant c.in-Some.ensures.some in
    let grown = ap (map now) c.in_ok-push.ensures.items ∙ map-append now c.loop-name.names.items (c.in-Some.name ∷ []) in
    subst (λ (names : List (List ℕ)). Found (disk_of c.args.disk.now.held) c.args.dir.now names c.in-Some.name.now) (sym grown) more
