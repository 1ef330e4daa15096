use Rattle.std.proofs.Common.{◌≡◌, ℕ, List, bytes_eq, Option, Some, sym, ap, ◌∙◌, rules}
use Rattle.std.specs.List.{list_any}
use Rattle.std.proofs.lemmas.Result.{IfOk-weaker}
use Rattle.mem_fs.specs.MemDisk.{bytes_at, disk_of}
use Rattle.queue_paths.specs.Names.{path}
use Rattle.queue_paths.specs.Names.Name.{Of}
use Rattle.queue_paths.specs.Names.Part.{Bounce}
use Rattle.script_disks.specs.Records.{is_noted, names_it}
use Rattle.script_disks.proofs.Naming.{named_in}
use Rattle.script_disks.proofs.records.noted_on.Goals as goal

pub returns-in-Some-file_of : goal.returns-in-Some-file_of
returns-in-Some-file_of c =
    let disk = disk_of c.args.disk.now.held in
    let bytes : List ℕ = c.in-Some-file_of.bytes.now in
    let number : c.args.number ≡ Some c.in-Some.n = search rules in
    let there : bytes_at disk (path (Of Bounce c.in-Some.n)) ≡ Some bytes = search rules in
    IfOk-weaker c.notes_of.result _ _
    (λ found are name.
    ap (list_any (λ (one : List ℕ). bytes_eq one name)) are ∙ named_in bytes name
    ∙ sym (ap (λ (o : Option ℕ). is_noted disk o name) number ∙ ap (λ (o : Option (List ℕ)). names_it o name) there))
    c.notes_of.ensures
