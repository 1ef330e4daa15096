use Rattle.std.proofs.Common.{ℕ, List, Some, ap, ◌∙◌}
use Rattle.call_fs.specs.Disk.{File, Open}
use Rattle.call_fs.specs.Maps.{put, put_at}
use Rattle.mem_files.specs.MemFiles.{file_at}
use Rattle.mem_files.specs.Tables.{at_number}
use Rattle.mem_fs.specs.Tables.{at_name}
use Rattle.call_runs.specs.Lists.{uncounted}
use Rattle.call_runs.proofs.Files.{disk_is, filed}
use Rattle.call_runs.proofs.plain_lists.PlainLists.create.Goals as goal

pub returns-clause-ok : goal.returns-clause-ok
returns-clause-ok c =
    let l = c.args.self.now in
    disk_is l.dirs.items
    (c.add_name.ensures
    ∙ ap (λ (es : List (List ℕ × ℕ)). put_at (at_name es) c.in_ok-name.name (Some c.args.number)) c.in_ok-reserve.ensures.items
    ∙ ap (λ (x : List ℕ). put_at (at_name l.names.items) x (Some c.args.number)) c.in_ok-name.ensures)
    (filed l.files.items c.set.new.pairs.items c.args.number c.new.result (c.set.ensures ∙ ap (λ (es : List (ℕ × File)). put (at_number es) c.args.number (Some c.new.result)) c.in_ok-reserve-2.ensures.items)
    ∙ ap (λ (f : File). put (file_at (uncounted l.files.items)) c.args.number f) c.new.ensures)
    (c.set-2.ensures
    ∙ ap (λ (es : List (ℕ × Open)). put (at_number es) c.args.fd.0 (Some c.new-2.result)) c.in_ok-reserve-3.ensures.items
    ∙ ap (λ (o : Open). put (at_number l.opens.items) c.args.fd.0 (Some o)) c.new-2.ensures)
