use Rattle.std.proofs.Common.{◌≡◌, ℕ, Option, None, refl, sym, ap, ◌∙◌, rules}
use Rattle.std.specs.Option.{option_map}
use Rattle.call_fs.specs.Maps.{put}
use Rattle.call_fs.specs.declared.modes.Mode.{Mode}
use Rattle.call_fs.proofs.Maps.{put-there}
use Rattle.mem_files.specs.Tables.{at_number}
use Rattle.mem_fs.specs.Tables.{at_name}
use Rattle.call_runs.proofs.Files.{disk_is}
use Rattle.call_runs.proofs.plain_lists.PlainLists.open.Goals as goal

pub returns-in-None-clause-ok : goal.returns-in-None-clause-ok
returns-in-None-clause-ok c =
    let l = c.args.self.now in
    let none : at_name l.names.items c.args.name.now ≡ None = search rules in
    disk_is l.dirs.items refl refl
    (sym (ap (λ (k : Option ℕ). put (at_number l.opens.items) c.args.fd.0 (option_map (λ (n : ℕ). record { number = n; mode = Mode.Opened c.args.how }) k)) none
    ∙ put-there (at_number l.opens.items) c.args.fd.0 None c.requires.not_open))
