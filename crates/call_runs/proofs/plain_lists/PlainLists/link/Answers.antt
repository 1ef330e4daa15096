use Rattle.std.proofs.Common.{◌≡◌, ℕ, Option, None, refl, sym, ap, ◌∙◌, rules}
use Rattle.call_fs.specs.Maps.{put_at}
use Rattle.mem_fs.specs.Tables.{at_name}
use Rattle.call_runs.proofs.Files.{disk_is, put_none}
use Rattle.call_runs.proofs.plain_lists.PlainLists.link.Goals as goal

pub returns-in-None-clause-ok : goal.returns-in-None-clause-ok
returns-in-None-clause-ok c =
    let l = c.args.self.now in
    let none : at_name l.names.items c.args.old.now ≡ None = search rules in
    disk_is l.dirs.items
    (sym (ap (λ (k : Option ℕ). put_at (at_name l.names.items) c.args.new.now k) none ∙ put_none (at_name l.names.items) c.args.new.now None c.requires)) refl refl
