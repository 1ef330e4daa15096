use Rattle.std.proofs.Common.{◌≡◌, ◌∙◌, string_bytes}
use Rattle.host_fs.proofs.Ordered.{adds_text}
use Rattle.host_fs.proofs.entries.add_entry.Goals as goal

pub returns-in_ok-push : goal.returns-in_ok-push
returns-in_ok-push c =
    let entry = c.in-Some.ensures.some in
    let is : string_bytes c.in_ok-from_str.field-0 ≡ c.args.name.now = c.in_ok-from_str.ensures.ok ∙ entry.0 in
    adds_text c.args.names.now.items c.push.new.self.items c.in_ok-from_str.field-0 c.args.name.now c.in_ok-push.ensures.items is entry.1
