use Rattle.call_fs.specs.Program.{came_of}
use Rattle.maildir_drop.specs.Stands.{due_now}
use Rattle.maildir_drop.proofs.Standing.{stands_on}
use Rattle.maildir_drop.proofs.machine.MaildirDrop.done.Goals as goal

pub returns-clause-stands : goal.returns-clause-stands
returns-clause-stands c = λ args past s.
    let m = c.args.self.now in
    stands_on m c.go_on.new.self args past (record { read = m.present; ready = m.ready; due = due_now m; came = came_of c.args.got }) s c.go_on.ensures.names c.go_on.ensures.place
