use Rattle.std.proofs.Common.{◌≡◌, ℕ, List, take, sym, ap, refl, subst}
use Rattle.call_fs.specs.declared.past.GotData.TheVariants as got
use Rattle.call_fs.specs.declared.past.NeedData.TheVariants as needs
use Rattle.call_fs.specs.Calls.{data_of}
use Rattle.call_fs.specs.Past.{held}
use Rattle.call_fs.specs.Program.{MayCome, came_of}
use Rattle.send_core.specs.Stands.{Machine, due_now}
use Rattle.test_sender.proofs.Running.{on_true, looked, may, room, went, backed_call, backed_same, may_take}
use Rattle.test_sender.proofs.disk_runs.makes_step.Goals as goal

pub perform-answer-requires-clause-fits : goal.perform-answer-requires-clause-fits
perform-answer-requires-clause-fits g c =
    may c.look.new.self (g.D.CallFs.disk c.args.disk.now) (looked _ _ _ c.look.ensures.stands c.requires.running) (data_of c.in-File.call)
    (ap (λ (x : Machine). x.looked) c.look.ensures.rest) (sym c.in-File.ensures.due)

pub perform-answer-requires-clause-piece : goal.perform-answer-requires-clause-piece
perform-answer-requires-clause-piece g c =
    room c.look.new.self (g.D.CallFs.disk c.args.disk.now) (looked _ _ _ c.look.ensures.stands c.requires.running) (data_of c.in-File.call)
    (ap (λ (x : Machine). x.looked) c.look.ensures.rest) (sym c.in-File.ensures.due)

pub returns-in-File : goal.returns-in-File
returns-in-File g c =
    let r = looked c.args.sender.now c.look.new.self (g.D.CallFs.disk c.args.disk.now) c.look.ensures.stands c.requires.running in
    let told = ap (λ (x : Machine). x.looked) c.look.ensures.rest in
    let due = sym c.in-File.ensures.due in
    let bytes : List ℕ = take c.count_of-count.result c.perform-answer.new.into in
    let came = got.Answered (record { answer = c.perform-answer.result; bytes = bytes }) in
    on_true c.done.result c.is_ok.result _ _ c.is_ok.ensures.value (c.done.ensures.stands r.turns r.past r.stands)
    (went c.look.new.self c.done.new.self (g.D.CallFs.disk c.args.disk.now) (g.D.CallFs.disk c.perform-answer.new.disk) came r told
    (subst (λ x. MayCome x came) (sym due) c.perform-answer.ensures.kind)
    (backed_call c.look.new.self _ _ c.args.now (data_of c.in-File.call) c.perform-answer.result bytes r due c.perform-answer.ensures.told))

pub returns-in-Give : goal.returns-in-Give
returns-in-Give g c =
    let r = looked c.args.sender.now c.look.new.self (g.D.CallFs.disk c.args.disk.now) c.look.ensures.stands c.requires.running in
    let told = ap (λ (x : Machine). x.looked) c.look.ensures.rest in
    let due : due_now c.look.new.self ≡ needs.Give c.in-Give.port c.in-Give.bytes.now = sym c.in-Give.ensures.due in
    on_true c.done-in-Give.result c.is_ok-in-Give.result _ _ c.is_ok-in-Give.ensures.value (c.done-in-Give.ensures.stands r.turns r.past r.stands)
    (went c.look.new.self c.done-in-Give.new.self (g.D.CallFs.disk c.args.disk.now) (g.D.CallFs.disk c.given.new.disk) got.Gave r told
    (subst (λ x. MayCome x got.Gave) (sym due) tt)
    (backed_same c.look.new.self (g.D.CallFs.disk c.args.disk.now) (g.D.CallFs.disk c.given.new.disk) (needs.Give c.in-Give.port c.in-Give.bytes.now) got.Gave r due (λ h. refl)
    (c.given.ensures (held r.past) r.backs)))

pub returns-in-Take : goal.returns-in-Take
returns-in-Take g c =
    let r = looked c.args.sender.now c.look.new.self (g.D.CallFs.disk c.args.disk.now) c.look.ensures.stands c.requires.running in
    let told = ap (λ (x : Machine). x.looked) c.look.ensures.rest in
    let due : due_now c.look.new.self ≡ needs.Take c.in-Take.port = sym c.in-Take.ensures.due in
    let came = came_of c.taken.result in
    on_true c.done-in-Take.result c.is_ok-in-Take.result _ _ c.is_ok-in-Take.ensures.value (c.done-in-Take.ensures.stands r.turns r.past r.stands)
    (went c.look.new.self c.done-in-Take.new.self (g.D.CallFs.disk c.args.disk.now) (g.D.CallFs.disk c.args.disk.now) came r told
    (subst (λ x. MayCome x came) (sym due) (subst (λ x. MayCome (needs.Take c.in-Take.port) x) (sym c.taken.ensures) (may_take c.in-Take.port c.take.new.links.took.items)))
    (backed_same c.look.new.self (g.D.CallFs.disk c.args.disk.now) (g.D.CallFs.disk c.args.disk.now) (needs.Take c.in-Take.port) came r due (λ h. refl) r.backs))
