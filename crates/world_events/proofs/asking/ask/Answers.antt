use Rattle.std.proofs.Common.{◌≡◌, ap, sym, ◌∙◌, subst}
use Rattle.call_fs.specs.declared.past.NeedData.{NeedData}
use Rattle.call_fs.specs.Calls.{data_of}
use Rattle.call_fs.specs.Program.{due_of}
use Rattle.call_fs.specs.Past.{UsesHeld, held}
use Rattle.call_fs.proofs.Held.{has_room}
use Rattle.mail_bytes.specs.Told.{OnTold}
use Rattle.world_events.specs.Asking.{MayMake}
use Rattle.world_events.proofs.Calls.{no_act, keeps_few, keeps_name, told_made}
use Rattle.world_events.proofs.asking.ask.Goals as goal
use Rattle.world_events.proofs.asking.ask.Goals.{After-need}

-- what it asks for is next
asks_next : (g : _) (c : After-need g) → due_of c.need.result ≡ g.M.Machine.next c.requires.may.args c.requires.may.past c.args.at.now c.args.at.ready
asks_next g c =
    let may = c.requires.may in
    c.need.ensures.next may.args may.past c.requires.looked may.is
    ∙ ap (λ n. g.M.Machine.next may.args may.past n (g.M.Machine.found c.args.machine.now)) c.requires.present
    ∙ ap (g.M.Machine.next may.args may.past c.args.at.now) c.requires.found

-- so it uses what its past holds
asks_held : (g : _) (c : After-need g) → UsesHeld (held c.requires.may.past) (due_of c.need.result)
asks_held g c =
    let may = c.requires.may in
    subst (UsesHeld (held may.past)) (sym (asks_next g c)) (c.uses_held.ensures.uses may.args may.past c.args.at.now c.args.at.ready may.run)

pub perform-answer-requires-clause-fits : goal.perform-answer-requires-clause-fits
perform-answer-requires-clause-fits g c =
    let may = c.requires.may in
    let at = (goal.at.perform-answer-requires-clause-fits g c).After-need in
    subst (λ (due : NeedData). OnTold (g.D.CallFs.disk c.args.disk.now) (λ before. MayMake before due)) (sym (asks_next g at) ∙ ap due_of c.in-File.is) may.may

pub perform-answer-requires-clause-piece : goal.perform-answer-requires-clause-piece
perform-answer-requires-clause-piece g c =
    let at = (goal.at.perform-answer-requires-clause-piece g c).After-need in
    has_room (held c.requires.may.past) _ (subst (UsesHeld (held c.requires.may.past)) (ap due_of c.in-File.is) (asks_held g at))

pub told_in-told-requires-clause-few : goal.told_in-told-requires-clause-few
told_in-told-requires-clause-few g c =
    let at = (goal.at.told_in-told-requires-clause-few g c).After-need in
    let room = has_room (held c.requires.may.past) (data_of c.in-File.call) (subst (UsesHeld (held c.requires.may.past)) (ap due_of c.in-File.is) (asks_held g at)) in
    rw (c.in_ok-room-in-File.ensures.room) (keeps_few (data_of c.in-File.call) c.perform-answer.result room c.perform-answer.ensures.kind)

pub told_in-told-requires-clause-name : goal.told_in-told-requires-clause-name
told_in-told-requires-clause-name g c = rw (c.in_ok-room-in-File.ensures.room) (keeps_name (data_of c.in-File.call) c.perform-answer.result c.perform-answer.ensures.kind)

pub returns-in_ok-need_data-in_default-clause-stated : goal.returns-in_ok-need_data-in_default-clause-stated
returns-in_ok-need_data-in_default-clause-stated g c = rw (c.in_ok-need_data-in_default.ensures) (no_act c.need.result c.in_default.not-File c.in_default.not-Ended)

pub returns-in_ok-owned-in-File-clause-made : goal.returns-in_ok-owned-in-File-clause-made
returns-in_ok-owned-in-File-clause-made g c =
    rw (c.in_ok-owned-in-File.ensures) (told_made (g.D.CallFs.disk c.args.disk.now) (g.D.CallFs.disk c.perform-answer.new.disk) c.args.at.now (data_of c.in-File.call) c.perform-answer.result
    c.perform-answer.new.into c.told_in-told.result c.told_in-told.ensures c.perform-answer.ensures.told c.perform-answer.ensures.read)
