use Rattle.std.proofs.Common.{take, refl, ap, ◌∙◌}
use Rattle.call_fs.specs.Calls.{data_of}
use Rattle.call_fs.specs.Past.{held}
use Rattle.call_fs.specs.declared.past.NeedData.TheVariants as needs
use Rattle.call_fs.specs.declared.past.GotData.TheVariants as got
use Rattle.call_fs.specs.declared.program.Port.TheVariants as port
use Rattle.call_fs.specs.Program.{due_of}
use Rattle.program_runner.proofs.Turns.{uses_due, fits_by, room_by, few, goes, does_call, does_take, does_give, took_bytes, took_end, took_nothing, gave_all, gave_part, on_err}
use Rattle.program_runner.proofs.one_turn.turn.Goals as goal

pub perform-answer-requires-clause-fits : goal.perform-answer-requires-clause-fits
perform-answer-requires-clause-fits g c =
    let t = c.requires.may in
    let uses = uses_due g.M.Machine.next (g.M.Machine.stands c.args.machine.now) (g.M.Machine.stands c.look.new.self) c.args.ready (g.D.CallFs.disk c.args.disk.now)
    (g.M.Machine.present c.look.new.self) (g.M.Machine.found c.look.new.self) (due_of c.need.result) t c.look.ensures.stands
    (λ args past s. c.need.ensures.next args past c.look.ensures.looked s) c.uses_held.ensures.uses in
    fits_by (g.D.CallFs.disk c.args.disk.now) (held t.past) (due_of c.need.result) (data_of c.in-File.call) t.backed uses (ap due_of c.in-File.is)

pub perform-answer-requires-clause-piece : goal.perform-answer-requires-clause-piece
perform-answer-requires-clause-piece g c =
    let t = c.requires.may in
    let uses = uses_due g.M.Machine.next (g.M.Machine.stands c.args.machine.now) (g.M.Machine.stands c.look.new.self) c.args.ready (g.D.CallFs.disk c.args.disk.now)
    (g.M.Machine.present c.look.new.self) (g.M.Machine.found c.look.new.self) (due_of c.need.result) t c.look.ensures.stands
    (λ args past s. c.need.ensures.next args past c.look.ensures.looked s) c.uses_held.ensures.uses in
    room_by (held t.past) (due_of c.need.result) (data_of c.in-File.call) uses (ap due_of c.in-File.is)

pub bytes_read-read-requires : goal.bytes_read-read-requires
bytes_read-read-requires g c =
    let t = c.requires.may in
    let uses = uses_due g.M.Machine.next (g.M.Machine.stands c.args.machine.now) (g.M.Machine.stands c.look.new.self) c.args.ready (g.D.CallFs.disk c.args.disk.now)
    (g.M.Machine.present c.look.new.self) (g.M.Machine.found c.look.new.self) (due_of c.need.result) t c.look.ensures.stands
    (λ args past s. c.need.ensures.next args past c.look.ensures.looked s) c.uses_held.ensures.uses in
    few (held t.past) (due_of c.need.result) (data_of c.in-File.call) c.perform-answer.result uses (ap due_of c.in-File.is) c.perform-answer.ensures.kind

pub returns-in_ok-done-in-File-clause-turned : goal.returns-in_ok-done-in-File-clause-turned
returns-in_ok-done-in-File-clause-turned g c =
    goes g.M.Machine.next (g.M.Machine.stands c.args.machine.now) (g.M.Machine.stands c.look.new.self) (g.M.Machine.stands c.done.new.self)
    (g.M.Machine.present c.look.new.self) c.now-now.result (g.M.Machine.found c.look.new.self) c.args.ready (g.M.Machine.due c.look.new.self) (due_of c.need.result) (got.Answered (record { answer = c.perform-answer.result; bytes = c.bytes_read-read.result.now }))
    c.look.ensures.stands c.look.ensures.present c.look.ensures.found c.need.ensures.due (λ args past s. c.need.ensures.next args past c.look.ensures.looked s)
    c.in_ok-done-in-File.ensures.stands
    (λ read found came. (mid : g.row.M.Denot) × g.M.Machine.looks c.args.machine.now read found mid × g.M.Machine.goes mid came c.done.new.self) (needs.File (data_of c.in-File.call)) _ _
    (c.look.new.self, c.look.ensures.looks, c.in_ok-done-in-File.ensures.goes)
    (ap due_of c.in-File.is) c.perform-answer.ensures.kind
    (does_call _ _ c.now-now.result c.args.ready c.now-now.ensures.moment c.now-now.ensures.later c.now-now.ensures.last c.now-now.ensures.told
    (data_of c.in-File.call) c.perform-answer.result c.bytes_read-read.result.now c.perform-answer.new.into c.bytes_read-read.ensures
    c.perform-answer.ensures.told c.perform-answer.ensures.recorded c.perform-answer.ensures.read c.perform-answer.ensures.cause refl refl refl refl)

pub returns-in_ok-done-in-Got-clause-turned : goal.returns-in_ok-done-in-Got-clause-turned
returns-in_ok-done-in-Got-clause-turned g c =
    goes g.M.Machine.next (g.M.Machine.stands c.args.machine.now) (g.M.Machine.stands c.look.new.self) (g.M.Machine.stands c.done-in-Got.new.self)
    (g.M.Machine.present c.look.new.self) c.now-now.result (g.M.Machine.found c.look.new.self) c.args.ready (g.M.Machine.due c.look.new.self) (due_of c.need.result)
    (got.Took (take c.in-Got.count c.take.new.buffer))
    c.look.ensures.stands c.look.ensures.present c.look.ensures.found c.need.ensures.due (λ args past s. c.need.ensures.next args past c.look.ensures.looked s)
    c.in_ok-done-in-Got.ensures.stands
    (λ read found came. (mid : g.row.M.Denot) × g.M.Machine.looks c.args.machine.now read found mid × g.M.Machine.goes mid came c.done-in-Got.new.self) (needs.Take port.Input) _ _
    (c.look.new.self, c.look.ensures.looks, c.in_ok-done-in-Got.ensures.goes)
    (ap due_of c.in-Take-Input.is ∙ ap needs.Take c.in-Take-Input.field-0-is) tt
    (does_take _ _ c.now-now.result c.args.ready c.now-now.ensures.moment c.now-now.ensures.later c.now-now.ensures.last c.now-now.ensures.told (got.Took (take c.in-Got.count c.take.new.buffer)) refl refl refl
    (took_bytes (g.S.Source.left c.args.input.now) (g.S.Source.left c.take.new.input) c.in-Got.count c.take.new.buffer c.now-now.result c.args.ready c.in-Got.ensures.told) c.in-Got.ensures.cause.later (λ e. cc) refl refl)

pub returns-in_ok-done-in-End-clause-turned : goal.returns-in_ok-done-in-End-clause-turned
returns-in_ok-done-in-End-clause-turned g c =
    goes g.M.Machine.next (g.M.Machine.stands c.args.machine.now) (g.M.Machine.stands c.look.new.self) (g.M.Machine.stands c.done-in-End.new.self)
    (g.M.Machine.present c.look.new.self) c.now-now.result (g.M.Machine.found c.look.new.self) c.args.ready (g.M.Machine.due c.look.new.self) (due_of c.need.result) (got.End)
    c.look.ensures.stands c.look.ensures.present c.look.ensures.found c.need.ensures.due (λ args past s. c.need.ensures.next args past c.look.ensures.looked s)
    c.in_ok-done-in-End.ensures.stands
    (λ read found came. (mid : g.row.M.Denot) × g.M.Machine.looks c.args.machine.now read found mid × g.M.Machine.goes mid came c.done-in-End.new.self) (needs.Take port.Input) _ _
    (c.look.new.self, c.look.ensures.looks, c.in_ok-done-in-End.ensures.goes)
    (ap due_of c.in-Take-Input.is ∙ ap needs.Take c.in-Take-Input.field-0-is) tt
    (does_take _ _ c.now-now.result c.args.ready c.now-now.ensures.moment c.now-now.ensures.later c.now-now.ensures.last c.now-now.ensures.told got.End refl refl refl (took_end c.now-now.result c.args.ready (g.S.Source.left c.args.input.now) (g.S.Source.left c.take.new.input) c.in-End.ensures.told) c.in-End.ensures.cause.later (λ e. cc) refl refl)

pub returns-in_ok-done-in-Failed-clause-turned : goal.returns-in_ok-done-in-Failed-clause-turned
returns-in_ok-done-in-Failed-clause-turned g c =
    goes g.M.Machine.next (g.M.Machine.stands c.args.machine.now) (g.M.Machine.stands c.look.new.self) (g.M.Machine.stands c.done-in-Failed.new.self)
    (g.M.Machine.present c.look.new.self) c.now-now.result (g.M.Machine.found c.look.new.self) c.args.ready (g.M.Machine.due c.look.new.self) (due_of c.need.result) (got.Failed)
    c.look.ensures.stands c.look.ensures.present c.look.ensures.found c.need.ensures.due (λ args past s. c.need.ensures.next args past c.look.ensures.looked s)
    c.in_ok-done-in-Failed.ensures.stands
    (λ read found came. (mid : g.row.M.Denot) × g.M.Machine.looks c.args.machine.now read found mid × g.M.Machine.goes mid came c.done-in-Failed.new.self) (needs.Take port.Input) _ _
    (c.look.new.self, c.look.ensures.looks, c.in_ok-done-in-Failed.ensures.goes)
    (ap due_of c.in-Take-Input.is ∙ ap needs.Take c.in-Take-Input.field-0-is) tt
    (does_take _ _ c.now-now.result c.args.ready c.now-now.ensures.moment c.now-now.ensures.later c.now-now.ensures.last c.now-now.ensures.told got.Failed refl refl refl (took_nothing c.now-now.result c.args.ready (g.S.Source.left c.args.input.now) (g.S.Source.left c.take.new.input) c.in-Failed.ensures.told) c.in-Failed.ensures.cause.later (λ e. c.in-Failed.ensures.cause.rose refl) refl refl)

pub returns-in_ok-done-in-Done-clause-turned : goal.returns-in_ok-done-in-Done-clause-turned
returns-in_ok-done-in-Done-clause-turned g c =
    goes g.M.Machine.next (g.M.Machine.stands c.args.machine.now) (g.M.Machine.stands c.look.new.self) (g.M.Machine.stands c.done-in-Done.new.self)
    (g.M.Machine.present c.look.new.self) c.now-now.result (g.M.Machine.found c.look.new.self) c.args.ready (g.M.Machine.due c.look.new.self) (due_of c.need.result) (got.Gave)
    c.look.ensures.stands c.look.ensures.present c.look.ensures.found c.need.ensures.due (λ args past s. c.need.ensures.next args past c.look.ensures.looked s)
    c.in_ok-done-in-Done.ensures.stands
    (λ read found came. (mid : g.row.M.Denot) × g.M.Machine.looks c.args.machine.now read found mid × g.M.Machine.goes mid came c.done-in-Done.new.self) (needs.Give port.Output c.in-Give-Output-default.given.now) _ _
    (c.look.new.self, c.look.ensures.looks, c.in_ok-done-in-Done.ensures.goes)
    (ap due_of c.in-Give-Output-default.is ∙ ap (λ p. needs.Give p c.in-Give-Output-default.given.now) c.in-Give-Output-default.field-0-is) tt
    (does_give _ _ c.now-now.result c.args.ready c.now-now.ensures.moment c.now-now.ensures.later c.now-now.ensures.last c.now-now.ensures.told c.in-Give-Output-default.given.now got.Gave refl refl refl refl refl (gave_all c.now-now.result c.args.ready (g.O.Sink.taken c.args.output.now) (g.O.Sink.taken c.give.new.self) c.in-Give-Output-default.given.now c.in-Done.ensures.told) c.in-Done.ensures.cause.later (λ e. cc))

pub returns-in_ok-done-in-Failed-give-clause-turned : goal.returns-in_ok-done-in-Failed-give-clause-turned
returns-in_ok-done-in-Failed-give-clause-turned g c =
    goes g.M.Machine.next (g.M.Machine.stands c.args.machine.now) (g.M.Machine.stands c.look.new.self) (g.M.Machine.stands c.done-in-Failed-give.new.self)
    (g.M.Machine.present c.look.new.self) c.now-now.result (g.M.Machine.found c.look.new.self) c.args.ready (g.M.Machine.due c.look.new.self) (due_of c.need.result) (got.Failed)
    c.look.ensures.stands c.look.ensures.present c.look.ensures.found c.need.ensures.due (λ args past s. c.need.ensures.next args past c.look.ensures.looked s)
    c.in_ok-done-in-Failed-give.ensures.stands
    (λ read found came. (mid : g.row.M.Denot) × g.M.Machine.looks c.args.machine.now read found mid × g.M.Machine.goes mid came c.done-in-Failed-give.new.self) (needs.Give port.Output c.in-Give-Output-default.given.now) _ _
    (c.look.new.self, c.look.ensures.looks, c.in_ok-done-in-Failed-give.ensures.goes)
    (ap due_of c.in-Give-Output-default.is ∙ ap (λ p. needs.Give p c.in-Give-Output-default.given.now) c.in-Give-Output-default.field-0-is) tt
    (does_give _ _ c.now-now.result c.args.ready c.now-now.ensures.moment c.now-now.ensures.later c.now-now.ensures.last c.now-now.ensures.told c.in-Give-Output-default.given.now got.Failed refl refl refl refl refl (gave_part c.now-now.result c.args.ready (g.O.Sink.taken c.args.output.now) (g.O.Sink.taken c.give.new.self) c.in-Give-Output-default.given.now c.in-Failed-give.ensures.told) c.in-Failed-give.ensures.cause.later
    (λ e. c.in-Failed-give.ensures.cause.rose refl))

pub returns-in_err-done-in-File-clause-cut : goal.returns-in_err-done-in-File-clause-cut
returns-in_err-done-in-File-clause-cut g c =
    on_err _ _ (goes g.M.Machine.next (g.M.Machine.stands c.args.machine.now) (g.M.Machine.stands c.look.new.self) (λ args past. Unit {0})
    (g.M.Machine.present c.look.new.self) c.now-now.result (g.M.Machine.found c.look.new.self) c.args.ready (g.M.Machine.due c.look.new.self) (due_of c.need.result) (got.Answered (record { answer = c.perform-answer.result; bytes = c.bytes_read-read.result.now }))
    c.look.ensures.stands c.look.ensures.present c.look.ensures.found c.need.ensures.due (λ args past s. c.need.ensures.next args past c.look.ensures.looked s)
    (λ args past s. tt)
    (λ read found came. Unit {0}) (needs.File (data_of c.in-File.call)) _ _
    tt
    (ap due_of c.in-File.is) c.perform-answer.ensures.kind
    (does_call _ _ c.now-now.result c.args.ready c.now-now.ensures.moment c.now-now.ensures.later c.now-now.ensures.last c.now-now.ensures.told
    (data_of c.in-File.call) c.perform-answer.result c.bytes_read-read.result.now c.perform-answer.new.into c.bytes_read-read.ensures
    c.perform-answer.ensures.told c.perform-answer.ensures.recorded c.perform-answer.ensures.read c.perform-answer.ensures.cause refl refl refl refl))

pub returns-in_err-done-in-Got-clause-cut : goal.returns-in_err-done-in-Got-clause-cut
returns-in_err-done-in-Got-clause-cut g c =
    on_err _ _ (goes g.M.Machine.next (g.M.Machine.stands c.args.machine.now) (g.M.Machine.stands c.look.new.self) (λ args past. Unit {0})
    (g.M.Machine.present c.look.new.self) c.now-now.result (g.M.Machine.found c.look.new.self) c.args.ready (g.M.Machine.due c.look.new.self) (due_of c.need.result)
    (got.Took (take c.in-Got.count c.take.new.buffer))
    c.look.ensures.stands c.look.ensures.present c.look.ensures.found c.need.ensures.due (λ args past s. c.need.ensures.next args past c.look.ensures.looked s)
    (λ args past s. tt)
    (λ read found came. Unit {0}) (needs.Take port.Input) _ _
    tt
    (ap due_of c.in-Take-Input.is ∙ ap needs.Take c.in-Take-Input.field-0-is) tt
    (does_take _ _ c.now-now.result c.args.ready c.now-now.ensures.moment c.now-now.ensures.later c.now-now.ensures.last c.now-now.ensures.told (got.Took (take c.in-Got.count c.take.new.buffer)) refl refl refl
    (took_bytes (g.S.Source.left c.args.input.now) (g.S.Source.left c.take.new.input) c.in-Got.count c.take.new.buffer c.now-now.result c.args.ready c.in-Got.ensures.told) c.in-Got.ensures.cause.later (λ e. cc) refl refl))

pub returns-in_err-done-in-End-clause-cut : goal.returns-in_err-done-in-End-clause-cut
returns-in_err-done-in-End-clause-cut g c =
    on_err _ _ (goes g.M.Machine.next (g.M.Machine.stands c.args.machine.now) (g.M.Machine.stands c.look.new.self) (λ args past. Unit {0})
    (g.M.Machine.present c.look.new.self) c.now-now.result (g.M.Machine.found c.look.new.self) c.args.ready (g.M.Machine.due c.look.new.self) (due_of c.need.result) (got.End)
    c.look.ensures.stands c.look.ensures.present c.look.ensures.found c.need.ensures.due (λ args past s. c.need.ensures.next args past c.look.ensures.looked s)
    (λ args past s. tt)
    (λ read found came. Unit {0}) (needs.Take port.Input) _ _
    tt
    (ap due_of c.in-Take-Input.is ∙ ap needs.Take c.in-Take-Input.field-0-is) tt
    (does_take _ _ c.now-now.result c.args.ready c.now-now.ensures.moment c.now-now.ensures.later c.now-now.ensures.last c.now-now.ensures.told got.End refl refl refl (took_end c.now-now.result c.args.ready (g.S.Source.left c.args.input.now) (g.S.Source.left c.take.new.input) c.in-End.ensures.told) c.in-End.ensures.cause.later (λ e. cc) refl refl))

pub returns-in_err-done-in-Failed-clause-cut : goal.returns-in_err-done-in-Failed-clause-cut
returns-in_err-done-in-Failed-clause-cut g c =
    on_err _ _ (goes g.M.Machine.next (g.M.Machine.stands c.args.machine.now) (g.M.Machine.stands c.look.new.self) (λ args past. Unit {0})
    (g.M.Machine.present c.look.new.self) c.now-now.result (g.M.Machine.found c.look.new.self) c.args.ready (g.M.Machine.due c.look.new.self) (due_of c.need.result) (got.Failed)
    c.look.ensures.stands c.look.ensures.present c.look.ensures.found c.need.ensures.due (λ args past s. c.need.ensures.next args past c.look.ensures.looked s)
    (λ args past s. tt)
    (λ read found came. Unit {0}) (needs.Take port.Input) _ _
    tt
    (ap due_of c.in-Take-Input.is ∙ ap needs.Take c.in-Take-Input.field-0-is) tt
    (does_take _ _ c.now-now.result c.args.ready c.now-now.ensures.moment c.now-now.ensures.later c.now-now.ensures.last c.now-now.ensures.told got.Failed refl refl refl (took_nothing c.now-now.result c.args.ready (g.S.Source.left c.args.input.now) (g.S.Source.left c.take.new.input) c.in-Failed.ensures.told) c.in-Failed.ensures.cause.later (λ e. c.in-Failed.ensures.cause.rose refl) refl refl))

pub returns-in_err-done-in-Done-clause-cut : goal.returns-in_err-done-in-Done-clause-cut
returns-in_err-done-in-Done-clause-cut g c =
    on_err _ _ (goes g.M.Machine.next (g.M.Machine.stands c.args.machine.now) (g.M.Machine.stands c.look.new.self) (λ args past. Unit {0})
    (g.M.Machine.present c.look.new.self) c.now-now.result (g.M.Machine.found c.look.new.self) c.args.ready (g.M.Machine.due c.look.new.self) (due_of c.need.result) (got.Gave)
    c.look.ensures.stands c.look.ensures.present c.look.ensures.found c.need.ensures.due (λ args past s. c.need.ensures.next args past c.look.ensures.looked s)
    (λ args past s. tt)
    (λ read found came. Unit {0}) (needs.Give port.Output c.in-Give-Output-default.given.now) _ _
    tt
    (ap due_of c.in-Give-Output-default.is ∙ ap (λ p. needs.Give p c.in-Give-Output-default.given.now) c.in-Give-Output-default.field-0-is) tt
    (does_give _ _ c.now-now.result c.args.ready c.now-now.ensures.moment c.now-now.ensures.later c.now-now.ensures.last c.now-now.ensures.told c.in-Give-Output-default.given.now got.Gave refl refl refl refl refl (gave_all c.now-now.result c.args.ready (g.O.Sink.taken c.args.output.now) (g.O.Sink.taken c.give.new.self) c.in-Give-Output-default.given.now c.in-Done.ensures.told) c.in-Done.ensures.cause.later (λ e. cc)))

pub returns-in_err-done-in-Failed-give-clause-cut : goal.returns-in_err-done-in-Failed-give-clause-cut
returns-in_err-done-in-Failed-give-clause-cut g c =
    on_err _ _ (goes g.M.Machine.next (g.M.Machine.stands c.args.machine.now) (g.M.Machine.stands c.look.new.self) (λ args past. Unit {0})
    (g.M.Machine.present c.look.new.self) c.now-now.result (g.M.Machine.found c.look.new.self) c.args.ready (g.M.Machine.due c.look.new.self) (due_of c.need.result) (got.Failed)
    c.look.ensures.stands c.look.ensures.present c.look.ensures.found c.need.ensures.due (λ args past s. c.need.ensures.next args past c.look.ensures.looked s)
    (λ args past s. tt)
    (λ read found came. Unit {0}) (needs.Give port.Output c.in-Give-Output-default.given.now) _ _
    tt
    (ap due_of c.in-Give-Output-default.is ∙ ap (λ p. needs.Give p c.in-Give-Output-default.given.now) c.in-Give-Output-default.field-0-is) tt
    (does_give _ _ c.now-now.result c.args.ready c.now-now.ensures.moment c.now-now.ensures.later c.now-now.ensures.last c.now-now.ensures.told c.in-Give-Output-default.given.now got.Failed refl refl refl refl refl (gave_part c.now-now.result c.args.ready (g.O.Sink.taken c.args.output.now) (g.O.Sink.taken c.give.new.self) c.in-Give-Output-default.given.now c.in-Failed-give.ensures.told) c.in-Failed-give.ensures.cause.later
    (λ e. c.in-Failed-give.ensures.cause.rose refl)))
