use Rattle.std.proofs.Common.{◌∷◌, ap, refl, sym, subst, ◌∙◌}
use Rattle.call_fs.specs.Calls.{data_of}
use Rattle.call_fs.specs.Past.{held}
use Rattle.call_fs.specs.Program.{IsKind, came_of, due_of}
use Rattle.call_fs.specs.declared.past.GotData.{GotData}
use Rattle.call_fs.specs.declared.past.GotData.TheVariants as got
use Rattle.call_fs.specs.declared.program.TheConstants.{INPUT_READY}
use Rattle.local_deliver.specs.Stands.{Stands, due_now}
use Rattle.program_runner.specs.Serving.{came_with}
use Rattle.program_runner.proofs.MemberTurns.{looks_so}
use Rattle.program_runner.proofs.Turns.{does_call, few, fits_by, room_by}
use Rattle.local_command.proofs.Steps.{calls_file, does_served, kind_of, may_serve_now, serves_need, step_cut, uses_now}
use Rattle.local_command.proofs.stepping.step.Goals as goal

pub perform-answer-requires-clause-fits : goal.perform-answer-requires-clause-fits
perform-answer-requires-clause-fits g c =
    let t = c.requires.may in
    let uses = uses_now (Stands c.args.machine.now) (Stands c.look.new.self) c.args.injector.now (g.D.CallFs.disk c.args.disk.now) c.look.new.self.present c.look.new.self.ready t c.look.ensures.stands
    (due_of c.need-need.result) (λ args past s. c.need-need.ensures.stands args past s) c.uses_held.ensures.uses in
    fits_by (g.D.CallFs.disk c.args.disk.now) (held t.past) (due_of c.need-need.result) (data_of c.in-File.call) t.backed uses (ap due_of c.in-File.is)

pub perform-answer-requires-clause-piece : goal.perform-answer-requires-clause-piece
perform-answer-requires-clause-piece g c =
    let t = c.requires.may in
    let uses = uses_now (Stands c.args.machine.now) (Stands c.look.new.self) c.args.injector.now (g.D.CallFs.disk c.args.disk.now) c.look.new.self.present c.look.new.self.ready t c.look.ensures.stands
    (due_of c.need-need.result) (λ args past s. c.need-need.ensures.stands args past s) c.uses_held.ensures.uses in
    room_by (held t.past) (due_of c.need-need.result) (data_of c.in-File.call) uses (ap due_of c.in-File.is)

pub bytes_read-read-requires : goal.bytes_read-read-requires
bytes_read-read-requires g c =
    let t = c.requires.may in
    let uses = uses_now (Stands c.args.machine.now) (Stands c.look.new.self) c.args.injector.now (g.D.CallFs.disk c.args.disk.now) c.look.new.self.present c.look.new.self.ready t c.look.ensures.stands
    (due_of c.need-need.result) (λ args past s. c.need-need.ensures.stands args past s) c.uses_held.ensures.uses in
    few (held t.past) (due_of c.need-need.result) (data_of c.in-File.call) c.perform-answer.result uses (ap due_of c.in-File.is) c.perform-answer.ensures.kind

pub returns-in_ok-done-in-File : goal.returns-in_ok-done-in-File
returns-in_ok-done-in-File g c =
    calls_file (g.C.ChildWords.words c.args.words.now) c.args.machine.now c.look.new.self c.now-now.result (due_of c.need-need.result) (due_now c.look.new.self)
    c.look.ensures.stands c.look.ensures.rest c.need-need.ensures.due (λ args past s. c.need-need.ensures.stands args past s) c.commands_get_the_message.ensures
    (Stands c.done.new.self) (got.Answered (record { answer = c.perform-answer.result; bytes = c.bytes_read-read.result.now })) c.in_ok-done-in-File.ensures.stands
    (data_of c.in-File.call) c.args.injector.now _ _ _ (ap due_of c.in-File.is) c.perform-answer.ensures.kind
    (does_call _ _ c.now-now.result INPUT_READY c.now-now.ensures.moment c.now-now.ensures.later c.now-now.ensures.last c.now-now.ensures.told
    (data_of c.in-File.call) c.perform-answer.result c.bytes_read-read.result.now c.perform-answer.new.into c.bytes_read-read.ensures
    c.perform-answer.ensures.told c.perform-answer.ensures.recorded c.perform-answer.ensures.read c.perform-answer.ensures.cause refl refl refl refl)

pub returns-in_err-done-in-File : goal.returns-in_err-done-in-File
returns-in_err-done-in-File g c =
    step_cut _ _ _ _ _ c.from_residual.result _ _ _ _ c.from_residual.ensures.0
    (calls_file (g.C.ChildWords.words c.args.words.now) c.args.machine.now c.look.new.self c.now-now.result (due_of c.need-need.result) (due_now c.look.new.self)
    c.look.ensures.stands c.look.ensures.rest c.need-need.ensures.due (λ args past s. c.need-need.ensures.stands args past s) c.commands_get_the_message.ensures
    (λ args past. Unit {0}) (got.Answered (record { answer = c.perform-answer.result; bytes = c.bytes_read-read.result.now })) (λ args past s. tt)
    (data_of c.in-File.call) c.args.injector.now _ _ _ (ap due_of c.in-File.is) c.perform-answer.ensures.kind
    (does_call _ _ c.now-now.result INPUT_READY c.now-now.ensures.moment c.now-now.ensures.later c.now-now.ensures.last c.now-now.ensures.told
    (data_of c.in-File.call) c.perform-answer.result c.bytes_read-read.result.now c.perform-answer.new.into c.bytes_read-read.ensures
    c.perform-answer.ensures.told c.perform-answer.ensures.recorded c.perform-answer.ensures.read c.perform-answer.ensures.cause refl refl refl refl))

pub returns-in-Ended : goal.returns-in-Ended
returns-in-Ended g c = record {
  read = c.now-now.result;
  due = λ args past b.
      sym (c.need-need.ensures.stands args past (c.look.ensures.stands args past b)) ∙ ap due_of c.in-Ended.is;
  looks = looks_so _ _ c.now-now.result c.now-now.ensures.moment c.now-now.ensures.later c.now-now.ensures.told c.now-now.ensures.last refl;
  children_are = refl;
  channel = refl;
}

pub serve-served-requires : goal.serve-served-requires
serve-served-requires g c =
    (may_serve_now (Stands c.args.machine.now) (Stands c.look.new.self) c.args.injector.now (g.D.CallFs.disk c.args.disk.now) c.look.new.self.present c.look.new.self.ready c.requires.may c.look.ensures.stands
    c.need-need.result (λ args past s. c.need-need.ensures.stands args past s) c.deliveries_ask_for_this.ensures (λ k is. c.in_default.not-File k is) (λ k is. c.in_default.not-Ended k is))

pub done-requires-in_default : goal.done-requires-in_default
done-requires-in_default g c = record {
  kind = subst (λ d. IsKind d (came_of c.came.result)) c.need-need.ensures.due
      (subst (λ x. IsKind (due_of c.need-need.result) x) (sym c.came.ensures) (kind_of c.args.injector.now (due_of c.need-need.result) (came_with c.serve-served.result c.serve-served.new.into)
      (may_serve_now (Stands c.args.machine.now) (Stands c.look.new.self) c.args.injector.now (g.D.CallFs.disk c.args.disk.now) c.look.new.self.present c.look.new.self.ready c.requires.may c.look.ensures.stands
      c.need-need.result (λ args past s. c.need-need.ensures.stands args past s) c.deliveries_ask_for_this.ensures (λ k is. c.in_default.not-File k is) (λ k is. c.in_default.not-Ended k is)) c.serve-served.ensures.served.may));
}

pub returns-in_ok-done-in_default : goal.returns-in_ok-done-in_default
returns-in_ok-done-in_default g c =
    serves_need (g.C.ChildWords.words c.args.words.now) c.args.machine.now c.look.new.self c.now-now.result (due_of c.need-need.result) (due_now c.look.new.self)
    c.look.ensures.stands c.look.ensures.rest c.need-need.ensures.due (λ args past s. c.need-need.ensures.stands args past s) c.commands_get_the_message.ensures
    (Stands c.done-in_default.new.self) (came_with c.serve-served.result c.serve-served.new.into)
    (subst (λ (x : GotData). (args : _) (past : _) → Stands c.look.new.self args past → Stands c.done-in_default.new.self args (record { read = c.look.new.self.present; ready = c.look.new.self.ready; due = due_now c.look.new.self; came = x } ∷ past)) c.came.ensures c.in_ok-done-in_default.ensures.stands)
    c.args.injector.now c.serve-served.new.injector _ _ _ _ c.message.result.now c.message.ensures c.serve-served.ensures.served
    (does_served _ _ c.now-now.result INPUT_READY c.now-now.ensures.moment c.now-now.ensures.later c.now-now.ensures.last c.now-now.ensures.told c.args.injector.now (due_of c.need-need.result) (came_with c.serve-served.result c.serve-served.new.into)
    (may_serve_now (Stands c.args.machine.now) (Stands c.look.new.self) c.args.injector.now (g.D.CallFs.disk c.args.disk.now) c.look.new.self.present c.look.new.self.ready c.requires.may c.look.ensures.stands
    c.need-need.result (λ args past s. c.need-need.ensures.stands args past s) c.deliveries_ask_for_this.ensures (λ k is. c.in_default.not-File k is) (λ k is. c.in_default.not-Ended k is)) refl refl refl c.serve-served.ensures.streams)

pub returns-in_err-done-in_default : goal.returns-in_err-done-in_default
returns-in_err-done-in_default g c =
    step_cut _ _ _ _ _ c.from_residual-in_err-done-in_default.result _ _ _ _ c.from_residual-in_err-done-in_default.ensures.0
    (serves_need (g.C.ChildWords.words c.args.words.now) c.args.machine.now c.look.new.self c.now-now.result (due_of c.need-need.result) (due_now c.look.new.self)
    c.look.ensures.stands c.look.ensures.rest c.need-need.ensures.due (λ args past s. c.need-need.ensures.stands args past s) c.commands_get_the_message.ensures
    (λ args past. Unit {0}) (came_with c.serve-served.result c.serve-served.new.into) (λ args past s. tt)
    c.args.injector.now c.serve-served.new.injector _ _ _ _ c.message.result.now c.message.ensures c.serve-served.ensures.served
    (does_served _ _ c.now-now.result INPUT_READY c.now-now.ensures.moment c.now-now.ensures.later c.now-now.ensures.last c.now-now.ensures.told c.args.injector.now (due_of c.need-need.result) (came_with c.serve-served.result c.serve-served.new.into)
    (may_serve_now (Stands c.args.machine.now) (Stands c.look.new.self) c.args.injector.now (g.D.CallFs.disk c.args.disk.now) c.look.new.self.present c.look.new.self.ready c.requires.may c.look.ensures.stands
    c.need-need.result (λ args past s. c.need-need.ensures.stands args past s) c.deliveries_ask_for_this.ensures (λ k is. c.in_default.not-File k is) (λ k is. c.in_default.not-Ended k is)) refl refl refl c.serve-served.ensures.streams))
