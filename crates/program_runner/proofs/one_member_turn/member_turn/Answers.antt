use Rattle.std.proofs.Common.{[], ◌∷◌, None, ap, inl, inr, refl, sym, subst, ◌∙◌}
use Rattle.call_fs.specs.Calls.{data_of}
use Rattle.call_fs.specs.Past.{held}
use Rattle.call_fs.specs.declared.past.NeedData.TheVariants as needs
use Rattle.call_fs.specs.declared.past.GotData.{GotData}
use Rattle.call_fs.specs.declared.past.GotData.TheVariants as got
use Rattle.program_runner.specs.Serving.{came_with}
use Rattle.call_fs.specs.Program.{due_of}
use Rattle.program_runner.proofs.Members.{turn_cut}
use Rattle.program_runner.proofs.MemberTurns.{does_served, looks_quiet, not_at_end, not_yet, possible_now, served_now, some_now, served_now_by, waits, acts, asks_all, asks_posts, idles, looks_so, same_spawner, uses_now}
use Rattle.program_runner.proofs.Serves.{asked_nothing}
use Rattle.program_runner.proofs.Turns.{does_call, few, fits_by, room_by}
use Rattle.program_runner.proofs.one_member_turn.member_turn.Goals as goal

pub perform-answer-requires-clause-fits : goal.perform-answer-requires-clause-fits
perform-answer-requires-clause-fits g c =
    let t = c.requires.may in
    let uses = uses_now g.M.Machine.next (g.M.Machine.stands c.args.machine.now) (g.M.Machine.stands c.look.new.self) (g.D.CallFs.disk c.args.disk.now)
    (g.M.Machine.present c.look.new.self) (g.M.Machine.found c.look.new.self) (due_of c.need-asked.result) t c.look.ensures.stands
    (λ args past s. c.need-asked.ensures.next args past c.look.ensures.looked s) c.uses_held.ensures.uses in
    fits_by (g.D.CallFs.disk c.args.disk.now) (held t.past) (due_of c.need-asked.result) (data_of c.in-File.call) t.backed uses (ap due_of c.in-File.is)

pub perform-answer-requires-clause-piece : goal.perform-answer-requires-clause-piece
perform-answer-requires-clause-piece g c =
    let t = c.requires.may in
    let uses = uses_now g.M.Machine.next (g.M.Machine.stands c.args.machine.now) (g.M.Machine.stands c.look.new.self) (g.D.CallFs.disk c.args.disk.now)
    (g.M.Machine.present c.look.new.self) (g.M.Machine.found c.look.new.self) (due_of c.need-asked.result) t c.look.ensures.stands
    (λ args past s. c.need-asked.ensures.next args past c.look.ensures.looked s) c.uses_held.ensures.uses in
    room_by (held t.past) (due_of c.need-asked.result) (data_of c.in-File.call) uses (ap due_of c.in-File.is)

pub bytes_read-read-requires : goal.bytes_read-read-requires
bytes_read-read-requires g c =
    let t = c.requires.may in
    let uses = uses_now g.M.Machine.next (g.M.Machine.stands c.args.machine.now) (g.M.Machine.stands c.look.new.self) (g.D.CallFs.disk c.args.disk.now)
    (g.M.Machine.present c.look.new.self) (g.M.Machine.found c.look.new.self) (due_of c.need-asked.result) t c.look.ensures.stands
    (λ args past s. c.need-asked.ensures.next args past c.look.ensures.looked s) c.uses_held.ensures.uses in
    few (held t.past) (due_of c.need-asked.result) (data_of c.in-File.call) c.perform-answer.result uses (ap due_of c.in-File.is) c.perform-answer.ensures.kind

pub returns-in_err-gather-clause-turned : goal.returns-in_err-gather-clause-turned
returns-in_err-gather-clause-turned g c =
    turn_cut _ _ _ _ _ _ _ c.from_residual.result _ _ _ _ c.from_residual.ensures.0
    (inr (asks_posts g.M.Machine.next (g.M.Machine.stands c.args.machine.now) _ _ _ c.gather.new.self c.in_err-gather.ensures refl refl))

pub returns-in_ok-done-in-File-clause-turned : goal.returns-in_ok-done-in-File-clause-turned
returns-in_ok-done-in-File-clause-turned g c = inl
    (acts (g.C.ChildWords.words c.args.words.now) _ _ c.gather.new.self c.in_ok-gather.ensures g.M.Machine.next (g.M.Machine.stands c.args.machine.now) (g.M.Machine.stands c.look.new.self)
    (g.M.Machine.present c.look.new.self) c.now-now.result (g.M.Machine.found c.look.new.self) c.ready-ready.result (g.M.Machine.due c.look.new.self) (due_of c.need-asked.result)
    c.look.ensures.stands c.look.ensures.present c.look.ensures.found c.need-asked.ensures.due (λ args past s. c.need-asked.ensures.next args past c.look.ensures.looked s)
    c.ready-ready.ensures c.now-now.ensures.told
    (g.M.Machine.stands c.done.new.self) (got.Answered (record { answer = c.perform-answer.result; bytes = c.bytes_read-read.result.now })) c.in_ok-done-in-File.ensures.stands
    (λ read found came. (mid : g.row.M.Denot) × g.M.Machine.looks c.args.machine.now read found mid × g.M.Machine.goes mid came c.done.new.self) _ _ [] (needs.File (data_of c.in-File.call))
    (c.look.new.self, c.look.ensures.looks, c.in_ok-done-in-File.ensures.goes) (ap due_of c.in-File.is) c.perform-answer.ensures.kind
    (does_call _ _ c.now-now.result c.ready-ready.result c.now-now.ensures.moment c.now-now.ensures.later c.now-now.ensures.last tt
    (data_of c.in-File.call) c.perform-answer.result c.bytes_read-read.result.now c.perform-answer.new.into c.bytes_read-read.ensures
    c.perform-answer.ensures.told c.perform-answer.ensures.recorded c.perform-answer.ensures.read c.perform-answer.ensures.cause refl refl refl refl)
    (asked_nothing _) (refl, refl) (g.M.Machine.takes_at_most c.args.machine.now) tt)

pub returns-in_err-done-in-File-clause-turned : goal.returns-in_err-done-in-File-clause-turned
returns-in_err-done-in-File-clause-turned g c =
    turn_cut _ _ _ _ _ _ _ c.from_residual-in_err-done-in-File.result _ _ _ _ c.from_residual-in_err-done-in-File.ensures.0
    (inl
    (acts (g.C.ChildWords.words c.args.words.now) _ _ c.gather.new.self c.in_ok-gather.ensures g.M.Machine.next (g.M.Machine.stands c.args.machine.now) (g.M.Machine.stands c.look.new.self)
    (g.M.Machine.present c.look.new.self) c.now-now.result (g.M.Machine.found c.look.new.self) c.ready-ready.result (g.M.Machine.due c.look.new.self) (due_of c.need-asked.result)
    c.look.ensures.stands c.look.ensures.present c.look.ensures.found c.need-asked.ensures.due (λ args past s. c.need-asked.ensures.next args past c.look.ensures.looked s)
    c.ready-ready.ensures c.now-now.ensures.told
    (λ args past. Unit {0}) (got.Answered (record { answer = c.perform-answer.result; bytes = c.bytes_read-read.result.now })) (λ args past s. tt) (λ read found came. Unit {0}) _ _ [] (needs.File (data_of c.in-File.call))
    tt (ap due_of c.in-File.is) c.perform-answer.ensures.kind
    (does_call _ _ c.now-now.result c.ready-ready.result c.now-now.ensures.moment c.now-now.ensures.later c.now-now.ensures.last tt
    (data_of c.in-File.call) c.perform-answer.result c.bytes_read-read.result.now c.perform-answer.new.into c.bytes_read-read.ensures
    c.perform-answer.ensures.told c.perform-answer.ensures.recorded c.perform-answer.ensures.read c.perform-answer.ensures.cause refl refl refl refl)
    (asked_nothing _) (refl, refl) (g.M.Machine.takes_at_most c.args.machine.now) tt))

pub returns-in-Ended-clause-turned : goal.returns-in-Ended-clause-turned
returns-in-Ended-clause-turned g c =
    idles (g.C.ChildWords.words c.args.words.now) _ _ c.gather.new.self c.in_ok-gather.ensures g.M.Machine.next (g.M.Machine.stands c.args.machine.now) (g.M.Machine.stands c.look.new.self)
    (g.M.Machine.present c.look.new.self) c.now-now.result (g.M.Machine.found c.look.new.self) c.ready-ready.result (g.M.Machine.due c.look.new.self) (due_of c.need-asked.result)
    c.look.ensures.stands c.look.ensures.present c.look.ensures.found c.need-asked.ensures.due (λ args past s. c.need-asked.ensures.next args past c.look.ensures.looked s)
    c.ready-ready.ensures c.now-now.ensures.told
    (needs.Ended c.in-Ended.status) _ _ (ap due_of c.in-Ended.is) (looks_so _ _ c.now-now.result c.now-now.ensures.moment c.now-now.ensures.later tt
    c.now-now.ensures.last refl) refl tt refl

pub returns-in_err-served-in_default-clause-turned : goal.returns-in_err-served-in_default-clause-turned
returns-in_err-served-in_default-clause-turned g c =
    turn_cut _ _ _ _ _ _ _ c.from_residual-in_err-served-in_default.result _ _ _ _ c.from_residual-in_err-served-in_default.ensures.0
    (inr
    (asks_all (g.C.ChildWords.words c.args.words.now) _ _ c.gather.new.self c.in_ok-gather.ensures g.M.Machine.next (g.M.Machine.stands c.args.machine.now) (g.M.Machine.stands c.look.new.self)
    (g.M.Machine.present c.look.new.self) c.now-now.result (g.M.Machine.found c.look.new.self) c.ready-ready.result (g.M.Machine.due c.look.new.self) (due_of c.need-asked.result)
    c.look.ensures.stands c.look.ensures.present c.look.ensures.found c.need-asked.ensures.due (λ args past s. c.need-asked.ensures.next args past c.look.ensures.looked s)
    c.ready-ready.ensures c.now-now.ensures.told
    (due_of c.need-asked.result) _ _ refl (not_at_end c.need-asked.result (λ k is. c.in_default.not-Ended k is)) c.now-now.ensures.later c.now-now.ensures.last refl
    (ap (λ x. g.O.Sink.taken x) c.in_err-served-in_default.ensures.output) (ap (λ x. g.O.Sink.faults x) c.in_err-served-in_default.ensures.output)
    (same_spawner _ _ (ap (λ x. g.S.Spawner.children x) c.in_err-served-in_default.ensures.spawner) (ap (λ x. g.S.Spawner.calls x) c.in_err-served-in_default.ensures.spawner) (ap (λ x. g.S.Spawner.faults x) c.in_err-served-in_default.ensures.spawner))))

pub returns-in_err-done-in_default-clause-turned : goal.returns-in_err-done-in_default-clause-turned
returns-in_err-done-in_default-clause-turned g c =
    turn_cut _ _ _ _ _ _ _ c.from_residual-in_err-done-in_default.result _ _ _ _ c.from_residual-in_err-done-in_default.ensures.0 (inl (acts (g.C.ChildWords.words c.args.words.now) _ _ c.gather.new.self c.in_ok-gather.ensures g.M.Machine.next (g.M.Machine.stands c.args.machine.now) (g.M.Machine.stands c.look.new.self)
    (g.M.Machine.present c.look.new.self) c.now-now.result (g.M.Machine.found c.look.new.self) c.ready-ready.result (g.M.Machine.due c.look.new.self) (due_of c.need-asked.result)
    c.look.ensures.stands c.look.ensures.present c.look.ensures.found c.need-asked.ensures.due (λ args past s. c.need-asked.ensures.next args past c.look.ensures.looked s)
    c.ready-ready.ensures c.now-now.ensures.told
    (λ args past. Unit {0}) (came_with c.in_ok-served-in_default.served c.serve.new.into) (λ args past s. tt) (λ read found came. Unit {0}) _ _ (served_now (g.C.ChildWords.words c.args.words.now) (due_of c.need-asked.result) c.taking_room-most.result c.in_ok-served-in_default.served (came_with c.in_ok-served-in_default.served c.serve.new.into) c.gather.new.self c.serve.new.lines _ _ (sym c.is_done.ensures ∙ c.if-is_done.true) c.in_ok-served-in_default.ensures.served).calls (due_of c.need-asked.result) tt refl
    (possible_now (g.C.ChildWords.words c.args.words.now) (due_of c.need-asked.result) c.taking_room-most.result c.in_ok-served-in_default.served (came_with c.in_ok-served-in_default.served c.serve.new.into) c.gather.new.self c.serve.new.lines (record { children = []; calls = None; faults = 0 }) (record { children = []; calls = None; faults = 0 }) (sym c.is_done.ensures ∙ c.if-is_done.true) c.in_ok-served-in_default.ensures.possible)
    (does_served _ _ c.now-now.result c.ready-ready.result c.now-now.ensures.moment c.now-now.ensures.later c.now-now.ensures.last refl refl (due_of c.need-asked.result) (came_with c.in_ok-served-in_default.served c.serve.new.into) (served_now_by g.M.Machine.next (g.M.Machine.stands c.args.machine.now) (g.M.Machine.stands c.look.new.self) (g.D.CallFs.disk c.args.disk.now) (g.M.Machine.present c.look.new.self) (g.M.Machine.found c.look.new.self) c.need-asked.result c.requires.may c.look.ensures.stands (λ args past s. c.need-asked.ensures.next args past c.look.ensures.looked s) (λ k is. c.in_default.not-File k is) (λ k is. c.in_default.not-Ended k is)) refl refl refl refl refl refl refl c.in_ok-served-in_default.ensures.put)
    (served_now (g.C.ChildWords.words c.args.words.now) (due_of c.need-asked.result) c.taking_room-most.result c.in_ok-served-in_default.served (came_with c.in_ok-served-in_default.served c.serve.new.into) c.gather.new.self c.serve.new.lines _ _ (sym c.is_done.ensures ∙ c.if-is_done.true) c.in_ok-served-in_default.ensures.served).spawns (served_now (g.C.ChildWords.words c.args.words.now) (due_of c.need-asked.result) c.taking_room-most.result c.in_ok-served-in_default.served (came_with c.in_ok-served-in_default.served c.serve.new.into) c.gather.new.self c.serve.new.lines _ _ (sym c.is_done.ensures ∙ c.if-is_done.true) c.in_ok-served-in_default.ensures.served).done (g.M.Machine.takes_at_most c.args.machine.now)
    (some_now (g.C.ChildWords.words c.args.words.now) (due_of c.need-asked.result) c.taking_room-most.result c.in_ok-served-in_default.served (came_with c.in_ok-served-in_default.served c.serve.new.into) c.gather.new.self c.serve.new.lines (record { children = []; calls = None; faults = 0 }) (record { children = []; calls = None; faults = 0 }) (sym c.is_done.ensures ∙ c.if-is_done.true) c.in_ok-served-in_default.ensures.possible (g.M.Machine.takes_at_most c.args.machine.now) (c.taking_room-most.ensures ∙ c.look.ensures.takes))))

pub returns-then-is_done-clause-turned : goal.returns-then-is_done-clause-turned
returns-then-is_done-clause-turned g c =
    inl (acts (g.C.ChildWords.words c.args.words.now) _ _ c.gather.new.self c.in_ok-gather.ensures g.M.Machine.next (g.M.Machine.stands c.args.machine.now) (g.M.Machine.stands c.look.new.self)
    (g.M.Machine.present c.look.new.self) c.now-now.result (g.M.Machine.found c.look.new.self) c.ready-ready.result (g.M.Machine.due c.look.new.self) (due_of c.need-asked.result)
    c.look.ensures.stands c.look.ensures.present c.look.ensures.found c.need-asked.ensures.due (λ args past s. c.need-asked.ensures.next args past c.look.ensures.looked s)
    c.ready-ready.ensures c.now-now.ensures.told
    (g.M.Machine.stands c.done-then-is_done.new.self) (came_with c.in_ok-served-in_default.served c.serve.new.into) (subst (λ (x : GotData). (args : _) (past : _) → g.M.Machine.stands c.look.new.self args past → g.M.Machine.stands c.done-then-is_done.new.self args (record { read = g.M.Machine.present c.look.new.self; ready = g.M.Machine.found c.look.new.self; due = g.M.Machine.due c.look.new.self; came = x } ∷ past)) c.came.ensures c.in_ok-done-in_default.ensures.stands) (λ read found came. (mid : g.row.M.Denot) × g.M.Machine.looks c.args.machine.now read found mid × g.M.Machine.goes mid came c.done-then-is_done.new.self) _ _ (served_now (g.C.ChildWords.words c.args.words.now) (due_of c.need-asked.result) c.taking_room-most.result c.in_ok-served-in_default.served (came_with c.in_ok-served-in_default.served c.serve.new.into) c.gather.new.self c.serve.new.lines _ _ (sym c.is_done.ensures ∙ c.if-is_done.true) c.in_ok-served-in_default.ensures.served).calls (due_of c.need-asked.result) (c.look.new.self, c.look.ensures.looks, subst (λ (x : GotData). g.M.Machine.goes c.look.new.self x c.done-then-is_done.new.self) c.came.ensures c.in_ok-done-in_default.ensures.goes) refl
    (possible_now (g.C.ChildWords.words c.args.words.now) (due_of c.need-asked.result) c.taking_room-most.result c.in_ok-served-in_default.served (came_with c.in_ok-served-in_default.served c.serve.new.into) c.gather.new.self c.serve.new.lines (record { children = []; calls = None; faults = 0 }) (record { children = []; calls = None; faults = 0 }) (sym c.is_done.ensures ∙ c.if-is_done.true) c.in_ok-served-in_default.ensures.possible)
    (does_served _ _ c.now-now.result c.ready-ready.result c.now-now.ensures.moment c.now-now.ensures.later c.now-now.ensures.last refl refl (due_of c.need-asked.result) (came_with c.in_ok-served-in_default.served c.serve.new.into) (served_now_by g.M.Machine.next (g.M.Machine.stands c.args.machine.now) (g.M.Machine.stands c.look.new.self) (g.D.CallFs.disk c.args.disk.now) (g.M.Machine.present c.look.new.self) (g.M.Machine.found c.look.new.self) c.need-asked.result c.requires.may c.look.ensures.stands (λ args past s. c.need-asked.ensures.next args past c.look.ensures.looked s) (λ k is. c.in_default.not-File k is) (λ k is. c.in_default.not-Ended k is)) refl refl refl refl refl refl refl c.in_ok-served-in_default.ensures.put)
    (served_now (g.C.ChildWords.words c.args.words.now) (due_of c.need-asked.result) c.taking_room-most.result c.in_ok-served-in_default.served (came_with c.in_ok-served-in_default.served c.serve.new.into) c.gather.new.self c.serve.new.lines _ _ (sym c.is_done.ensures ∙ c.if-is_done.true) c.in_ok-served-in_default.ensures.served).spawns (served_now (g.C.ChildWords.words c.args.words.now) (due_of c.need-asked.result) c.taking_room-most.result c.in_ok-served-in_default.served (came_with c.in_ok-served-in_default.served c.serve.new.into) c.gather.new.self c.serve.new.lines _ _ (sym c.is_done.ensures ∙ c.if-is_done.true) c.in_ok-served-in_default.ensures.served).done (g.M.Machine.takes_at_most c.args.machine.now)
    (some_now (g.C.ChildWords.words c.args.words.now) (due_of c.need-asked.result) c.taking_room-most.result c.in_ok-served-in_default.served (came_with c.in_ok-served-in_default.served c.serve.new.into) c.gather.new.self c.serve.new.lines (record { children = []; calls = None; faults = 0 }) (record { children = []; calls = None; faults = 0 }) (sym c.is_done.ensures ∙ c.if-is_done.true) c.in_ok-served-in_default.ensures.possible (g.M.Machine.takes_at_most c.args.machine.now) (c.taking_room-most.ensures ∙ c.look.ensures.takes)))

pub returns-else-is_done-clause-turned : goal.returns-else-is_done-clause-turned
returns-else-is_done-clause-turned g c =
    inr (waits (g.C.ChildWords.words c.args.words.now) _ _ c.gather.new.self c.in_ok-gather.ensures g.M.Machine.next (g.M.Machine.stands c.args.machine.now) (g.M.Machine.stands c.look.new.self)
    (g.M.Machine.present c.look.new.self) c.now-now.result (g.M.Machine.found c.look.new.self) c.ready-ready.result (g.M.Machine.due c.look.new.self) (due_of c.need-asked.result)
    c.look.ensures.stands c.look.ensures.present c.look.ensures.found c.need-asked.ensures.due (λ args past s. c.need-asked.ensures.next args past c.look.ensures.looked s)
    c.ready-ready.ensures c.now-now.ensures.told
    (λ read found. g.M.Machine.looks c.args.machine.now read found c.look.new.self) c.look.ensures.looks
    (due_of c.need-asked.result) _ _ refl (looks_quiet _ _ c.now-now.result c.now-now.ensures.moment c.now-now.ensures.later tt c.now-now.ensures.last refl (ap (λ x. g.O.Sink.taken x) (c.in_ok-served-in_default.ensures.quiet (sym c.is_done.ensures ∙ c.if-is_done.false))) (ap (λ x. g.O.Sink.faults x) (c.in_ok-served-in_default.ensures.quiet (sym c.is_done.ensures ∙ c.if-is_done.false))))
    (not_yet (g.C.ChildWords.words c.args.words.now) (due_of c.need-asked.result) c.taking_room-most.result c.in_ok-served-in_default.served (came_with c.in_ok-served-in_default.served c.serve.new.into) c.gather.new.self c.serve.new.lines _ _ (sym c.is_done.ensures ∙ c.if-is_done.false) c.in_ok-served-in_default.ensures.served).2 (not_yet (g.C.ChildWords.words c.args.words.now) (due_of c.need-asked.result) c.taking_room-most.result c.in_ok-served-in_default.served (came_with c.in_ok-served-in_default.served c.serve.new.into) c.gather.new.self c.serve.new.lines _ _ (sym c.is_done.ensures ∙ c.if-is_done.false) c.in_ok-served-in_default.ensures.served).0 (not_yet (g.C.ChildWords.words c.args.words.now) (due_of c.need-asked.result) c.taking_room-most.result c.in_ok-served-in_default.served (came_with c.in_ok-served-in_default.served c.serve.new.into) c.gather.new.self c.serve.new.lines _ _ (sym c.is_done.ensures ∙ c.if-is_done.false) c.in_ok-served-in_default.ensures.served).1)

pub returns-in_ok-done-in-File-clause-looks : goal.returns-in_ok-done-in-File-clause-looks
returns-in_ok-done-in-File-clause-looks g c =
    λ is. inl (refl, (_, _, _, c.look.new.self, c.look.ensures.looks, c.in_ok-done-in-File.ensures.goes))

pub returns-then-is_done-clause-looks : goal.returns-then-is_done-clause-looks
returns-then-is_done-clause-looks g c =
    λ is. inl (refl, (_, _, _, c.look.new.self, c.look.ensures.looks, c.in_ok-done-in_default.ensures.goes))

pub returns-else-is_done-clause-looks : goal.returns-else-is_done-clause-looks
returns-else-is_done-clause-looks g c =
    λ is. inr (c.saturating_add.ensures, (_, _, c.look.ensures.looks))
