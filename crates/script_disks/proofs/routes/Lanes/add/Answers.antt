use Rattle.std.proofs.Common.{[], ◌∷◌, ◌++◌, length, refl, sym, ap, ◌∙◌}
use Rattle.std.proofs.lemmas.Result.{on_ok_weaker}
use Rattle.envelope_records.specs.Envelope.{record_of}
use Rattle.send_known.specs.declared.channel.Channel.TheVariants as channel
use Rattle.script_disks.specs.declared.routes.Routed.{Routed}
use Rattle.script_disks.specs.Routes.{put_there}
use Rattle.script_disks.proofs.Recorded.{added_local, added_remote, on_ok_both}
use Rattle.script_disks.proofs.routes.Lanes.add.Goals as goal

pub returns-in-Local : goal.returns-in-Local
returns-in-Local c =
    let old = c.args.self.now in
    on_ok_weaker c.put.result
    (λ both recipients are.
    added_local c.args.controls.now recipients c.args.address.now c.in-Local.routed old (record { local = c.put.new.text; remote = old.remote; routed = c.put.new.routed }) are
    (sym c.in-Local.is ∙ c.in_ok-routed.ensures)
    (both.0 ∙ ap (λ a. old.local.items ++ record_of a) c.as_slice.ensures) refl
    (both.1 ∙ ap (λ a. old.routed.items ++ put_there c.args.controls.now channel.Local (length old.local.items) a ∷ []) c.as_slice.ensures))
    (on_ok_both _ _ c.put.result c.put.ensures.text c.put.ensures.routed)

pub returns-in-Remote : goal.returns-in-Remote
returns-in-Remote c =
    let old = c.args.self.now in
    on_ok_weaker c.put-in-Remote.result
    (λ both recipients are.
    added_remote c.args.controls.now recipients c.args.address.now c.in-Remote.routed old (record { local = old.local; remote = c.put-in-Remote.new.text; routed = c.put-in-Remote.new.routed }) are
    (sym c.in-Remote.is ∙ c.in_ok-routed.ensures)
    (both.0 ∙ ap (λ a. old.remote.items ++ record_of a) c.as_slice-in-Remote.ensures) refl
    (both.1 ∙ ap (λ a. old.routed.items ++ put_there c.args.controls.now channel.Remote (length old.remote.items) a ∷ []) c.as_slice-in-Remote.ensures))
    (on_ok_both _ _ c.put-in-Remote.result c.put-in-Remote.ensures.text c.put-in-Remote.ensures.routed)
