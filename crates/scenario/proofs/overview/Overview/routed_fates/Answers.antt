use Rattle.std.proofs.Common.{◌≡◌, ◌∙◌, ◌++◌, ◌∷◌, [], List, ℕ, ap, ap₂, sym, subst}
use Rattle.std.proofs.lemmas.List.{map_more}
use Rattle.mem_fs.specs.MemDisk.{disk_of}
use Rattle.script_disks.specs.Records.{AreNoted}
use Rattle.script_traces.specs.declared.fates.RecipientFate.{RecipientFate}
use Rattle.scenario.specs.Shown.{fate_of, lasting}
use Rattle.scenario.specs.Viewed.{view_at}
use Rattle.scenario.proofs.overview.Overview.routed_fates.Goals as goal

pub loop-route-preserved : goal.loop-route-preserved
loop-route-preserved c books heard used noted =
    let name = c.args.entry.now.actor in
    let number = c.args.entry.now.number in
    let mail = c.as_slice-mail.result.now in
    let named : mail ≡ name = c.as_slice-mail.ensures in
    let routes = c.args.routes.now in
    let failed = c.args.failed in
    let i = c.loop-route.route-index in
    let told = fate_of (view_at c.args.self.now books) name number failed in
    let noted_so = subst (λ (a : List ℕ). AreNoted (disk_of c.args.self.now.disk.now.held) (lasting books a number) c.args.noted.now) (sym named) noted in
    let one : c.fate.result ≡ told c.route-item.result =
    c.fate.ensures books heard used noted_so
    ∙ ap (λ (a : List ℕ). fate_of (view_at c.args.self.now books) a number failed c.route-item.result) named in
    c.in_ok-push.ensures.items
    ∙ ap₂ (λ (fates : List RecipientFate) (fate : RecipientFate). fates ++ fate ∷ []) (c.loop-route.invariant books heard used noted) (one ∙ ap told c.route-item.is)
    ∙ sym (map_more told routes i c.route-item.result c.loop-route-test.true)
