use Rattle.std.proofs.Common.{◌≡◌, ◌+◌, take, sym, ap, ◌∙◌, subst}
use Rattle.mem_fs.specs.MemDisk.{disk_of, with_held, Planned}
use Rattle.script_words.specs.Entries.{dirs_above}
use Rattle.script_disks.specs.FirstDisk.{AreMade}
use Rattle.script_disks.proofs.MadeDirs.{above_slash, above_other}
use Rattle.script_disks.proofs.opening_disk.make_above.Goals as goal
use Rattle.script_disks.proofs.opening_disk.make_above.Goals.{then-path-at-eq47+in_ok-make, else-path-at-eq47}

pub loop-at-preserved : goal.loop-at-preserved
loop-at-preserved c =
    let start = disk_of c.args.disk.now.held in
    let path = c.args.path.now in
    let i = c.loop-at.at in
    let inv = c.loop-at.invariant in
    elim c.if-path-at-eq47.branch [
      | then-path-at-eq47+in_ok-make w ↦ (
        subst (λ (m : Planned). AreMade start (dirs_above (take (i + 1) path)) (disk_of m.held)) (sym w.disk-is)
            (above_slash start (disk_of c.loop-at.disk.held) (disk_of w.make.new.disk.held) path i 0 c.loop-at-test.true w.if-path-at-eq47.true inv.0 w.in_ok-make.ensures.made),
        ap (λ v. v.items) w.dirs-is ∙ w.in_ok-make.ensures.listed ∙ ap (λ (m : Planned). m.held.dirs) (sym w.disk-is),
        subst (λ (m : Planned). m ≡ with_held c.args.disk.now m.held) (sym w.disk-is)
            (w.in_ok-make.ensures.rest ∙ ap (λ (m : Planned). with_held m w.make.new.disk.held) inv.2),
      )
      | else-path-at-eq47 w ↦ (
        subst (λ (m : Planned). AreMade start (dirs_above (take (i + 1) path)) (disk_of m.held)) (sym w.disk-is)
            (above_other start (disk_of c.loop-at.disk.held) path i 0 c.loop-at-test.true w.if-path-at-eq47.false inv.0),
        ap (λ v. v.items) w.dirs-is ∙ inv.1 ∙ ap (λ (m : Planned). m.held.dirs) (sym w.disk-is),
        subst (λ (m : Planned). m ≡ with_held c.args.disk.now m.held) (sym w.disk-is) inv.2,
      )
    ]
