use Rattle.std.proofs.Common.{◌≡◌, length, refl, rules}
use Rattle.std.proofs.lemmas.Bool.{iff_false}
use Rattle.script_fates.specs.declared.routers.Routers.{Routers}
use Rattle.script_fates.proofs.Kept.{more_read, newest_at, newest_is, no_newest, not_newest, put_at, same_kept}
use Rattle.script_fates.proofs.routers.Routers.keep.Goals as goal
use Rattle.script_fates.proofs.routers.Routers.keep.Goals.{else-many-gt0-via-then-many-gt0+else-are_same, else-many-gt0-via-else-many-gt0}

pub returns-then-are_same : goal.returns-then-are_same
returns-then-are_same c =
    let long : c.len-many.result ≡ length c.args.self.now.read.items = search rules in record {
      place = newest_at c.args.self.now.read.items c.len-many.result c.index.result.now c.args.controls.now long c.if-many-gt0.true c.index.ensures (c.are_same.ensures.0 c.if-are_same.true);
      more = same_kept c.args.self.now;
      once = λ newest. refl;
    }

pub returns : goal.returns
returns c =
    let old : Routers = c.args.self.now in
    let long : c.len-many.result ≡ length c.args.self.now.read.items = search rules in
    let new : Routers = record { unrouted = old.unrouted; read = c.push.new.self } in
    record {
      place = put_at old.read.items new.read.items c.len-many.result c.in_ok-copied.field-0 c.args.controls.now long c.in_ok-push.ensures.items c.in_ok-copied.ensures;
      more = more_read old new c.in_ok-copied.field-0 refl c.in_ok-push.ensures.items;
      once = not_newest old.read.items new.read.items c.args.controls.now (λ newest. elim c.else-many-gt0.branch [
        | else-many-gt0-via-then-many-gt0+else-are_same w ↦ iff_false w.are_same.ensures w.if-are_same.false (newest_is old.read.items c.len-many.result w.index.result.now c.args.controls.now long w.index.ensures newest)
        | else-many-gt0-via-else-many-gt0 w ↦ no_newest old.read.items c.len-many.result c.args.controls.now long w.if-many-gt0.false newest
      ]);
    }
