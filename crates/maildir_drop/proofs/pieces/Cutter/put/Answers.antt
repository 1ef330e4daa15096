use Rattle.std.proofs.Common.{◌≡◌, ◌++◌, ◌-◌, length, take, drop, ap, ◌∙◌, arith, length-drop}
use Rattle.std.proofs.lemmas.List.{take_all}
use Rattle.maildir_drop.proofs.Cutting.{put_full}
use Rattle.maildir_drop.proofs.pieces.Cutter.put.Goals as goal

pub returns : goal.returns
returns c =
    let i = c.self.inside in
    let room = 8192 - c.len-room.result in
    let block = c.args.block.now in
    let more = drop room block in
    let whole : take (length block - room) more ≡ more = take_all (length block - room) more (omega (arith, length-drop room block)) in
    put_full i.full.items c.push.new.self.items i.last block c.args.self.now c.replace-full.result c.replace-full.new.dest room
    (c.replace-full.ensures.value ∙ c.in_ok-extend.ensures.ok)
    (c.replace-full.ensures.after ∙ c.from_vec.ensures ∙ c.in_ok-extend_from_slice.ensures.items ∙ ap (λ t. c.in_ok-rest.rest.items ++ t) whole ∙ ap (λ t. t ++ more) c.in_ok-rest.ensures.items)
    c.in_ok-push.ensures.items c.self.view_is
