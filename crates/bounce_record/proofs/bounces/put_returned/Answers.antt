use Rattle.std.proofs.Common.{[], ◌++◌, codes}
use Rattle.mail_bytes.specs.Texts.{line}
use Rattle.bounce_record.proofs.Pieces.{six}
use Rattle.bounce_record.proofs.bounces.put_returned.Goals as goal

pub returns : goal.returns
returns c =
    let path = line (codes "Return-Path: <" ++ (c.args.sender.now ++ codes ">")) in
    six c.args.text.now.items (line []) c.args.notes.now (line c.args.title.now) (line []) path c.args.message.now
    c.in_ok-put_line.ensures c.in_ok-extend_from_slice.ensures.items c.in_ok-put_line-2.ensures c.in_ok-put_line-3.ensures c.in_ok-put_around.ensures
    c.in_ok-extend_from_slice-2.ensures.items
