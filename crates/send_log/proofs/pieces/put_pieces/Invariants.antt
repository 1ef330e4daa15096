use Rattle.std.proofs.Common.{◌≡◌, ◌++◌, ◌+◌, ◌≤◌, take, vec_len, vec_capacity}
use Rattle.std.specs.List.{flat_map, sum_by}
use Rattle.send_log.specs.Pieces.{piece_text, piece_room}
use Rattle.send_log.proofs.pieces.put_pieces.Given as goal

abbrev pub invariant-loop-piece : goal.invariant-loop-piece
invariant-loop-piece l = record {
  items : l.text.items ≡ l.initial.text.items ++ flat_map piece_text (take l.piece-index l.pieces);
  short : vec_len l.text ≤ vec_len l.initial.text + sum_by piece_room (take l.piece-index l.pieces);
  capacity : vec_capacity l.initial.text ≤ vec_capacity l.text;
}
