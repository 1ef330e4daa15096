use Rattle.std.proofs.Common.{◌≡◌, ◌++◌, length, take, take-append-drop, ap, ◌∙◌, arith}
use Rattle.local_parts.proofs.Joined.{all_more, pieces_more}
use Rattle.local_parts.proofs.blocks.put_blocks.Goals as goal

pub loop-rest-preserved : goal.loop-rest-preserved
loop-rest-preserved c =
    let rest = c.loop-rest.rest.now in
    let items = c.in_ok-push.ensures.items in
    let next = c.in_ok-next.ensures in
    let size = ap length next in
    let front = c.split_at.ensures.front in
    let back = c.split_at.ensures.back in
    let count = c.split_at.ensures.front_len in
    let least = c.min.ensures in
    let both : c.split_at.result.0.now ++ c.split_at.result.1.now ≡ rest =
    ap (λ t. t ++ c.split_at.result.1.now) front ∙ ap (λ t. take c.min.result rest ++ t) back ∙ take-append-drop c.min.result rest in
    record {
      short = all_more _ _ c.loop-rest.newest items c.loop-rest.invariant.short c.loop-rest.invariant.newest;
      newest = omega (arith, size, count, least);
      bytes = pieces_more _ _ c.loop-rest.newest _ c.split_at.result.0.now c.split_at.result.1.now rest _ items next both c.loop-rest.invariant.bytes;
    }
