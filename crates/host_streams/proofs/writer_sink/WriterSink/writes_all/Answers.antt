use Rattle.std.proofs.Common.{◌≡◌, ◌++◌, take, subst, sym, ap}
use Rattle.host_streams.proofs.Written.{both, kept, moved}
use Rattle.host_streams.proofs.writer_sink.WriterSink.writes_all.Goals.{in-Ok, in-Err}
use Rattle.host_streams.proofs.writer_sink.WriterSink.writes_all.Goals as goal

pub loop-preserved : goal.loop-preserved
loop-preserved g c =
    let (same, gone) = c.loop.invariant in
    let (done, split, appended) = gone in
    let left = c.loop.left.now in
    elim c.match-write.branch [
      | in-Ok w ↦ (
        same,
        (
          done ++ take w.in-Ok.count left,
          subst (λ l. c.args.bytes.now ≡ (done ++ take w.in-Ok.count left) ++ l) (sym (ap (λ x. x.now) w.left-is)) (moved _ done left w.in-Ok.count split),
          both _ _ _ done (take w.in-Ok.count left) appended w.in-Ok.ensures.bytes,
        ),
      )
      | in-Err w ↦ (same, (done, subst (λ l. c.args.bytes.now ≡ done ++ l) (sym (ap (λ x. x.now) w.left-is)) split, kept _ _ _ done appended w.in-Err.ensures.bytes))
    ]
