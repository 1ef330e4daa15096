use Rattle.std.proofs.Common.{◌≡◌, map, filter, take, nat_eq, slice_get}
use Rattle.call_fs.specs.Choices.{after_kept}
use Rattle.mem_files.proofs.junk.read_values.Given as goal

abbrev pub invariant-loop-given : goal.invariant-loop-given
invariant-loop-given l =
    l.values.items ≡ after_kept (slice_get l.file.kept l.place) (map (λ g. g.1) (filter (λ g. nat_eq g.0 l.place) (take l.given-index l.given-items)))
