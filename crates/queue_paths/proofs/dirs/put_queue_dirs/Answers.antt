use Rattle.std.proofs.Common.{[], ◌∷◌}
use Rattle.std.specs.Prelude.{codes}
use Rattle.std.proofs.lemmas.Result.{on_ok_weaker}
use Rattle.queue_paths.specs.Dirs.{splits_of}
use Rattle.queue_paths.specs.declared.dirs.TheConstants.{SPLITS}
use Rattle.queue_paths.proofs.Joined.{dirs-twice, all_dirs}
use Rattle.queue_paths.proofs.dirs.put_queue_dirs.Goals as goal

pub returns : goal.returns
returns c =
    let start = c.args.dirs.now.items in
    let flat = dirs-twice start c.put_dir-3.new.dirs.items c.put_dir-4.new.dirs.items (codes "pid" ∷ codes "intd" ∷ codes "todo" ∷ []) (codes "bounce" ∷ [])
    (dirs-twice start c.put_dir-2.new.dirs.items c.put_dir-3.new.dirs.items (codes "pid" ∷ codes "intd" ∷ []) (codes "todo" ∷ [])
    (dirs-twice start c.put_dir.new.dirs.items c.put_dir-2.new.dirs.items (codes "pid" ∷ []) (codes "intd" ∷ []) c.in_ok-put_dir.ensures c.in_ok-put_dir-2.ensures)
    c.in_ok-put_dir-3.ensures)
    c.in_ok-put_dir-4.ensures in
    on_ok_weaker c.put_splits-6.result
    (λ last. all_dirs start c.put_dir-4.new.dirs.items c.put_splits.new.dirs.items c.put_splits-2.new.dirs.items c.put_splits-3.new.dirs.items c.put_splits-4.new.dirs.items c.put_splits-5.new.dirs.items c.put_splits-6.new.dirs.items
    (codes "pid" ∷ codes "intd" ∷ codes "todo" ∷ codes "bounce" ∷ []) (splits_of (codes "mess") SPLITS) (splits_of (codes "info") SPLITS) (splits_of (codes "local") SPLITS) (splits_of (codes "remote") SPLITS)
    (splits_of (codes "intdx") SPLITS) (splits_of (codes "todox") SPLITS)
    flat c.in_ok-put_splits.ensures c.in_ok-put_splits-2.ensures c.in_ok-put_splits-3.ensures c.in_ok-put_splits-4.ensures c.in_ok-put_splits-5.ensures last)
    c.put_splits-6.ensures
