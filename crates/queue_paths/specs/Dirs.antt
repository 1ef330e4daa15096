-- The directories that hold the queue's files (qmail's INTERNALS, "Queue structure").
use Rattle.std.specs.Prelude.{ℕ, zero, suc, List, [], ◌∷◌, ◌++◌, codes}
use Rattle.mail_bytes.specs.Decimal.{digits}
use Rattle.queue_paths.specs.declared.dirs.TheConstants.{SPLITS}

-- a directory of so many splits: `DIR/S` for each S below that, the last one first
abbrev pub splits_of : List ℕ → ℕ → List (List ℕ)
splits_of dir zero = []
splits_of dir (suc n) = (dir ++ 47 ∷ digits n) ∷ splits_of dir n

-- four plain ones, and one for each split below each of mess, info, local, remote, intdx and todox
abbrev pub queue_dirs : List (List ℕ)
queue_dirs =
    (codes "pid" ∷ codes "intd" ∷ codes "todo" ∷ codes "bounce" ∷ [])
    ++ (splits_of (codes "mess") SPLITS ++ (splits_of (codes "info") SPLITS ++ (splits_of (codes "local") SPLITS ++ (splits_of (codes "remote") SPLITS
    ++ (splits_of (codes "intdx") SPLITS ++ splits_of (codes "todox") SPLITS)))))
