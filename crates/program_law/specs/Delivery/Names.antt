-- The names of drops: none is the queue's, none a control file's, and none is one that a cleaner takes away.
use Rattle.std.specs.Prelude.{◌≡◌, ◌⊎◌, ℕ, List, ◌++◌, codes}
use Rattle.address_rules.specs.declared.control_file.ControlFile.{ControlFile}
use Rattle.dot_qmail.specs.Paths.{EndsInSlash}
use Rattle.maildir_drop.specs.declared.arguments.Arguments.{Arguments}
use Rattle.maildir_drop.specs.declared.row.Attempt.{Attempt}
use Rattle.maildir_drop.specs.Names.{names_of, pair_at}
use Rattle.queue_clean.specs.Table.{pid_path}
use Rattle.queue_paths.specs.Names.{Name, path}
use Rattle.queue_law.specs.Cleaners.{IsOnePart}
use Rattle.send_parts.specs.Steps.{control_text}

-- The name has `/tmp/` or `/new/` in it, as `home/j/Maildir/tmp/10.82.localhost` and `pid/new/10.82.localhost` have.
pub record IsDropName (name : List ℕ) : Type 0 where
  pub front : List ℕ
  pub rest : List ℕ
  pub is : (name ≡ front ++ (codes "/tmp/" ++ rest)) ⊎ (name ≡ front ++ (codes "/new/" ++ rest))

-- The name has `/tmp/` in it, as that of a drop has until its unlink.
pub record IsTmpName (name : List ℕ) : Type 0 where
  pub front : List ℕ
  pub rest : List ℕ
  pub is : name ≡ front ++ (codes "/tmp/" ++ rest)

-- Each name of a drop is such a name, if the path of its maildir ends in `/`, whatever else that path and the name of the host are. The
-- queue's names are none, control files have none, and a name of one part in `pid` is none.
pub record NamesAreApart : Type 0 where
  pub drops : (args : Arguments) (attempt : Attempt) → EndsInSlash args.dir
      → IsDropName (pair_at (names_of args) attempt).tmp × IsDropName (pair_at (names_of args) attempt).new
  pub queue : (x : Name) → IsDropName (path x) → ⊥
  pub controls : (f : ControlFile) → IsDropName (control_text f) → ⊥
  pub pid : (part : List ℕ) → IsOnePart part → IsDropName (pid_path part) → ⊥
