-- Lines that are reached, and the drops among them.
use Rattle.std.proofs.Common.{◌≡◌, ℕ, List, [], ◌∷◌, ◌++◌, subst}
use Rattle.dot_qmail.specs.declared.line.Line.{Line}
use Rattle.dot_qmail.specs.declared.line.Line.TheVariants as line
use Rattle.local_parts.specs.declared.arguments.LocalArgs.{LocalArgs}
use Rattle.local_parts.specs.Course.{after_work, up_to_work, work_of}
use Rattle.local_parts.specs.Course.Work.{Nothing, ToCommand, ToMaildir}
use Rattle.local_deliver.specs.Carried.{AreDrops, IsDropLink, Reaches}
use Rattle.local_deliver.specs.Carried.AreDrops.{NoDrops, ByForward, ByCommand, ByMaildir}
use Rattle.local_deliver.specs.Carried.Reaches.{AtEnd, AtStop, PastCommand, PastForward, PastMaildir}
use Rattle.local_deliver.specs.Deeds.{Exited, LinkMade}

-- nothing but forwards is left

pub ends : (ahead : List Line) → work_of ahead ≡ Nothing → Reaches ahead [] ahead
ends [] e = AtEnd
ends (line.Forward address ∷ more) e = PastForward address more [] more (ends more e)
ends (line.Command text ∷ more) e = absurd (cc)
ends (line.Maildir path ∷ more) e = absurd (cc)
ends (line.Mailbox path ∷ more) e = absurd (cc)

-- the next work is a maildir

pub past_maildir : (ahead : List Line) (path : List ℕ) (exited : List Exited) (reached : List Line) → work_of ahead ≡ ToMaildir path → Reaches (after_work ahead) exited reached
    → Reaches ahead exited (up_to_work ahead ++ reached)
past_maildir [] path exited reached e r = absurd (cc)
past_maildir (line.Forward address ∷ more) path exited reached e r = PastForward address more exited (up_to_work more ++ reached) (past_maildir more path exited reached e r)
past_maildir (line.Command text ∷ more) path exited reached e r = absurd (cc)
past_maildir (line.Maildir other ∷ more) path exited reached e r = PastMaildir other more exited reached r
past_maildir (line.Mailbox other ∷ more) path exited reached e r = absurd (cc)

-- a command, that exits with 0 or with 99

pub past_command : (ahead : List Line) (text : List ℕ) (exited : List Exited) (reached : List Line) → work_of ahead ≡ ToCommand text → Reaches (after_work ahead) exited reached
    → Reaches ahead ((text, 0) ∷ exited) (up_to_work ahead ++ reached)
past_command [] text exited reached e r = absurd (cc)
past_command (line.Forward address ∷ more) text exited reached e r = PastForward address more ((text, 0) ∷ exited) (up_to_work more ++ reached) (past_command more text exited reached e r)
past_command (line.Command other ∷ more) text exited reached e r =
    let same : other ≡ text = cc in
    subst (λ t. Reaches (line.Command other ∷ more) ((t, 0) ∷ exited) (line.Command other ∷ reached)) same (PastCommand other more exited reached r)
past_command (line.Maildir path ∷ more) text exited reached e r = absurd (cc)
past_command (line.Mailbox path ∷ more) text exited reached e r = absurd (cc)

pub stops : (ahead : List Line) (text : List ℕ) → work_of ahead ≡ ToCommand text → Reaches ahead ((text, 99) ∷ []) (up_to_work ahead)
stops [] text e = absurd (cc)
stops (line.Forward address ∷ more) text e = PastForward address more ((text, 99) ∷ []) (up_to_work more) (stops more text e)
stops (line.Command other ∷ more) text e =
    let same : other ≡ text = cc in
    subst (λ t. Reaches (line.Command other ∷ more) ((t, 99) ∷ []) (line.Command other ∷ [])) same (AtStop other more)
stops (line.Maildir path ∷ more) text e = absurd (cc)
stops (line.Mailbox path ∷ more) text e = absurd (cc)

-- Drops

module _ (args : LocalArgs) (host message : List ℕ) where
  abbrev Drops : List Line → List LinkMade → Type 0
  Drops lines made = AreDrops args host message lines made

  pub more_drops : (xs ys : List Line) (made later : List LinkMade) → Drops xs made → Drops ys later → Drops (xs ++ ys) (made ++ later)
  more_drops _ ys _ later NoDrops h = h
  more_drops _ ys _ later (ByForward address more made d) h = ByForward address (more ++ ys) (made ++ later) (more_drops more ys made later d h)
  more_drops _ ys _ later (ByCommand text more made d) h = ByCommand text (more ++ ys) (made ++ later) (more_drops more ys made later d h)
  more_drops _ ys _ later (ByMaildir path more it made is d) h = ByMaildir path (more ++ ys) it (made ++ later) is (more_drops more ys made later d h)

  pub no_drops : (ahead : List Line) → work_of ahead ≡ Nothing → Drops ahead []
  no_drops [] e = NoDrops
  no_drops (line.Forward address ∷ more) e = ByForward address more [] (no_drops more e)
  no_drops (line.Command text ∷ more) e = absurd (cc)
  no_drops (line.Maildir path ∷ more) e = absurd (cc)
  no_drops (line.Mailbox path ∷ more) e = absurd (cc)

  pub none_by_command : (ahead : List Line) (text : List ℕ) → work_of ahead ≡ ToCommand text → Drops (up_to_work ahead) []
  none_by_command [] text e = absurd (cc)
  none_by_command (line.Forward address ∷ more) text e = ByForward address (up_to_work more) [] (none_by_command more text e)
  none_by_command (line.Command other ∷ more) text e = ByCommand other [] [] NoDrops
  none_by_command (line.Maildir path ∷ more) text e = absurd (cc)
  none_by_command (line.Mailbox path ∷ more) text e = absurd (cc)

  pub one_by_maildir : (ahead : List Line) (path : List ℕ) (it : LinkMade) → work_of ahead ≡ ToMaildir path → IsDropLink args host message path it → Drops (up_to_work ahead) (it ∷ [])
  one_by_maildir [] path it e is = absurd (cc)
  one_by_maildir (line.Forward address ∷ more) path it e is = ByForward address (up_to_work more) (it ∷ []) (one_by_maildir more path it e is)
  one_by_maildir (line.Command text ∷ more) path it e is = absurd (cc)
  one_by_maildir (line.Maildir other ∷ more) path it e is =
      let same : path ≡ other = cc in
      ByMaildir other [] it [] (subst (λ t. IsDropLink args host message t it) same is) NoDrops
  one_by_maildir (line.Mailbox other ∷ more) path it e is = absurd (cc)
