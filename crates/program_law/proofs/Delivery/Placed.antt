-- The names of a delivery's drops have `/tmp/` and `/new/` in them, since the path of a maildir line ends in `/`; and those in `tmp` and
-- `new` differ.
use Rattle.std.proofs.Common.{◌≡◌, ℕ, List, [], ◌∷◌, Option, Some, None, sym, subst}
use Rattle.call_fs.specs.declared.past.Own.{Own}
use Rattle.call_fs.specs.Disk.{Disk}
use Rattle.dot_qmail.specs.declared.choice.Chosen.{Chosen}
use Rattle.dot_qmail.specs.declared.choice.Chosen.TheVariants as chosen
use Rattle.dot_qmail.specs.declared.line.Line.{Line}
use Rattle.dot_qmail.specs.Lines.{plan_of}
use Rattle.dot_qmail.specs.Paths.{EndsInSlash, path_in}
use Rattle.dot_qmail.proofs.Directories.{leads_slashed, maildir_slashed}
use Rattle.local_deliver.specs.Carried.{of_choice, of_file, of_read}
use Rattle.local_deliver.specs.Deeds.{FileText, read_of, told_names}
use Rattle.local_deliver.specs.Deeds.FileText.{Missing, SoFar, Unopened, Whole}
use Rattle.local_deliver.specs.Drops.{Drop, drop_arguments}
use Rattle.local_deliver.specs.Writes.{Writes}
use Rattle.local_parts.specs.declared.arguments.LocalArgs.{LocalArgs}
use Rattle.local_parts.specs.Choosing.{chosen_by, file_name}
use Rattle.local_parts.specs.Course.{default_text}
use Rattle.maildir_drop.specs.declared.arguments.Arguments.{Arguments}
use Rattle.maildir_drop.specs.declared.names.DropNames.{DropNames}
use Rattle.maildir_drop.specs.declared.row.Attempt.{Attempt}
use Rattle.maildir_drop.specs.Names.{pair_at}
use Rattle.maildir_drop.proofs.Drops.{Apart, apart}
use Rattle.program_law.specs.Delivery.Names.{IsDropName, IsTmpName}
use Rattle.program_law.proofs.Delivery.Apart.{drop_names, tmp_names}

abbrev pub ArePlaced : DropNames → Type 0
ArePlaced names = (attempt : Attempt) → IsDropName (pair_at names attempt).tmp × IsDropName (pair_at names attempt).new

abbrev pub AreInTmp : DropNames → Type 0
AreInTmp names = (attempt : Attempt) → IsTmpName (pair_at names attempt).tmp

-- the instructions are those of a text
of_bytes : (args : LocalArgs) (bytes : List ℕ) (lines : List Line) → of_file args bytes ≡ Some lines → (text : List ℕ) × (plan_of text ≡ Some lines)
of_bytes args [] lines e = (default_text args, e)
of_bytes args (b ∷ bytes) lines e = (b ∷ bytes, e)

of_reading : (args : LocalArgs) (read : FileText) (lines : List Line) → of_read args read ≡ Some lines → (text : List ℕ) × (plan_of text ≡ Some lines)
of_reading args Unopened lines e = absurd (cc)
of_reading args Missing lines e = absurd (cc)
of_reading args (SoFar bytes) lines e = absurd (cc)
of_reading args (Whole bytes) lines e = of_bytes args bytes lines e

of_text : (args : LocalArgs) (names : List (List ℕ)) (o : Option Chosen) (read : List ℕ → FileText) (lines : List Line) → of_choice args names o read ≡ Some lines
    → (text : List ℕ) × (plan_of text ≡ Some lines)
of_text args names None read lines e = absurd (cc)
of_text args names (Some chosen.Default) read lines e = (default_text args, e)
of_text args names (Some (chosen.File place)) read lines e = of_reading args (read (file_name args names place)) lines e

slashed : (args : LocalArgs) (past : List Own) (d : Disk) (it : Drop) → (w : Writes args past d it) → EndsInSlash (path_in args.home w.path)
slashed args past d it w =
    let text = of_text args (told_names args.home past) (chosen_by args (told_names args.home past)) (λ name. read_of name past) w.lines w.told in
    leads_slashed args.home w.path (maildir_slashed text.0 w.path w.lines text.1 w.line)

pub placed : (args : LocalArgs) (past : List Own) (d : Disk) (it : Drop) → Writes args past d it → ArePlaced it.names
placed args past d it w attempt =
    let of : Arguments = drop_arguments args w.moment w.path w.host w.message in
    subst (λ (n : DropNames). IsDropName (pair_at n attempt).tmp × IsDropName (pair_at n attempt).new) (sym w.names) (drop_names of attempt (slashed args past d it w))

pub in_tmp : (args : LocalArgs) (past : List Own) (d : Disk) (it : Drop) → Writes args past d it → AreInTmp it.names
in_tmp args past d it w attempt =
    let of : Arguments = drop_arguments args w.moment w.path w.host w.message in
    subst (λ (n : DropNames). IsTmpName (pair_at n attempt).tmp) (sym w.names) (tmp_names of attempt (slashed args past d it w))

pub differ : (args : LocalArgs) (past : List Own) (d : Disk) (it : Drop) → Writes args past d it → Apart it.names
differ args past d it w = subst Apart (sym w.names) (apart (drop_arguments args w.moment w.path w.host w.message))
