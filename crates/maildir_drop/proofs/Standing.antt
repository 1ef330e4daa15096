-- A drop that stands for a past stands, after an event, for the past with it.
use Rattle.std.proofs.Common.{◌≡◌, ℕ, List, [], ◌∷◌, ap, ◌∙◌, Bool, refl}
use Rattle.std.specs.Bool.{Decides}
use Rattle.std.proofs.lemmas.Bool.{false≢true}
use Rattle.std.proofs.lemmas.Bool.Decides.{same_from_decides}
use Rattle.std.specs.Prelude.{Result, Ok, Err, OnOk}
use Rattle.call_fs.specs.declared.past.Own.{Own}
use Rattle.call_fs.specs.declared.program.Ready.{Ready}
use Rattle.maildir_drop.specs.declared.arguments.Arguments.{Arguments}
use Rattle.maildir_drop.specs.declared.machine.MaildirDrop.{MaildirDrop}
use Rattle.maildir_drop.specs.declared.row.Attempt.TheVariants.{First}
use Rattle.maildir_drop.specs.declared.row.Row.{Row}
use Rattle.maildir_drop.specs.Names.{names_of}
use Rattle.maildir_drop.specs.Stands.{Stands, due_now, place_of}
use Rattle.maildir_drop.specs.Table.{Next, Place, begin_row, due_at, is_complete, moved}

pub on_ok : {T E P : Type 0} (r : Result T E) → P → OnOk r P
on_ok (Ok x) p = p
on_ok (Err e) p = tt

pub stands_on : (m n : MaildirDrop) (args : Arguments) (past : List Own) (event : Own) → Stands m args past → n.names ≡ m.names
    → place_of n ≡ moved m.names (place_of m) event.came → Stands n args (event ∷ past)
stands_on m n args past event s same on = record {
  names_are = same ∙ s.names_are;
  place_is = on ∙ ap (λ names. moved names (place_of m) event.came) s.names_are ∙ ap (λ p. moved (names_of args) p event.came) s.place_is;
}

-- what it needs is the next of its table
pub due_is : (m : MaildirDrop) (args : Arguments) (past : List Own) (now : ℕ) (ready : Ready) → Stands m args past → due_now m ≡ Next args past now ready
due_is m args past now ready s =
    ap (λ names. due_at names m.row m.left) s.names_are ∙ ap (λ (p : Place). due_at (names_of args) p.row p.left) s.place_is

-- the same row and bytes are the same place
pub place_with : (r s : Row) (x y : List ℕ) → r ≡ s → x ≡ y → ◌≡◌ {A = Place} (record { row = r; left = x }) (record { row = s; left = y })
place_with r s x y e f =
    let at_row : Row → Place = λ t. record { row = t; left = x } in
    let at_left : List ℕ → Place = λ t. record { row = s; left = t } in
    ap at_row e ∙ ap at_left f

-- before the first step
pub begun_stands : (m : MaildirDrop) (args : Arguments) → m.names ≡ names_of args → m.row ≡ begin_row m.names First → m.left ≡ args.bytes → Stands m args []
begun_stands m args same row left = record {
  names_are = same;
  place_is = place_with m.row (begin_row (names_of args) First) m.left args.bytes (row ∙ ap (λ names. begin_row names First) same) left;
}

-- whether all is written
complete_decides : (left : List ℕ) → Decides (is_complete left) (left ≡ [])
complete_decides [] = (λ e. refl, λ e. refl)
complete_decides (b ∷ left) = (λ e. absurd (false≢true e), λ e. absurd (some e))
  where
    some : ◌≡◌ {A = List ℕ} (b ∷ left) [] → ⊥
    some e = cc

pub complete_is : (left : List ℕ) (r : Bool) → Decides r (left ≡ []) → r ≡ is_complete left
complete_is left r h = same_from_decides r (is_complete left) h (complete_decides left)
