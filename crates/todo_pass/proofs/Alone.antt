-- A pass that nobody disturbs.
use Rattle.std.proofs.Common.{◌≡◌, ℕ, List, [], ◌∷◌, Option, Some, None, refl, sym, subst}
use Rattle.std.specs.Option.{IfSome}
use Rattle.address_rules.specs.declared.controls.Controls.{Controls}
use Rattle.call_fs.specs.declared.calls.Fd.{Fd}
use Rattle.call_fs.specs.declared.past.Own.{Own}
use Rattle.call_fs.specs.Disk.{Disk}
use Rattle.call_fs.specs.Past.{LeadsTo as LeadsAlone}
use Rattle.todo_pass.specs.declared.row.Row.{Row}
use Rattle.todo_pass.specs.Disks.{LeaveAlone, LeadsTo, fd_in}
use Rattle.todo_pass.specs.Table.{place_after}
use Rattle.todo_pass.proofs.Files.{same_all}

same_open : (o : Option Fd) (d : Disk) → IfSome o (λ fd. d.opens fd.0 ≡ d.opens fd.0)
same_open None d = tt
same_open (Some fd) d = refl

left_alone : (n : ℕ) (row : Row) (d : Disk) → LeaveAlone n row d d
left_alone n row d = record { parts = λ q held. same_all n q d; descriptor = same_open (fd_in row) d }

pub alone : (controls : Controls) (n : ℕ) (past : List Own) (first last : Disk) → LeadsAlone first past last → LeadsTo controls n first past last
alone controls n [] first last is = subst (λ d. LeaveAlone n (place_after controls n []).row first d) (sym is) (left_alone n (place_after controls n []).row first)
alone controls n (event ∷ before) first last leads =
    (leads.0, last, alone controls n before first leads.0 leads.1, leads.2, left_alone n (place_after controls n (event ∷ before)).row last)
