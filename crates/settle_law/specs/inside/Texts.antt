-- That todo files are todo texts.
use Rattle.std.specs.Prelude.{◌≡◌, ℕ, List, true, Err, Some}
use Rattle.std.specs.List.{list_all}
use Rattle.address_rules.specs.declared.controls.Controls.{Controls}
use Rattle.call_fs.specs.Disk.{Disk}
use Rattle.queue_inject.specs.Texts.{intd_text}
use Rattle.queue_law.specs.Books.{Injection, IsValid}
use Rattle.todo_pass.specs.Sorting.{sort_todo}
use Rattle.mail_world.specs.History.{Event, Legal, after}
use Rattle.settle_law.specs.Well.{goes_well}

-- Where nothing fails the todo file of each valid message reads as a todo text, since its injector's user and process have a system's numbers.
abbrev pub TodoTextsAreRead : Type 0
TodoTextsAreRead = (d : Disk) (h : List Event) → Legal d h → list_all goes_well h ≡ true → (n : ℕ) (i : Injection) → (after d h).books.living n ≡ Some i → IsValid i.args
    → (controls : Controls) (place : ℕ) → sort_todo controls (intd_text i.args).bytes ≡ Err place → ⊥
