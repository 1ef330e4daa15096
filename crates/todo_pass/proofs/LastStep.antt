-- The cleaner's answer changes nothing of a todo pass except its row.
use Rattle.std.proofs.Common.{◌≡◌, ℕ, ap}
use Rattle.address_rules.specs.declared.controls.Controls.{Controls}
use Rattle.call_fs.specs.declared.past.GotData.{GotData}
use Rattle.todo_pass.specs.declared.row.Row.TheVariants as todo
use Rattle.todo_pass.specs.Table.{Pass, moved, moved_at}
use Rattle.todo_pass.specs.Known.{known_of}
use Rattle.todo_pass.specs.Lines.{queued_lines}

pub answer_known : (controls : Controls) (p : Pass) (now : ℕ) (came : GotData) → p.row ≡ todo.Answer → known_of (moved controls p now came) ≡ known_of p
answer_known controls p now came e = ap (λ r. known_of (moved_at controls r p now came)) e

pub answer_queued : (controls : Controls) (p : Pass) (now : ℕ) (came : GotData) → p.row ≡ todo.Answer → queued_lines (moved controls p now came) ≡ queued_lines p
answer_queued controls p now came e = ap (λ r. queued_lines (moved_at controls r p now came)) e
