-- A run of a pass: it did what was due, and nothing else.
use Rattle.std.specs.Prelude.{ℕ, List}
use Rattle.address_rules.specs.declared.controls.Controls.{Controls}
use Rattle.call_fs.specs.declared.past.Own.{Own}
use Rattle.call_fs.specs.Past.{IsRunBy}
use Rattle.todo_pass.specs.Table.{Next}

-- each event of the past, newest first, was due after those before it
abbrev pub IsRun : Controls → ℕ → List Own → Type 0
IsRun controls n past = IsRunBy (Next (record { n = n; controls = controls })) past
