-- Which pass stands for which past, that it doesn't store.
use Rattle.std.specs.Prelude.{◌≡◌, List}
use Rattle.call_fs.specs.declared.past.NeedData.{NeedData}
use Rattle.call_fs.specs.declared.past.Own.{Own}
use Rattle.todo_pass.specs.declared.arguments.Arguments.{Arguments}
use Rattle.todo_pass.specs.declared.machine.TodoPass.{TodoPass}
use Rattle.todo_pass.specs.Table.{place_after, due_by}

-- it has these controls, and is the pass of this number after this past, newest event first
pub record Stands (machine : TodoPass) (args : Arguments) (past : List Own) : Type 0 where
  pub controls_are : machine.controls.now ≡ args.controls
  pub pass_is : machine.pass ≡ place_after args.controls args.n past

abbrev pub due_now : TodoPass → NeedData
due_now machine = due_by machine.pass
