-- The state of a number by its very names.
use Rattle.std.proofs.Common.{◌≡◌, ℕ, Bool, ap, ◌∙◌}
use Rattle.std.specs.Prelude.{◌||◌, is_some}
use Rattle.call_fs.specs.Disk.{Disk}
use Rattle.queue_paths.specs.Names.{Part}
use Rattle.queue_paths.specs.Names.Part.{Mess, Intd, Todo, Info, Local, Remote, Bounce, SplitIntd, SplitTodo}
use Rattle.queue_paths.specs.Parts.{parts_of}
use Rattle.queue_paths.proofs.Parts.{intd_some, todo_some}
use Rattle.queue_states.specs.States.{state_by, state_of, is_there, is_in_todo}

-- a name of either layout is there
abbrev pub is_either : Disk → Part → Part → ℕ → Bool
is_either d one other n = is_there d one n || is_there d other n

pub state_named : (d : Disk) (n : ℕ) → state_of d n
    ≡ state_by (is_there d Mess n) (is_either d Intd SplitIntd n) (is_either d Todo SplitTodo n) (is_there d Info n) (is_there d Local n) (is_there d Remote n) (is_there d Bounce n)
state_named d n =
    ap (λ (b : Bool). state_by (is_there d Mess n) b (is_in_todo d n) (is_there d Info n) (is_there d Local n) (is_there d Remote n) (is_there d Bounce n)) (intd_some (parts_of d.names n))
    ∙ ap (λ (b : Bool). state_by (is_there d Mess n) (is_either d Intd SplitIntd n) b (is_there d Info n) (is_there d Local n) (is_there d Remote n) (is_there d Bounce n)) (todo_some (parts_of d.names n))
