-- The states of a message number (INTERNALS, "Queue structure").
use Rattle.std.specs.Prelude.{ℕ, Bool, true, false, List, [], ◌∷◌, is_some}
use Rattle.call_fs.specs.Disk.{Disk}
use Rattle.queue_paths.specs.Names.{Part, path}
use Rattle.queue_paths.specs.Parts.{in_intd, in_todo, parts_of}
use Rattle.queue_paths.specs.Names.Part.{Mess, Info, Local, Remote, Bounce}
use Rattle.queue_paths.specs.Names.Name.{Of}
use Rattle.queue_states.specs.declared.state.State.{State}
use Rattle.queue_states.specs.declared.state.State.TheVariants.{S1, S2, S3, S4, S5, Other}

-- by which files are there: mess, intd, todo, info, local, remote, bounce; intd and todo under a name of either layout
abbrev pub state_by : Bool → Bool → Bool → Bool → Bool → Bool → Bool → State
state_by false false false false false false false = S1
state_by true false false false false false false = S2
state_by true true false false false false false = S3
state_by true intd true info local remote false = S4
state_by true false false true local remote bounce = S5
state_by mess intd todo info local remote bounce = Other

-- the same of a list
abbrev pub state_by_all : List Bool → State
state_by_all (mess ∷ intd ∷ todo ∷ info ∷ local ∷ remote ∷ bounce ∷ []) = state_by mess intd todo info local remote bounce
state_by_all present = Other

abbrev pub is_there : Disk → Part → ℕ → Bool
is_there d part n = is_some (d.names (path (Of part n)))

-- it has a name in intd, and in todo
abbrev pub is_in_intd : Disk → ℕ → Bool
is_in_intd d n = is_some (in_intd (parts_of d.names n))

abbrev pub is_in_todo : Disk → ℕ → Bool
is_in_todo d n = is_some (in_todo (parts_of d.names n))

-- the state of number n on this disk
abbrev pub state_of : Disk → ℕ → State
state_of d n =
    state_by (is_there d Mess n) (is_in_intd d n) (is_in_todo d n) (is_there d Info n) (is_there d Local n) (is_there d Remote n) (is_there d Bounce n)
