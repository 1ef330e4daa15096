-- Messages that wait to be preprocessed.
use Rattle.std.proofs.Common.{◌≡◌, ℕ, ◌<◌, ◌^◌, List, [], ◌∷◌, true, Option, Some, None, refl, sym, subst, codes}
use Rattle.std.specs.Prelude.{Contains, drop, is_some}
use Rattle.std.proofs.lemmas.List.Elements.{Contains-append_left, Contains-append_right, Contains-push}
use Rattle.call_fs.specs.Disk.{Disk}
use Rattle.queue_law.specs.Numbers.{Phase, Role, about}
use Rattle.queue_law.specs.Numbers.Phase.{Finished, Free, Queued, Sorted}
use Rattle.queue_law.specs.Books.{Injection}
use Rattle.queue_paths.specs.Dirs.{queue_dirs}
use Rattle.queue_paths.specs.Names.{Part, path}
use Rattle.queue_paths.specs.Names.Name.{Of}
use Rattle.queue_paths.specs.Names.Part.{Bounce, Info, Local, Mess, Remote}
use Rattle.queue_paths.specs.Parts.{in_todo, is_split, parts_of}
use Rattle.queue_law.proofs.Waits.{no_split_name, todo_found}
use Rattle.queue_states.specs.declared.state.State.TheVariants.{S4}
use Rattle.queue_states.specs.States.{is_there, state_of, is_in_intd, is_in_todo}
use Rattle.world_law.proofs.Histories.{always}
use Rattle.mail_world.specs.History.{Event, Legal, Opening, State, after as after_events}
use Rattle.mail_world.specs.Untouched.{queue}
use Rattle.settle_law.specs.Well.{GoesWell}
use Rattle.settle_law.proofs.Dirs.{same_dirs}
use Rattle.settle_law.proofs.Queued.{queued}
use Rattle.settle_law.proofs.SmallNumbers.{numbers_are_small}

-- A message that waits to be preprocessed is a living one

pub living_by : (s : State) (n file : ℕ) (role : ℕ → Role) → Phase (about (queue s role) n) → in_todo (parts_of s.disk.names n) ≡ Some file → (i : Injection) × (s.books.living n ≡ Some i)
living_by s n file role (Free h) is = let here = todo_found s.disk.names s.disk.files n file is in let gone = h.no_todo in absurd (cc)
living_by s n file role (Queued h) is = (h.taken.injection, h.taken.lives)
living_by s n file role (Sorted h) is = let here = todo_found s.disk.names s.disk.files n file is in let gone = h.no_todo in absurd (cc)
living_by s n file role (Finished h) is = let here = todo_found s.disk.names s.disk.files n file is in let gone = h.no_todo in absurd (cc)

there_some : (o : Option ℕ) → is_some o ≡ true → (file : ℕ) × (o ≡ Some file)
there_some None e = absurd (cc)
there_some (Some file) e = (file, refl)

waits_living : (d : Disk) (h : List Event) (n : ℕ) → GoesWell d h → state_of (after_events d h).disk n ≡ S4 → (i : Injection) × ((after_events d h).books.living n ≡ Some i)
waits_living d h n well e =
    let s = after_events d h in
    let there = queued (is_there s.disk Mess n) (is_in_intd s.disk n) (is_in_todo s.disk n) (is_there s.disk Info n) (is_there s.disk Local n) (is_there s.disk Remote n) (is_there s.disk Bounce n) e in
    let file = there_some (in_todo (parts_of s.disk.names n)) there in
    let I = always d h well.legal in
    living_by s n file.0 I.role (I.sound.fine n) file.1

pub waits_small : (d : Disk) (h : List Event) (n : ℕ) → GoesWell d h → state_of (after_events d h).disk n ≡ S4 → n < 2 ^ 64
waits_small d h n well e = let i = waits_living d h n well e in (numbers_are_small d h well.legal well.well n i.0 i.1).1

-- No program makes a name of the split layout

pub no_split : (d : Disk) (h : List Event) → Legal d h → (part : Part) (n : ℕ) → is_split part ≡ true → (after_events d h).disk.names (path (Of part n)) ≡ None
no_split d h legal part n is =
    let s = after_events d h in
    let I = always d h legal in
    no_split_name (queue s I.role) I.sound.suits part is n

-- The directory is there

opens : (d : Disk) (h : List Event) → Legal d h → Opening d
opens d [] legal = legal
opens d (e ∷ h) legal = opens d h legal.0

todo_dir : Contains queue_dirs (codes "todo")
todo_dir = Contains-append_right (codes "pid" ∷ codes "intd" ∷ []) (drop 2 queue_dirs) (codes "todo") (Contains-append_left (codes "todo" ∷ []) (drop 3 queue_dirs) (codes "todo") (Contains-push [] (codes "todo")))

pub has_todo : (d : Disk) (h : List Event) → Legal d h → Contains (after_events d h).disk.dirs (codes "todo")
has_todo d h legal = subst (λ (l : List (List ℕ)). Contains l (codes "todo")) (sym (same_dirs d h)) ((opens d h legal).dirs (codes "todo") todo_dir)
