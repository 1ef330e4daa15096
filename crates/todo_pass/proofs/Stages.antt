-- What stands on a disk at each row of a pass.
use Rattle.std.proofs.Common.{◌≡◌, ◌≢◌, ℕ, List, [], length, take, Bool, true, false, Some, None, sym, ap, ◌∙◌, subst}
use Rattle.std.specs.Prelude.{Ok}
use Rattle.address_rules.specs.declared.controls.Controls.{Controls}
use Rattle.call_fs.specs.declared.calls.Fd.{Fd}
use Rattle.call_fs.specs.declared.calls.How.TheVariants as how
use Rattle.call_fs.specs.Disk.{File, Disk, IsSynced, IsWhole}
use Rattle.call_fs.specs.declared.modes.Mode.{Mode}
use Rattle.todo_pass.specs.declared.part.Part.{Part}
use Rattle.todo_pass.specs.declared.part.Part.TheVariants as part
use Rattle.todo_pass.specs.declared.part.Target.{Target}
use Rattle.todo_pass.specs.declared.part.Target.TheVariants as target
use Rattle.todo_pass.specs.declared.row.Row.{Row}
use Rattle.todo_pass.specs.declared.row.Row.TheVariants as at
use Rattle.todo_pass.specs.declared.row.Why.{Why}
use Rattle.todo_pass.specs.declared.sorted.Sorted.{Sorted}
use Rattle.todo_pass.specs.Parts.{part_of, path_in}
use Rattle.todo_pass.specs.Sorting.{sort_todo, text_of, has}
use Rattle.todo_pass.specs.Table.{Pass}
use Rattle.todo_pass.specs.Disks.{SameAt, LeaveAlone, HoldsTodo, HoldsWhatWasRead}
use Rattle.todo_pass.proofs.Files.{Writing, writing_kept}

-- what is known of a file that a pass makes: nothing, that it isn't there, that it is being written, or that it is complete
pub data Status : Type 0 where
  Unknown : Status
  Gone : Status
  Begun : Fd → List ℕ → Status
  Ready : Status

abbrev pub Is : Status → ℕ → Target → List ℕ → Disk → Type 0
Is Unknown n t text d = Unit {0}
Is Gone n t text d = d.names (path_in (part_of t) n) ≡ None
Is (Begun fd written) n t text d = Writing n t fd written d
Is Ready n t text d = IsWhole d (path_in (part_of t) n) text

-- a channel without recipients has no file
abbrev pub channel_status : Bool → Status
channel_status true = Ready
channel_status false = Gone

-- of a file once all are made
abbrev pub made_status : Sorted → Target → Status
made_status s target.Info = Ready
made_status s target.Local = channel_status (has s.local)
made_status s target.Remote = channel_status (has s.remote)

-- while an earlier pass's files are cleared away
abbrev pub clear_status : Target → Target → Status
clear_status target.Info u = Unknown
clear_status target.Local target.Info = Gone
clear_status target.Local target.Local = Unknown
clear_status target.Local target.Remote = Unknown
clear_status target.Remote target.Info = Gone
clear_status target.Remote target.Local = Gone
clear_status target.Remote target.Remote = Unknown

-- while a file is made, of which this is known: those before it are complete, those after it aren't there
abbrev pub with_status : Target → Status → Sorted → Target → Status
with_status target.Info it s target.Info = it
with_status target.Info it s target.Local = Gone
with_status target.Info it s target.Remote = Gone
with_status target.Local it s target.Info = Ready
with_status target.Local it s target.Local = it
with_status target.Local it s target.Remote = Gone
with_status target.Remote it s target.Info = Ready
with_status target.Remote it s target.Local = channel_status (has s.local)
with_status target.Remote it s target.Remote = it

abbrev pub status_at : Row → Sorted → Target → Status
status_at (at.Clear t) s u = clear_status t u
status_at at.StatMess s u = Gone
status_at at.OpenTodo s u = Gone
status_at (at.ReadTodo fd) s u = Gone
status_at (at.CloseTodo fd) s u = Gone
status_at (at.Create t) s u = with_status t Gone s u
status_at (at.Append t fd done) s u = with_status t (Begun fd (take done (text_of s t))) s u
status_at (at.Sync t fd) s u = with_status t (Begun fd (text_of s t)) s u
status_at (at.Close t fd) s u = with_status t Ready s u
status_at (at.Shut fd why) s u = Unknown
status_at at.Give s u = made_status s u
status_at at.Answer s u = made_status s u
status_at at.Done s u = made_status s u
status_at (at.Left why) s u = Unknown
status_at at.Lost s u = Unknown

-- the message, from its stat on
abbrev pub HasMess : Pass → Disk → Type 0
HasMess p d = (k : ℕ) × (d.names (path_in part.Mess p.n) ≡ Some k) × (length (d.files k).bytes ≡ p.size)

abbrev pub MessAt : Row → Pass → Disk → Type 0
MessAt (at.Clear t) p d = Unit {0}
MessAt at.StatMess p d = Unit {0}
MessAt (at.Shut fd why) p d = Unit {0}
MessAt (at.Left why) p d = Unit {0}
MessAt at.Lost p d = Unit {0}
MessAt row p d = HasMess p d

-- the todo file is open, and so much of it was read
abbrev pub ReadsTodo : Fd → Pass → Disk → Type 0
ReadsTodo fd p d = (k : ℕ) × (d.names (path_in part.Todo p.n) ≡ Some k) × (d.opens fd.0 ≡ Some (record { number = k; mode = Mode.Opened how.Read }))
    × (p.todo ≡ take (length p.todo) (d.files k).bytes)

abbrev pub TodoAt : Row → Pass → Disk → Type 0
TodoAt (at.Clear t) p d = p.todo ≡ []
TodoAt at.StatMess p d = p.todo ≡ []
TodoAt at.OpenTodo p d = p.todo ≡ []
TodoAt (at.ReadTodo fd) p d = ReadsTodo fd p d
TodoAt (at.CloseTodo fd) p d = HoldsWhatWasRead p.n p d
TodoAt (at.Create t) p d = HoldsWhatWasRead p.n p d
TodoAt (at.Append t fd done) p d = HoldsWhatWasRead p.n p d
TodoAt (at.Sync t fd) p d = HoldsWhatWasRead p.n p d
TodoAt (at.Close t fd) p d = HoldsWhatWasRead p.n p d
TodoAt at.Give p d = HoldsWhatWasRead p.n p d
TodoAt row p d = Unit {0}

-- what was read of todo is sorted
abbrev pub Says : Controls → Pass → Type 0
Says controls p = sort_todo controls p.todo ≡ Ok p.sorted

-- a channel's file is made only for recipients
abbrev pub Needed : Target → Sorted → Type 0
Needed target.Info s = Unit {0}
Needed target.Local s = has s.local ≡ true
Needed target.Remote s = has s.remote ≡ true

abbrev pub SaysAt : Controls → Row → Pass → Type 0
SaysAt controls (at.Create t) p = Says controls p × Needed t p.sorted
SaysAt controls (at.Append t fd done) p = Says controls p × Needed t p.sorted
SaysAt controls (at.Sync t fd) p = Says controls p × Needed t p.sorted
SaysAt controls (at.Close t fd) p = Says controls p × Needed t p.sorted
SaysAt controls at.Give p = Says controls p
SaysAt controls at.Answer p = Says controls p
SaysAt controls at.Done p = Says controls p
SaysAt controls row p = Unit {0}

pub record Rests (controls : Controls) (row : Row) (p : Pass) (d : Disk) : Type 0 where
  pub files : (u : Target) → Is (status_at row p.sorted u) p.n u (text_of p.sorted u) d
  pub mess : MessAt row p d
  pub todo : TodoAt row p d
  pub says : SaysAt controls row p

-- Nothing is known once a pass has failed.

pub rests_left : (controls : Controls) (why : Why) (p : Pass) (d : Disk) → Rests controls (at.Left why) p d
rests_left controls why p d = record { files = λ u. tt; mess = tt; todo = tt; says = tt }

pub rests_shut : (controls : Controls) (fd : Fd) (why : Why) (p : Pass) (d : Disk) → Rests controls (at.Shut fd why) p d
rests_shut controls fd why p d = record { files = λ u. tt; mess = tt; todo = tt; says = tt }

pub rests_lost : (controls : Controls) (p : Pass) (d : Disk) → Rests controls at.Lost p d
rests_lost controls p d = record { files = λ u. tt; mess = tt; todo = tt; says = tt }

-- What stands is kept by what leaves the parts as they are.

abbrev pub IsSettled : Status → Type 0
IsSettled Unknown = Unit {0}
IsSettled Gone = Unit {0}
IsSettled (Begun fd written) = ⊥
IsSettled Ready = Unit {0}

pub is_kept : (s : Status) (n : ℕ) (t : Target) (text : List ℕ) (d e : Disk) → IsSettled s → SameAt n (part_of t) d e → Is s n t text d → Is s n t text e
is_kept Unknown n t text d e settled same h = tt
is_kept Gone n t text d e settled same h = same.name ∙ h
is_kept (Begun fd written) n t text d e settled same h = absurd settled
is_kept Ready n t text d e settled same h = (h.0, same.name ∙ h.1, subst (λ f. IsSynced f text) (sym (same.file h.0 h.1)) h.2)

pub mess_kept : (p : Pass) (d e : Disk) → SameAt p.n part.Mess d e → HasMess p d → HasMess p e
mess_kept p d e same h = (h.0, same.name ∙ h.1, ap (λ (f : File). length f.bytes) (same.file h.0 h.1) ∙ h.2)

pub holds_kept : (p : Pass) (d e : Disk) → SameAt p.n part.Todo d e → HoldsWhatWasRead p.n p d → HoldsWhatWasRead p.n p e
holds_kept p d e same h = (h.0, same.name ∙ h.1, ap (λ (f : File). f.bytes) (same.file h.0 h.1) ∙ h.2)

pub reads_kept : (fd : Fd) (p : Pass) (d e : Disk) → SameAt p.n part.Todo d e → e.opens fd.0 ≡ d.opens fd.0 → ReadsTodo fd p d → ReadsTodo fd p e
reads_kept fd p d e same opens h =
    (h.0, same.name ∙ h.1, opens ∙ h.2, h.3 ∙ ap (λ (f : File). take (length p.todo) f.bytes) (sym (same.file h.0 h.1)))

pub channel_settled : (b : Bool) → IsSettled (channel_status b)
channel_settled true = tt
channel_settled false = tt

pub with_settled : (t : Target) (it : Status) (s : Sorted) (u : Target) → IsSettled it → IsSettled (with_status t it s u)
with_settled target.Info it s target.Info h = h
with_settled target.Info it s target.Local h = tt
with_settled target.Info it s target.Remote h = tt
with_settled target.Local it s target.Info h = tt
with_settled target.Local it s target.Local h = h
with_settled target.Local it s target.Remote h = tt
with_settled target.Remote it s target.Info h = tt
with_settled target.Remote it s target.Local h = channel_settled (has s.local)
with_settled target.Remote it s target.Remote h = h

pub made_settled : (s : Sorted) (u : Target) → IsSettled (made_status s u)
made_settled s target.Info = tt
made_settled s target.Local = channel_settled (has s.local)
made_settled s target.Remote = channel_settled (has s.remote)

pub clear_settled : (t u : Target) → IsSettled (clear_status t u)
clear_settled target.Info u = tt
clear_settled target.Local target.Info = tt
clear_settled target.Local target.Local = tt
clear_settled target.Local target.Remote = tt
clear_settled target.Remote target.Info = tt
clear_settled target.Remote target.Local = tt
clear_settled target.Remote target.Remote = tt

-- with a file that is being written beside those that are settled
pub with_kept : (t : Target) (it it' : Status) (s : Sorted) (n : ℕ) (d e : Disk) → ((u : Target) → u ≢ t → SameAt n (part_of u) d e)
    → Is it' n t (text_of s t) e → ((u : Target) → Is (with_status t it s u) n u (text_of s u) d) → (u : Target) → Is (with_status t it' s u) n u (text_of s u) e
with_kept target.Info it it' s n d e same h old target.Info = h
with_kept target.Info it it' s n d e same h old target.Local = (same target.Local (λ x. cc)).name ∙ old target.Local
with_kept target.Info it it' s n d e same h old target.Remote = (same target.Remote (λ x. cc)).name ∙ old target.Remote
with_kept target.Local it it' s n d e same h old target.Info = is_kept Ready n target.Info s.info d e tt (same target.Info (λ x. cc)) (old target.Info)
with_kept target.Local it it' s n d e same h old target.Local = h
with_kept target.Local it it' s n d e same h old target.Remote = (same target.Remote (λ x. cc)).name ∙ old target.Remote
with_kept target.Remote it it' s n d e same h old target.Info = is_kept Ready n target.Info s.info d e tt (same target.Info (λ x. cc)) (old target.Info)
with_kept target.Remote it it' s n d e same h old target.Local =
    is_kept (channel_status (has s.local)) n target.Local s.local d e (channel_settled (has s.local)) (same target.Local (λ x. cc)) (old target.Local)
with_kept target.Remote it it' s n d e same h old target.Remote = h

-- of the file at hand itself
pub its_own : (t : Target) (it : Status) (s : Sorted) (n : ℕ) (d : Disk) → ((u : Target) → Is (with_status t it s u) n u (text_of s u) d) → Is it n t (text_of s t) d
its_own target.Info it s n d h = h target.Info
its_own target.Local it s n d h = h target.Local
its_own target.Remote it s n d h = h target.Remote

-- Steps of other programs

module _ (controls : Controls) (p : Pass) (d e : Disk) where
  target_held : (row : Row) → LeaveAlone p.n row d e → (t : Target) → SameAt p.n (part_of t) d e
  target_held row alone target.Info = alone.parts part.Info tt
  target_held row alone target.Local = alone.parts part.Local tt
  target_held row alone target.Remote = alone.parts part.Remote tt

  all_held : (row : Row) → HoldsTodo row → LeaveAlone p.n row d e → (q : Part) → SameAt p.n q d e
  all_held row holds alone part.Mess = alone.parts part.Mess tt
  all_held row holds alone part.Todo = alone.parts part.Todo holds
  all_held row holds alone part.Info = alone.parts part.Info tt
  all_held row holds alone part.Local = alone.parts part.Local tt
  all_held row holds alone part.Remote = alone.parts part.Remote tt

  writing_alone : (row : Row) (t : Target) (fd : Fd) (written : List ℕ) → HoldsTodo row → LeaveAlone p.n row d e → e.opens fd.0 ≡ d.opens fd.0
      → ((u : Target) → Is (with_status t (Begun fd written) p.sorted u) p.n u (text_of p.sorted u) d)
      → (u : Target) → Is (with_status t (Begun fd written) p.sorted u) p.n u (text_of p.sorted u) e
  writing_alone row t fd written holds alone opens old =
      with_kept t (Begun fd written) (Begun fd written) p.sorted p.n d e (λ u apart. target_held row alone u)
      (writing_kept p.n t fd written d e (all_held row holds alone) opens (its_own t (Begun fd written) p.sorted p.n d old)) old

  pub stays : (row : Row) → Rests controls row p d → LeaveAlone p.n row d e → Rests controls row p e
  stays (at.Clear t) r alone = record {
    files = λ u. is_kept (clear_status t u) p.n u (text_of p.sorted u) d e (clear_settled t u) (target_held (at.Clear t) alone u) (r.files u);
    mess = tt;
    todo = r.todo;
    says = tt;
  }
  stays at.StatMess r alone = record { files = λ u. (target_held at.StatMess alone u).name ∙ r.files u; mess = tt; todo = r.todo; says = tt }
  stays at.OpenTodo r alone = record {
    files = λ u. (target_held at.OpenTodo alone u).name ∙ r.files u;
    mess = mess_kept p d e (alone.parts part.Mess tt) r.mess;
    todo = r.todo;
    says = tt;
  }
  stays (at.ReadTodo fd) r alone = record {
    files = λ u. (target_held (at.ReadTodo fd) alone u).name ∙ r.files u;
    mess = mess_kept p d e (alone.parts part.Mess tt) r.mess;
    todo = reads_kept fd p d e (alone.parts part.Todo tt) alone.descriptor r.todo;
    says = tt;
  }
  stays (at.CloseTodo fd) r alone = record {
    files = λ u. (target_held (at.CloseTodo fd) alone u).name ∙ r.files u;
    mess = mess_kept p d e (alone.parts part.Mess tt) r.mess;
    todo = holds_kept p d e (alone.parts part.Todo tt) r.todo;
    says = tt;
  }
  stays (at.Create t) r alone = record {
    files = λ u. is_kept (with_status t Gone p.sorted u) p.n u (text_of p.sorted u) d e (with_settled t Gone p.sorted u tt) (target_held (at.Create t) alone u) (r.files u);
    mess = mess_kept p d e (alone.parts part.Mess tt) r.mess;
    todo = holds_kept p d e (alone.parts part.Todo tt) r.todo;
    says = r.says;
  }
  stays (at.Append t fd done) r alone = record {
    files = writing_alone (at.Append t fd done) t fd (take done (text_of p.sorted t)) tt alone alone.descriptor r.files;
    mess = mess_kept p d e (alone.parts part.Mess tt) r.mess;
    todo = holds_kept p d e (alone.parts part.Todo tt) r.todo;
    says = r.says;
  }
  stays (at.Sync t fd) r alone = record {
    files = writing_alone (at.Sync t fd) t fd (text_of p.sorted t) tt alone alone.descriptor r.files;
    mess = mess_kept p d e (alone.parts part.Mess tt) r.mess;
    todo = holds_kept p d e (alone.parts part.Todo tt) r.todo;
    says = r.says;
  }
  stays (at.Close t fd) r alone = record {
    files = λ u. is_kept (with_status t Ready p.sorted u) p.n u (text_of p.sorted u) d e (with_settled t Ready p.sorted u tt) (target_held (at.Close t fd) alone u) (r.files u);
    mess = mess_kept p d e (alone.parts part.Mess tt) r.mess;
    todo = holds_kept p d e (alone.parts part.Todo tt) r.todo;
    says = r.says;
  }
  stays (at.Shut fd why) r alone = rests_shut controls fd why p e
  stays at.Give r alone = record {
    files = λ u. is_kept (made_status p.sorted u) p.n u (text_of p.sorted u) d e (made_settled p.sorted u) (target_held at.Give alone u) (r.files u);
    mess = mess_kept p d e (alone.parts part.Mess tt) r.mess;
    todo = holds_kept p d e (alone.parts part.Todo tt) r.todo;
    says = r.says;
  }
  stays at.Answer r alone = record {
    files = λ u. is_kept (made_status p.sorted u) p.n u (text_of p.sorted u) d e (made_settled p.sorted u) (target_held at.Answer alone u) (r.files u);
    mess = mess_kept p d e (alone.parts part.Mess tt) r.mess;
    todo = tt;
    says = r.says;
  }
  stays at.Done r alone = record {
    files = λ u. is_kept (made_status p.sorted u) p.n u (text_of p.sorted u) d e (made_settled p.sorted u) (target_held at.Done alone u) (r.files u);
    mess = mess_kept p d e (alone.parts part.Mess tt) r.mess;
    todo = tt;
    says = r.says;
  }
  stays (at.Left why) r alone = rests_left controls why p e
  stays at.Lost r alone = rests_lost controls p e
