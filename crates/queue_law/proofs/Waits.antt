-- What a number has in intd and in todo: of a queue's files, and of the names of its disk.
use Rattle.std.proofs.Common.{◌≡◌, ℕ, List, true, false, Option, Some, None, refl, ◌∙◌}
use Rattle.call_fs.specs.Disk.{File}
use Rattle.queue_paths.specs.Names.{Part, path}
use Rattle.queue_paths.specs.Names.Name.{Of}
use Rattle.queue_paths.specs.Names.Part.{Intd, Todo, SplitIntd, SplitTodo}
use Rattle.queue_paths.specs.Parts.{is_intd, is_todo, is_split, in_intd, in_todo, parts_of}
use Rattle.queue_paths.proofs.Parts.{intd_none, todo_none, todo_there, intd_alone, todo_alone, intd_out, todo_out, todo_stays}
use Rattle.queue_law.specs.Numbers.{Entry, entry, find, Role, Suits, Queue, NamesSuit, look, about, is_later}
use Rattle.queue_law.specs.Numbers.Role.{AsPart}
use Rattle.queue_law.proofs.Tests.{off}
use Rattle.queue_law.proofs.Looks.{find_some, find_none, not_found, found}

-- preprocessing makes none of them
pub intd_early : (part : Part) → is_intd part ≡ true → is_later part ≡ false
intd_early Intd is = refl
intd_early SplitIntd is = refl
intd_early other is = absurd (off is)

pub todo_early : (part : Part) → is_todo part ≡ true → is_later part ≡ false
todo_early Todo is = refl
todo_early SplitTodo is = refl
todo_early other is = absurd (off is)

-- a file in todo was made as the number's
pub todo_role : (part : Part) (n i : ℕ) (role : Role) → is_todo part ≡ true → Suits (Of part n) i role → role ≡ AsPart Todo n
todo_role Todo n i role is h = h
todo_role SplitTodo n i role is h = absurd h
todo_role other n i role is h = absurd (off is)

-- no name of the split layout is there

unfit : (part : Part) (n i : ℕ) (role : Role) → is_split part ≡ true → Suits (Of part n) i role → ⊥
unfit SplitIntd n i role is h = h
unfit SplitTodo n i role is h = h
unfit other n i role is h = off is

module _ (q : Queue) (suits : NamesSuit q) where
  pub no_split : (part : Part) → is_split part ≡ true → (n : ℕ) → look q (Of part n) ≡ None
  no_split part is n = by (look q (Of part n)) refl
    where
      by : (o : Option Entry) → look q (Of part n) ≡ o → look q (Of part n) ≡ None
      by None e = e
      by (Some y) e = absurd (unfit part n y.number (q.role y.number) is (suits (Of part n) y e).0)

  pub no_split_name : (part : Part) → is_split part ≡ true → (n : ℕ) → q.disk.names (path (Of part n)) ≡ None
  no_split_name part is n = not_found q.disk.names q.disk.files (Of part n) (no_split part is n)

  -- so a number has one name in intd and in todo
  pub intd_here : (n : ℕ) → in_intd (about q n).parts ≡ look q (Of Intd n)
  intd_here n = intd_alone (about q n).parts (no_split SplitIntd refl n)

  pub todo_here : (n : ℕ) → in_todo (about q n).parts ≡ look q (Of Todo n)
  todo_here n = todo_alone (about q n).parts (no_split SplitTodo refl n)

  pub todo_here_name : (n : ℕ) → in_todo (parts_of q.disk.names n) ≡ q.disk.names (path (Of Todo n))
  todo_here_name n = todo_alone (parts_of q.disk.names n) (no_split_name SplitTodo refl n)

  -- a call was told that it isn't there
  pub intd_missed : (n : ℕ) → q.disk.names (path (Of Intd n)) ≡ None → in_intd (about q n).parts ≡ None
  intd_missed n none = intd_here n ∙ find_none q.disk.names q.disk.files (Of Intd n) none

  pub todo_missed : (n : ℕ) → q.disk.names (path (Of Todo n)) ≡ None → in_todo (about q n).parts ≡ None
  todo_missed n none = todo_here n ∙ find_none q.disk.names q.disk.files (Of Todo n) none

module _ (names : List ℕ → Option ℕ) (files : ℕ → File) (n : ℕ) where
  abbrev entries : Part → Option Entry
  entries part = find names files (Of part n)

  pub todo_named : (y : Entry) → in_todo entries ≡ Some y → in_todo (parts_of names n) ≡ Some y.number
  todo_named y there = todo_stays entries (parts_of names n) (λ (z : Entry). z.number)
      (λ part is none. not_found names files (Of part n) none)
      (λ part z is here. (found names files (Of part n) z here).0)
      y there

  pub todo_entry : (y : Entry) → in_todo entries ≡ Some y → y ≡ entry files y.number
  todo_entry y there = let at = todo_there entries y there in (found names files (Of at.0 n) y at.2).1

  pub todo_unnamed : in_todo entries ≡ None → in_todo (parts_of names n) ≡ None
  todo_unnamed = todo_out entries (parts_of names n) (λ part is none. not_found names files (Of part n) none)

  pub todo_found : (i : ℕ) → in_todo (parts_of names n) ≡ Some i → in_todo entries ≡ Some (entry files i)
  todo_found i there = todo_stays (parts_of names n) entries (entry files)
      (λ part is none. find_none names files (Of part n) none)
      (λ part k is here. find_some names files (Of part n) k here)
      i there

  pub todo_absent : in_todo (parts_of names n) ≡ None → in_todo entries ≡ None
  todo_absent = todo_out (parts_of names n) entries (λ part is none. find_none names files (Of part n) none)

  pub intd_unnamed : in_intd entries ≡ None → in_intd (parts_of names n) ≡ None
  intd_unnamed = intd_out entries (parts_of names n) (λ part is none. not_found names files (Of part n) none)

  -- a number that has no name
  pub intd_bare : ((part : Part) → names (path (Of part n)) ≡ None) → in_intd entries ≡ None
  intd_bare empty = intd_none entries (λ part is. find_none names files (Of part n) (empty part))

  pub todo_bare : ((part : Part) → names (path (Of part n)) ≡ None) → in_todo entries ≡ None
  todo_bare empty = todo_none entries (λ part is. find_none names files (Of part n) (empty part))
