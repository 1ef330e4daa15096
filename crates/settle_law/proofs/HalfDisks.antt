-- What makes a number half-way: which calls may.
use Rattle.std.proofs.Common.{◌≡◌, ◌≢◌, ◌⊎◌, inl, inr, ⊎_elim, ℕ, List, Bool, true, false, Option, Some, None, refl, sym, ap, ◌∙◌}
use Rattle.call_fs.proofs.Maps.{put_at_cases}
use Rattle.call_fs.specs.Apply.{Fits, changed, cut, effect, grown, grown_part, overwritten, overwritten_part, synced}
use Rattle.call_fs.specs.Disk.{Disk, File, Open as OpenFile}
use Rattle.call_fs.specs.Maps.{put_at}
use Rattle.call_fs.specs.declared.calls.Answer.TheVariants as answer
use Rattle.call_fs.specs.declared.calls.Answer.{Answer}
use Rattle.call_fs.specs.declared.calls.CallData.TheVariants as call
use Rattle.call_fs.specs.declared.calls.CallData.{CallData}
use Rattle.call_fs.specs.declared.calls.FsError.TheVariants as why
use Rattle.call_fs.specs.declared.calls.Told.{Told}
use Rattle.call_fs.specs.declared.past.GotData.{GotData}
use Rattle.call_fs.specs.declared.past.GotData.TheVariants as came
use Rattle.call_fs.specs.declared.past.NeedData.{NeedData}
use Rattle.call_fs.specs.declared.past.NeedData.TheVariants as needs
use Rattle.queue_paths.proofs.Paths.{parse-path}
use Rattle.queue_paths.specs.Names.Name.{Of}
use Rattle.queue_paths.specs.Names.Part.{Info, Mess, Todo, SplitTodo}
use Rattle.queue_paths.specs.Names.{Name, Part, parse, path}
use Rattle.queue_paths.specs.Parts.{in_todo, is_todo, parts_of}
use Rattle.queue_paths.proofs.Parts.{todo_missing, todo_split}
use Rattle.mail_world.specs.History.{ComesOf, State, disk_after}
use Rattle.settle_law.specs.inside.HalfWay.{IsHalfWay}

-- Which names a call may bring, and which it may take away

abbrev pub Brings : CallData → Name → Type 0
Brings (call.CreateExcl name) x = parse name ≡ Some x
Brings (call.Link old new) x = parse new ≡ Some x
Brings c x = ⊥

abbrev pub Takes : CallData → Name → Type 0
Takes (call.Unlink name) x = parse name ≡ Some x
Takes c x = ⊥

-- one of a number's names in todo
abbrev pub TakesTodo : CallData → ℕ → Type 0
TakesTodo c n = (part : Part) × (is_todo part ≡ true) × Takes c (Of part n)

-- the number was no half-way one, or is none: its message file is made, or a name of it in todo or its info file goes
abbrev pub Undoes : ℕ → NeedData → Type 0
Undoes n (needs.File (call.CreateExcl name)) = parse name ≡ Some (Of Mess n)
Undoes n (needs.File (call.Link old new)) = parse new ≡ Some (Of Mess n)
Undoes n (needs.File (call.Unlink name)) = TakesTodo (call.Unlink name) n ⊎ (parse name ≡ Some (Of Info n))
Undoes n due = ⊥

brings_undoes : (c : CallData) (n : ℕ) → Brings c (Of Mess n) → Undoes n (needs.File c)
brings_undoes (call.CreateExcl name) n h = h
brings_undoes (call.Link old new) n h = h
brings_undoes c n h = absurd h

takes_undoes : (c : CallData) (n : ℕ) → TakesTodo c n ⊎ Takes c (Of Info n) → Undoes n (needs.File c)
takes_undoes (call.Unlink name) n h = h
takes_undoes c n h = ⊎_elim (λ (e : TakesTodo c n). absurd e.2) (λ e. absurd e) h

named : (x : Name) (name : List ℕ) → path x ≡ name → parse name ≡ Some x
named x name is = ap parse (sym is) ∙ parse-path x

-- the call was answered well
abbrev pub is_refused : Answer → Bool
is_refused (answer.Refused reason) = true
is_refused told = false

abbrev Is : Type 0 → Answer → Type 0
Is what told = what × (is_refused told ≡ false)

module _ (d : Disk) (x : Name) where
  abbrev name_of_it : List ℕ
  name_of_it = path x

  -- A name that is there was there, if no call brought it

  abbrev There : Disk → CallData → Answer → Type 0
  There e c told = e.names name_of_it ≢ None → Is (Brings c x) told ⊎ (d.names name_of_it ≢ None)

  changed_there : (c : CallData) (told : Answer) (o : Option OpenFile) (g : File → File) → There (changed d o g) c told
  changed_there c told None g some = inr some
  changed_there c told (Some how) g some = inr some

  put_there : (c : CallData) (told : Answer) (name : List ℕ) (o : Option ℕ) → (parse name ≡ Some x → Is (Brings c x) told) → put_at d.names name o name_of_it ≢ None
      → Is (Brings c x) told ⊎ (d.names name_of_it ≢ None)
  put_there c told name o brings some = ⊎_elim
      (λ (w : (name_of_it ≡ name) × (put_at d.names name o name_of_it ≡ o)). inl (brings (named x name w.0)))
      (λ (w : (name_of_it ≢ name) × (put_at d.names name o name_of_it ≡ d.names name_of_it)). inr (λ none. some (w.1 ∙ none)))
      (put_at_cases d.names name o name_of_it)

  taken_there : (name : List ℕ) → put_at d.names name None name_of_it ≢ None → d.names name_of_it ≢ None
  taken_there name some = ⊎_elim
      (λ (w : (name_of_it ≡ name) × (put_at d.names name None name_of_it ≡ None)) none. some w.1)
      (λ (w : (name_of_it ≢ name) × (put_at d.names name None name_of_it ≡ d.names name_of_it)) none. some (w.1 ∙ none))
      (put_at_cases d.names name None name_of_it)

  was_there : (read : ℕ) (c : CallData) (told : Answer) (wrote : ℕ) → There (effect d read c told wrote) c told
  was_there read (call.CreateExcl name) (answer.Created fd i) wrote = put_there (call.CreateExcl name) (answer.Created fd i) name (Some i) (λ e. (e, refl))
  was_there read (call.Open name how) (answer.Opened fd) wrote = λ some. inr some
  was_there read (call.WriteAt fd place bytes) answer.Done wrote = changed_there (call.WriteAt fd place bytes) answer.Done (d.opens fd.0) (overwritten read place bytes)
  was_there read (call.WriteAt fd place bytes) (answer.Refused why.Fault) wrote = changed_there (call.WriteAt fd place bytes) (answer.Refused why.Fault) (d.opens fd.0) (overwritten_part read place bytes wrote)
  was_there read (call.Append fd bytes) answer.Done wrote = changed_there (call.Append fd bytes) answer.Done (d.opens fd.0) (grown read bytes)
  was_there read (call.Append fd bytes) (answer.Refused why.Fault) wrote = changed_there (call.Append fd bytes) (answer.Refused why.Fault) (d.opens fd.0) (grown_part read bytes wrote)
  was_there read (call.Truncate fd len) answer.Done wrote = changed_there (call.Truncate fd len) answer.Done (d.opens fd.0) (cut len)
  was_there read (call.Sync fd) answer.Done wrote = changed_there (call.Sync fd) answer.Done (d.opens fd.0) synced
  was_there read (call.Close fd) answer.Done wrote = λ some. inr some
  was_there read (call.Link old new) answer.Done wrote = put_there (call.Link old new) answer.Done new (d.names old) (λ e. (e, refl))
  was_there read (call.Unlink name) answer.Done wrote = λ some. inr (taken_there name some)
  was_there read c told wrote = λ some. inr some

  -- A name that isn't there wasn't, if no call took it away

  abbrev Missing : Disk → CallData → Answer → Type 0
  Missing e c told = e.names name_of_it ≡ None → Is (Takes c x) told ⊎ (d.names name_of_it ≡ None)

  changed_none : (c : CallData) (told : Answer) (o : Option OpenFile) (g : File → File) → Missing (changed d o g) c told
  changed_none c told None g none = inr none
  changed_none c told (Some how) g none = inr none

  put_none : (c : CallData) (told : Answer) (name : List ℕ) (o : Option ℕ) → (name_of_it ≡ name → Is (Takes c x) told ⊎ (d.names name_of_it ≡ None)) → put_at d.names name o name_of_it ≡ None
      → Is (Takes c x) told ⊎ (d.names name_of_it ≡ None)
  put_none c told name o this none = ⊎_elim
      (λ (w : (name_of_it ≡ name) × (put_at d.names name o name_of_it ≡ o)). this w.0)
      (λ (w : (name_of_it ≢ name) × (put_at d.names name o name_of_it ≡ d.names name_of_it)). inr (sym w.1 ∙ none))
      (put_at_cases d.names name o name_of_it)

  was_none : (read : ℕ) (c : CallData) (told : Answer) (wrote : ℕ) → Fits d c told wrote → Missing (effect d read c told wrote) c told
  was_none read (call.CreateExcl name) (answer.Created fd i) wrote fits = put_none (call.CreateExcl name) (answer.Created fd i) name (Some i) (λ e. inr (ap d.names e ∙ fits.free))
  was_none read (call.Open name how) (answer.Opened fd) wrote fits = λ none. inr none
  was_none read (call.WriteAt fd place bytes) answer.Done wrote fits = changed_none (call.WriteAt fd place bytes) answer.Done (d.opens fd.0) (overwritten read place bytes)
  was_none read (call.WriteAt fd place bytes) (answer.Refused why.Fault) wrote fits = changed_none (call.WriteAt fd place bytes) (answer.Refused why.Fault) (d.opens fd.0) (overwritten_part read place bytes wrote)
  was_none read (call.Append fd bytes) answer.Done wrote fits = changed_none (call.Append fd bytes) answer.Done (d.opens fd.0) (grown read bytes)
  was_none read (call.Append fd bytes) (answer.Refused why.Fault) wrote fits = changed_none (call.Append fd bytes) (answer.Refused why.Fault) (d.opens fd.0) (grown_part read bytes wrote)
  was_none read (call.Truncate fd len) answer.Done wrote fits = changed_none (call.Truncate fd len) answer.Done (d.opens fd.0) (cut len)
  was_none read (call.Sync fd) answer.Done wrote fits = changed_none (call.Sync fd) answer.Done (d.opens fd.0) synced
  was_none read (call.Close fd) answer.Done wrote fits = λ none. inr none
  was_none read (call.Link old new) answer.Done wrote fits = put_none (call.Link old new) answer.Done new (d.names old) (λ e. inr (ap d.names e ∙ fits.free))
  was_none read (call.Unlink name) answer.Done wrote fits = put_none (call.Unlink name) answer.Done name None (λ e. inl (named x name e, refl))
  was_none read c told wrote fits = λ none. inr none

-- So it was half-way, or the call undoes that

abbrev pub is_refusal : GotData → Bool
is_refusal (came.Answered told) = is_refused told.answer
is_refusal got = false

abbrev pub UnlinksTodo : ℕ → NeedData → Type 0
UnlinksTodo n (needs.File c) = TakesTodo c n
UnlinksTodo n due = ⊥

pub record IsUndone (d : Disk) (n : ℕ) (due : NeedData) (got : GotData) : Type 0 where
  pub undoes : Undoes n due
  pub fine : is_refusal got ≡ false
  pub todo : UnlinksTodo n due ⊎ (in_todo (parts_of d.names n) ≡ None)

module _ (d : Disk) (read : ℕ) (c : CallData) (told : Told) (wrote n : ℕ) (fits : Fits d c told.answer wrote) (half : IsHalfWay (effect d read c told.answer wrote) n) where
  abbrev Undone : Type 0
  Undone = IsUndone d n (needs.File c) (came.Answered told)

  name_gone : (part : Part) → is_todo part ≡ true → Is (TakesTodo c n) told.answer ⊎ (d.names (path (Of part n)) ≡ None)
  name_gone part is = ⊎_elim
      (λ (takes : Is (Takes c (Of part n)) told.answer). inl ((part, is, takes.0), takes.1))
      (λ (none : d.names (path (Of part n)) ≡ None). inr none)
      (was_none d (Of part n) read c told.answer wrote fits (todo_missing (parts_of (effect d read c told.answer wrote).names n) half.no_todo part is))

  no_todo : Is (TakesTodo c n) told.answer ⊎ (in_todo (parts_of d.names n) ≡ None)
  no_todo = ⊎_elim
      (λ (takes : Is (TakesTodo c n) told.answer). inl takes)
      (λ (flat : d.names (path (Of Todo n)) ≡ None). ⊎_elim
      (λ (takes : Is (TakesTodo c n) told.answer). inl takes)
      (λ (none : d.names (path (Of SplitTodo n)) ≡ None). inr (todo_split (parts_of d.names n) flat ∙ none))
      (name_gone SplitTodo refl))
      (name_gone Todo refl)

  todo_so : UnlinksTodo n (needs.File c) ⊎ (in_todo (parts_of d.names n) ≡ None)
  todo_so = ⊎_elim (λ (takes : Is (TakesTodo c n) told.answer). inl takes.0) (λ (none : in_todo (parts_of d.names n) ≡ None). inr none) no_todo

  was_half : Undone ⊎ IsHalfWay d n
  was_half = ⊎_elim
      (λ (brings : Is (Brings c (Of Mess n)) told.answer). inl (record { undoes = brings_undoes c n brings.0; fine = brings.1; todo = todo_so }))
      (λ (mess : d.names (path (Of Mess n)) ≢ None). ⊎_elim
      (λ (takes : Is (TakesTodo c n) told.answer). inl (record { undoes = takes_undoes c n (inl takes.0); fine = takes.1; todo = inl takes.0 }))
      (λ (none : in_todo (parts_of d.names n) ≡ None). ⊎_elim
      (λ (takes : Is (Takes c (Of Info n)) told.answer). inl (record { undoes = takes_undoes c n (inr takes.0); fine = takes.1; todo = inr none }))
      (λ (no_info : d.names (path (Of Info n)) ≡ None). inr (record { mess = mess; no_todo = none; no_info = no_info }))
      (was_none d (Of Info n) read c told.answer wrote fits half.no_info))
      no_todo)
      (was_there d (Of Mess n) read c told.answer wrote half.mess)

-- by an event of an actor
pub was_half_by : (s : State) (a : List ℕ) (read : ℕ) (due : NeedData) (got : GotData) (wrote n : ℕ) → ComesOf s a due got wrote → IsHalfWay (disk_after s.disk read due got wrote) n
    → IsUndone s.disk n due got ⊎ IsHalfWay s.disk n
was_half_by s a read (needs.File c) (came.Answered told) wrote n comes half = was_half s.disk read c told wrote n comes.0 half
was_half_by s a read due got wrote n comes half = inr half
