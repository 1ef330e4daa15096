-- What a todo pass has read, step by step.
use Rattle.std.proofs.Common.{◌≡◌, ℕ, ◌+◌, List, [], ◌∷◌, ◌++◌, length, Bool, true, false, if◌then◌else◌, nat_lt, bytes_eq, Option, Some, None, Result, Ok, Err, refl, sym, ap, ◌∙◌, subst}
use Rattle.address_rules.specs.declared.controls.Controls.{Controls}
use Rattle.call_fs.specs.declared.calls.Answer.{Answer}
use Rattle.call_fs.specs.declared.calls.Answer.TheVariants as answer
use Rattle.call_fs.specs.declared.calls.CallData.TheVariants as call
use Rattle.call_fs.specs.declared.calls.Fd.{Fd}
use Rattle.call_fs.specs.declared.calls.FsError.TheVariants as why
use Rattle.call_fs.specs.declared.past.GotData.{GotData}
use Rattle.call_fs.specs.declared.past.GotData.TheVariants as came
use Rattle.call_fs.specs.declared.past.NeedData.TheVariants as needs
use Rattle.call_fs.specs.Program.{MayCome}
use Rattle.queue_paths.specs.Names.{Name, parse, path}
use Rattle.queue_paths.specs.Names.Name.{Of}
use Rattle.queue_paths.specs.Names.Part.{Info as InfoFile, Local as LocalFile, Remote as RemoteFile, Todo as TodoFile}
use Rattle.queue_paths.proofs.Paths.{parse-path}
use Rattle.todo_pass.specs.declared.part.Target.{Target}
use Rattle.todo_pass.specs.declared.part.Target.TheVariants as target
use Rattle.todo_pass.specs.declared.row.Row.{Row as PassRow}
use Rattle.todo_pass.specs.declared.row.Row.TheVariants as todo
use Rattle.todo_pass.specs.declared.row.Why.TheVariants as left
use Rattle.todo_pass.specs.declared.sorted.Sorted.{Sorted as Sorting}
use Rattle.todo_pass.specs.Sorting.{has, sort_todo, sorted_of, text_of}
use Rattle.todo_pass.specs.Table.{Pass, answer_row, appended, clear_row, cleared, create_row, due_at, goes, local_row, made_row, moved_at, open_row, read as pass_read, sorted_with, stated, sync_row}
use Rattle.todo_pass.specs.Todo.{IsTodo, Todo, read_todo}
use Rattle.todo_pass.proofs.Todos.{read_if, sorted_says}
use Rattle.send_core.specs.Births.{Birth, Making, made_as, written_last}
use Rattle.send_core.specs.Senders.{Letter, by_todo, letter_of, longer, opened_as, read_more, said_at, said_if, saying_by}
use Rattle.std.proofs.lemmas.Bool.{eq-eqb}
use Rattle.send_core.proofs.Asked.{Facts, IsLast, PassSays, facts_by}
use Rattle.send_core.proofs.Coming.{by_file}
use Rattle.send_core.proofs.Turns.{same_end, same_place}

module _ (S : ℕ → List ℕ → Type 0) (controls : Controls) (now : ℕ) (t : Facts) where
  abbrev pub Next : PassRow → Pass → GotData → Type 0
  Next row p got = let q : Pass = moved_at controls row p now got in PassSays S (facts_by now t (due_at row p) got) q.row q

  clears : (part : Target) (u : Facts) (p : Pass) → p.todo ≡ [] → PassSays S u (cleared part) (goes p (cleared part))
  clears target.Info u p e = e
  clears target.Local u p e = e
  clears target.Remote u p e = e

  clear_next : (part : Target) (told : Answer) (u : Facts) (p : Pass) → p.todo ≡ [] → PassSays S u (clear_row part told) (goes p (clear_row part told))
  clear_next part answer.Done u p e = clears part u p e
  clear_next part (answer.Refused why.NotThere) u p e = clears part u p e
  clear_next part (answer.Refused why.Memory) u p e = tt
  clear_next part (answer.Refused why.Fault) u p e = tt
  clear_next part (answer.Refused why.Exists) u p e = tt
  clear_next part (answer.Opened fd) u p e = tt
  clear_next part (answer.Created fd n) u p e = tt
  clear_next part (answer.Count count) u p e = tt
  clear_next part (answer.Stat stat) u p e = tt
  clear_next part (answer.Name name) u p e = tt
  clear_next part answer.NoName u p e = tt

  -- what is known of a pass once its info file was written
  abbrev Sorted : Facts → Pass → Type 0
  Sorted u p = S p.n p.sorted.sender × IsLast S u p.n p.birth

  channel_next : (local remote : Bool) (u : Facts) (p : Pass) → Sorted u p → PassSays S u (local_row local remote) (goes p (local_row local remote))
  channel_next true remote u p s = s
  channel_next false true u p s = s
  channel_next false false u p s = s

  made_next : (part : Target) (u : Facts) (p : Pass) → Sorted u p → PassSays S u (made_row part p.sorted) (goes p (made_row part p.sorted))
  made_next target.Info u p s = channel_next (has p.sorted.local) (has p.sorted.remote) u p s
  made_next target.Local u p s = channel_next false (has p.sorted.remote) u p s
  made_next target.Remote u p s = s

  stat_next : (told : Answer) (u : Facts) (p : Pass) → p.todo ≡ [] → PassSays S u (stated p told).row (stated p told)
  stat_next (answer.Stat stat) u p e = e
  stat_next answer.Done u p e = tt
  stat_next (answer.Refused why.NotThere) u p e = tt
  stat_next (answer.Refused why.Memory) u p e = tt
  stat_next (answer.Refused why.Fault) u p e = tt
  stat_next (answer.Refused why.Exists) u p e = tt
  stat_next (answer.Opened fd) u p e = tt
  stat_next (answer.Created fd n) u p e = tt
  stat_next (answer.Count count) u p e = tt
  stat_next (answer.Name name) u p e = tt
  stat_next answer.NoName u p e = tt

  abbrev at_todo : ℕ → Fd → List ℕ → Bool → Letter
  at_todo n fd bytes over = record { todo = true; n = n; fd = fd; bytes = bytes; over = over }

  abbrev with_letter : Option Letter → Facts → Facts
  with_letter l u = record u { letter = l }

  open_next : (told : Answer) (u : Facts) (p : Pass) → p.todo ≡ [] → PassSays S (with_letter (opened_as (parse (path (Of TodoFile p.n))) told) u) (open_row told) (goes p (open_row told))
  open_next (answer.Opened fd) u p e = ap (λ (o : Option Name). letter_of o fd) (parse-path (Of TodoFile p.n)) ∙ ap (λ (x : List ℕ). Some (at_todo p.n fd x false)) (sym e)
  open_next (answer.Stat stat) u p e = tt
  open_next answer.Done u p e = tt
  open_next (answer.Refused why) u p e = tt
  open_next (answer.Created fd n) u p e = tt
  open_next (answer.Count count) u p e = tt
  open_next (answer.Name name) u p e = tt
  open_next answer.NoName u p e = tt

  more_next : (last : Bool) (fd : Fd) (bytes : List ℕ) (u : Facts) (p : Pass) → PassSays S (with_letter (Some (at_todo p.n fd (p.todo ++ bytes) last)) u) (if last then todo.CloseTodo fd else todo.ReadTodo fd) (record p { todo = p.todo ++ bytes; row = if last then todo.CloseTodo fd else todo.ReadTodo fd })
  more_next true fd bytes u p = refl
  more_next false fd bytes u p = refl

  read_next : (fd : Fd) (told : Answer) (bytes : List ℕ) (u : Facts) (p : Pass) → PassSays S (with_letter (longer (at_todo p.n fd p.todo false) 8192 told bytes) u) (pass_read p fd told bytes).row (pass_read p fd told bytes)
  read_next fd (answer.Count count) bytes u p = more_next (nat_lt (length bytes) 8192) fd bytes u p
  read_next fd (answer.Opened other) bytes u p = tt
  read_next fd (answer.Stat stat) bytes u p = tt
  read_next fd answer.Done bytes u p = tt
  read_next fd (answer.Refused why) bytes u p = tt
  read_next fd (answer.Created other n) bytes u p = tt
  read_next fd (answer.Name name) bytes u p = tt
  read_next fd answer.NoName bytes u p = tt

  -- todo was read whole
  said_whole : (fd : Fd) (p : Pass) (it : Todo) → t.letter ≡ Some (at_todo p.n fd p.todo true) → read_todo p.todo ≡ Ok it → said_at (needs.File (call.Close fd)) t.letter ≡ Some (record { n = p.n; sender = it.sender })
  said_whole fd p it e read =
      ap (λ (o : Option Letter). said_at (needs.File (call.Close fd)) o) e
      ∙ ap (λ (x : Bool). said_if x (at_todo p.n fd p.todo true)) (same_end fd.0)
      ∙ ap (λ (r : Result Todo ℕ). saying_by p.n (by_todo r)) read

  sorted_next : (r : Result Sorting ℕ) (fd : Fd) (u : Facts) (p : Pass) → sort_todo controls p.todo ≡ r → t.letter ≡ Some (at_todo p.n fd p.todo true)
      → ((n : ℕ) (sender : List ℕ) → said_at (needs.File (call.Close fd)) t.letter ≡ Some (record { n = n; sender = sender }) → S n sender)
      → PassSays S u (sorted_with p r).row (sorted_with p r)
  sorted_next (Ok s) fd u p e at said =
      let says : (it : Todo) × IsTodo p.todo it × (s ≡ sorted_of controls it) = sorted_says controls p.todo s e in
      subst (λ (x : Sorting). S p.n x.sender) (sym says.2) (said p.n says.0.sender (said_whole fd p says.0 at (read_if p.todo says.0 says.1)))
  sorted_next (Err place) fd u p e at said = tt

  -- a file is created: which, is told
  abbrev created_facts : Option Making → Facts
  created_facts m = record t { births = record t.births { made = m } }

  create_info : (told : Answer) (p : Pass) → S p.n p.sorted.sender → PassSays S (created_facts (made_as (parse (path (Of InfoFile p.n))) told)) (create_row target.Info told) (goes p (create_row target.Info told))
  create_info (answer.Created fd n) p s = (s, ap (λ (o : Option Name). made_as o (answer.Created fd n)) (parse-path (Of InfoFile p.n)))
  create_info (answer.Opened fd) p s = tt
  create_info (answer.Stat stat) p s = tt
  create_info answer.Done p s = tt
  create_info (answer.Refused why) p s = tt
  create_info (answer.Count count) p s = tt
  create_info (answer.Name name) p s = tt
  create_info answer.NoName p s = tt

  create_local : (told : Answer) (p : Pass) → Sorted t p → PassSays S (created_facts (made_as (parse (path (Of LocalFile p.n))) told)) (create_row target.Local told) (goes p (create_row target.Local told))
  create_local (answer.Created fd n) p s = (s.0, s.1, ap (λ (o : Option Name). made_as o (answer.Created fd n)) (parse-path (Of LocalFile p.n)))
  create_local (answer.Opened fd) p s = tt
  create_local (answer.Stat stat) p s = tt
  create_local answer.Done p s = tt
  create_local (answer.Refused why) p s = tt
  create_local (answer.Count count) p s = tt
  create_local (answer.Name name) p s = tt
  create_local answer.NoName p s = tt

  create_remote : (told : Answer) (p : Pass) → Sorted t p → PassSays S (created_facts (made_as (parse (path (Of RemoteFile p.n))) told)) (create_row target.Remote told) (goes p (create_row target.Remote told))
  create_remote (answer.Created fd n) p s = (s.0, s.1, ap (λ (o : Option Name). made_as o (answer.Created fd n)) (parse-path (Of RemoteFile p.n)))
  create_remote (answer.Opened fd) p s = tt
  create_remote (answer.Stat stat) p s = tt
  create_remote answer.Done p s = tt
  create_remote (answer.Refused why) p s = tt
  create_remote (answer.Count count) p s = tt
  create_remote (answer.Name name) p s = tt
  create_remote answer.NoName p s = tt

  -- a piece was appended: to info, and then that is the birth
  abbrev written_facts : Option Birth → Facts
  written_facts last = record t { births = record t.births { last = last } }

  info_piece : (more : Bool) (fd : Fd) (done : ℕ) (u : Facts) (p : Pass) → Sorted u p → u.births.made ≡ Some (record { n = p.n; fd = fd })
      → PassSays S u (if more then todo.Append target.Info fd done else todo.Sync target.Info fd) p
  info_piece true fd done u p s made = (s.0, made)
  info_piece false fd done u p s made = s

  append_info : (fd : Fd) (done : ℕ) (told : Answer) (p : Pass) → S p.n p.sorted.sender → t.births.made ≡ Some (record { n = p.n; fd = fd })
      → PassSays S (written_facts (written_last t.births.made fd told now t.births.last)) (appended p target.Info fd done now told).row (appended p target.Info fd done now told)
  append_info fd done answer.Done p s made =
      let last : written_last t.births.made fd answer.Done now t.births.last ≡ Some (record { n = p.n; moment = now }) =
      ap (λ (m : Option Making). written_last m fd answer.Done now t.births.last) made
      ∙ ap (λ (b : Bool). if b then Some (let it : Birth = record { n = p.n; moment = now } in it) else t.births.last) (eq-eqb fd.0 fd.0 refl)
      in info_piece (nat_lt (done + 8192) (length (text_of p.sorted target.Info))) fd (done + 8192) (written_facts (written_last t.births.made fd answer.Done now t.births.last)) (appended p target.Info fd done now answer.Done) (s, last) made
  append_info fd done (answer.Created other n) p s made = tt
  append_info fd done (answer.Opened other) p s made = tt
  append_info fd done (answer.Stat stat) p s made = tt
  append_info fd done (answer.Refused why) p s made = tt
  append_info fd done (answer.Count count) p s made = tt
  append_info fd done (answer.Name name) p s made = tt
  append_info fd done answer.NoName p s made = tt

  still_last : (fd : Fd) (told : Answer) → t.births.made ≡ None → written_last t.births.made fd told now t.births.last ≡ t.births.last
  still_last fd told none = ap (λ (m : Option Making). written_last m fd told now t.births.last) none ∙ of_none told where
    of_none : (told : Answer) → written_last None fd told now t.births.last ≡ t.births.last
    of_none answer.Done = refl
    of_none (answer.Created other n) = refl
    of_none (answer.Opened other) = refl
    of_none (answer.Stat stat) = refl
    of_none (answer.Refused why) = refl
    of_none (answer.Count count) = refl
    of_none (answer.Name name) = refl
    of_none answer.NoName = refl

  local_piece : (more : Bool) (fd : Fd) (done : ℕ) (u : Facts) (p : Pass) → Sorted u p → u.births.made ≡ None → PassSays S u (if more then todo.Append target.Local fd done else todo.Sync target.Local fd) p
  local_piece true fd done u p s made = (s.0, s.1, made)
  local_piece false fd done u p s made = s

  append_local : (fd : Fd) (done : ℕ) (told : Answer) (p : Pass) → Sorted t p → t.births.made ≡ None
      → PassSays S (written_facts (written_last t.births.made fd told now t.births.last)) (appended p target.Local fd done now told).row (appended p target.Local fd done now told)
  append_local fd done answer.Done p s made =
      local_piece (nat_lt (done + 8192) (length (text_of p.sorted target.Local))) fd (done + 8192) (written_facts (written_last t.births.made fd answer.Done now t.births.last)) (appended p target.Local fd done now answer.Done) (s.0, still_last fd answer.Done made ∙ s.1) made
  append_local fd done (answer.Created other n) p s made = tt
  append_local fd done (answer.Opened other) p s made = tt
  append_local fd done (answer.Stat stat) p s made = tt
  append_local fd done (answer.Refused why) p s made = tt
  append_local fd done (answer.Count count) p s made = tt
  append_local fd done (answer.Name name) p s made = tt
  append_local fd done answer.NoName p s made = tt

  remote_piece : (more : Bool) (fd : Fd) (done : ℕ) (u : Facts) (p : Pass) → Sorted u p → u.births.made ≡ None → PassSays S u (if more then todo.Append target.Remote fd done else todo.Sync target.Remote fd) p
  remote_piece true fd done u p s made = (s.0, s.1, made)
  remote_piece false fd done u p s made = s

  append_remote : (fd : Fd) (done : ℕ) (told : Answer) (p : Pass) → Sorted t p → t.births.made ≡ None
      → PassSays S (written_facts (written_last t.births.made fd told now t.births.last)) (appended p target.Remote fd done now told).row (appended p target.Remote fd done now told)
  append_remote fd done answer.Done p s made =
      remote_piece (nat_lt (done + 8192) (length (text_of p.sorted target.Remote))) fd (done + 8192) (written_facts (written_last t.births.made fd answer.Done now t.births.last)) (appended p target.Remote fd done now answer.Done) (s.0, still_last fd answer.Done made ∙ s.1) made
  append_remote fd done (answer.Created other n) p s made = tt
  append_remote fd done (answer.Opened other) p s made = tt
  append_remote fd done (answer.Stat stat) p s made = tt
  append_remote fd done (answer.Refused why) p s made = tt
  append_remote fd done (answer.Count count) p s made = tt
  append_remote fd done (answer.Name name) p s made = tt
  append_remote fd done answer.NoName p s made = tt

  sync_next : (part : Target) (fd : Fd) (told : Answer) (u : Facts) (p : Pass) → Sorted u p → PassSays S u (sync_row part fd told) (goes p (sync_row part fd told))
  sync_next part fd answer.Done u p s = s
  sync_next part fd (answer.Created other n) u p s = tt
  sync_next part fd (answer.Opened other) u p s = tt
  sync_next part fd (answer.Stat stat) u p s = tt
  sync_next part fd (answer.Refused why) u p s = tt
  sync_next part fd (answer.Count count) u p s = tt
  sync_next part fd (answer.Name name) u p s = tt
  sync_next part fd answer.NoName u p s = tt

  plus_next : (good : Bool) (u : Facts) (p : Pass) → PassSays S u (if good then todo.Done else todo.Left left.Unclean) p
  plus_next true u p = tt
  plus_next false u p = tt

  answer_next : (got : GotData) (u : Facts) (p : Pass) → PassSays S u (answer_row got) (goes p (answer_row got))
  answer_next (came.Took bytes) u p = plus_next (bytes_eq bytes (43 ∷ [])) u (goes p (answer_row (came.Took bytes)))
  answer_next came.Gave u p = tt
  answer_next (came.Answered told) u p = tt
  answer_next came.End u p = tt
  answer_next (came.Ended status) u p = tt
  answer_next came.Crashed u p = tt
  answer_next (came.Started pid) u p = tt
  answer_next came.Failed u p = tt
  answer_next came.Memory u p = tt

  pub pass_next : (row : PassRow) (p : Pass) (got : GotData) → MayCome (due_at row p) got
      → ((n : ℕ) (sender : List ℕ) → said_at (due_at row p) t.letter ≡ Some (record { n = n; sender = sender }) → S n sender) → PassSays S t row p → Next row p got
  pass_next (todo.Clear part) p got may said h = by_file (due_at (todo.Clear part) p) tt (Next (todo.Clear part) p) got may
      (λ told fit. clear_next part told.answer (facts_by now t (due_at (todo.Clear part) p) (came.Answered told)) p h)
  pass_next todo.StatMess p got may said h = by_file (due_at todo.StatMess p) tt (Next todo.StatMess p) got may
      (λ told fit. stat_next told.answer (facts_by now t (due_at todo.StatMess p) (came.Answered told)) p h)
  pass_next todo.OpenTodo p got may said h = by_file (due_at todo.OpenTodo p) tt (Next todo.OpenTodo p) got may
      (λ told fit. open_next told.answer (facts_by now t (due_at todo.OpenTodo p) (came.Answered told)) p h)
  pass_next (todo.ReadTodo fd) p got may said h = by_file (due_at (todo.ReadTodo fd) p) tt (Next (todo.ReadTodo fd) p) got may (λ told fit.
      let q : Pass = pass_read p fd told.answer told.bytes in
      let u : Facts = facts_by now t (due_at (todo.ReadTodo fd) p) (came.Answered told) in
      subst (λ (o : Option Letter). PassSays S (with_letter (read_more o fd (length p.todo) 8192 told) u) q.row q) (sym h)
      (subst (λ (x : Bool). PassSays S (with_letter (if x then longer (at_todo p.n fd p.todo false) 8192 told.answer told.bytes else Some (at_todo p.n fd p.todo false)) u) q.row q) (sym (same_place fd.0 (length p.todo)))
      (read_next fd told.answer told.bytes u p)))
  pass_next (todo.CloseTodo fd) p got may said h = by_file (due_at (todo.CloseTodo fd) p) tt (Next (todo.CloseTodo fd) p) got may
      (λ told fit. sorted_next (sort_todo controls p.todo) fd (facts_by now t (due_at (todo.CloseTodo fd) p) (came.Answered told)) p refl h said)
  pass_next (todo.Create target.Info) p got may said h = by_file (due_at (todo.Create target.Info) p) tt (Next (todo.Create target.Info) p) got may (λ told fit. create_info told.answer p h)
  pass_next (todo.Create target.Local) p got may said h = by_file (due_at (todo.Create target.Local) p) tt (Next (todo.Create target.Local) p) got may (λ told fit. create_local told.answer p h)
  pass_next (todo.Create target.Remote) p got may said h = by_file (due_at (todo.Create target.Remote) p) tt (Next (todo.Create target.Remote) p) got may (λ told fit. create_remote told.answer p h)
  pass_next (todo.Append target.Info fd done) p got may said h = by_file (due_at (todo.Append target.Info fd done) p) tt (Next (todo.Append target.Info fd done) p) got may (λ told fit. append_info fd done told.answer p h.0 h.1)
  pass_next (todo.Append target.Local fd done) p got may said h = by_file (due_at (todo.Append target.Local fd done) p) tt (Next (todo.Append target.Local fd done) p) got may (λ told fit. append_local fd done told.answer p (h.0, h.1) h.2)
  pass_next (todo.Append target.Remote fd done) p got may said h = by_file (due_at (todo.Append target.Remote fd done) p) tt (Next (todo.Append target.Remote fd done) p) got may (λ told fit. append_remote fd done told.answer p (h.0, h.1) h.2)
  pass_next (todo.Sync part fd) p got may said h = by_file (due_at (todo.Sync part fd) p) tt (Next (todo.Sync part fd) p) got may
      (λ told fit. sync_next part fd told.answer (facts_by now t (due_at (todo.Sync part fd) p) (came.Answered told)) p h)
  pass_next (todo.Close part fd) p got may said h = by_file (due_at (todo.Close part fd) p) tt (Next (todo.Close part fd) p) got may
      (λ told fit. made_next part (facts_by now t (due_at (todo.Close part fd) p) (came.Answered told)) p h)
  pass_next (todo.Shut fd why) p got may said h = by_file (due_at (todo.Shut fd why) p) tt (Next (todo.Shut fd why) p) got may (λ told fit. tt)
  pass_next todo.Give p came.Gave may said h = (h.0, h.1, refl)
  pass_next todo.Give p came.Failed may said h = tt
  pass_next todo.Give p (came.Answered told) may said h = absurd may
  pass_next todo.Give p (came.Took bytes) may said h = absurd may
  pass_next todo.Give p came.End may said h = absurd may
  pass_next todo.Give p (came.Ended status) may said h = absurd may
  pass_next todo.Give p came.Crashed may said h = absurd may
  pass_next todo.Give p (came.Started pid) may said h = absurd may
  pass_next todo.Give p came.Memory may said h = absurd may
  pass_next todo.Answer p got may said h = answer_next got (facts_by now t (due_at todo.Answer p) got) p
  pass_next todo.Done p got may said h = absurd may
  pass_next (todo.Left why) p got may said h = absurd may
  pass_next todo.Lost p got may said h = absurd may
