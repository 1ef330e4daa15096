-- Where nothing fails an injector comes to a failure only by a fault of its input, or in `pid`.
use Rattle.std.proofs.Common.{◌≡◌, ◌⊎◌, inl, inr, ⊎_elim, ℕ, ◌+◌, List, length, Bool, true, false, if◌then◌else◌, nat_lt, nat_le, Option, Some, None, IsSome, refl, sym, ap, ◌∙◌, subst}
use Rattle.std.specs.Option.{option_or}
use Rattle.std.proofs.lemmas.Bool.{false≢true}
use Rattle.call_fs.specs.Apply.{Fits}
use Rattle.call_fs.specs.Disk.{Disk, HasDir}
use Rattle.call_fs.specs.declared.calls.Answer.{Answer}
use Rattle.call_fs.specs.declared.calls.Answer.TheVariants as answer
use Rattle.call_fs.specs.declared.calls.CallData.TheVariants as call
use Rattle.call_fs.specs.declared.calls.Fd.{Fd}
use Rattle.call_fs.specs.declared.calls.FsError.TheVariants as why
use Rattle.call_fs.specs.declared.past.NeedData.{NeedData}
use Rattle.call_fs.specs.declared.past.NeedData.TheVariants as needs
use Rattle.queue_inject.specs.declared.injection.Arguments.{Arguments}
use Rattle.queue_inject.specs.declared.row.Row.{Row}
use Rattle.queue_inject.specs.declared.row.Row.TheVariants as at
use Rattle.queue_inject.specs.Causes.{first_fault}
use Rattle.queue_inject.specs.Table.{due_by, in_message, in_time, in_todo, moved, next_piece, past_bytes, past_piece, piece_size, work_of}
use Rattle.queue_inject.specs.Texts.{intd_text, message_text}
use Rattle.queue_paths.specs.Names.{path}
use Rattle.queue_paths.specs.Names.Name.{Of, Pid}
use Rattle.queue_paths.specs.Names.Part.{Intd, Mess, Todo}
use Rattle.settle_law.specs.Well.{is_well_answered, is_well_ended}

-- a status with which it may fail: that of the first fault of its input, or that of a failure in `pid`
abbrev pub MayFail : Arguments → ℕ → Type 0
MayFail args status = (first_fault args ≡ Some status) ⊎ (status ≡ 63)

abbrev pub IsFine : Arguments → Row → Type 0
IsFine args (at.CleanIntd n status) = MayFail args status
IsFine args (at.CleanMess n status) = MayFail args status
IsFine args (at.Failed status) = MayFail args status
IsFine args row = Unit {0}

-- what its call finds on the disk, and what of its message is known then
pub record CanLink (d : Disk) (old new : List ℕ) : Type 0 where
  pub number : ℕ
  pub there : d.names old ≡ Some number
  pub free : d.names new ≡ None
  pub dir : HasDir d new

pub record CanCreate (d : Disk) (name : List ℕ) : Type 0 where
  pub free : d.names name ≡ None
  pub dir : HasDir d name

abbrev pub Finds : Disk → Arguments → Row → Type 0
Finds d args (at.LinkMess seq n fd) = CanLink d (path (Pid args.pid args.start seq)) (path (Of Mess n))
Finds d args (at.CreateIntd n) = CanCreate d (path (Of Intd n)) × ((message_text args).fault ≡ None)
Finds d args (at.AppendTodo n fd done) = (message_text args).fault ≡ None
Finds d args (at.LinkTodo n) = CanLink d (path (Of Intd n)) (path (Of Todo n))
Finds d args row = Unit {0}

-- an answer fits what is due
abbrev pub FitsDue : Disk → NeedData → Answer → ℕ → Type 0
FitsDue d (needs.File c) told wrote = Fits d c told wrote
FitsDue d due told wrote = ⊥

-- By what came of a call

none_there : (o : Option ℕ) → o ≡ None → IsSome o → ⊥
none_there None e some = cc
none_there (Some i) e some = cc

link_done : (d : Disk) (old new : List ℕ) → CanLink d old new → (told : Answer) (wrote : ℕ) → Fits d (call.Link old new) told wrote → is_well_answered told ≡ true → told ≡ answer.Done
link_done d old new can answer.Done wrote fits well = refl
link_done d old new can (answer.Refused why.NotThere) wrote fits well = absurd (⊎_elim (λ (none : d.names old ≡ None). let there = can.there in cc) (λ (no : HasDir d new → ⊥). no can.dir) fits)
link_done d old new can (answer.Refused why.Exists) wrote fits well = absurd (none_there (d.names new) can.free fits.2)
link_done d old new can (answer.Refused why.Fault) wrote fits well = absurd (false≢true well)
link_done d old new can (answer.Refused why.Memory) wrote fits well = absurd (false≢true well)
link_done d old new can told wrote fits well = absurd fits

append_done : (d : Disk) (fd : Fd) (bytes : List ℕ) (told : Answer) (wrote : ℕ) → Fits d (call.Append fd bytes) told wrote → is_well_answered told ≡ true → told ≡ answer.Done
append_done d fd bytes answer.Done wrote fits well = refl
append_done d fd bytes (answer.Refused why.Fault) wrote fits well = absurd (false≢true well)
append_done d fd bytes (answer.Refused why.Memory) wrote fits well = absurd (false≢true well)
append_done d fd bytes told wrote fits well = absurd fits

sync_done : (d : Disk) (fd : Fd) (told : Answer) (wrote : ℕ) → Fits d (call.Sync fd) told wrote → is_well_answered told ≡ true → told ≡ answer.Done
sync_done d fd answer.Done wrote fits well = refl
sync_done d fd (answer.Refused why.Fault) wrote fits well = absurd (false≢true well)
sync_done d fd told wrote fits well = absurd fits

-- To which row

module _ (args : Arguments) where
  if_fine : (b : Bool) (x y : Row) → IsFine args x → IsFine args y → IsFine args (if b then x else y)
  if_fine true x y p q = p
  if_fine false x y p q = q

  piece_fine : (bytes : List ℕ) (fault : Option ℕ) (done : ℕ) (more end : Row) (bad : ℕ → Row) → IsFine args more → IsFine args end → ((status : ℕ) → fault ≡ Some status → IsFine args (bad status))
      → IsFine args (past_piece bytes fault done more end bad)
  piece_fine bytes None done more end bad p q r = if_fine (nat_lt done (length bytes)) more end p q
  piece_fine bytes (Some status) done more end bad p q r = if_fine (nat_le (done + piece_size) (length bytes)) more (bad status) p (r status refl)

  message_fine : (n fd done : ℕ) → IsFine args (in_message (message_text args) n fd done)
  message_fine n fd done =
      let f : Fd = record { 0 = fd } in
      piece_fine (message_text args).bytes (message_text args).fault done (at.AppendMess n f done) (at.SyncMess n f) (λ status. at.CleanMess n status) tt tt
      (λ status e. inl (ap (λ (o : Option ℕ). option_or o (intd_text args).fault) e))

  todo_fine : (n fd done : ℕ) → (message_text args).fault ≡ None → IsFine args (in_todo (intd_text args) n fd done)
  todo_fine n fd done none =
      let f : Fd = record { 0 = fd } in
      piece_fine (intd_text args).bytes (intd_text args).fault done (at.AppendTodo n f done) (at.SyncTodo n f) (λ status. at.CleanIntd n status) tt tt
      (λ status e. inl (ap (λ (o : Option ℕ). option_or o (intd_text args).fault) none ∙ e))

  create_fine : (seq : ℕ) (told : Answer) → is_well_answered told ≡ true → IsFine args (moved args (at.Create seq) told)
  create_fine seq (answer.Created fd n) well = tt
  create_fine seq (answer.Refused why.Exists) well = by (nat_lt seq 9)
    where
      by : (b : Bool) → IsFine args (past_bytes (work_of args) (if b then at.Create (seq + 1) else at.Failed 63))
      by true = tt
      by false = inr refl
  create_fine seq (answer.Refused why.Memory) well = absurd (false≢true well)
  create_fine seq told well = inr refl

  unlink_fine : (seq n : ℕ) (fd : Fd) (told : Answer) → is_well_answered told ≡ true → IsFine args (moved args (at.UnlinkPid seq n fd) told)
  unlink_fine seq n fd answer.Done well = message_fine n fd.0 0
  unlink_fine seq n fd (answer.Refused why.Memory) well = absurd (false≢true well)
  unlink_fine seq n fd told well = inr refl

  intd_fine : (d : Disk) (n : ℕ) → CanCreate d (path (Of Intd n)) → (message_text args).fault ≡ None → (told : Answer) (wrote : ℕ) → Fits d (call.CreateExcl (path (Of Intd n))) told wrote
      → is_well_answered told ≡ true → IsFine args (moved args (at.CreateIntd n) told)
  intd_fine d n can none (answer.Created fd i) wrote fits well = todo_fine n fd.0 0 none
  intd_fine d n can none (answer.Refused why.NotThere) wrote fits well = absurd (fits can.dir)
  intd_fine d n can none (answer.Refused why.Exists) wrote fits well = absurd (none_there (d.names (path (Of Intd n))) can.free fits.1)
  intd_fine d n can none (answer.Refused why.Fault) wrote fits well = absurd (false≢true well)
  intd_fine d n can none (answer.Refused why.Memory) wrote fits well = absurd (false≢true well)
  intd_fine d n can none told wrote fits well = absurd fits

  clean_fine : (n status : ℕ) (told : Answer) → MayFail args status → IsFine args (moved args (at.CleanIntd n status) told)
  clean_fine n status answer.Done h = h
  clean_fine n status (answer.Refused why.NotThere) h = h
  clean_fine n status told h = h

  to_fine : (row : Row) (told : Answer) → told ≡ answer.Done → IsFine args (moved args row answer.Done) → IsFine args (moved args row told)
  to_fine row told done h = subst (λ (t : Answer). IsFine args (moved args row t)) (sym done) h

  pub row_fine : (d : Disk) (wrote : ℕ) (row : Row) (told : Answer) → FitsDue d (due_by args row) told wrote → is_well_answered told ≡ true → Finds d args row → IsFine args row → IsFine args (moved args row told)
  row_fine d wrote (at.Create seq) told fits well finds h = create_fine seq told well
  row_fine d wrote (at.LinkMess seq n fd) told fits well finds h =
      to_fine (at.LinkMess seq n fd) told (link_done d (path (Pid args.pid args.start seq)) (path (Of Mess n)) finds told wrote fits well) tt
  row_fine d wrote (at.UnlinkPid seq n fd) told fits well finds h = unlink_fine seq n fd told well
  row_fine d wrote (at.AppendMess n fd done) told fits well finds h = to_fine (at.AppendMess n fd done) told (append_done d fd (next_piece (work_of args) (at.AppendMess n fd done)) told wrote fits well) (message_fine n fd.0 (done + piece_size))
  row_fine d wrote (at.SyncMess n fd) told fits well finds h = to_fine (at.SyncMess n fd) told (sync_done d fd told wrote fits well) tt
  row_fine d wrote (at.CreateIntd n) told fits well finds h = intd_fine d n finds.0 finds.1 told wrote fits well
  row_fine d wrote (at.AppendTodo n fd done) told fits well finds h = to_fine (at.AppendTodo n fd done) told (append_done d fd (next_piece (work_of args) (at.AppendTodo n fd done)) told wrote fits well) (todo_fine n fd.0 (done + piece_size) finds)
  row_fine d wrote (at.SyncTodo n fd) told fits well finds h = to_fine (at.SyncTodo n fd) told (sync_done d fd told wrote fits well) tt
  row_fine d wrote (at.LinkTodo n) told fits well finds h = to_fine (at.LinkTodo n) told (link_done d (path (Of Intd n)) (path (Of Todo n)) finds told wrote fits well) tt
  row_fine d wrote (at.CleanIntd n status) told fits well finds h = clean_fine n status told h
  row_fine d wrote (at.CleanMess n status) told fits well finds h = h
  row_fine d wrote at.Queued told fits well finds h = absurd fits
  row_fine d wrote (at.Failed status) told fits well finds h = absurd fits

-- Its end

abbrev pub EndsSo : Arguments → ℕ → Type 0
EndsSo args status = (status ≡ 0) ⊎ (first_fault args ≡ Some status)

ill : (status other : ℕ) → is_well_ended other ≡ false → other ≡ status → is_well_ended status ≡ true → ⊥
ill status other bad same well = false≢true (sym bad ∙ ap is_well_ended same ∙ well)

failed_so : (args : Arguments) (status : ℕ) → is_well_ended status ≡ true → MayFail args status → EndsSo args status
failed_so args status well (inl fault) = inr fault
failed_so args status well (inr taken) = absurd (ill status 63 refl (sym taken) well)

-- a call is made no more only once the day is over
ends_by : (input late : Bool) (due : NeedData) (status : ℕ) → in_time input late due ≡ needs.Ended status → is_well_ended status ≡ true → due ≡ needs.Ended status
ends_by true true (needs.File c) status e well = let over : 52 ≡ status = cc in absurd (ill status 52 refl over well)
ends_by true false (needs.File c) status e well = absurd (cc)
ends_by false late (needs.File c) status e well = absurd (cc)
ends_by input late due status e well = e

row_ends : (args : Arguments) (row : Row) (status : ℕ) → due_by args row ≡ needs.Ended status → is_well_ended status ≡ true → IsFine args row → EndsSo args status
row_ends args at.Queued status e well h = inl (let zero : 0 ≡ status = cc in sym zero)
row_ends args (at.Failed other) status e well h = let same : other ≡ status = cc in failed_so args status well (subst (MayFail args) same h)
row_ends args row status e well h = absurd (cc)

pub ends_so : (args : Arguments) (input late : Bool) (row : Row) (status : ℕ) → in_time input late (due_by args row) ≡ needs.Ended status → is_well_ended status ≡ true → IsFine args row → EndsSo args status
ends_so args input late row status e well h = row_ends args row status (ends_by input late (due_by args row) status e well) well h
