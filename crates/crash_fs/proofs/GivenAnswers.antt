-- Each call that may be made has an answer of a disk that fails only at the chosen call, and has memory.
use Rattle.std.proofs.Common.{◌≡◌, ◌≢◌, inl, inr, ⊎_elim, ℕ, min, List, [], length, Option, Some, None, refl, arith}
use Rattle.std.specs.Prelude.{◌↔◌}
use Rattle.call_fs.specs.declared.calls.Fd.{Fd}
use Rattle.call_fs.specs.declared.calls.How.{How}
use Rattle.call_fs.specs.declared.calls.FsError.TheVariants as why
use Rattle.call_fs.specs.declared.calls.CallData.{CallData}
use Rattle.call_fs.specs.declared.calls.CallData.TheVariants as call
use Rattle.call_fs.specs.declared.calls.Answer.{Answer}
use Rattle.call_fs.specs.declared.calls.Answer.TheVariants as told
use Rattle.call_fs.specs.declared.calls.Told.{Told}
use Rattle.call_fs.specs.Calls.{without_bytes}
use Rattle.call_fs.specs.Disk.{Disk, HasDir, dir_of, MayUse}
use Rattle.call_fs.specs.Apply.{Fits, IsReadBy, MayCall, from_place, read_by}
use Rattle.call_fs.specs.Free.{IsFree}
use Rattle.call_fs.specs.Plan.{Plan, Takes, TakesNumber}
use Rattle.crash_fs.specs.Answers.{Answers, FailsBy, IsFinite}
use Rattle.crash_fs.proofs.CountedCalls.{not_failed}
use Rattle.crash_fs.proofs.Decided.{Decided, both, up_to, listed, same_text, is_name, is_number, some_or_none}
use Rattle.crash_fs.proofs.LeastFree.{next_descriptor, least_free, is_unused}
use Rattle.crash_fs.proofs.NextNames.{next_name}

-- the call has an answer
abbrev IsGiven : Plan → Disk → CallData → Type 0
IsGiven plan d c = (got : Told) × Answers plan d c got

-- a disk has the directory of a name, or not
has_dir : (d : Disk) (name : List ℕ) → Decided (HasDir d name)
has_dir d name = both (is_name name) (listed same_text d.dirs (dir_of name))

-- the number that a new file takes
picked : (d : Disk) → IsFinite d → (pick : Option ℕ) → (n : ℕ) × TakesNumber d pick n × IsFree d n
picked d f None = let n = least_free d f in (n.0, n.1, n.1.free)
picked d f (Some p) =
    let n = least_free d f in ⊎_elim
    (λ free. (p, inl (free, refl), free))
    (λ used. (n.0, inr (used, n.1), n.1.free))
    (both (up_to 1 p) (is_unused d f p))

-- The chosen call fails

failed : (plan : Plan) (d : Disk) (c : CallData) → FailsBy c plan (told.Refused why.Fault) → Fits d c (told.Refused why.Fault) 0
    → IsReadBy d c (without_bytes (told.Refused why.Fault)) → IsGiven plan d c
failed plan d c fails fits bytes = (
  without_bytes (told.Refused why.Fault),
  record { fits = fits; bytes = bytes; fails = fails; takes = tt; no_memory = λ e. absurd (cc) },
)

-- an answer is this one exactly if the call is chosen, if it is this one and the call is chosen
chosen : {P : Type 0} (answer : Answer) → P → (answer ≡ answer) ↔ P
chosen answer due = ((λ e. due), (λ e. refl))

closed : (plan : Plan) (d : Disk) (fd : Fd) → MayUse d fd.0 → IsGiven plan d (call.Close fd)
closed plan d fd may = (
  without_bytes told.Done,
  record { fits = may; bytes = refl; fails = λ e. absurd (cc); takes = tt; no_memory = λ e. absurd (cc) },
)

each_fails : (plan : Plan) → plan.fault ≡ Some 1 → (d : Disk) (c : CallData) → MayCall d c → IsGiven plan d c
each_fails plan due d (call.CreateExcl name) may = failed plan d (call.CreateExcl name) (chosen (told.Refused why.Fault) due) tt refl
each_fails plan due d (call.Open name how) may = failed plan d (call.Open name how) (chosen (told.Refused why.Fault) due) tt refl
each_fails plan due d (call.ReadAt fd place len) may = failed plan d (call.ReadAt fd place len) (chosen (told.Refused why.Fault) due) may refl
each_fails plan due d (call.WriteAt fd place bytes) may = failed plan d (call.WriteAt fd place bytes) (chosen (told.Refused why.Fault) due) (may, omega arith) refl
each_fails plan due d (call.Append fd bytes) may = failed plan d (call.Append fd bytes) (chosen (told.Refused why.Fault) due) (may, omega arith) refl
each_fails plan due d (call.Truncate fd len) may = failed plan d (call.Truncate fd len) (chosen (told.Refused why.Fault) due) may refl
each_fails plan due d (call.Sync fd) may = failed plan d (call.Sync fd) (chosen (told.Refused why.Fault) due) may refl
each_fails plan due d (call.Close fd) may = closed plan d fd may
each_fails plan due d (call.Link old new) may = failed plan d (call.Link old new) (chosen (told.Refused why.Fault) due) tt refl
each_fails plan due d (call.Unlink name) may = failed plan d (call.Unlink name) (chosen (told.Refused why.Fault) due) tt refl
each_fails plan due d (call.Stat name) may = failed plan d (call.Stat name) (chosen (told.Refused why.Fault) due) tt refl
each_fails plan due d (call.NextName dir last) may = failed plan d (call.NextName dir last) (chosen (told.Refused why.Fault) due) tt refl

-- Any other call is answered without a failure

module _ (plan : Plan) (other : plan.fault ≢ Some 1) (d : Disk) where
  passed : (c : CallData) (answer : Answer) (bytes : List ℕ) → Fits d c answer 0 → IsReadBy d c (record { answer = answer; bytes = bytes })
      → answer ≢ told.Refused why.Fault → Takes d plan.pick answer → answer ≢ told.Refused why.Memory → IsGiven plan d c
  passed c answer bytes fits reads no_fault takes memory = (
    record { answer = answer; bytes = bytes },
    record { fits = fits; bytes = reads; fails = not_failed c plan answer other no_fault; takes = takes; no_memory = memory },
  )

  done : (c : CallData) → Fits d c told.Done 0 → IsReadBy d c (without_bytes told.Done) → IsGiven plan d c
  done c fits reads = passed c told.Done [] fits reads (λ e. absurd (cc)) tt (λ e. absurd (cc))

  not_there : (c : CallData) → Fits d c (told.Refused why.NotThere) 0 → IsReadBy d c (without_bytes (told.Refused why.NotThere)) → IsGiven plan d c
  not_there c fits reads = passed c (told.Refused why.NotThere) [] fits reads (λ e. absurd (cc)) tt (λ e. absurd (cc))

  exists : (c : CallData) → Fits d c (told.Refused why.Exists) 0 → IsReadBy d c (without_bytes (told.Refused why.Exists)) → IsGiven plan d c
  exists c fits reads = passed c (told.Refused why.Exists) [] fits reads (λ e. absurd (cc)) tt (λ e. absurd (cc))

  created : (name : List ℕ) → IsFinite d → IsGiven plan d (call.CreateExcl name)
  created name f = ⊎_elim
      (λ dir. ⊎_elim
      (λ free.
      let fd = next_descriptor d f in
      let n = picked d f plan.pick in
      passed (call.CreateExcl name) (told.Created (record { 0 = fd.0 }) n.0) []
      (record { dir = dir; free = free; positive = n.2.0; unused = n.2.1; not_open = fd.1.not_open })
      refl (λ e. absurd (cc)) (fd.1, n.1) (λ e. absurd (cc)))
      (λ taken. exists (call.CreateExcl name) (dir, taken) refl)
      (some_or_none (d.names name)))
      (λ none. not_there (call.CreateExcl name) none refl)
      (has_dir d name)

  opened : (name : List ℕ) (how : How) → IsFinite d → IsGiven plan d (call.Open name how)
  opened name how f = ⊎_elim
      (λ none. not_there (call.Open name how) none refl)
      (λ there.
      let fd = next_descriptor d f in
      passed (call.Open name how) (told.Opened (record { 0 = fd.0 })) []
      (record { there = there; not_open = fd.1.not_open }) refl (λ e. absurd (cc)) fd.1 (λ e. absurd (cc)))
      (some_or_none (d.names name))

  counted : (fd : Fd) (place len : ℕ) → MayUse d fd.0 → IsGiven plan d (call.ReadAt fd place len)
  counted fd place len may =
      let count = min len (length (from_place d (d.opens fd.0) place)) in
      passed (call.ReadAt fd place len) (told.Count count) (read_by d (d.opens fd.0) place (told.Count count))
      (may, refl) refl (λ e. absurd (cc)) tt (λ e. absurd (cc))

  linked : (old new : List ℕ) → IsGiven plan d (call.Link old new)
  linked old new = ⊎_elim
      (λ none. not_there (call.Link old new) (inl none) refl)
      (λ there. ⊎_elim
      (λ dir. ⊎_elim
      (λ free. done (call.Link old new) (record { there = there; dir = dir; free = free }) refl)
      (λ taken. exists (call.Link old new) (there, dir, taken) refl)
      (some_or_none (d.names new)))
      (λ none. not_there (call.Link old new) (inr none) refl)
      (has_dir d new))
      (some_or_none (d.names old))

  unlinked : (name : List ℕ) → IsGiven plan d (call.Unlink name)
  unlinked name = ⊎_elim
      (λ none. not_there (call.Unlink name) none refl)
      (λ there. done (call.Unlink name) there refl)
      (some_or_none (d.names name))

  stated : (name : List ℕ) (number : Option ℕ) → d.names name ≡ number → IsGiven plan d (call.Stat name)
  stated name None is = not_there (call.Stat name) is refl
  stated name (Some n) is =
      let size = length (d.files n).bytes in
      passed (call.Stat name) (told.Stat (record { number = n; length = size; moment = (d.files n).moment })) []
      (record { number = is; length_is = refl; moment_is = refl }) refl (λ e. absurd (cc)) tt (λ e. absurd (cc))

  found : (dir last : List ℕ) → IsFinite d → IsGiven plan d (call.NextName dir last)
  found dir last f = ⊎_elim
      (λ there. ⊎_elim
      (λ next. passed (call.NextName dir last) (told.Name next.0) [] (there, next.1) refl (λ e. absurd (cc)) tt (λ e. absurd (cc)))
      (λ none. passed (call.NextName dir last) told.NoName [] (there, none) refl (λ e. absurd (cc)) tt (λ e. absurd (cc)))
      (next_name d f dir last))
      (λ none. not_there (call.NextName dir last) none refl)
      (listed same_text d.dirs dir)

  each_passes : (c : CallData) → IsFinite d → MayCall d c → IsGiven plan d c
  each_passes (call.CreateExcl name) f may = created name f
  each_passes (call.Open name how) f may = opened name how f
  each_passes (call.ReadAt fd place len) f may = counted fd place len may
  each_passes (call.WriteAt fd place bytes) f may = done (call.WriteAt fd place bytes) may refl
  each_passes (call.Append fd bytes) f may = done (call.Append fd bytes) may refl
  each_passes (call.Truncate fd len) f may = done (call.Truncate fd len) may refl
  each_passes (call.Sync fd) f may = done (call.Sync fd) may refl
  each_passes (call.Close fd) f may = closed plan d fd may
  each_passes (call.Link old new) f may = linked old new
  each_passes (call.Unlink name) f may = unlinked name
  each_passes (call.Stat name) f may = stated name (d.names name) refl
  each_passes (call.NextName dir last) f may = found dir last f

pub has_answer : (plan : Plan) (d : Disk) (c : CallData) → IsFinite d → MayCall d c → (got : Told) × Answers plan d c got
has_answer plan d c f may = ⊎_elim (λ due. each_fails plan due d c may) (λ other. each_passes plan other d c f may) (is_number plan.fault 1)
