-- What the answers of a call mean, each apart.
use Rattle.std.proofs.Common.{◌≡◌, ◌≢◌, ◌↔◌, ℕ, List, Option, Some, None, IsSome, refl, sym, subst, ◌∙◌, ⊎_elim}
use Rattle.call_fs.specs.declared.calls.CallData.{CallData}
use Rattle.call_fs.specs.declared.calls.CallData.TheVariants as call
use Rattle.call_fs.specs.declared.calls.Answer.{Answer}
use Rattle.call_fs.specs.declared.calls.Answer.TheVariants as answer
use Rattle.call_fs.specs.declared.calls.FsError.{FsError}
use Rattle.call_fs.specs.declared.calls.FsError.TheVariants.{NotThere, Exists, Fault, Memory}
use Rattle.call_fs.specs.Disk.{Disk, HasDir}
use Rattle.call_fs.specs.Apply.{Fits, effect, Apply}
use Rattle.call_fs.specs.Columns.{IsTold, IsMissing, IsTaken, LacksLink, FaultLeaves, OnlyLooks}

not_none : {A : Type 0} (o : Option A) → IsSome o → o ≡ None → ⊥
not_none None some is = absurd (cc)
not_none (Some x) some is = absurd (cc)

not_some : {A : Type 0} (o : Option A) (x : A) → o ≡ Some x → o ≡ None → ⊥
not_some None x is none = absurd (cc)
not_some (Some y) x is none = absurd (cc)

no_link : (d : Disk) (old new : List ℕ) → IsSome (d.names old) → HasDir d new → LacksLink d old new → ⊥
no_link d old new there dir lacks = ⊎_elim (λ none. not_none _ there none) (λ no. no dir) lacks

-- each answer that may come of a call
missing_fits : (d : Disk) (c : CallData) (a : Answer) (w : ℕ) → Fits d c a w → IsTold a → (a ≡ answer.Refused NotThere) ↔ IsMissing d c
missing_fits d (call.CreateExcl name) (answer.Created fd n) w fits told = (λ is. absurd (cc), λ lacks. absurd (lacks fits.dir))
missing_fits d (call.CreateExcl name) (answer.Refused NotThere) w fits told = (λ is. fits, λ lacks. refl)
missing_fits d (call.CreateExcl name) (answer.Refused Exists) w fits told = (λ is. absurd (cc), λ lacks. absurd (lacks fits.0))
missing_fits d (call.CreateExcl name) (answer.Refused Fault) w fits told = absurd (told.0 refl)
missing_fits d (call.CreateExcl name) (answer.Refused Memory) w fits told = absurd (told.1 refl)
missing_fits d (call.CreateExcl name) other w fits told = absurd fits
missing_fits d (call.Open name how) (answer.Opened fd) w fits told = (λ is. absurd (cc), λ lacks. absurd (not_none _ fits.there lacks))
missing_fits d (call.Open name how) (answer.Refused NotThere) w fits told = (λ is. fits, λ lacks. refl)
missing_fits d (call.Open name how) (answer.Refused Fault) w fits told = absurd (told.0 refl)
missing_fits d (call.Open name how) (answer.Refused Memory) w fits told = absurd (told.1 refl)
missing_fits d (call.Open name how) other w fits told = absurd fits
missing_fits d (call.ReadAt fd at len) (answer.Count n) w fits told = (λ is. absurd (cc), λ lacks. absurd lacks)
missing_fits d (call.ReadAt fd at len) (answer.Refused Fault) w fits told = absurd (told.0 refl)
missing_fits d (call.ReadAt fd at len) other w fits told = absurd fits
missing_fits d (call.WriteAt fd at bytes) answer.Done w fits told = (λ is. absurd (cc), λ lacks. absurd lacks)
missing_fits d (call.WriteAt fd at bytes) (answer.Refused Fault) w fits told = absurd (told.0 refl)
missing_fits d (call.WriteAt fd at bytes) (answer.Refused Memory) w fits told = absurd (told.1 refl)
missing_fits d (call.WriteAt fd at bytes) other w fits told = absurd fits
missing_fits d (call.Append fd bytes) answer.Done w fits told = (λ is. absurd (cc), λ lacks. absurd lacks)
missing_fits d (call.Append fd bytes) (answer.Refused Fault) w fits told = absurd (told.0 refl)
missing_fits d (call.Append fd bytes) (answer.Refused Memory) w fits told = absurd (told.1 refl)
missing_fits d (call.Append fd bytes) other w fits told = absurd fits
missing_fits d (call.Truncate fd len) answer.Done w fits told = (λ is. absurd (cc), λ lacks. absurd lacks)
missing_fits d (call.Truncate fd len) (answer.Refused Fault) w fits told = absurd (told.0 refl)
missing_fits d (call.Truncate fd len) other w fits told = absurd fits
missing_fits d (call.Sync fd) answer.Done w fits told = (λ is. absurd (cc), λ lacks. absurd lacks)
missing_fits d (call.Sync fd) (answer.Refused Fault) w fits told = absurd (told.0 refl)
missing_fits d (call.Sync fd) other w fits told = absurd fits
missing_fits d (call.Close fd) answer.Done w fits told = (λ is. absurd (cc), λ lacks. absurd lacks)
missing_fits d (call.Close fd) other w fits told = absurd fits
missing_fits d (call.Link old new) answer.Done w fits told = (λ is. absurd (cc), λ lacks. absurd (no_link d old new fits.there fits.dir lacks))
missing_fits d (call.Link old new) (answer.Refused NotThere) w fits told = (λ is. fits, λ lacks. refl)
missing_fits d (call.Link old new) (answer.Refused Exists) w fits told = (λ is. absurd (cc), λ lacks. absurd (no_link d old new fits.0 fits.1 lacks))
missing_fits d (call.Link old new) (answer.Refused Fault) w fits told = absurd (told.0 refl)
missing_fits d (call.Link old new) (answer.Refused Memory) w fits told = absurd (told.1 refl)
missing_fits d (call.Link old new) other w fits told = absurd fits
missing_fits d (call.Unlink name) answer.Done w fits told = (λ is. absurd (cc), λ lacks. absurd (not_none _ fits lacks))
missing_fits d (call.Unlink name) (answer.Refused NotThere) w fits told = (λ is. fits, λ lacks. refl)
missing_fits d (call.Unlink name) (answer.Refused Fault) w fits told = absurd (told.0 refl)
missing_fits d (call.Unlink name) other w fits told = absurd fits
missing_fits d (call.Stat name) (answer.Stat stat) w fits told = (λ is. absurd (cc), λ lacks. absurd (not_some _ stat.number fits.number lacks))
missing_fits d (call.Stat name) (answer.Refused NotThere) w fits told = (λ is. fits, λ lacks. refl)
missing_fits d (call.Stat name) (answer.Refused Fault) w fits told = absurd (told.0 refl)
missing_fits d (call.Stat name) other w fits told = absurd fits
missing_fits d (call.NextName dir last) (answer.Name name) w fits told = (λ is. absurd (cc), λ lacks. absurd (lacks fits.0))
missing_fits d (call.NextName dir last) answer.NoName w fits told = (λ is. absurd (cc), λ lacks. absurd (lacks fits.0))
missing_fits d (call.NextName dir last) (answer.Refused NotThere) w fits told = (λ is. fits, λ lacks. refl)
missing_fits d (call.NextName dir last) (answer.Refused Fault) w fits told = absurd (told.0 refl)
missing_fits d (call.NextName dir last) other w fits told = absurd fits

taken_fits : (d : Disk) (c : CallData) (a : Answer) (w : ℕ) → Fits d c a w → IsTold a → (a ≡ answer.Refused Exists) ↔ IsTaken d c
taken_fits d (call.CreateExcl name) (answer.Created fd n) w fits told = (λ is. absurd (cc), λ there. absurd (not_none _ there.1 fits.free))
taken_fits d (call.CreateExcl name) (answer.Refused NotThere) w fits told = (λ is. absurd (cc), λ there. absurd (fits there.0))
taken_fits d (call.CreateExcl name) (answer.Refused Exists) w fits told = (λ is. fits, λ there. refl)
taken_fits d (call.CreateExcl name) (answer.Refused Fault) w fits told = absurd (told.0 refl)
taken_fits d (call.CreateExcl name) (answer.Refused Memory) w fits told = absurd (told.1 refl)
taken_fits d (call.CreateExcl name) other w fits told = absurd fits
taken_fits d (call.Open name how) (answer.Opened fd) w fits told = (λ is. absurd (cc), λ there. absurd there)
taken_fits d (call.Open name how) (answer.Refused NotThere) w fits told = (λ is. absurd (cc), λ there. absurd there)
taken_fits d (call.Open name how) (answer.Refused Fault) w fits told = absurd (told.0 refl)
taken_fits d (call.Open name how) (answer.Refused Memory) w fits told = absurd (told.1 refl)
taken_fits d (call.Open name how) other w fits told = absurd fits
taken_fits d (call.ReadAt fd at len) (answer.Count n) w fits told = (λ is. absurd (cc), λ there. absurd there)
taken_fits d (call.ReadAt fd at len) (answer.Refused Fault) w fits told = absurd (told.0 refl)
taken_fits d (call.ReadAt fd at len) other w fits told = absurd fits
taken_fits d (call.WriteAt fd at bytes) answer.Done w fits told = (λ is. absurd (cc), λ there. absurd there)
taken_fits d (call.WriteAt fd at bytes) (answer.Refused Fault) w fits told = absurd (told.0 refl)
taken_fits d (call.WriteAt fd at bytes) (answer.Refused Memory) w fits told = absurd (told.1 refl)
taken_fits d (call.WriteAt fd at bytes) other w fits told = absurd fits
taken_fits d (call.Append fd bytes) answer.Done w fits told = (λ is. absurd (cc), λ there. absurd there)
taken_fits d (call.Append fd bytes) (answer.Refused Fault) w fits told = absurd (told.0 refl)
taken_fits d (call.Append fd bytes) (answer.Refused Memory) w fits told = absurd (told.1 refl)
taken_fits d (call.Append fd bytes) other w fits told = absurd fits
taken_fits d (call.Truncate fd len) answer.Done w fits told = (λ is. absurd (cc), λ there. absurd there)
taken_fits d (call.Truncate fd len) (answer.Refused Fault) w fits told = absurd (told.0 refl)
taken_fits d (call.Truncate fd len) other w fits told = absurd fits
taken_fits d (call.Sync fd) answer.Done w fits told = (λ is. absurd (cc), λ there. absurd there)
taken_fits d (call.Sync fd) (answer.Refused Fault) w fits told = absurd (told.0 refl)
taken_fits d (call.Sync fd) other w fits told = absurd fits
taken_fits d (call.Close fd) answer.Done w fits told = (λ is. absurd (cc), λ there. absurd there)
taken_fits d (call.Close fd) other w fits told = absurd fits
taken_fits d (call.Link old new) answer.Done w fits told = (λ is. absurd (cc), λ there. absurd (not_none _ there.2 fits.free))
taken_fits d (call.Link old new) (answer.Refused NotThere) w fits told = (λ is. absurd (cc), λ there. absurd (no_link d old new there.0 there.1 fits))
taken_fits d (call.Link old new) (answer.Refused Exists) w fits told = (λ is. fits, λ there. refl)
taken_fits d (call.Link old new) (answer.Refused Fault) w fits told = absurd (told.0 refl)
taken_fits d (call.Link old new) (answer.Refused Memory) w fits told = absurd (told.1 refl)
taken_fits d (call.Link old new) other w fits told = absurd fits
taken_fits d (call.Unlink name) answer.Done w fits told = (λ is. absurd (cc), λ there. absurd there)
taken_fits d (call.Unlink name) (answer.Refused NotThere) w fits told = (λ is. absurd (cc), λ there. absurd there)
taken_fits d (call.Unlink name) (answer.Refused Fault) w fits told = absurd (told.0 refl)
taken_fits d (call.Unlink name) other w fits told = absurd fits
taken_fits d (call.Stat name) (answer.Stat stat) w fits told = (λ is. absurd (cc), λ there. absurd there)
taken_fits d (call.Stat name) (answer.Refused NotThere) w fits told = (λ is. absurd (cc), λ there. absurd there)
taken_fits d (call.Stat name) (answer.Refused Fault) w fits told = absurd (told.0 refl)
taken_fits d (call.Stat name) other w fits told = absurd fits
taken_fits d (call.NextName dir last) (answer.Name name) w fits told = (λ is. absurd (cc), λ there. absurd there)
taken_fits d (call.NextName dir last) answer.NoName w fits told = (λ is. absurd (cc), λ there. absurd there)
taken_fits d (call.NextName dir last) (answer.Refused NotThere) w fits told = (λ is. absurd (cc), λ there. absurd there)
taken_fits d (call.NextName dir last) (answer.Refused Fault) w fits told = absurd (told.0 refl)
taken_fits d (call.NextName dir last) other w fits told = absurd fits

refused_fits : (d : Disk) (now : ℕ) (c : CallData) (why : FsError) (w : ℕ) → Fits d c (answer.Refused why) w → why ≢ Fault → effect d now c (answer.Refused why) w ≡ d
refused_fits d now (call.CreateExcl name) why w fits other = refl
refused_fits d now (call.Open name how) why w fits other = refl
refused_fits d now (call.ReadAt fd at len) why w fits other = refl
refused_fits d now (call.WriteAt fd at bytes) Fault w fits other = absurd (other refl)
refused_fits d now (call.WriteAt fd at bytes) Memory w fits other = refl
refused_fits d now (call.WriteAt fd at bytes) why w fits other = absurd fits
refused_fits d now (call.Append fd bytes) Fault w fits other = absurd (other refl)
refused_fits d now (call.Append fd bytes) Memory w fits other = refl
refused_fits d now (call.Append fd bytes) why w fits other = absurd fits
refused_fits d now (call.Truncate fd len) why w fits other = refl
refused_fits d now (call.Sync fd) why w fits other = refl
refused_fits d now (call.Close fd) why w fits other = refl
refused_fits d now (call.Link old new) why w fits other = refl
refused_fits d now (call.Unlink name) why w fits other = refl
refused_fits d now (call.Stat name) why w fits other = refl
refused_fits d now (call.NextName dir last) why w fits other = refl

fault_fits : (d : Disk) (now : ℕ) (c : CallData) (w : ℕ) → Fits d c (answer.Refused Fault) w → FaultLeaves d now c (effect d now c (answer.Refused Fault) w)
fault_fits d now (call.CreateExcl name) w fits = refl
fault_fits d now (call.Open name how) w fits = refl
fault_fits d now (call.ReadAt fd at len) w fits = refl
fault_fits d now (call.WriteAt fd at bytes) w fits = (w, fits.1, refl)
fault_fits d now (call.Append fd bytes) w fits = (w, fits.1, refl)
fault_fits d now (call.Truncate fd len) w fits = refl
fault_fits d now (call.Sync fd) w fits = refl
fault_fits d now (call.Close fd) w fits = refl
fault_fits d now (call.Link old new) w fits = refl
fault_fits d now (call.Unlink name) w fits = refl
fault_fits d now (call.Stat name) w fits = refl
fault_fits d now (call.NextName dir last) w fits = refl

looks_fits : (d : Disk) (now : ℕ) (c : CallData) (a : Answer) (w : ℕ) → OnlyLooks c → effect d now c a w ≡ d
looks_fits d now (call.ReadAt fd at len) a w looks = refl
looks_fits d now (call.Stat name) a w looks = refl
looks_fits d now (call.NextName dir last) a w looks = refl
looks_fits d now c a w looks = absurd looks

pub means_missing : (d e : Disk) (now : ℕ) (c : CallData) (a : Answer) → Apply d now c a e → IsTold a → (a ≡ answer.Refused NotThere) ↔ IsMissing d c
means_missing d e now c a (w, fits, is) told = missing_fits d c a w fits told

pub means_taken : (d e : Disk) (now : ℕ) (c : CallData) (a : Answer) → Apply d now c a e → IsTold a → (a ≡ answer.Refused Exists) ↔ IsTaken d c
means_taken d e now c a (w, fits, is) told = taken_fits d c a w fits told

pub means_unchanged : (d e : Disk) (now : ℕ) (c : CallData) (why : FsError) → Apply d now c (answer.Refused why) e → why ≢ Fault → e ≡ d
means_unchanged d e now c why (w, fits, is) other = is ∙ refused_fits d now c why w fits other

pub means_fault : (d e : Disk) (now : ℕ) (c : CallData) → Apply d now c (answer.Refused Fault) e → FaultLeaves d now c e
means_fault d e now c (w, fits, is) = subst (FaultLeaves d now c) (sym is) (fault_fits d now c w fits)

pub means_look : (d e : Disk) (now : ℕ) (c : CallData) (a : Answer) → Apply d now c a e → OnlyLooks c → e ≡ d
means_look d e now c a (w, fits, is) looks = is ∙ looks_fits d now c a w looks
