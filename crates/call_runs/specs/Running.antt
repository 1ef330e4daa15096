-- Calls that are made one after the other, with what each told.
use Rattle.std.specs.Prelude.{◌≡◌, ℕ, List, [], ◌∷◌, Option, None}
use Rattle.call_fs.specs.declared.calls.CallData.{CallData}
use Rattle.call_fs.specs.declared.calls.Told.{Told}
use Rattle.call_fs.specs.declared.calls.Recorded.{Recorded}
use Rattle.call_fs.specs.declared.modes.Mode.{Mode}
use Rattle.mail_bytes.specs.Moments.{IsMoment}
use Rattle.mail_bytes.specs.Told.{Meets, OnTold, Records}
use Rattle.call_fs.specs.Apply.{Apply, IsReadBy}
use Rattle.call_fs.specs.Columns.{IsAnswerTo, IsMomentIn, IsNumberIn}
use Rattle.call_fs.specs.Disk.{Disk}
use Rattle.call_fs.specs.Past.{Uses, held_after}
use Rattle.call_fs.specs.Plan.{CallKeepsPlan, Plan}
use Rattle.call_fs.specs.Told.{AnswerHasCause}

-- a disk got this call at this moment, and told that: what `perform` says of it
pub record Performs {D : Type 0} (disk : D → Option Disk) (calls : D → Option (List Recorded)) (chosen : D → Option Plan) (failed : D → ℕ) (old : D) (now : ℕ) (call : CallData) (got : Told) (new : D) : Type 0 where
  pub told : Meets (disk old) (disk new) (λ before after. Apply before now call got.answer after)
  pub recorded : Records (calls old) (calls new) (record { call = call; told = got })
  pub read : OnTold (disk old) (λ before. IsReadBy before call got)
  pub kind : IsAnswerTo call got.answer
  pub moment : IsMomentIn got.answer
  pub number : IsNumberIn got.answer
  pub plan : CallKeepsPlan call (chosen old) (chosen new) (disk old) (disk new) got.answer
  pub cause : AnswerHasCause (failed old) (failed new) got.answer

-- the first of the calls were made, as many as there are answers, one after the other
abbrev pub Runs : {D : Type 0} → (D → ℕ → CallData → Told → D → Type 0) → D → List (ℕ × CallData) → List Told → D → Type 0
Runs step old calls [] new = new ≡ old
Runs step old [] (got ∷ more) new = ⊥
Runs {D} step old (call ∷ calls) (got ∷ more) new = (mid : D) × step old call.0 call.1 got mid × Runs step mid calls more new

-- Such a call may be made: its moment is one, and it uses only what is held, in a mode that fits.
abbrev pub May : (ℕ → Option Mode) → ℕ × CallData → Type 0
May held call = IsMoment call.0 × Uses held call.1

-- nothing is held
abbrev pub none_held : ℕ → Option Mode
none_held = λ _. None

-- each call that was made might be made, and the next one, if there is one, may not
abbrev pub StopsAt : (ℕ → Option Mode) → List (ℕ × CallData) → List Told → Type 0
StopsAt held [] [] = Unit {0}
StopsAt held (call ∷ calls) [] = ¬ (May held call)
StopsAt held [] (got ∷ more) = ⊥
StopsAt held (call ∷ calls) (got ∷ more) = May held call × StopsAt (held_after held call.1 got.answer) calls more

-- so many calls as there are answers might be made
abbrev pub AllMay : (ℕ → Option Mode) → List (ℕ × CallData) → List Told → Type 0
AllMay held calls [] = Unit {0}
AllMay held [] (got ∷ more) = ⊥
AllMay held (call ∷ calls) (got ∷ more) = May held call × AllMay (held_after held call.1 got.answer) calls more

-- what is held after them
abbrev pub held_through : (ℕ → Option Mode) → List (ℕ × CallData) → List Told → ℕ → Option Mode
held_through held calls [] = held
held_through held [] (got ∷ more) = held
held_through held (call ∷ calls) (got ∷ more) = held_through (held_after held call.1 got.answer) calls more
