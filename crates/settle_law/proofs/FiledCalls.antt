-- Which calls leave each message that is preprocessed after them as it was before.
use Rattle.std.proofs.Common.{◌≡◌, ◌≢◌, ⊎_elim, ℕ, List, true, false, Option, Some, None, refl, sym, ap, ◌∙◌}
use Rattle.std.specs.Prelude.{IsSome, is_some}
use Rattle.call_fs.proofs.Maps.{put_at_cases}
use Rattle.call_fs.specs.Apply.{changed, effect, with_name, with_new}
use Rattle.call_fs.specs.Disk.{Disk, File, Open as OpenFile}
use Rattle.call_fs.specs.Maps.{put_at}
use Rattle.call_fs.specs.declared.calls.Answer.{Answer}
use Rattle.call_fs.specs.declared.calls.Answer.TheVariants as answer
use Rattle.call_fs.specs.declared.calls.CallData.{CallData}
use Rattle.call_fs.specs.declared.calls.CallData.TheVariants as call
use Rattle.call_fs.specs.declared.calls.FsError.TheVariants as why
use Rattle.call_fs.specs.declared.past.NeedData.{NeedData}
use Rattle.call_fs.specs.declared.past.NeedData.TheVariants as needs
use Rattle.queue_paths.proofs.Paths.{parse-path}
use Rattle.queue_paths.specs.Names.{Name, Part, parse, path}
use Rattle.queue_paths.specs.Names.Name.{Of}
use Rattle.queue_paths.specs.Names.Part.{Info}
use Rattle.queue_paths.specs.Parts.{is_todo, in_todo, parts_of}
use Rattle.queue_paths.proofs.Parts.{todo_out}
use Rattle.settle_law.specs.inside.Met.{IsFiled}

-- it takes no todo file away, and makes an info file only where the todo file is there
abbrev pub Keeps : Disk → ℕ → NeedData → Type 0
Keeps d n (needs.File (call.Unlink name)) = (part : Part) → is_todo part ≡ true → path (Of part n) ≢ name
Keeps d n (needs.File (call.CreateExcl name)) = path (Of Info n) ≡ name → IsSome (in_todo (parts_of d.names n))
Keeps d n (needs.File (call.Link old new)) = ⊥
Keeps d n due = Unit {0}

pub some_of : (o : Option ℕ) → is_some o ≡ true → (i : ℕ) × (o ≡ Some i)
some_of None e = absurd (cc)
some_of (Some i) e = (i, refl)

-- different names have different texts
pub texts_apart : (x y : Name) → x ≢ y → path x ≢ path y
texts_apart x y far same = far (some_name (sym (parse-path x) ∙ ap parse same ∙ parse-path y)) where
  some_name : ◌≡◌ {A = Option Name} (Some x) (Some y) → x ≡ y
  some_name e = cc

module _ (d : Disk) (n read : ℕ) where
  made : (name : List ℕ) (fd k : ℕ) → (path (Of Info n) ≡ name → IsSome (in_todo (parts_of d.names n))) → IsFiled (with_new d read name fd k) n → IsFiled d n
  made name fd k keeps filed = (none, there) where
    was : (part : Part) → is_todo part ≡ true → put_at d.names name (Some k) (path (Of part n)) ≡ None → d.names (path (Of part n)) ≡ None
    was part is gone = ⊎_elim
        (λ (c : (path (Of part n) ≡ name) × (put_at d.names name (Some k) (path (Of part n)) ≡ Some k)). absurd (let bad : ◌≡◌ {A = Option ℕ} (Some k) None = sym c.1 ∙ gone in cc))
        (λ (c : (path (Of part n) ≢ name) × (put_at d.names name (Some k) (path (Of part n)) ≡ d.names (path (Of part n)))). sym c.1 ∙ gone)
        (put_at_cases d.names name (Some k) (path (Of part n)))

    none : in_todo (parts_of d.names n) ≡ None
    none = todo_out (parts_of (put_at d.names name (Some k)) n) (parts_of d.names n) was filed.0

    there : is_some (d.names (path (Of Info n))) ≡ true
    there = ⊎_elim
        (λ (c : (path (Of Info n) ≡ name) × (put_at d.names name (Some k) (path (Of Info n)) ≡ Some k)). absurd (let bad : false ≡ true = sym (ap is_some none) ∙ keeps c.0 in cc))
        (λ (c : (path (Of Info n) ≢ name) × (put_at d.names name (Some k) (path (Of Info n)) ≡ d.names (path (Of Info n)))). sym (ap is_some c.1) ∙ filed.1)
        (put_at_cases d.names name (Some k) (path (Of Info n)))

  removed : (name : List ℕ) → ((part : Part) → is_todo part ≡ true → path (Of part n) ≢ name) → IsFiled (with_name d name None) n → IsFiled d n
  removed name far filed = (none, there) where
    was : (part : Part) → is_todo part ≡ true → put_at d.names name None (path (Of part n)) ≡ None → d.names (path (Of part n)) ≡ None
    was part is gone = ⊎_elim
        (λ (c : (path (Of part n) ≡ name) × (put_at d.names name None (path (Of part n)) ≡ None)). absurd (far part is c.0))
        (λ (c : (path (Of part n) ≢ name) × (put_at d.names name None (path (Of part n)) ≡ d.names (path (Of part n)))). sym c.1 ∙ gone)
        (put_at_cases d.names name None (path (Of part n)))

    none : in_todo (parts_of d.names n) ≡ None
    none = todo_out (parts_of (put_at d.names name None) n) (parts_of d.names n) was filed.0

    there : is_some (d.names (path (Of Info n))) ≡ true
    there = ⊎_elim
        (λ (c : (path (Of Info n) ≡ name) × (put_at d.names name None (path (Of Info n)) ≡ None)). absurd (let bad : false ≡ true = sym (ap is_some c.1) ∙ filed.1 in cc))
        (λ (c : (path (Of Info n) ≢ name) × (put_at d.names name None (path (Of Info n)) ≡ d.names (path (Of Info n)))). sym (ap is_some c.1) ∙ filed.1)
        (put_at_cases d.names name None (path (Of Info n)))

  unchanged : (o : Option OpenFile) (g : File → File) → IsFiled (changed d o g) n → IsFiled d n
  unchanged None g filed = filed
  unchanged (Some how) g filed = filed

  pub call_keeps : (c : CallData) (told : Answer) (wrote : ℕ) → Keeps d n (needs.File c) → IsFiled (effect d read c told wrote) n → IsFiled d n
  call_keeps (call.CreateExcl name) (answer.Created fd k) wrote keeps filed = made name fd.0 k keeps filed
  call_keeps (call.Open name how) (answer.Opened fd) wrote keeps filed = filed
  call_keeps (call.Close fd) answer.Done wrote keeps filed = filed
  call_keeps (call.WriteAt fd place bytes) answer.Done wrote keeps filed = unchanged (d.opens fd.0) _ filed
  call_keeps (call.WriteAt fd place bytes) (answer.Refused why.Fault) wrote keeps filed = unchanged (d.opens fd.0) _ filed
  call_keeps (call.Append fd bytes) answer.Done wrote keeps filed = unchanged (d.opens fd.0) _ filed
  call_keeps (call.Append fd bytes) (answer.Refused why.Fault) wrote keeps filed = unchanged (d.opens fd.0) _ filed
  call_keeps (call.Truncate fd len) answer.Done wrote keeps filed = unchanged (d.opens fd.0) _ filed
  call_keeps (call.Sync fd) answer.Done wrote keeps filed = unchanged (d.opens fd.0) _ filed
  call_keeps (call.Link old new) told wrote keeps filed = absurd keeps
  call_keeps (call.Unlink name) answer.Done wrote keeps filed = removed name keeps filed
  call_keeps c told wrote keeps filed = filed
