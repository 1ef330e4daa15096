-- When info files were last written, before a call and after it.
use Rattle.std.proofs.Common.{◌≡◌, ◌≢◌, ⊎_elim, ℕ, List, Option, Some, None, option_map, refl, sym, ap, ◌∙◌}
use Rattle.call_fs.proofs.Maps.{put_at_cases, put_at_other, put_cases, put_other}
use Rattle.call_fs.specs.Apply.{Fits, changed, cut, effect, empty_file, grown, grown_part, overwritten, overwritten_part, synced, with_name, with_new}
use Rattle.call_fs.specs.Disk.{Disk, File, IsUnused, Open as OpenFile}
use Rattle.call_fs.specs.Maps.{put, put_at}
use Rattle.call_fs.specs.declared.calls.Answer.TheVariants as answer
use Rattle.call_fs.specs.declared.calls.Answer.{Answer}
use Rattle.call_fs.specs.declared.calls.CallData.TheVariants as call
use Rattle.call_fs.specs.declared.calls.CallData.{CallData}
use Rattle.call_fs.specs.declared.calls.FsError.TheVariants as why
use Rattle.call_fs.specs.declared.past.NeedData.TheVariants as needs
use Rattle.call_fs.specs.declared.past.NeedData.{NeedData}
use Rattle.queue_law.proofs.Looks.{find_some, found, mapped_some}
use Rattle.queue_law.specs.Numbers.{Entry, entry, find}
use Rattle.queue_paths.specs.Names.Name.{Of}
use Rattle.queue_paths.specs.Names.Part.{Info}
use Rattle.queue_paths.specs.Names.{path}

-- of each number, if it has an info file
abbrev pub info_in : Disk → ℕ → Option ℕ
info_in d n = option_map (λ (i : ℕ). (d.files i).moment) (d.names (path (Of Info n)))

abbrev pub HasInfo : Disk → ℕ → ℕ → Type 0
HasInfo d n moment = (i : ℕ) × (d.names (path (Of Info n)) ≡ Some i) × ((d.files i).moment ≡ moment)

pub has_info : (d : Disk) (n moment : ℕ) → info_in d n ≡ Some moment → HasInfo d n moment
has_info d n moment e = mapped_some (λ (i : ℕ). (d.files i).moment) (d.names (path (Of Info n))) moment e

pub info_is : (d : Disk) (n moment : ℕ) → HasInfo d n moment → info_in d n ≡ Some moment
info_is d n moment h = ap (option_map (λ (i : ℕ). (d.files i).moment)) h.1 ∙ ap Some h.2

-- The disk after something was last written at no other moment than before.
abbrev pub SameInfo : Disk → Disk → ℕ → Type 0
SameInfo d e n = (moment : ℕ) → HasInfo e n moment → HasInfo d n moment

pub same_look : (d e : Disk) (n : ℕ) → find e.names e.files (Of Info n) ≡ find d.names d.files (Of Info n) → SameInfo d e n
same_look d e n same moment h =
    let w = found d.names d.files (Of Info n) (entry e.files h.0) (sym same ∙ find_some e.names e.files (Of Info n) h.0 h.1) in
    (h.0, w.0, ap (λ (y : Entry). y.file.moment) (sym w.1) ∙ h.2)

-- What a call that is due must not do for that

-- its file is another one
abbrev pub IsElse : Disk → ℕ → Option OpenFile → Type 0
IsElse d n o = (how : OpenFile) (i : ℕ) → o ≡ Some how → d.names (path (Of Info n)) ≡ Some i → i ≢ how.number

abbrev pub Spares : Disk → ℕ → NeedData → Type 0
Spares d n (needs.File (call.CreateExcl name)) = d.names name ≡ None → path (Of Info n) ≢ name
Spares d n (needs.File (call.WriteAt fd place bytes)) = IsElse d n (d.opens fd.0)
Spares d n (needs.File (call.Append fd bytes)) = IsElse d n (d.opens fd.0)
Spares d n (needs.File (call.Link old new)) = ⊥
Spares d n due = Unit {0}

module _ (d : Disk) (n read : ℕ) where
  changed_else : (o : Option OpenFile) (g : File → File) → IsElse d n o → SameInfo d (changed d o g) n
  changed_else None g other moment h = h
  changed_else (Some how) g other moment h =
      (h.0, h.1, ap (λ (f : File). f.moment) (sym (put_other d.files how.number (g (d.files how.number)) h.0 (other how h.0 refl h.1))) ∙ h.2)

  changed_same : (o : Option OpenFile) (g : File → File) → ((f : File) → (g f).moment ≡ f.moment) → SameInfo d (changed d o g) n
  changed_same None g same moment h = h
  changed_same (Some how) g same moment h = (h.0, h.1, sym kept ∙ h.2) where
    kept : (put d.files how.number (g (d.files how.number)) h.0).moment ≡ (d.files h.0).moment
    kept = ⊎_elim
        (λ (c : (h.0 ≡ how.number) × (put d.files how.number (g (d.files how.number)) h.0 ≡ g (d.files how.number))).
        ap (λ (f : File). f.moment) c.1 ∙ same (d.files how.number) ∙ ap (λ (k : ℕ). (d.files k).moment) (sym c.0))
        (λ (c : (h.0 ≢ how.number) × (put d.files how.number (g (d.files how.number)) h.0 ≡ d.files h.0)). ap (λ (f : File). f.moment) c.1)
        (put_cases d.files how.number (g (d.files how.number)) h.0)

  new_else : (name : List ℕ) (fd k : ℕ) → path (Of Info n) ≢ name → IsUnused d k → SameInfo d (with_new d read name fd k) n
  new_else name fd k far unused moment h =
      let there : d.names (path (Of Info n)) ≡ Some h.0 = sym (put_at_other d.names name (Some k) (path (Of Info n)) far) ∙ h.1 in
      (h.0, there, ap (λ (f : File). f.moment) (sym (put_other d.files k (empty_file read) h.0 (λ same. unused.unnamed (path (Of Info n)) (there ∙ ap Some same)))) ∙ h.2)

  gone : (name : List ℕ) → SameInfo d (with_name d name None) n
  gone name moment h = (
    h.0,
    ⊎_elim
        (λ (c : (path (Of Info n) ≡ name) × (put_at d.names name None (path (Of Info n)) ≡ None)). none (sym c.1 ∙ h.1))
        (λ (c : (path (Of Info n) ≢ name) × (put_at d.names name None (path (Of Info n)) ≡ d.names (path (Of Info n)))). sym c.1 ∙ h.1)
        (put_at_cases d.names name None (path (Of Info n))),
    h.2,
  )
    where
      none : {A : Type 0} → ◌≡◌ {A = Option ℕ} None (Some h.0) → A
      none e = absurd (cc)

  pub effect_spares : (c : CallData) (told : Answer) (wrote : ℕ) → Fits d c told wrote → Spares d n (needs.File c) → SameInfo d (effect d read c told wrote) n
  effect_spares (call.CreateExcl name) (answer.Created fd k) wrote fits spares = new_else name fd.0 k (spares fits.free) fits.unused
  effect_spares (call.Open name how) (answer.Opened fd) wrote fits spares = λ moment h. h
  effect_spares (call.Close fd) answer.Done wrote fits spares = λ moment h. h
  effect_spares (call.WriteAt fd place bytes) answer.Done wrote fits spares = changed_else (d.opens fd.0) (overwritten read place bytes) spares
  effect_spares (call.WriteAt fd place bytes) (answer.Refused why.Fault) wrote fits spares = changed_else (d.opens fd.0) (overwritten_part read place bytes wrote) spares
  effect_spares (call.Append fd bytes) answer.Done wrote fits spares = changed_else (d.opens fd.0) (grown read bytes) spares
  effect_spares (call.Append fd bytes) (answer.Refused why.Fault) wrote fits spares = changed_else (d.opens fd.0) (grown_part read bytes wrote) spares
  effect_spares (call.Truncate fd len) answer.Done wrote fits spares = changed_same (d.opens fd.0) (cut len) (λ f. refl)
  effect_spares (call.Sync fd) answer.Done wrote fits spares = changed_same (d.opens fd.0) synced (λ f. refl)
  effect_spares (call.Link old new) told wrote fits spares = absurd spares
  effect_spares (call.Unlink name) answer.Done wrote fits spares = gone name
  effect_spares c told wrote fits spares = λ moment h. h
