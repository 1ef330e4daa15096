-- What the file of a name reads before a call and after it.
use Rattle.std.proofs.Common.{◌≡◌, ◌≢◌, ⊎_elim, ℕ, List, Option, Some, None, refl, sym, ap, ◌∙◌}
use Rattle.call_fs.proofs.Maps.{put_at_other, put_cases, put_other}
use Rattle.call_fs.specs.Apply.{Fits, IsNew, changed, cut, effect, empty_file, grown, grown_part, overwritten, overwritten_part, synced, with_name, with_new}
use Rattle.call_fs.specs.Disk.{Disk, File, Open as OpenFile}
use Rattle.call_fs.specs.declared.calls.Answer.TheVariants as answer
use Rattle.call_fs.specs.declared.calls.Answer.{Answer}
use Rattle.call_fs.specs.declared.calls.CallData.TheVariants as call
use Rattle.call_fs.specs.declared.calls.CallData.{CallData}
use Rattle.call_fs.specs.declared.calls.FsError.TheVariants as why
use Rattle.call_fs.specs.declared.past.NeedData.TheVariants as needs
use Rattle.call_fs.specs.declared.past.NeedData.{NeedData}
use Rattle.program_law.specs.Channel.Files.{Files}
use Rattle.program_law.specs.Sender.Views.{records_at}
use Rattle.queue_law.proofs.Looks.{find_some}
use Rattle.queue_law.specs.Numbers.{find}
use Rattle.queue_law.specs.Routes.{lane_part}
use Rattle.queue_paths.specs.Names.Name.{Of}
use Rattle.queue_paths.specs.Names.{path}
use Rattle.send_known.specs.declared.channel.Channel.{Channel}
use Rattle.send_links.specs.Records.{records_of}

-- the channel files of a disk by their records
abbrev pub files_on : Disk → Channel → Files
files_on d c n = records_at (find d.names d.files (Of (lane_part c) n))

-- the name is of this file then, which reads as before
abbrev pub StaysSo : Disk → Disk → List ℕ → ℕ → Type 0
StaysSo d e name i = (e.names name ≡ Some i) × ((e.files i).bytes ≡ (d.files i).bytes)

pub same_records : (d e : Disk) (c : Channel) (n i : ℕ) → d.names (path (Of (lane_part c) n)) ≡ Some i → StaysSo d e (path (Of (lane_part c) n)) i → files_on e c n ≡ files_on d c n
same_records d e c n i there kept =
    ap records_at (find_some e.names e.files (Of (lane_part c) n) i kept.0)
    ∙ ap records_of kept.1
    ∙ sym (ap records_at (find_some d.names d.files (Of (lane_part c) n) i there))

-- What a call that is due must not do for that

-- another file is open
abbrev pub IsElse : ℕ → Option OpenFile → Type 0
IsElse i o = (how : OpenFile) → o ≡ Some how → i ≢ how.number

abbrev pub LeavesText : Disk → List ℕ → ℕ → NeedData → Type 0
LeavesText d name i (needs.File (call.WriteAt fd place bytes)) = IsElse i (d.opens fd.0)
LeavesText d name i (needs.File (call.Append fd bytes)) = IsElse i (d.opens fd.0)
LeavesText d name i (needs.File (call.Truncate fd len)) = IsElse i (d.opens fd.0)
LeavesText d name i (needs.File (call.Unlink other)) = name ≢ other
LeavesText d name i due = Unit {0}

module _ (d : Disk) (name : List ℕ) (i : ℕ) (there : d.names name ≡ Some i) (read : ℕ) where
  changed_else : (o : Option OpenFile) (g : File → File) → IsElse i o → StaysSo d (changed d o g) name i
  changed_else None g other = (there, refl)
  changed_else (Some how) g other = (there, ap (λ (f : File). f.bytes) (put_other d.files how.number (g (d.files how.number)) i (other how refl)))

  changed_same : (o : Option OpenFile) (g : File → File) → ((f : File) → (g f).bytes ≡ f.bytes) → StaysSo d (changed d o g) name i
  changed_same None g same = (there, refl)
  changed_same (Some how) g same = (there, kept) where
    kept : ((changed d (Some how) g).files i).bytes ≡ (d.files i).bytes
    kept = ⊎_elim
        (λ c. ap (λ (f : File). f.bytes) c.1 ∙ same (d.files how.number) ∙ ap (λ (k : ℕ). (d.files k).bytes) (sym c.0))
        (λ c. ap (λ (f : File). f.bytes) c.1)
        (put_cases d.files how.number (g (d.files how.number)) i)

  free_else : (other : List ℕ) → d.names other ≡ None → name ≢ other
  free_else other free same = absurd (cc (sym free ∙ ap d.names (sym same) ∙ there))

  named_else : (other : List ℕ) (o : Option ℕ) → name ≢ other → StaysSo d (with_name d other o) name i
  named_else other o far = (put_at_other d.names other o name far ∙ there, refl)

  made_else : (other : List ℕ) (fd k : ℕ) → IsNew d other fd k → StaysSo d (with_new d read other fd k) name i
  made_else other fd k new = (
    put_at_other d.names other (Some k) name (free_else other new.free) ∙ there,
    ap (λ (f : File). f.bytes) (put_other d.files k (empty_file read) i (λ same. new.unused.unnamed name (there ∙ ap Some same))),
  )

  pub effect_leaves : (c : CallData) (told : Answer) (wrote : ℕ) → Fits d c told wrote → LeavesText d name i (needs.File c) → StaysSo d (effect d read c told wrote) name i
  effect_leaves (call.CreateExcl other) (answer.Created fd k) wrote fits leaves = made_else other fd.0 k fits
  effect_leaves (call.Open other how) (answer.Opened fd) wrote fits leaves = (there, refl)
  effect_leaves (call.Close fd) answer.Done wrote fits leaves = (there, refl)
  effect_leaves (call.WriteAt fd place bytes) answer.Done wrote fits leaves = changed_else (d.opens fd.0) (overwritten read place bytes) leaves
  effect_leaves (call.WriteAt fd place bytes) (answer.Refused why.Fault) wrote fits leaves = changed_else (d.opens fd.0) (overwritten_part read place bytes wrote) leaves
  effect_leaves (call.Append fd bytes) answer.Done wrote fits leaves = changed_else (d.opens fd.0) (grown read bytes) leaves
  effect_leaves (call.Append fd bytes) (answer.Refused why.Fault) wrote fits leaves = changed_else (d.opens fd.0) (grown_part read bytes wrote) leaves
  effect_leaves (call.Truncate fd len) answer.Done wrote fits leaves = changed_else (d.opens fd.0) (cut len) leaves
  effect_leaves (call.Sync fd) answer.Done wrote fits leaves = changed_same (d.opens fd.0) synced (λ f. refl)
  effect_leaves (call.Link old new) answer.Done wrote fits leaves = named_else new (d.names old) (free_else new fits.free)
  effect_leaves (call.Unlink other) answer.Done wrote fits leaves = named_else other None leaves
  effect_leaves c told wrote fits leaves = (there, refl)
