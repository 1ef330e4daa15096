-- The write of a mark, where it is done: the record reads `D`, and all others of the file as before.
use Rattle.std.proofs.Common.{◌≡◌, ℕ, ◌-◌, ◌<◌, List, length, false, Option, Some, sym, ap, ◌∙◌, subst, ⊎_elim, arith}
use Rattle.std.specs.Prelude.{option_map}
use Rattle.call_fs.proofs.Maps.{put_cases}
use Rattle.call_fs.specs.Apply.{changed, overwritten, put_over}
use Rattle.call_fs.specs.Disk.{Disk, File, Open as OpenFile}
use Rattle.envelope_records.specs.Records.{AreRecords}
use Rattle.envelope_records.specs.declared.channel.Record.{Record}
use Rattle.program_law.proofs.Channel.Texts.{mark_is}
use Rattle.program_law.proofs.Sender.Texts.{they_are}
use Rattle.program_law.specs.Channel.Files.{IsOpen, marked, with_mark}
use Rattle.program_law.specs.Sender.Views.{records_at}
use Rattle.program_law.proofs.Sender.Writes.{dee, in_text, take_dee}
use Rattle.queue_law.proofs.Looks.{find_near, found}
use Rattle.queue_law.specs.Numbers.{Entry, find}
use Rattle.queue_law.specs.Routes.{lane_part}
use Rattle.queue_paths.specs.Names.Name.{Of}
use Rattle.send_jobs.specs.declared.attempts.Attempt.{Attempt}
use Rattle.send_known.specs.declared.channel.Channel.{Channel}
use Rattle.send_links.proofs.WholeRecords.{are_read}
use Rattle.send_links.specs.Records.{records_of}
use Rattle.settle_law.proofs.LaneTexts.{files_on}

dee_bytes : (read place : ℕ) (f : File) → place < length f.bytes → (overwritten read place dee f).bytes ≡ put_over place dee f.bytes
dee_bytes read place f lt = ap (λ t. put_over place t f.bytes) (take_dee (length f.bytes - place) (omega (arith, lt)))

module _ (d : Disk) (c : Channel) (n : ℕ) (y : Entry) (there : find d.names d.files (Of (lane_part c) n) ≡ Some y) (how : OpenFile) (number : how.number ≡ y.number) (read : ℕ) (a : Attempt) (of : a.n ≡ n)
    (open_at : IsOpen (files_on d c) a) where
  abbrev g : File → File
  g = overwritten read a.place dee

  abbrev e : Disk
  e = changed d (Some how) g

  abbrev rec : Record
  rec = record { done = false; place = a.place; address = a.address }

  file_is : y.file ≡ d.files y.number
  file_is = ap (λ (z : Entry). z.file) (found d.names d.files (Of (lane_part c) n) y there).1

  are : AreRecords (d.files y.number).bytes open_at.records
  are = they_are (d.files y.number).bytes open_at.records
      (ap (λ (f : File). records_of f.bytes) (sym file_is) ∙ sym (ap records_at there) ∙ ap (files_on d c) (sym of) ∙ open_at.there)

  bytes_then : (g (d.files y.number)).bytes ≡ put_over a.place dee (d.files y.number).bytes
  bytes_then = dee_bytes read a.place (d.files y.number) (in_text (d.files y.number).bytes open_at.records rec are open_at.reads)

  there_then : find e.names e.files (Of (lane_part c) n) ≡ Some (record { number = y.number; file = g (d.files y.number) })
  there_then = subst (λ (k : ℕ). find (changed d (Some (record { number = k; mode = how.mode })) g).names (changed d (Some (record { number = k; mode = how.mode })) g).files (Of (lane_part c) n)
      ≡ Some (record { number = y.number; file = g (d.files y.number) })) (sym number) (find_near d.names d.files (Of (lane_part c) n) y (g (d.files y.number)) there)

  reads_then : files_on e c n ≡ Some (marked a.place open_at.records)
  reads_then = ap records_at there_then ∙ ap records_of bytes_then
      ∙ are_read (put_over a.place dee (d.files y.number).bytes) (marked a.place open_at.records) (mark_is (d.files y.number).bytes open_at.records rec are open_at.reads)

  -- so that file, and each other one that reads as before
  pub marked_after : (k : ℕ) → ((n ≡ k → ⊥) → files_on e c k ≡ files_on d c k) → files_on e c k ≡ with_mark a (files_on d c) k
  marked_after k others =
      let v : Option (List Record) = option_map (marked a.place) (files_on d c a.n) in
      ⊎_elim
      (λ w. ap (files_on e c) (w.0 ∙ of) ∙ reads_then ∙ sym (ap (option_map (marked a.place)) open_at.there) ∙ sym w.1)
      (λ w. others (λ same. w.0 (sym same ∙ sym of)) ∙ sym w.1)
      (put_cases (files_on d c) a.n v k)
