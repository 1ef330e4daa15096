-- What a mark and an unlink change.
use Rattle.std.proofs.Common.{◌≡◌, ◌≢◌, ℕ, zero, suc, ◌<◌, List, [], ◌∷◌, length, Option, Some, None, refl, sym, ap, ◌∙◌, subst, ⊎_elim, arith, slice_get}
use Rattle.call_fs.specs.declared.calls.CallData.TheVariants.{WriteAt, Unlink}
use Rattle.call_fs.specs.declared.calls.Answer.{Answer}
use Rattle.call_fs.specs.declared.calls.Answer.TheVariants as answer
use Rattle.call_fs.specs.declared.calls.Fd.{Fd}
use Rattle.call_fs.specs.declared.calls.FsError.TheVariants.{Fault, Memory}
use Rattle.call_fs.specs.Disk.{File, Open as OpenFile}
use Rattle.call_fs.specs.Apply.{changed, overwritten, overwritten_part, Fits}
use Rattle.queue_paths.specs.Names.{Name, path}
use Rattle.queue_paths.specs.Names.Name.{Of}
use Rattle.send_known.specs.declared.channel.Channel.{Channel}
use Rattle.queue_law.specs.Ledgers.{Spot}
use Rattle.queue_law.specs.Ledgers.Line.{Marks}
use Rattle.queue_law.specs.Routes.{lane_part}
use Rattle.queue_law.specs.Books.{Injection, lane_in, routed_in, spot_in}
use Rattle.queue_law.specs.Marks.{IsDone}
use Rattle.queue_law.specs.Numbers.{Queue, about, Sound}
use Rattle.queue_law.specs.Senders.{called_queue, entered_queue, MarksChangeOne, MarksOne, UnlinksOne}
use Rattle.queue_law.proofs.Looks.{find_far, find_near, find_gone}
use Rattle.queue_law.proofs.Deeds.{written, named_other}
use Rattle.queue_law.proofs.Marks.{over, is_over}
use Rattle.queue_law.proofs.Places.{record_on, inside, done_spot}
use Rattle.queue_law.proofs.Sends.{MayWrite, lane_role, lane_there, lane_file, lane_made, mark_entered, marking, may_write, same_injection}

-- a mark that was made, or cut off
abbrev Over : ℕ → (done : Answer) → File → File → Type 0
Over at done old new = (length new.bytes ≡ length old.bytes) × (((k : ℕ) → k ≢ at → slice_get new.bytes k ≡ slice_get old.bytes k) × (done ≡ answer.Done → at < length old.bytes → slice_get new.bytes at ≡ Some 68))

made_over : (now at : ℕ) (done : Answer) (f : File) → Over at done f (overwritten now at (68 ∷ []) f)
made_over now at done f =
    let w = is_over at f.bytes in
    (w.long, ((λ k far. ⊎_elim (λ (e : slice_get (over at f.bytes) k ≡ slice_get f.bytes k). e) (λ (e : (k ≡ at) × (slice_get (over at f.bytes) k ≡ Some 68)). absurd (far e.0)) (w.each k)), (λ is lt. w.here lt)))

part_over : (now at wrote : ℕ) (f : File) → Over at (answer.Refused Fault) f (overwritten_part now at (68 ∷ []) wrote f)
part_over now at zero f = (refl, ((λ k far. refl), (λ is lt. absurd (cc))))
part_over now at (suc zero) f = made_over now at (answer.Refused Fault) f
part_over now at (suc (suc k)) f = made_over now at (answer.Refused Fault) f

module _ (q : Queue) (a : List ℕ) (G : Sound q) (n : ℕ) (ch : Channel) (fd place : ℕ) (may : MayWrite q a n ch fd place) where
  -- the place lies in the file
  place_within : place < length may.lane.file.file.bytes
  place_within =
      let h = marking 0 q a G n ch fd place may in
      let i = h.taken.injection in
      let done = subst (λ (z : Injection). IsDone z.ledger ch place) (same_injection 0 q a G n ch fd place may) may.done in
      let marked = lane_there (about q n) i ch may.lane.file may.lane.there (h.lanes ch) in
      let s = done_spot i h.taken.spots ch place done in
      let there : (spot_in i s.0).place ≡ place = sym (ap (λ (z : Spot). z.place) s.1) in
      let on : (spot_in i s.0).channel ≡ ch = sym (ap (λ (z : Spot). z.channel) s.1) in
      let within = inside (lane_in i ch) (spot_in i s.0).place (routed_in i s.0) (record_on i.ledger.routes i.args s.0 ch on) in
      let long = marked.present.long in
      omega (arith, within, there, long)

  -- the file was written
  wrote_one : (done : Answer) (g : File → File) → Over place done (q.disk.files may.lane.file.number) (g (q.disk.files may.lane.file.number))
      → MarksOne q (written q may.lane.file.number (g (q.disk.files may.lane.file.number))) n ch may.lane.file place done
  wrote_one done g o =
      let j = may.lane.file.number in
      let f = g (q.disk.files j) in
      let old = lane_file 0 q a G n ch fd place may in
      let made = lane_made 0 q a G n ch fd place may in
      record {
        parts = λ part far. find_far q.disk.names q.disk.files (Of part n) j f (λ z h same.
            far (lane_role part n z.number (q.role z.number) ch (G.suits (Of part n) z h).0 (ap q.role same ∙ made)));
        marked = f;
        there = find_near q.disk.names q.disk.files (Of (lane_part ch) n) may.lane.file f may.lane.there;
        long = o.0 ∙ ap (λ (z : File). length z.bytes) (sym old);
        others = λ k far. o.1.0 k far ∙ ap (λ (z : File). slice_get z.bytes k) (sym old);
        reads = λ is. o.1.1 is (subst (λ (z : File). place < length z.bytes) old place_within);
      }

  behind_one : (done : Answer) (g : File → File)
      → MarksOne q (written q may.lane.file.number (g (q.disk.files may.lane.file.number))) n ch may.lane.file place done
      → MarksOne q (record { disk = changed q.disk (q.disk.opens fd) g; holder = q.holder; books = q.books; role = q.role }) n ch may.lane.file place done
  behind_one done g one =
      let by = λ (o : Option OpenFile). MarksOne q (record { disk = changed q.disk o g; holder = q.holder; books = q.books; role = q.role }) n ch may.lane.file place done in
      subst by (sym may.opened.opened) one

  same_one : MarksOne q (record { disk = q.disk; holder = q.holder; books = q.books; role = q.role }) n ch may.lane.file place (answer.Refused Memory)
  same_one = record {
    parts = λ _ _. refl;
    marked = may.lane.file.file;
    there = may.lane.there;
    long = refl;
    others = λ _ _. refl;
    reads = λ is. absurd (cc);
  }

marks_one : (q : Queue) (a : List ℕ) (read n : ℕ) (ch : Channel) (fd : Fd) (place : ℕ) (told : Answer) (wrote : ℕ)
    → Sound q → (may : MayWrite q a n ch fd.0 place) → Fits q.disk (WriteAt fd place (68 ∷ [])) told wrote
    → MarksOne q (called_queue q a read (WriteAt fd place (68 ∷ [])) told wrote q.role) n ch may.lane.file place told
marks_one q a read n ch fd place answer.Done wrote G may fits =
    let g = overwritten read place (68 ∷ []) in
    behind_one q a G n ch fd.0 place may answer.Done g
    (wrote_one q a G n ch fd.0 place may answer.Done g (made_over read place answer.Done (q.disk.files may.lane.file.number)))
marks_one q a read n ch fd place (answer.Refused Fault) wrote G may fits =
    let g = overwritten_part read place (68 ∷ []) wrote in
    behind_one q a G n ch fd.0 place may (answer.Refused Fault) g
    (wrote_one q a G n ch fd.0 place may (answer.Refused Fault) g (part_over read place wrote (q.disk.files may.lane.file.number)))
marks_one q a read n ch fd place (answer.Refused Memory) wrote G may fits = same_one q a G n ch fd.0 place may
marks_one q a read n ch fd place told wrote G may fits = absurd fits

pub marks_change_one : MarksChangeOne
marks_change_one q a read n fd it told wrote G may fits =
    let first = mark_entered 0 q a G n fd it may in
    let one = marks_one (entered_queue q n (Marks it)) a read n it.spot.channel fd it.spot.place told wrote first.sound (may_write 0 q a G n fd it may) fits in
    record { parts = one.parts; marked = one.marked; there = one.there; long = one.long; others = one.others; reads = one.reads }

pub unlinks_one : (q : Queue) (a : List ℕ) (read : ℕ) (x : Name) (told : Answer) (wrote : ℕ) → Fits q.disk (Unlink (path x)) told wrote
    → UnlinksOne q (called_queue q a read (Unlink (path x)) told wrote q.role) x told
unlinks_one q a read x answer.Done wrote fits = record { others = λ y far. named_other q x None q.books y far; gone = λ is. find_gone q.disk.names q.disk.files x }
unlinks_one q a read x (answer.Refused why) wrote fits = record { others = λ y far. refl; gone = λ is. absurd (cc) }
unlinks_one q a read x told wrote fits = absurd fits
