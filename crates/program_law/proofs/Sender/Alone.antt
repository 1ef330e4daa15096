-- What others leave of a finish and of the sweep.
use Rattle.std.proofs.Common.{◌≡◌, ◌≢◌, ℕ, ◌≤◌, List, Option, Some, refl, sym, ap, ◌∙◌, subst, arith}
use Rattle.address_rules.specs.declared.controls.Controls.{Controls}
use Rattle.bounce_record.specs.declared.return_row.ReturnRow.{ReturnRow}
use Rattle.bounce_record.specs.declared.return_row.ReturnRow.TheVariants as back
use Rattle.bounce_record.specs.Returning.{Returning}
use Rattle.call_fs.specs.declared.calls.How.TheVariants as how
use Rattle.call_fs.specs.declared.modes.Mode.{Mode}
use Rattle.call_fs.specs.Disk.{Open as OpenFile}
use Rattle.queue_paths.specs.Names.{Part}
use Rattle.queue_paths.specs.Names.Name.{Of}
use Rattle.queue_paths.specs.Names.Part.{Bounce, Mess}
use Rattle.queue_paths.specs.Parts.{in_todo}
use Rattle.send_known.specs.declared.known.Known.{Known}
use Rattle.send_known.specs.Known.{sender_of}
use Rattle.send_parts.specs.declared.rows.FinishRow.{FinishRow}
use Rattle.send_parts.specs.declared.rows.FinishRow.TheVariants as finish
use Rattle.send_parts.specs.declared.rows.SweepRow.{SweepRow}
use Rattle.send_parts.specs.declared.rows.SweepRow.TheVariants as sweep
use Rattle.queue_law.specs.Bouncing.{MayDiscard, MayUnlink}
use Rattle.queue_law.specs.Injectors.{IsHeld}
use Rattle.queue_law.specs.Numbers.{Queue, About, about, look}
use Rattle.queue_law.specs.Passes.{HasOpen}
use Rattle.queue_law.specs.Ready.{IsSpent}
use Rattle.queue_law.specs.Rests.{RestsAs, Spares}
use Rattle.queue_law.specs.Steps.{Elsewhere}
use Rattle.queue_law.proofs.Rests.{closed_later}
use Rattle.program_law.specs.Sender.Rows.{FinishStands, IsAged, HasMade, HasNotesRead, HasText, HasFile, IsReadIn, ReturnHolds, SweepStands}
use Rattle.program_law.specs.Sender.Points.{PointsAreLeftAlone, Spared, number_in}

spent_spared : (now : ℕ) (k : Option ℕ) (q r : Queue) → Spares now k q r → (n : ℕ) → k ≢ Some n → RestsAs now q n IsSpent → RestsAs now r n IsSpent
spent_spared now k q r S n far h = record { closed = S.closed n far h.closed; rest = subst IsSpent (sym (S.abouts n far h.closed)) h.rest }

spent_later : (now later : ℕ) → now ≤ later → (q : Queue) (n : ℕ) → RestsAs now q n IsSpent → RestsAs later q n IsSpent
spent_later now later soon q n h = record { closed = closed_later now later soon q n h.closed; rest = h.rest }

aged_spared : (now : ℕ) (q r : Queue) (n : ℕ) → about r n ≡ about q n → IsAged now q n → IsAged now r n
aged_spared now q r n same h = record { mess = h.mess; there = ap (λ (w : About). w.parts Mess) same ∙ h.there; old = h.old }

aged_later : (now later : ℕ) → now ≤ later → (q : Queue) (n : ℕ) → IsAged now q n → IsAged later q n
aged_later now later soon q n h = let old = h.old in record { mess = h.mess; there = h.there; old = omega (arith, old, soon) }

-- A return rests on all that concerns its number, and on what is held open
module _ (controls : Controls) (a : List ℕ) (q r : Queue) (n : ℕ) (same : about r n ≡ about q n)
    (opens : (fd : ℕ) (o : OpenFile) → IsHeld q.disk.opens q.holder a fd o → IsHeld r.disk.opens r.holder a fd o) where
  part_kept : (part : Part) → look r (Of part n) ≡ look q (Of part n)
  part_kept part = ap (λ (w : About). w.parts part) same

  text_kept : (part : Part) (text : List ℕ) → HasText q part n text → HasText r part n text
  text_kept part text h = record { file = h.file; there = part_kept part ∙ h.there; text = h.text }

  open_kept : (fd : ℕ) → HasOpen q a fd → HasOpen r a fd
  open_kept fd h = (h.0, opens fd h.0 h.1)

  file_kept : (part : Part) (fd : ℕ) → HasFile q a part n how.Read fd → HasFile r a part n how.Read fd
  file_kept part fd h = record { file = h.file; there = part_kept part ∙ h.there; opened = opens fd (record { number = h.file.number; mode = Mode.Opened how.Read }) h.opened }

  read_kept : (part : Part) (fd : ℕ) (text : List ℕ) → IsReadIn q a part n fd text → IsReadIn r a part n fd text
  unfolding file_kept
  read_kept part fd text h = record {
    held = file_kept part fd h.held;
    begins = h.begins;
  }

  return_kept : (row : ReturnRow) (it : Returning) (sender : List ℕ) → ReturnHolds controls q a row it n sender → ReturnHolds controls r a row it n sender
  return_kept back.Open it sender h = absurd h
  return_kept (back.ReadNotes fd) it sender h = (read_kept Bounce fd.0 it.notes h.0, h.1)
  return_kept (back.CloseNotes fd) it sender h = (file_kept Bounce fd.0 h.0, (text_kept Bounce it.notes h.1.0, h.1.1))
  return_kept back.OpenMessage it sender h = (subst (λ (w : About). HasNotesRead controls w it.notes) (sym same) h.0, h.1)
  return_kept (back.ReadMessage fd) it sender h = (subst (λ (w : About). HasNotesRead controls w it.notes) (sym same) h.0, read_kept Mess fd.0 it.message h.1)
  return_kept (back.CloseMessage fd) it sender h = (subst (λ (w : About). HasNotesRead controls w it.notes) (sym same) h.0, (open_kept fd.0 h.1.0, text_kept Mess it.message h.1.1))
  return_kept (back.Shut fd) it sender h = open_kept fd.0 h
  return_kept back.Start it sender h = subst (λ (w : About). HasMade controls w sender it.input) (sym same) h
  return_kept (back.Give pid) it sender h = subst (λ (w : About). HasMade controls w sender it.input) (sym same) h
  return_kept (back.Await pid) it sender h = subst (λ (w : About). HasMade controls w sender it.input) (sym same) h
  return_kept back.Unlink it sender h = subst MayUnlink (sym same) h
  return_kept back.Discard it sender h = subst MayDiscard (sym same) h
  return_kept back.Over it sender h = absurd h
  return_kept back.Failed it sender h = absurd h

module _ (controls : Controls) (now : ℕ) (a : List ℕ) (q r : Queue) where
  finishes : (o : List ℕ) (m k : Option ℕ) → Elsewhere now o m q r → a ≢ o → Spares now k q r → (row : FinishRow) (n : ℕ) (known : List Known) (it : Returning)
      → Spared k q r row n → FinishStands controls now q a row n known it → FinishStands controls now r a row n known it
  finishes o m k E other S finish.OpenBounce n known it far h = h
  finishes o m k E other S finish.Return n known it far h = record {
    idle = h.idle;
    number = h.number;
    holds = return_kept controls a q r n far (λ fd how held. E.opens a fd how other held) it.row it (sender_of n known) h.holds;
  }
  finishes o m k E other S finish.UnlinkInfo n known it far h = (h.0, ap (λ (w : About). w.parts Bounce) far ∙ h.1)
  finishes o m k E other S finish.Give n known it far h = (h.0, spent_spared now k q r S n far h.1)
  finishes o m k E other S finish.Take n known it far h = h
  finishes o m k E other S finish.Later n known it far h = tt
  finishes o m k E other S finish.Over n known it far h = tt
  finishes o m k E other S finish.Lost n known it far h = tt

module _ (now : ℕ) (a : List ℕ) (q r : Queue) where
  sweeps : (k : Option ℕ) → Spares now k q r → (row : SweepRow) (known : List Known) → ((n : ℕ) → number_in row ≡ Some n → k ≢ Some n)
      → SweepStands now q a row known → SweepStands now r a row known
  sweeps k S (sweep.StatMess split n) known far h = h
  sweeps k S (sweep.StatTodo split n) known far h = (h.0, (S.closed n (far n refl) h.1.0, aged_spared now q r n (S.abouts n (far n refl) h.1.0) h.1.1))
  sweeps k S (sweep.StatInfo split n todo) known far h =
      let same = S.abouts n (far n refl) h.1.0.0 in
      (h.0, ((S.closed n (far n refl) h.1.0.0, aged_spared now q r n same h.1.0.1), λ none. ap (λ (w : About). in_todo w.parts) same ∙ h.1.1 none))
  sweeps k S (sweep.Give split n) known far h = (h.0, (spent_spared now k q r S n (far n refl) h.1.0, aged_spared now q r n (S.abouts n (far n refl) h.1.0.closed) h.1.1))
  sweeps k S sweep.First known far h = tt
  sweeps k S (sweep.Next split) known far h = tt
  sweeps k S (sweep.Take split n) known far h = tt
  sweeps k S sweep.Over known far h = tt
  sweeps k S sweep.Lost known far h = tt

module _ (now later : ℕ) (soon : now ≤ later) (q : Queue) (a : List ℕ) where
  finishes_later : (controls : Controls) (row : FinishRow) (n : ℕ) (known : List Known) (it : Returning) → FinishStands controls now q a row n known it
      → FinishStands controls later q a row n known it
  finishes_later controls finish.OpenBounce n known it h = h
  finishes_later controls finish.Return n known it h = h
  finishes_later controls finish.UnlinkInfo n known it h = h
  finishes_later controls finish.Give n known it h = (h.0, spent_later now later soon q n h.1)
  finishes_later controls finish.Take n known it h = h
  finishes_later controls finish.Later n known it h = tt
  finishes_later controls finish.Over n known it h = tt
  finishes_later controls finish.Lost n known it h = tt

  sweeps_later : (row : SweepRow) (known : List Known) → SweepStands now q a row known → SweepStands later q a row known
  sweeps_later (sweep.StatMess split n) known h = h
  sweeps_later (sweep.StatTodo split n) known h = (h.0, (closed_later now later soon q n h.1.0, aged_later now later soon q n h.1.1))
  sweeps_later (sweep.StatInfo split n todo) known h = (h.0, ((closed_later now later soon q n h.1.0.0, aged_later now later soon q n h.1.0.1), h.1.1))
  sweeps_later (sweep.Give split n) known h = (h.0, (spent_later now later soon q n h.1.0, aged_later now later soon q n h.1.1))
  sweeps_later sweep.First known h = tt
  sweeps_later (sweep.Next split) known h = tt
  sweeps_later (sweep.Take split n) known h = tt
  sweeps_later sweep.Over known h = tt
  sweeps_later sweep.Lost known h = tt

pub points_are_left_alone : PointsAreLeftAlone
points_are_left_alone = record {
  finish = λ controls now a o m k q r E other S row n known it far h. finishes controls now a q r o m k E other S row n known it far h;
  sweeps = λ now a k q r S row known far h. sweeps now a q r k S row known far h;
  finish_later = λ controls now later soon q a row n known it h. finishes_later now later soon q a controls row n known it h;
  sweeps_later = λ now later soon q a row known h. sweeps_later now later soon q a row known h;
}
