-- Each recipient of an accepted injection is accounted for.
use Rattle.std.proofs.Common.{◌≡◌, ◌≢◌, inl, inr, ℕ, List, [], ◌∷◌, Bool, true, false, Option, Some, None, refl, sym, ap, ◌∙◌, subst, subst₂, ⊎_elim, arith, slice_get}
use Rattle.std.specs.Prelude.{◌||◌, not, if◌then◌else◌}
use Rattle.std.specs.List.{list_any}
use Rattle.std.proofs.lemmas.Bool.{and_parts, cases_Bool, not-true}
use Rattle.address_rules.specs.declared.controls.Controls.{Controls}
use Rattle.call_fs.specs.Disk.{Disk, File, Among, IsSynced}
use Rattle.queue_inject.specs.declared.injection.Arguments.{Arguments}
use Rattle.queue_inject.specs.Texts.{intd_text, todo_of}
use Rattle.queue_paths.specs.Names.Name.{Of}
use Rattle.queue_paths.specs.Names.Part.{Bounce}
use Rattle.queue_law.proofs.Waits.{todo_named, todo_entry}
use Rattle.queue_law.specs.Books.{Books, Injection, lane_in, routed_in, spot_in}
use Rattle.send_known.specs.declared.channel.Channel.{Channel}
use Rattle.queue_law.specs.Routes.{Recipient, lane_part}
use Rattle.queue_law.specs.Ledgers.{Bounced, IsUnreturned, Ledger, Spot, Named}
use Rattle.queue_law.specs.Marks.{IsDone, HasItsSpots, IsSettled, MayBeMarked}
use Rattle.queue_law.specs.Notes.{HasNotes, NotesDone, NotesState, is_spot, name_in, named_now, namer}
use Rattle.queue_law.specs.Notes.NotesDone.{Injected, Nothing, Dropped as Discarded}
use Rattle.queue_law.specs.Notes.NotesState.{Gone, There}
use Rattle.queue_law.specs.Numbers.{Entry, Queue, about, file_in, look, IsPreprocessed, IsQueued, LaneState, Phase}
use Rattle.queue_law.specs.Numbers.Phase.{Free, Queued, Sorted, Finished}
use Rattle.queue_law.specs.Numbers.LaneState.{LaneThere, LaneGone}
use Rattle.queue_law.specs.Accounts.{IsInTodo, Accounted, AllAccounted, is_delivered, is_failed, is_lost, is_open, is_open_letter, is_to_tell, opens_at}
use Rattle.queue_law.specs.Accounts.Accounted.{Pending, Unmarked, Delivered, Held, Returned, Dropped}
use Rattle.queue_law.proofs.Looks.{found}
use Rattle.queue_law.proofs.Tests.{off}
use Rattle.queue_law.proofs.Notes.{notes_stay, same_spot, spot_itself}
use Rattle.queue_law.proofs.Places.{record_on, reads_open, inside, letter}
use Rattle.todo_pass.specs.Places.{HasRecord}

todo_is : (args : Arguments) → (intd_text args).bytes ≡ todo_of args
unfolding todo_of
todo_is args = refl

-- A spot is in a list exactly if the test finds it

spot_is : (s t : Spot) → is_spot s t ≡ true → s ≡ t
spot_is s t e =
    let w = same_spot s t e in
    λ k. record { channel = w.0 k; place = w.1 k }

pub found_among : (s : Spot) (xs : List Spot) → list_any (is_spot s) xs ≡ true → Among s xs
found_among s [] e = absurd (off e)
found_among s (x ∷ xs) e = ⊎_elim
    (λ (here : is_spot s x ≡ true). inl (spot_is s x here))
    (λ (far : is_spot s x ≡ false). inr (found_among s xs (sym (ap (λ (b : Bool). b || list_any (is_spot s) xs) far) ∙ e)))
    (cases_Bool (is_spot s x))

pub among_found : (s : Spot) (xs : List Spot) → Among s xs → list_any (is_spot s) xs ≡ true
among_found s [] h = absurd h
among_found s (x ∷ xs) h = ⊎_elim
    (λ (same : s ≡ x). ap (λ (b : Bool). b || list_any (is_spot s) xs) (ap (is_spot s) (sym same) ∙ spot_itself s))
    (λ (rest : Among s xs). or_true (is_spot s x) (list_any (is_spot s) xs) (among_found s xs rest))
    h
  where
    or_true : (b c : Bool) → c ≡ true → (b || c) ≡ true
    or_true true c e = refl
    or_true false c e = e

lost_parts : (l : Ledger) (s : Spot) → is_lost l s ≡ true → (Among s l.failed) × (is_delivered l s ≡ false)
lost_parts l s e =
    let w = and_parts (is_failed l s) (not (is_delivered l s)) e in
    (found_among s l.failed w.0, not-true (is_delivered l s) w.1)

-- whoever wrote over a record last did so
named_among : (routes : Controls) (marked : List Named) (s : Spot) (by : Controls) → Among (record { spot = s; by = by }) marked → Among (record { spot = s; by = namer routes marked s }) marked
named_among routes [] s by among = absurd among
named_among routes (it ∷ earlier) s by among = ⊎_elim
    (λ (here : is_spot s it.spot ≡ true).
    let same : s ≡ it.spot = spot_is s it.spot here in
    let last : namer routes (it ∷ earlier) s ≡ it.by = ap (λ (b : Bool). if b then it.by else namer routes earlier s) here in
    inl (λ k. record { spot = same k; by = last k }))
    (λ (far : is_spot s it.spot ≡ false).
    let last : namer routes (it ∷ earlier) s ≡ namer routes earlier s = ap (λ (b : Bool). if b then it.by else namer routes earlier s) far in
    let rest : Among (record { spot = s; by = by }) earlier = ⊎_elim
    (λ (same : ◌≡◌ {A = Named} (record { spot = s; by = by }) it). absurd (off (sym far ∙ (ap (λ (z : Named). is_spot s z.spot) (sym same) ∙ spot_itself s))))
    (λ (older : Among (record { spot = s; by = by }) earlier). older)
    among in
    inr (subst (λ (c : Controls). Among (record { spot = s; by = c }) earlier) (sym last) (named_among routes earlier s by rest)))
    (cases_Bool (is_spot s it.spot))

-- so the mark that names it might be written
last_mark : (i : Injection) (s : Spot) → HasItsSpots i → IsDone i.ledger s.channel s.place → MayBeMarked i.ledger (named_now i.ledger s)
last_mark i s spots done = spots.marked (named_now i.ledger s) (named_among i.ledger.routes i.ledger.marked s done.0 done.1)

-- a lost recipient that is done is noted, under the name that it has
done_noted : (i : Injection) (s : Spot) → HasItsSpots i → IsDone i.ledger s.channel s.place → is_delivered i.ledger s ≡ false → Among (named_now i.ledger s) i.ledger.noted
done_noted i s spots done none = ⊎_elim
    (λ (delivered : Among s i.ledger.delivered). absurd (off (sym none ∙ among_found s i.ledger.delivered delivered)))
    (λ (noted : Among (named_now i.ledger s) i.ledger.noted). noted)
    (last_mark i s spots done)

module _ (d : Disk) (b : Books) (i : Injection) (r : Recipient i.args) where
  abbrev spot : Spot
  spot = spot_in i r

  abbrev name : List ℕ
  name = name_in i r

  abbrev Counts : Type 0
  Counts = Accounted d b i r

  -- A recipient is noted whose message has its notes

  -- all lost recipients are noted, if their channels' files are gone
  lost_noted : HasItsSpots i → ((ch : Channel) (t : Recipient i.args) → (spot_in i t).channel ≡ ch → IsDone i.ledger ch (spot_in i t).place)
      → (s : Spot) → is_lost i.ledger s ≡ true → Among (named_now i.ledger s) i.ledger.noted
  lost_noted spots all s lost =
      let w = lost_parts i.ledger s lost in
      let at = spots.failed s w.0 in
      let done : IsDone i.ledger (spot_in i at.0).channel (spot_in i at.0).place = all (spot_in i at.0).channel at.0 refl in
      done_noted i s spots (subst (λ (t : Spot). IsDone i.ledger t.channel t.place) (sym at.1) done) w.1

  by_done : HasItsSpots i → Among (named_now i.ledger spot) i.ledger.noted → ((s : Spot) → is_lost i.ledger s ≡ true → Among (named_now i.ledger s) i.ledger.noted) → NotesDone i → Counts
  by_done spots noted all (Injected x among covers) =
      Returned (spots.noted (named_now i.ledger spot) noted) x among (spots.bounced x among) (notes_stay.counted i (is_lost i.ledger) all x.read.notes covers name)
  by_done spots noted all (Discarded is from) = Dropped (spots.noted (named_now i.ledger spot) noted) is from
  by_done spots noted all (Nothing none) = absurd (subst (λ (xs : List Named). Among (named_now i.ledger spot) xs) none noted)

  settled_so : IsSettled i → Counts
  settled_so h = ⊎_elim
      (λ (delivered : Among spot i.ledger.delivered). Delivered delivered)
      (λ (noted : Among (named_now i.ledger spot) i.ledger.noted). by_done h.spots noted (lost_noted h.spots h.all) h.notes)
      (last_mark i spot h.spots (h.all spot.channel r refl))

module _ (q : Queue) (i : Injection) (r : Recipient i.args) (lives : q.books.living i.number ≡ Some i) where
  in_todo : IsQueued (about q i.number) → IsInTodo q.disk i
  in_todo h =
      let same : h.taken.injection ≡ i = (let w = h.taken.lives in cc) in
      let todo = todo_entry q.disk.names q.disk.files i.number h.todo h.todo_there in
      let text = subst₂ (λ (y : Entry) (z : Injection). IsSynced y.file (intd_text z.args).bytes) todo same h.text in
      record { file = h.todo.number; there = todo_named q.disk.names q.disk.files i.number h.todo h.todo_there; text = subst (IsSynced (q.disk.files h.todo.number)) (todo_is i.args) text }

  abbrev at_spot : Spot
  at_spot = spot_in i r

  abbrev its_name : List ℕ
  its_name = name_in i r

  abbrev IsCounted : Type 0
  IsCounted = Accounted q.disk q.books i r

  -- what is to be told of a preprocessed message is noted
  tell_noted : HasItsSpots i → ((ch : Channel) → LaneState (about q i.number) i ch) → (s : Spot) → is_to_tell q.disk i s ≡ true → Among (named_now i.ledger s) i.ledger.noted
  tell_noted spots lanes s tell =
      let w = and_parts (is_lost i.ledger s) (not (is_open q.disk i.number s)) tell in
      let lost = lost_parts i.ledger s w.0 in
      let at = spots.failed s lost.0 in
      let closed : is_open q.disk i.number s ≡ false = not-true (is_open q.disk i.number s) w.1 in
      let done : IsDone i.ledger (spot_in i at.0).channel (spot_in i at.0).place =
      shut_done at.0 (subst (λ (t : Spot). is_open q.disk i.number t ≡ false) at.1 closed) (lanes (spot_in i at.0).channel) in
      done_noted i s spots (subst (λ (t : Spot). IsDone i.ledger t.channel t.place) (sym at.1) done) lost.1
    where
      shut_done : (t : Recipient i.args) → is_open q.disk i.number (spot_in i t) ≡ false → LaneState (about q i.number) i (spot_in i t).channel
          → IsDone i.ledger (spot_in i t).channel (spot_in i t).place
      shut_done t closed (LaneGone none all) = all t refl
      shut_done t closed (LaneThere y there marked) =
          let ch = (spot_in i t).channel in
          let place = (spot_in i t).place in
          let text = lane_in i ch in
          let h = record_on i.ledger.routes i.args t ch refl in
          let within = inside text place (routed_in i t) h in
          let w = found q.disk.names q.disk.files (Of (lane_part ch) i.number) y there in
          let file : y.file ≡ q.disk.files y.number = ap (λ (z : Entry). z.file) w.1 in
          ⊎_elim
          (λ (same : slice_get y.file.bytes place ≡ slice_get text place).
          let reads : slice_get (q.disk.files y.number).bytes place ≡ Some 84 = ap (λ (f : File). slice_get f.bytes place) (sym file) ∙ same ∙ letter text place (routed_in i t) h in
          let opened : is_open q.disk i.number (spot_in i t) ≡ true =
          ap (λ (o : Option ℕ). opens_at q.disk.files o place) w.0 ∙ ap (λ (o : Option ℕ). is_open_letter o) reads in
          absurd (off (sym closed ∙ opened)))
          (λ (done : IsDone i.ledger ch place × (slice_get y.file.bytes place ≡ Some 68)). done.0)
          (marked.present.each place (omega (arith, within)))

  -- the bounce file is there, and names it
  by_file : HasItsSpots i → Among (named_now i.ledger at_spot) i.ledger.noted → ((ch : Channel) → LaneState (about q i.number) i ch) → (o : Option Entry) → look q (Of Bounce i.number) ≡ o
      → (f : File) → file_in o ≡ Some f → HasNotes i f → IsCounted
  by_file spots noted lanes None none f is has = let w : ◌≡◌ {A = Option File} None (Some f) = is in absurd (cc)
  by_file spots noted lanes (Some y) there f is has =
      let first : ◌≡◌ {A = Option File} (Some y.file) (Some f) = is in
      let same : y.file ≡ f = cc in
      let w = found q.disk.names q.disk.files (Of Bounce i.number) y there in
      let file : f ≡ q.disk.files y.number = sym same ∙ ap (λ (z : Entry). z.file) w.1 in
      let named = notes_stay.named i (q.disk.files y.number) (subst (HasNotes i) file has) in
      let tells = notes_stay.counted i (is_to_tell q.disk i) (tell_noted spots lanes) in
      Held lives (spots.noted (named_now i.ledger at_spot) noted) (record {
        file = y.number;
        there = w.0;
        present = tells (q.disk.files y.number).bytes named.0 its_name;
        synced = tells (q.disk.files y.number).kept named.1 its_name;
      })

  by_notes : (h : IsPreprocessed (about q i.number)) → h.taken.injection ≡ i → HasItsSpots i → ((ch : Channel) → LaneState (about q i.number) i ch)
      → Among (named_now i.ledger at_spot) i.ledger.noted → NotesState i (file_in (look q (Of Bounce i.number))) → IsCounted
  by_notes h same spots lanes noted (There f is has) = by_file spots noted lanes (look q (Of Bounce i.number)) refl f is has
  by_notes h same spots lanes noted (Gone is settled) = by_settled settled
    where
      -- a bounce was accepted, or the notes were dropped
      lane_gone : (ch : Channel) → (IsUnreturned i.ledger → ⊥) → (o : Option Entry) → look q (Of (lane_part ch) i.number) ≡ o → look q (Of (lane_part ch) i.number) ≡ None
      lane_gone ch returned None none = none
      lane_gone ch returned (Some y) there =
          let some : (about q i.number).parts (lane_part ch) ≢ None = (λ none. let w : ◌≡◌ {A = Option Entry} (Some y) None = sym there ∙ none in absurd (cc)) in
          absurd (returned (subst (λ (z : Injection). IsUnreturned z.ledger) same (h.unsettled ch some)))

      lane_done : (ch : Channel) → look q (Of (lane_part ch) i.number) ≡ None → LaneState (about q i.number) i ch
          → (t : Recipient i.args) → (spot_in i t).channel ≡ ch → IsDone i.ledger ch (spot_in i t).place
      lane_done ch none (LaneGone gone all) t on = all t on
      lane_done ch none (LaneThere y there marked) t on = let w : ◌≡◌ {A = Option Entry} None (Some y) = sym none ∙ there in absurd (cc)

      all_noted : (IsUnreturned i.ledger → ⊥) → (s : Spot) → is_lost i.ledger s ≡ true → Among (named_now i.ledger s) i.ledger.noted
      all_noted returned = lost_noted q.disk q.books i r spots (λ ch t on.
          lane_done ch (lane_gone ch returned (look q (Of (lane_part ch) i.number)) refl) (lanes ch) t on)

      by_settled : NotesDone i → IsCounted
      by_settled (Injected x among covers) =
          by_done q.disk q.books i r spots noted (all_noted (λ u. absurd (subst (λ (xs : List Bounced). Among x xs) u.none among))) (Injected x among covers)
      by_settled (Discarded is from) = by_done q.disk q.books i r spots noted (all_noted (λ u. off (sym u.kept ∙ is))) (Discarded is from)
      by_settled (Nothing none) = absurd (subst (λ (xs : List Named). Among (named_now i.ledger at_spot) xs) none noted)

  -- it was delivered to, or is noted
  by_mark : (h : IsPreprocessed (about q i.number)) → h.taken.injection ≡ i → HasItsSpots i → ((ch : Channel) → LaneState (about q i.number) i ch)
      → NotesState i (file_in (look q (Of Bounce i.number))) → IsDone i.ledger at_spot.channel at_spot.place → IsCounted
  by_mark h same spots lanes notes done = ⊎_elim
      (λ (delivered : Among at_spot i.ledger.delivered). Delivered delivered)
      (λ (noted : Among (named_now i.ledger at_spot) i.ledger.noted). by_notes h same spots lanes noted notes)
      (last_mark i at_spot spots done)

  in_lane : HasItsSpots i → (IsDone i.ledger at_spot.channel at_spot.place → IsCounted) → LaneState (about q i.number) i at_spot.channel → IsCounted
  in_lane spots marked_so (LaneGone none all) = marked_so (all r refl)
  in_lane spots marked_so (LaneThere y there marked) =
      let w = found q.disk.names q.disk.files (Of (lane_part at_spot.channel) i.number) y there in
      let place = at_spot.place in
      let text = lane_in i at_spot.channel in
      let within = inside text place (routed_in i r) (record_on i.ledger.routes i.args r at_spot.channel refl) in
      ⊎_elim
      (λ (same : slice_get y.file.bytes place ≡ slice_get text place).
      let reads = reads_open i at_spot.channel y.file.bytes spots marked.present r refl same in
      let file : y.file ≡ q.disk.files y.number = ap (λ (z : Entry). z.file) w.1 in
      Unmarked lives (record {
        file = y.number;
        there = w.0;
        reads = subst (λ (f : File). HasRecord f.bytes place (routed_in i r)) file reads;
      }))
      (λ (done : IsDone i.ledger at_spot.channel place × (slice_get y.file.bytes place ≡ Some 68)). marked_so done.0)
      (marked.present.each place (omega (arith, within)))

  by_sorted : (h : IsPreprocessed (about q i.number)) → h.taken.injection ≡ i → IsCounted
  by_sorted h same =
      let spots = subst HasItsSpots same h.taken.spots in
      let lanes : (ch : Channel) → LaneState (about q i.number) i ch = (λ ch. subst (λ (z : Injection). LaneState (about q i.number) z ch) same (h.lanes ch)) in
      let notes = subst (λ (z : Injection). NotesState z (file_in (look q (Of Bounce i.number)))) same h.notes in
      in_lane spots (by_mark h same spots lanes notes) (lanes at_spot.channel)

  by_phase : i.accepted ≡ true → Phase (about q i.number) → IsCounted
  by_phase accepted (Free h) = absurd (h.not_accepted i lives accepted)
  by_phase accepted (Queued h) = Pending lives (in_todo h)
  by_phase accepted (Sorted h) = by_sorted h (let w = h.taken.lives in cc)
  by_phase accepted (Finished h) =
      let same : h.injection ≡ i = (let w = h.lives in cc) in
      settled_so q.disk q.books i r (subst IsSettled same h.settled)

pub all_accounted : AllAccounted
all_accounted q G i h accepted r = ⊎_elim
    (λ (lives : q.books.living i.number ≡ Some i). by_phase q i r lives accepted (G.fine i.number))
    (λ (over : Among i q.books.over). settled_so q.disk q.books i r (G.over i over accepted))
    h
