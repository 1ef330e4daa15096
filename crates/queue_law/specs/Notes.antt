-- The notes that a bounce file has of the recipients of a message, which couldn't be delivered to.
use Rattle.std.specs.Prelude.{◌≡◌, ℕ, ◌+◌, ◌≤◌, List, [], ◌∷◌, ◌++◌, Option, None, Some, Bool, true, false, ◌&&◌, ◌==◌, if◌then◌else◌, bytes_eq, codes}
use Rattle.std.specs.List.{list_any}
use Rattle.address_rules.specs.declared.controls.Controls.{Controls}
use Rattle.address_rules.specs.Names.{stripped}
use Rattle.address_rules.specs.Routes.{address_in, route_of}
use Rattle.bounce_record.specs.Notes.{count, note_name, with_note}
use Rattle.bounce_record.specs.Resting.{BeginsWith, IsWhole}
use Rattle.call_fs.specs.Apply.{empty_file, grown, grown_part, synced}
use Rattle.call_fs.specs.Disk.{Among, File}
use Rattle.call_fs.specs.Survival.{Survives, settled}
use Rattle.queue_inject.specs.Texts.{recipients_of}
use Rattle.send_known.specs.declared.channel.Channel.{Channel}
use Rattle.send_known.specs.declared.channel.Channel.TheVariants.{Local, Remote}
use Rattle.queue_law.specs.Books.{Injection, routed_in, spot_in, with_line}
use Rattle.queue_law.specs.Ledgers.{Bounced, Ledger, Named, Spot}
use Rattle.queue_law.specs.Ledgers.Line.{Drops, Notes, Returns}
use Rattle.queue_law.specs.Routes.{Recipient, sender_of, spot_after}

abbrev pub is_channel : Channel → Channel → Bool
is_channel Local Local = true
is_channel Remote Remote = true
is_channel c e = false

abbrev pub is_spot : Spot → Spot → Bool
is_spot s t = is_channel s.channel t.channel && (s.place == t.place)

-- the name by which a note tells a recipient with this routed address: without the prefix of its virtual domain, each newline as `_`
abbrev pub told_name : Controls → List ℕ → List ℕ
told_name by address = note_name (stripped by.virtual_domains address)

-- Whose controls name a recipient: those of the sender that wrote over its record last. While none did, those that route it.
abbrev pub namer : Controls → List Named → Spot → Controls
namer routes [] s = routes
namer routes (it ∷ earlier) s = if is_spot s it.spot then it.by else namer routes earlier s

abbrev pub named_now : Ledger → Spot → Named
named_now l s = record { spot = s; by = namer l.routes l.marked s }

-- its name then
abbrev pub name_at : Ledger → Spot → List ℕ → List ℕ
name_at l s address = told_name (named_now l s).by address

abbrev pub name_in : (i : Injection) → Recipient i.args → List ℕ
name_in i r = name_at i.ledger (spot_in i r) (routed_in i r)

abbrev pub one_if : Bool → ℕ
one_if true = 1
one_if false = 0

-- how many of these recipients, which come after those, are such, by their place and their routed address
abbrev pub counted_among : Controls → (Spot → List ℕ → Bool) → List (List ℕ) → List (List ℕ) → ℕ
counted_among routes such earlier [] = 0
counted_among routes such earlier (address ∷ later) =
    one_if (such (spot_after routes earlier address) (address_in (route_of routes address))) + counted_among routes such (earlier ++ address ∷ []) later

-- how many recipients of a message are such and have this name
abbrev pub counted_as : (Spot → Bool) → Injection → List ℕ → ℕ
counted_as such i name = counted_among i.ledger.routes (λ s address. such s && bytes_eq (name_at i.ledger s address) name) [] (recipients_of i.args)

-- it is noted under this name
abbrev pub is_noted_as : List Named → List ℕ → Spot → List ℕ → Bool
is_noted_as noted name s address = list_any (λ it. is_spot s it.spot && bytes_eq (told_name it.by address) name) noted

-- how many are, each once
abbrev pub noted_as : Injection → List ℕ → ℕ
noted_as i name = counted_among i.ledger.routes (is_noted_as i.ledger.noted name) [] (recipients_of i.args)

-- This text names each recipient that is noted, under each name under which it is: of no name it has fewer paragraphs than recipients are noted under
-- it. Of recipients `a@x`, `b@y` and `a@x` again, all noted, it has two paragraphs of `a@x` and one of `b@y`.
abbrev pub Covers : Injection → List ℕ → Type 0
Covers i text = (name : List ℕ) → noted_as i name ≤ count text name

-- Every version of the file begins with whole lines that name each recipient that is noted.
pub record HasNotes (i : Injection) (f : File) : Type 0 where
  pub fixed : List ℕ
  pub whole : IsWhole fixed
  pub begins : BeginsWith fixed f
  pub covers : Covers i fixed

-- an injection of which one recipient more is noted
abbrev pub with_noted : Named → Injection → Injection
with_noted it i = with_line (Notes it) i

-- A new file has the notes of a message of which nothing is noted. What is put at its end, also in part, and a machine stop leave the
-- notes that a file has. So it names each noted recipient, as it is and as it was at its last sync, and any recipients that are all noted,
-- such as those that failed, weren't delivered to and are marked, each under the name that it has, are no more under a name than it names.
pub record NotesStay : Type 0 where
  pub none : (i : Injection) (now : ℕ) → i.ledger.noted ≡ [] → HasNotes i (empty_file now)
  pub grows : (i : Injection) (more : List ℕ) (now : ℕ) (f : File) → HasNotes i f → HasNotes i (grown now more f)
  pub grows_in_part : (i : Injection) (more : List ℕ) (now wrote : ℕ) (f : File) → HasNotes i f → HasNotes i (grown_part now more wrote f)
  pub survives : (i : Injection) (bytes : List ℕ) (f : File) → HasNotes i f → Survives f bytes → HasNotes i (settled bytes f)
  pub named : (i : Injection) (f : File) → HasNotes i f → Covers i f.bytes × Covers i f.kept
  pub counted : (i : Injection) (such : Spot → Bool) → ((s : Spot) → such s ≡ true → Among (named_now i.ledger s) i.ledger.noted) → (text : List ℕ) → Covers i text
      → (name : List ℕ) → counted_as such i name ≤ count text name
  -- a sync leaves them too
  pub syncs : (i : Injection) (f : File) → HasNotes i f → HasNotes i (synced f)
  -- once the note of a recipient was put at the end of a file that names the others, and the file was synced, it has that too
  pub entered : (by : Controls) (i : Injection) (r : Recipient i.args) (base report : List ℕ) (f : File) → Covers i base
      → f.bytes ≡ with_note base (stripped by.virtual_domains (routed_in i r)) report → HasNotes (with_noted (record { spot = spot_in i r; by = by }) i) (synced f)

-- That what is noted of a message was settled, once its bounce file is gone: a bounce was injected whose notes name each recipient that
-- is noted, or the notes of a bounce of a bounce were dropped, or nothing is noted.
pub data NotesDone (i : Injection) : Type 0 where
  Injected : (b : Bounced) → Among b i.ledger.bounced → Covers i b.read.notes → NotesDone i
  Dropped : i.ledger.dropped ≡ true → sender_of i.args ≡ codes "#@[]" → NotesDone i
  Nothing : i.ledger.noted ≡ [] → NotesDone i

-- Where the notes of a message are: its bounce file is this one, or is missing.
pub data NotesState (i : Injection) (bounce : Option File) : Type 0 where
  There : (f : File) → bounce ≡ Some f → HasNotes i f → NotesState i bounce
  Gone : bounce ≡ None → NotesDone i → NotesState i bounce

-- an injection with a bounce more that was accepted, or with its notes dropped
abbrev pub with_bounced : Bounced → Injection → Injection
with_bounced b i = with_line (Returns b) i

abbrev pub with_dropped : Injection → Injection
with_dropped i = with_line Drops i

-- That such recipients of this name are accounted for, none of which was delivered to: the bounce file names them, as it is and as it was
-- at its last sync; or a bounce that was accepted carries notes that name them; or they are dropped, since the message is a bounce of a
-- bounce.
pub data HeldOrReturned (i : Injection) (such : Spot → Bool) (name : List ℕ) (bounce : Option File) : Type 0 where
  Held : (f : File) → bounce ≡ Some f → counted_as such i name ≤ count f.bytes name → counted_as such i name ≤ count f.kept name
      → HeldOrReturned i such name bounce
  Returned : (b : Bounced) → Among b i.ledger.bounced → counted_as such i name ≤ count b.read.notes name → HeldOrReturned i such name bounce
  Void : i.ledger.dropped ≡ true → sender_of i.args ≡ codes "#@[]" → HeldOrReturned i such name bounce

-- A bounce file may be made while nothing is noted. It may go once a bounce with the notes that it has was accepted, and when its notes
-- are dropped. That a bounce is accepted leaves the file as it is: after a machine stop before the unlink the notes are returned again.
-- Where notes are there or settled each recipient that is noted is accounted for.
pub record NotesAccount : Type 0 where
  pub created : (i : Injection) (now : ℕ) → i.ledger.noted ≡ [] → NotesState i (Some (empty_file now))
  pub accepted : (i : Injection) (b : Bounced) (bounce : Option File) → NotesState i bounce → NotesState (with_bounced b i) bounce
  pub returned : (i : Injection) (b : Bounced) (f : File) → Among b i.ledger.bounced → b.read.notes ≡ f.bytes → NotesState i (Some f) → NotesState i None
  pub dropped : (i : Injection) → sender_of i.args ≡ codes "#@[]" → NotesState (with_dropped i) None
  pub accounted : (i : Injection) (such : Spot → Bool) → ((s : Spot) → such s ≡ true → Among (named_now i.ledger s) i.ledger.noted) → (r : Recipient i.args)
      → such (spot_in i r) ≡ true → (bounce : Option File) → NotesState i bounce → HeldOrReturned i such (name_in i r) bounce
