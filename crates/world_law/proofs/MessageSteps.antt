-- What becomes of the message of a request, step by step: it is read, it is given, and it is taken.
use Rattle.std.proofs.Common.{◌≡◌, ◌≢◌, ℕ, ◌<◌, min, List, [], ◌++◌, length, take, drop, Bool, true, false, Option, Some, None, is_some, codes, refl, sym, ap, ◌∙◌, subst, arith, length-take, take-append-drop, drop_of_length-le}
use Rattle.std.specs.Prelude.{if◌then◌else◌, nat_lt}
use Rattle.std.proofs.lemmas.Bool.{ltb-true}
use Rattle.std.proofs.lemmas.List.{append-nil, append_assoc, drop_at}
use Rattle.call_fs.specs.declared.calls.Answer.{Answer}
use Rattle.call_fs.specs.declared.calls.Answer.TheVariants as answer
use Rattle.call_fs.specs.declared.calls.Fd.{Fd}
use Rattle.call_fs.specs.declared.calls.FsError.TheVariants as why
use Rattle.call_fs.specs.declared.file_system.TheConstants.{PIECE}
use Rattle.mail_bytes.specs.Netstring.{netstring}
use Rattle.program_law.specs.Post.Posts.{Task}
use Rattle.queue_law.specs.Injectors.{IsHeld}
use Rattle.spawner_parts.specs.declared.place.Place.{Place}
use Rattle.spawner_parts.specs.declared.row.Row.TheVariants as at
use Rattle.spawner_parts.specs.Table.{launched, opened_by, read_by}
use Rattle.queue_inject.specs.Texts.{entered}
use Rattle.queue_law.specs.Numbers.{Entry, IsTaken, Phase, Queue, about, look}
use Rattle.queue_law.specs.Numbers.Phase.{Free, Queued, Sorted, Finished}
use Rattle.queue_law.proofs.Looks.{found, not_found}
use Rattle.queue_paths.specs.Names.{Part, path}
use Rattle.queue_paths.specs.Names.Name.{Of}
use Rattle.queue_paths.specs.Names.Part.{Mess, Info, Local, Remote, Bounce}
use Rattle.queue_law.proofs.Waits.{todo_named}
use Rattle.queue_states.specs.declared.state.State.TheVariants.{S5}
use Rattle.queue_states.specs.States.{is_there, state_by, state_of, is_in_intd, is_in_todo}
use Rattle.call_fs.specs.declared.past.GotData.{GotData}
use Rattle.call_fs.specs.declared.past.GotData.TheVariants as got
use Rattle.call_fs.specs.declared.past.ChildData.TheVariants as child
use Rattle.call_fs.specs.declared.past.NeedData.{NeedData}
use Rattle.call_fs.specs.declared.past.NeedData.TheVariants as needs
use Rattle.call_fs.specs.declared.program.Port.{Port}
use Rattle.call_fs.specs.declared.program.Port.TheVariants as port
use Rattle.world_pipes.specs.Pipework.{Mouth, Pipe, Pipework, Tenant, closed, fresh, given, gives, input_of, mouth, output, pipes_after, put_pipe, taken}
use Rattle.world_pipes.specs.Pipework.Tenant.{Runs, Remote}
use Rattle.mail_world.specs.History.{State}
use Rattle.mail_world.specs.Untouched.{queue}
use Rattle.world_law.specs.Entered.{IsEntered}
use Rattle.world_law.specs.Inv.{Inv}
use Rattle.world_law.proofs.EnteredStands.{Begins, HoldsText, IsUnfed, reads}
use Rattle.world_law.proofs.Pipes.{IsAway, away_same}
use Rattle.world_law.proofs.PostPipes.{bytes_of, other_pipe, output_away}
use Rattle.world_law.proofs.Safe.{own_numbers}

-- First bytes

pub none_begin : (text : List ℕ) → Begins [] text
none_begin text = record { rest = text; text = refl }

pub all_begin : (text : List ℕ) → Begins text text
all_begin text = record { rest = []; text = append-nil text }

-- first bytes of first bytes are so
pub part_begins : (text : List ℕ) (wrote : ℕ) → Begins (take wrote text) text
part_begins text wrote = record { rest = drop wrote text; text = take-append-drop wrote text }

-- It is read: from where the first bytes end, so many as there are, at most a piece. A piece that isn't full is the last one.

pub record IsReadOn (part bytes text : List ℕ) (piece : ℕ) : Type 0 where
  pub begins : Begins (part ++ bytes) text
  pub whole : length bytes < piece → part ++ bytes ≡ text

module _ (part bytes text : List ℕ) (piece count : ℕ) (b : Begins part text) (size : count ≡ min piece (length (drop (length part) text))) (are : bytes ≡ take count (drop (length part) text)) where
  rest_is : drop (length part) text ≡ b.rest
  rest_is = ap (drop (length part)) (sym b.text) ∙ drop_at part b.rest (length part) refl

  bytes_are : bytes ≡ take count b.rest
  bytes_are = are ∙ ap (take count) rest_is

  count_is : count ≡ min piece (length b.rest)
  count_is = size ∙ ap (λ (t : List ℕ). min piece (length t)) rest_is

  goes_on : (part ++ bytes) ++ drop count b.rest ≡ text
  goes_on = append_assoc part bytes (drop count b.rest) ∙ ap (λ (t : List ℕ). part ++ (t ++ drop count b.rest)) bytes_are ∙ ap (λ (t : List ℕ). part ++ t) (take-append-drop count b.rest) ∙ b.text

  none_left : length bytes < piece → drop count b.rest ≡ []
  none_left short =
      let long = length-take count b.rest in
      let same = ap length bytes_are in
      let most = count_is in
      drop_of_length-le b.rest (omega (arith, long, same, most, short))

  pub read_on_so : IsReadOn part bytes text piece
  read_on_so = record {
    begins = record { rest = drop count b.rest; text = goes_on };
    whole = λ short. sym (append-nil (part ++ bytes)) ∙ ap (λ (t : List ℕ). (part ++ bytes) ++ t) (sym (none_left short)) ∙ goes_on;
  }

-- It is given to a delivery that has received nothing.

pub fed_begins : (took lies text : List ℕ) → took ++ lies ≡ [] → Begins (took ++ (lies ++ netstring text)) (netstring text)
fed_begins took lies text none = subst (λ (t : List ℕ). Begins t (netstring text)) (sym (sym (append_assoc took lies (netstring text)) ∙ ap (λ (t : List ℕ). t ++ netstring text) none)) (all_begin (netstring text))

-- or a part of it, in a giving that failed
pub fed_in_part : (took lies text : List ℕ) (wrote : ℕ) → took ++ lies ≡ [] → Begins (took ++ (lies ++ take wrote (netstring text))) (netstring text)
fed_in_part took lies text wrote none =
    subst (λ (t : List ℕ). Begins t (netstring text)) (sym (sym (append_assoc took lies (take wrote (netstring text))) ∙ ap (λ (t : List ℕ). t ++ take wrote (netstring text)) none)) (part_begins (netstring text) wrote)

-- It is taken: what was received stays.

pub taken_same : (took lies bytes rest : List ℕ) → lies ≡ bytes ++ rest → (took ++ bytes) ++ drop (length bytes) lies ≡ took ++ lies
taken_same took lies bytes rest is =
    ap (λ (t : List ℕ). (took ++ bytes) ++ drop (length bytes) t) is
    ∙ ap (λ (t : List ℕ). (took ++ bytes) ++ t) (drop_at bytes rest (length bytes) refl)
    ∙ append_assoc took bytes rest
    ∙ ap (λ (t : List ℕ). took ++ t) (sym is)

-- The file of a message in S5 reads as it was entered

pub in_s5 : (mess intd todo info local remote bounce : Bool) → state_by mess intd todo info local remote bounce ≡ S5 → (todo ≡ false) × (info ≡ true)
in_s5 false false false false false false false e = absurd (cc)
in_s5 true false false false false false false e = absurd (cc)
in_s5 true true false false false false false e = absurd (cc)
in_s5 true intd true info local remote false e = absurd (cc)
in_s5 true false false true local remote bounce e = (refl, refl)
in_s5 mess intd todo info local remote bounce e = absurd (cc)

pub record HasFile (s : State) (n : ℕ) : Type 0 where
  pub message : List ℕ
  pub is : IsEntered s n message
  pub there : s.disk.names (path (Of Mess n)) ≡ Some n
  pub reads : (s.disk.files n).bytes ≡ message

module _ (s : State) (I : Inv s) (n : ℕ) (stays : state_of s.disk n ≡ S5) where
  abbrev q : Queue
  q = queue s I.role

  parts : (is_in_todo s.disk n ≡ false) × (is_there s.disk Info n ≡ true)
  parts = in_s5 (is_there s.disk Mess n) (is_in_intd s.disk n) (is_in_todo s.disk n) (is_there s.disk Info n) (is_there s.disk Local n) (is_there s.disk Remote n) (is_there s.disk Bounce n) stays

  none_there : (part : Part) → look q (Of part n) ≡ None → is_there s.disk part n ≡ true → ⊥
  none_there part none there = let gone : is_there s.disk part n ≡ false = ap is_some (not_found q.disk.names q.disk.files (Of part n) none) in absurd (cc)

  taken_by : Phase (about q n) → IsTaken (about q n)
  taken_by (Free h) = absurd (none_there Info (h.unsorted Info refl) parts.1)
  taken_by (Queued h) = let there : is_in_todo s.disk n ≡ true = ap is_some (todo_named q.disk.names q.disk.files n h.todo h.todo_there) in let none = parts.0 in absurd (cc)
  taken_by (Sorted h) = h.taken
  taken_by (Finished h) = absurd (none_there Info (h.unsorted Info refl) parts.1)

  pub has_file : HasFile s n
  unfolding entered
  has_file =
      let h = taken_by (I.sound.fine n) in
      let it = found q.disk.names q.disk.files (Of Mess n) h.mess h.mess_there in
      let number : h.mess.number ≡ n = own_numbers s I n h.mess.number it.0 in
      record {
        message = entered h.injection.args;
        is = record { injection = h.injection; lives = h.lives; accepted = h.accepted; text = refl };
        there = it.0 ∙ ap Some number;
        reads = ap (λ (k : ℕ). (s.disk.files k).bytes) (sym number) ∙ ap (λ (y : Entry). y.file.bytes) (sym it.1) ∙ h.message.holds;
      }

-- What lies in the input of a child, after a giving of an actor that doesn't feed it, and any event

abbrev pub IsNoFeed : Pipework → (a b : List ℕ) → NeedData → Type 0
IsNoFeed w a b (needs.Give (port.Program d) bytes) = w.programs a d ≡ Some (Runs b) → ⊥
IsNoFeed w a b due = Unit {0}

module _ (w : Pipework) (a b : List ℕ) (clean : b ≢ codes "clean") (lspawn : b ≢ codes "lspawn") (rspawn : b ≢ codes "rspawn") where
  abbrev pub lies_in : (List ℕ → Port → Pipe) → List ℕ
  lies_in pipes = (pipes b port.Input).bytes

  pub away_left : (to : Option Mouth) (change : Pipe → Pipe) → IsAway to port.Input → lies_in (put_pipe w.pipes to change) ≡ lies_in w.pipes
  away_left to change away = bytes_of _ _ (away_same w.pipes to change b port.Input away)

  other_left : (c : List ℕ) (p : Port) (change : Pipe → Pipe) → b ≢ c → lies_in (put_pipe w.pipes (Some (mouth c p)) change) ≡ lies_in w.pipes
  other_left c p change off = bytes_of _ _ (other_pipe w.pipes (mouth c p) change b port.Input off)

  fed_left : (d : ℕ) (o : Option Tenant) → w.programs a d ≡ o → (w.programs a d ≡ Some (Runs b) → ⊥) → (change : Pipe → Pipe) → lies_in (put_pipe w.pipes (input_of o) change) ≡ lies_in w.pipes
  fed_left d None is none change = refl
  fed_left d (Some (Remote t)) is none change = refl
  fed_left d (Some (Runs c)) is none change = other_left c port.Input change (λ same. none (is ∙ ap (λ (n : List ℕ). Some (Runs n)) (sym same)))

  pub gives_left : (p : Port) (bytes : List ℕ) → IsNoFeed w a b (needs.Give p bytes) → lies_in (gives w a p bytes) ≡ lies_in w.pipes
  gives_left port.Clean bytes none = other_left (codes "clean") port.Input (given bytes) clean
  gives_left port.Lspawn bytes none = other_left (codes "lspawn") port.Input (given bytes) lspawn
  gives_left port.Rspawn bytes none = other_left (codes "rspawn") port.Input (given bytes) rspawn
  gives_left port.Output bytes none = away_left (output w a) (given bytes) (output_away w a)
  gives_left (port.Program d) bytes none = fed_left d (w.programs a d) refl none (λ pipe. closed (given bytes pipe))
  gives_left p bytes none = refl

  pub no_feed_part : (p : Port) (bytes other : List ℕ) → IsNoFeed w a b (needs.Give p bytes) → IsNoFeed w a b (needs.Give p other)
  no_feed_part (port.Program d) bytes other none = none
  no_feed_part p bytes other none = tt

-- of another actor that doesn't feed it
module _ (w : Pipework) (a b : List ℕ) (apart : b ≢ a) (clean : b ≢ codes "clean") (lspawn : b ≢ codes "lspawn") (rspawn : b ≢ codes "rspawn") where
  abbrev lies : (List ℕ → Port → Pipe) → List ℕ
  lies pipes = (pipes b port.Input).bytes

  pub input_left : (due : NeedData) (came : GotData) (wrote : ℕ) → IsNoFeed w a b due → lies (pipes_after w a due came wrote) ≡ lies w.pipes
  input_left (needs.Give p bytes) got.Gave wrote none = gives_left w a b clean lspawn rspawn p bytes none
  input_left (needs.Give p bytes) got.Failed wrote none = gives_left w a b clean lspawn rspawn p (take wrote bytes) (no_feed_part w a b clean lspawn rspawn p bytes (take wrote bytes) none)
  input_left (needs.Take p) (got.Took bytes) wrote none = other_left w a b clean lspawn rspawn a p (taken bytes) apart
  input_left (needs.Start (child.Remote slot domain sender recipient)) (got.Started pid) wrote none = away_left w a b clean lspawn rspawn (Some (mouth a (port.Program slot))) (λ pipe. fresh) refl
  input_left due came wrote none = refl

-- What the local spawner holds of the text of a message, row by row

module _ (s : State) (tasks : ℕ → Option Task) (n : ℕ) (text : List ℕ) where
  abbrev pub Holds : Place → Type 0
  Holds p = HoldsText s tasks n text p.row p

  abbrev Held : Fd → Type 0
  Held fd = IsHeld s.disk.opens s.holder (codes "lspawn") fd.0 (reads n)

  -- it was opened
  pub opened_text : (told : Answer) (p : Place) → ((fd : Fd) → told ≡ answer.Opened fd → Held fd) → p.message ≡ [] → Holds (opened_by told p)
  opened_text (answer.Opened fd) p held none = (held fd refl, subst (λ (t : List ℕ). Begins t text) (sym none) (none_begin text))
  opened_text (answer.Refused why.Memory) p held none = tt
  opened_text told p held none = tt

  -- a piece was read
  piece_text : (full : Bool) (fd : Fd) (bytes : List ℕ) (p : Place) → Held fd → Begins (p.message ++ bytes) text → (full ≡ true → p.message ++ bytes ≡ text)
      → Holds (record p { row = if full then at.CloseMess fd true else at.ReadMess fd; message = p.message ++ bytes })
  piece_text true fd bytes p held begins whole = whole refl
  piece_text false fd bytes p held begins whole = (held, begins)

  pub read_text : (fd : Fd) (told : Answer) (bytes : List ℕ) (p : Place) → Held fd → ((count : ℕ) → told ≡ answer.Count count → IsReadOn p.message bytes text PIECE) → Holds (read_by fd told bytes p)
  read_text fd (answer.Count count) bytes p held pieces =
      let w = pieces count refl in
      piece_text (nat_lt (length bytes) PIECE) fd bytes p held w.begins (λ short. w.whole (ltb-true (length bytes) PIECE short))
  read_text fd told bytes p held pieces = tt

  -- its delivery was started
  pub launched_text : (pid : ℕ) (report : List ℕ) (p : Place) → p.message ≡ netstring text → IsUnfed s tasks p.request.slot → Holds (launched report (got.Started pid) p)
  launched_text pid report p is unfed = (is, unfed)
