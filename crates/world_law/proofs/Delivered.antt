-- An attempt in flight is for the recipient whose record stands at its place.
use Rattle.std.proofs.Common.{◌≡◌, ⊎_elim, ℕ, ◌+◌, ◌<◌, ◌≤◌, List, [], ◌∷◌, length, false, Option, Some, None, sym, ap, ◌∙◌, subst, arith}
use Rattle.std.specs.Prelude.{Contains, IfSome}
use Rattle.std.proofs.lemmas.Bool.{cases_lt}
use Rattle.std.proofs.lemmas.List.{get_or_default, get_or_past}
use Rattle.call_fs.specs.Disk.{Among}
use Rattle.program_law.specs.Channel.Files.{IsOpen}
use Rattle.program_law.specs.Channel.Tied.{in_hand, is_slot_at}
use Rattle.program_law.proofs.Channel.Counts.{contained_counts}
use Rattle.program_law.proofs.Channel.Ties.{at_itself}
use Rattle.envelope_records.specs.declared.channel.Record.{Record}
use Rattle.program_law.proofs.Channel.Passes.{Rises, rises}
use Rattle.queue_law.specs.Books.{Injection, routed_in, spot_in}
use Rattle.queue_law.specs.Numbers.{IsPreprocessed, Queue, Sound, about}
use Rattle.queue_law.specs.Routes.{Recipient}
use Rattle.queue_law.specs.Senders.{HasLane}
use Rattle.queue_law.proofs.Readings.{records_are}
use Rattle.queue_law.proofs.Sends.{lane_there, sorted_of_lane}
use Rattle.send_parts.specs.declared.row.Row.{Row}
use Rattle.send_jobs.specs.declared.attempts.Attempt.{Attempt}
use Rattle.send_known.specs.declared.channel.Channel.{Channel}
use Rattle.send_jobs.specs.declared.slots.Slots.{Slots}
use Rattle.send_jobs.specs.Jobs.{job_of}
use Rattle.send_jobs.specs.Sending.{lane}
use Rattle.send_jobs.specs.Slots.{attempt_in}
use Rattle.program_law.specs.Sender.Knows.{Serves}
use Rattle.program_law.specs.Sender.Stands.{LaneStands}
use Rattle.program_law.specs.Sender.Views.{files_of, first_at, records_at}
use Rattle.program_law.proofs.Sender.Entries.{among_of}
use Rattle.program_law.proofs.Sender.Others.{the_job}
use Rattle.program_law.proofs.Sender.Texts.{they_are}

-- Records of one file are at places of their own

above : (k : ℕ) (rs : List Record) (x : Record) → Rises k rs → Among x rs → k ≤ x.place
above k [] x h among = absurd among
above k (r ∷ rs) x h among = ⊎_elim
    (λ (same : x ≡ r). let here = ap (λ (z : Record). z.place) same in let low = h.0 in omega (arith, here, low))
    (λ (later : Among x rs). let low = h.0 in let more = above (r.place + 1) rs x h.1 later in omega (arith, low, more))
    among

one_place : (k : ℕ) (rs : List Record) (x y : Record) → Rises k rs → Among x rs → Among y rs → x.place ≡ y.place → x ≡ y
one_place k [] x y h one two same = absurd one
one_place k (r ∷ rs) x y h one two same = ⊎_elim
    (λ (e : x ≡ r). ⊎_elim
    (λ (f : y ≡ r). e ∙ sym f)
    (λ (later : Among y rs).
    let here = ap (λ (z : Record). z.place) e in let more = above (r.place + 1) rs y h.1 later in absurd (omega (arith, here, more, same)))
    two)
    (λ (before : Among x rs). ⊎_elim
    (λ (f : y ≡ r).
    let here = ap (λ (z : Record). z.place) f in let more = above (r.place + 1) rs x h.1 before in absurd (omega (arith, here, more, same)))
    (λ (later : Among y rs). one_place (r.place + 1) rs x y h.1 before later same)
    two)
    one

-- An attempt in flight is for the recipient whose record stands at its place

pub inside : (slots : List (Option Attempt)) (slot : ℕ) (a : Attempt) → attempt_in slots slot ≡ Some a → slot < length slots
inside slots slot a there = ⊎_elim
    (λ lt. lt)
    (λ ge. let free : attempt_in slots slot ≡ None = get_or_past slots slot None ge in absurd (cc))
    (cases_lt slot (length slots))

pub in_slot : (slots : List (Option Attempt)) (slot : ℕ) (a : Attempt) → attempt_in slots slot ≡ Some a → Contains slots (Some a)
in_slot slots slot a there = (slot, inside slots slot a there, get_or_default slots slot (Some a) None (inside slots slot a there) ∙ there)

module _ (q : Queue) (row : Row) (ch : Channel) (s : Slots) (G : Sound q) (h : LaneStands q row ch s)
    (slot : ℕ) (a : Attempt) (there : attempt_in (lane ch s).slots slot ≡ Some a) where
  pub flies : Serves (about q a.n) ch
  flies =
      let one = contained_counts (is_slot_at a.n a.place) (lane ch s).slots (Some a) (in_slot (lane ch s).slots slot a there) (at_itself a) in
      let held : 1 ≤ in_hand (first_at row ch) a.n a.place (lane ch s) = omega (arith, one) in
      let job = the_job (job_of a.n (lane ch s).jobs) (h.tied.owned a.n a.place held) in
      h.jobs a.n job.0 job.1

  pub routed_there : (i : Injection) → q.books.living a.n ≡ Some i → (r : Recipient i.args) → (spot_in i r).channel ≡ ch → (spot_in i r).place ≡ a.place
      → a.address ≡ routed_in i r
  routed_there i lives r on same_place =
      let unmarked : IsOpen (files_of q ch) a = subst (λ o. IfSome o (IsOpen (files_of q ch))) there (h.tied.in_flight slot None (inside (lane ch s).slots slot a there)) in
      let filed : HasLane (about q a.n) ch = record { no_todo = flies.sorted.no_todo; file = flies.file; there = flies.there; injection = i; lives = lives } in
      let pre : IsPreprocessed (about q a.n) = sorted_of_lane (about q a.n) ch (G.fine a.n) filed in
      let both : ◌≡◌ {A = Option Injection} (Some pre.taken.injection) (Some i) = sym pre.taken.lives ∙ lives in
      let same : pre.taken.injection ≡ i = cc in
      let marked = lane_there (about q a.n) pre.taken.injection ch flies.file flies.there (pre.lanes ch) in
      let read = sym (ap records_at flies.there) ∙ unmarked.there in
      let are = they_are flies.file.file.bytes unmarked.records read in
      let of = records_are pre.taken.injection ch flies.file.file.bytes unmarked.records pre.no_nul pre.taken.valid pre.taken.spots marked.present are in
      let it : Record = record { done = false; place = a.place; address = a.address } in
      let found : (z : Recipient pre.taken.injection.args) → (spot_in pre.taken.injection z).channel ≡ ch → (spot_in pre.taken.injection z).place ≡ a.place
      → a.address ≡ routed_in pre.taken.injection z =
      λ z at_channel at_place.
      let one = of.all z at_channel in
      let one_is : it ≡ one.0 =
      one_place 0 unmarked.records it one.0 (rises 0 unmarked.records (λ before rest x e. are.places before rest x e ∙ omega arith)) (among_of unmarked.records it unmarked.reads) one.1
      (sym at_place ∙ sym one.2.place_is) in
      ap (λ (x : Record). x.address) one_is ∙ one.2.address_is in
      subst
      (λ (j : Injection). (z : Recipient j.args) → (spot_in j z).channel ≡ ch → (spot_in j z).place ≡ a.place → a.address ≡ routed_in j z)
      same found r on same_place
