-- Each channel file of a preprocessed message is records alone.
use Rattle.std.proofs.Common.{◌≡◌, ◌⊎◌, inl, inr, ⊎_elim, ℕ, zero, ◌<◌, List, [], ◌∷◌, length, arith, true, Option, Some, None, is_some, refl, sym, ap, ◌∙◌, subst, map, slice_get, take}
use Rattle.std.specs.Prelude.{All, Contains}
use Rattle.std.proofs.lemmas.List.Elements.{All-nil, Contains-append_right}
use Rattle.address_rules.specs.declared.controls.Controls.{Controls}
use Rattle.address_rules.specs.Nuls.{HaveNoNul}
use Rattle.call_fs.specs.Disk.{Among, File}
use Rattle.envelope_records.specs.declared.channel.Record.{Record}
use Rattle.envelope_records.specs.Envelope.{IsAddress, Reading, read_envelope, todo_text}
use Rattle.envelope_records.specs.Envelope.Reading.{Whole, Open, Broken}
use Rattle.envelope_records.specs.Records.{AreRecords}
use Rattle.envelope_records.proofs.Envelopes.{Sound, read_sound}
use Rattle.queue_inject.specs.declared.injection.Arguments.{Arguments}
use Rattle.queue_inject.specs.declared.injection.InputEnd.{InputEnd}
use Rattle.queue_inject.specs.Texts.{limit, intd_text, envelope_of, envelope_text, recipients_read, recipients_of}
use Rattle.queue_law.specs.Accounts.{AreOfRecipients}
use Rattle.queue_law.specs.Books.{Injection, IsValid, lane_in}
use Rattle.queue_law.specs.Ledgers.{Spot}
use Rattle.queue_law.specs.Marks.{HasItsSpots, IsDone, IsMarked}
use Rattle.queue_law.specs.Routes.{lane_text}
use Rattle.queue_law.proofs.Places.{done_spot}
use Rattle.queue_law.proofs.Readings.{records_are}
use Rattle.send_known.specs.declared.channel.Channel.{Channel}
use Rattle.send_known.specs.declared.channel.Channel.TheVariants.{Local, Remote}
use Rattle.send_links.specs.Records.{records_of}
use Rattle.send_links.proofs.WholeRecords.{are_read}
use Rattle.todo_pass.specs.Todo.{IsTodo, Todo}
use Rattle.todo_pass.proofs.Channels.{channels_are}
use Rattle.program_law.specs.Channel.Versions.{HasVersions, IsMarkedFrom}
use Rattle.program_law.proofs.Channel.Records.{versions_are}

-- The text of a channel

whole_plain : (bytes : List ℕ) (r : Reading) (end : InputEnd) (next : Option ℕ) → Sound bytes r → (envelope_text r end next).fault ≡ None → All IsAddress (recipients_read r)
whole_plain bytes (Whole sender recipients) end next h ok = h.whole.to
whole_plain bytes (Open stage) end next h ok = absurd (cc)
whole_plain bytes (Broken before fault) end next h ok = absurd (cc)

recipients_plain : (args : Arguments) → IsValid args → All IsAddress (recipients_of args)
unfolding intd_text envelope_of recipients_of
recipients_plain args valid = whole_plain (take limit args.envelope) (read_envelope (take limit args.envelope)) args.envelope_end (slice_get args.envelope limit)
    (read_sound (take limit args.envelope)) valid.envelope

-- some todo text with these recipients
abbrev todo_with : Arguments → Todo
todo_with args = record { uid = 0; pid = 0; sender = []; recipients = recipients_of args }

lane_records : (controls : Controls) (args : Arguments) (ch : Channel) → HaveNoNul controls → IsValid args → (rs : List Record) × AreRecords (lane_text controls args ch) rs
lane_records controls args ch none valid = by ch where
  is : IsTodo (todo_text 0 0 [] (recipients_of args)) (todo_with args)
  is = record { text = refl; uid_fits = omega arith; pid_fits = omega arith; from = record { short = omega arith; plain = All-nil _ }; to = recipients_plain args valid }

  by : (ch : Channel) → (rs : List Record) × AreRecords (lane_text controls args ch) rs
  by Local = let both = channels_are controls (todo_text 0 0 [] (recipients_of args)) (todo_with args) none is in (both.0.records, both.0.read)
  by Remote = let both = channels_are controls (todo_text 0 0 [] (recipients_of args)) (todo_with args) none is in (both.1.records, both.1.read)

-- Its places

place_among : (it : Record) (rs : List Record) → Among it rs → Among it.place (map (λ (r : Record). r.place) rs)
place_among it [] h = absurd h
place_among it (r ∷ rs) h = ⊎_elim (λ (e : it ≡ r). inl (ap (λ (x : Record). x.place) e)) (λ (w : Among it rs). inr (place_among it rs w)) h

placed : (p : ℕ) (rs : List Record) → Among p (map (λ (r : Record). r.place) rs) → (r : Record) × Contains rs r × (r.place ≡ p)
placed p [] h = absurd h
placed p (r ∷ rs) h = ⊎_elim
    (λ (e : p ≡ r.place). (r, (zero, omega arith, refl), sym e))
    (λ (w : Among p (map (λ (x : Record). x.place) rs)). let it = placed p rs w in (it.0, Contains-append_right (r ∷ []) rs it.0 it.1, it.2))
    h

module _ (i : Injection) (ch : Channel) (none : HaveNoNul i.ledger.routes) (valid : IsValid i.args) (spots : HasItsSpots i) where
  abbrev text : List ℕ
  text = lane_in i ch

  made : (rs : List Record) × AreRecords text rs
  made = lane_records i.ledger.routes i.args ch none valid

  abbrev places : List ℕ
  places = map (λ (r : Record). r.place) made.0

  of_recipients : AreOfRecipients i ch made.0
  of_recipients = records_are i ch text made.0 none valid spots (record { long = refl; each = λ k lt. inl refl }) made.1

  -- each that may be marked is a place of it
  done_among : (k : ℕ) → IsDone i.ledger ch k → Among k places
  done_among k done =
      let w = done_spot i spots ch k done in
      let it = of_recipients.all w.0 (sym (ap (λ (s : Spot). s.channel) w.1)) in
      subst (λ (p : ℕ). Among p places) (it.2.place_is ∙ sym (ap (λ (s : Spot). s.place) w.1)) (place_among it.0 made.0 it.1)

  module _ (bytes : List ℕ) (m : IsMarked text i.ledger ch bytes) where
    abbrev file : File
    file = record { bytes = bytes; kept = bytes; given = []; least = length bytes; greatest = length bytes; moment = 0 }

    reads : (place : ℕ) (value : Option ℕ) → place < length text → value ≡ slice_get bytes place → (value ≡ slice_get text place) ⊎ (Among place places × (value ≡ Some 68))
    reads place value lt e = ⊎_elim
        (λ (same : slice_get bytes place ≡ slice_get text place). inl (e ∙ same))
        (λ (done : IsDone i.ledger ch place × (slice_get bytes place ≡ Some 68)). inr (done_among place done.0, e ∙ done.1))
        (m.each place lt)

    from : IsMarkedFrom text places file
    from = record {
      least = m.long;
      greatest = m.long;
      kept = m.long;
      long = m.long;
      each = λ place value lt may. ⊎_elim
          (λ (e : value ≡ slice_get bytes place). reads place value lt e)
          (λ w. ⊎_elim (λ (e : value ≡ slice_get bytes place). reads place value lt e) (λ given. absurd given.1) w)
          may;
    }

    pub marked_records : is_some (records_of bytes) ≡ true
    marked_records = let v : HasVersions places made.0 bytes = versions_are text places file made.0 from made.1 (λ place among. placed place made.0 among) in ap is_some (are_read bytes v.now v.are)
