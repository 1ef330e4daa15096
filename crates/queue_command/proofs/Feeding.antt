-- An injector that is fed its input as it comes.
use Rattle.std.proofs.Common.{◌≡◌, ◌≢◌, ℕ, ◌+◌, ◌-◌, ◌≤◌, ◌<◌, List, [], ◌++◌, length, drop, Option, Some, None, refl, sym, ap, ◌∙◌, subst, arith, append_assoc, length-append, length-drop}
use Rattle.std.proofs.Math.Seq.{drop-append_seam}
use Rattle.std.proofs.lemmas.List.{drop-drop}
use Rattle.call_fs.specs.declared.past.Own.{Own}
use Rattle.queue_inject.specs.declared.injection.Arguments.{Arguments}
use Rattle.queue_inject.specs.declared.injection.InputEnd.{InputEnd}
use Rattle.queue_inject.specs.declared.injection.InputEnd.TheVariants as ends
use Rattle.queue_inject.specs.declared.injection.Part.{Part}
use Rattle.queue_inject.specs.declared.injection.Part.TheVariants.{Message, Envelope}
use Rattle.queue_inject.specs.declared.intake.Verdict.{Verdict}
use Rattle.queue_inject.specs.declared.intake.Verdict.TheVariants.{Open, Whole, Faulty}
use Rattle.queue_inject.specs.declared.row.Row.{Row}
use Rattle.queue_inject.specs.Rows.{is_open, part_in, message_over}
use Rattle.queue_inject.specs.Machine.{Heard, Machine, asks, asks_by, room_of, room_by, over_by}
use Rattle.queue_inject.specs.Stands.{Stands, ContinuesBy, Continues, EndsBy, Ends}
use Rattle.queue_inject.specs.Texts.{limit}
use Rattle.queue_inject.proofs.Kept.{asked_by, fed_inside}
use Rattle.queue_command.specs.Inputs.{BeginsBy, most}
use Rattle.queue_command.specs.Feeding.{TellsBy, IsFed}

-- How an input begins

pub begins_first : (end : Option InputEnd) (whole : List ℕ) (over : InputEnd) (a b : List ℕ) → BeginsBy end whole over (a ++ b) → BeginsBy None whole over a
begins_first None whole over a b (rest, is) = (b ++ rest, is ∙ append_assoc a b rest)
begins_first (Some end) whole over a b (is, same) = (b, is)

after_first : (fed : ℕ) (whole a b : List ℕ) → drop fed whole ≡ a ++ b → drop (fed + length a) whole ≡ b
after_first fed whole a b is = sym (drop-drop (length a) fed whole) ∙ ap (λ t. drop (length a) t) is ∙ drop-append_seam a b

begins_rest : (end : Option InputEnd) (fed : ℕ) (whole : List ℕ) (over : InputEnd) (a b : List ℕ) → BeginsBy end (drop fed whole) over (a ++ b)
    → BeginsBy end (drop (fed + length a) whole) over b
begins_rest None fed whole over a b (rest, is) = (rest, after_first fed whole a (b ++ rest) (is ∙ append_assoc a b rest))
begins_rest (Some end) fed whole over a b (is, same) = (after_first fed whole a b is, same)

tells_first : (o : Option Part) (fed : ℕ) (args : Arguments) (end : Option InputEnd) (a b : List ℕ) → TellsBy o fed args end (a ++ b) → TellsBy o fed args None a
tells_first None fed args end a b t = tt
tells_first (Some Message) fed args end a b t = begins_first end (drop fed args.message) args.message_end a b t
tells_first (Some Envelope) fed args end a b t = begins_first end (drop fed args.envelope) args.envelope_end a b t

tells_rest : (o : Option Part) (fed : ℕ) (args : Arguments) (end : Option InputEnd) (a b : List ℕ) → TellsBy o fed args end (a ++ b) → TellsBy o (fed + length a) args end b
tells_rest None fed args end a b t = tt
tells_rest (Some Message) fed args end a b t = begins_rest end fed args.message args.message_end a b t
tells_rest (Some Envelope) fed args end a b t = begins_rest end fed args.envelope args.envelope_end a b t

-- Nothing is fed

open_part : (v : Verdict) (row : Row) (part : Part) → asks_by (is_open v) row ≡ Some part → v ≢ Whole
open_part Open row part e = λ same. absurd (cc)
open_part Whole row part e = absurd (cc)
open_part (Faulty status) row part e = absurd (cc)

pub fed_none : (m : Machine) → IsFed m m None []
fed_none m = record {
  stands = λ args past s t. s;
  rest = refl;
  fed = omega arith;
  still = λ part e. (e, refl);
  whole = λ e over. absurd (open_part m.heard.verdict m.row Message e over);
  short = λ before. before;
}

-- Bytes are fed

continues : (o : Option Part) (fed : ℕ) (args : Arguments) (bytes : List ℕ) → TellsBy o fed args None bytes → ContinuesBy o fed args bytes
continues None fed args bytes t = tt
continues (Some Message) fed args bytes (rest, is) = record { rest = rest; next = is }
continues (Some Envelope) fed args bytes (rest, is) = record { rest = rest; next = is }

-- what asks for a part asks for that of its row
asks_row : (v : Verdict) (row : Row) (part : Part) → asks_by (is_open v) row ≡ Some part → asks_by (is_open v) row ≡ part_in row
asks_row Open row part e = refl
asks_row Whole row part e = absurd (cc)
asks_row (Faulty status) row part e = absurd (cc)

still_asks : (m n : Machine) (part other : Part) → asks m ≡ Some part → n.row ≡ m.row → asks n ≡ Some other → asks m ≡ Some other
still_asks m n part other e same f = asks_row m.heard.verdict m.row part e ∙ ap part_in (sym same) ∙ (asked_by n.heard.verdict n.row other f).1

pub fed_bytes : (m n : Machine) (part : Part) (bytes : List ℕ) → asks m ≡ Some part
    → ((args : Arguments) (past : List Own) → Stands m args past → ContinuesBy (asks m) m.heard.fed args bytes → Stands n args past)
    → n ≡ record m { heard = n.heard } → n.heard.fed ≡ m.heard.fed + length bytes → (asks m ≡ Some Message → n.heard.verdict ≢ Whole) → n.heard.fed ≤ most
    → IsFed m n None bytes
fed_bytes m n part bytes e stands rest fed message short = record {
  stands = λ args past s t. stands args past s (continues (asks m) m.heard.fed args bytes t);
  rest = rest;
  fed = fed;
  still = λ other f. (still_asks m n part other e (ap (λ (k : Machine). k.row) rest) f, refl);
  whole = λ asked over. absurd (message asked over);
  short = λ before. short;
}

-- An end is told

at_end : (whole : List ℕ) (fed : ℕ) → fed ≤ length whole → drop fed whole ≡ [] → fed ≡ length whole
at_end whole fed inside none = let rest = length-drop fed whole in let same = ap length none in omega arith

ends_by : (o : Option Part) (fed : ℕ) (args : Arguments) (end : InputEnd) → (o ≡ Some Message → fed ≤ length args.message) → (o ≡ Some Envelope → fed ≤ length args.envelope)
    → TellsBy o fed args (Some end) [] → EndsBy o fed args end
ends_by None fed args end message envelope t = tt
ends_by (Some Message) fed args end message envelope (is, same) = (at_end args.message fed (message refl) is, same)
ends_by (Some Envelope) fed args end message envelope (is, same) = (at_end args.envelope fed (envelope refl) is, same)

over_fed : (o : Option Part) (h : Heard) (end : InputEnd) → (over_by o h end).fed ≡ h.fed
over_fed None h end = refl
over_fed (Some Message) h end = refl
over_fed (Some Envelope) h end = refl

over_whole : (end : InputEnd) → message_over end ≡ Whole → end ≡ ends.Whole
over_whole ends.Whole e = refl
over_whole ends.Unread e = absurd (cc)
over_whole ends.Malformed e = absurd (cc)

pub fed_end : (m n : Machine) (part : Part) (end : InputEnd) → asks m ≡ Some part
    → ((args : Arguments) (past : List Own) → Stands m args past → EndsBy (asks m) m.heard.fed args end → Stands n args past)
    → n ≡ record m { heard = over_by (asks m) m.heard end } → asks n ≡ None → m.heard.fed ≤ limit
    → IsFed m n (Some end) []
fed_end m n part end e stands over none within =
    let heard : n.heard ≡ over_by (asks m) m.heard end = ap (λ (k : Machine). k.heard) over in
    let fed : n.heard.fed ≡ m.heard.fed = ap (λ (h : Heard). h.fed) heard ∙ over_fed (asks m) m.heard end in
    record {
      stands = λ args past s t. let inside = fed_inside m args past s in stands args past s (ends_by (asks m) m.heard.fed args end inside.0 inside.1 t);
      rest = over ∙ ap (λ h. record m { heard = h }) (sym heard);
      fed = omega (arith, fed);
      still = λ other f. let no : None ≡ Some other = sym none ∙ f in absurd (cc);
      whole = λ asked is.
          let verdict : n.heard.verdict ≡ message_over end = ap (λ (h : Heard). h.verdict) heard ∙ ap (λ o. (over_by o m.heard end).verdict) asked in
          ap Some (over_whole end (sym verdict ∙ is));
      short = λ before. omega (arith, fed, within);
    }

-- With room for more

pub asks_some : (m : Machine) → 0 < room_of m → (part : Part) × (asks m ≡ Some part)
asks_some m some = by_part (asks m) refl some where
  by_part : (o : Option Part) → asks m ≡ o → 0 < room_by o m.heard → (part : Part) × (asks m ≡ Some part)
  by_part None e some = absurd (omega arith)
  by_part (Some part) e some = (part, e)

room_within : (o : Option Part) (h : Heard) → room_by o h ≤ (limit + 1) - h.fed
room_within None h = omega arith
room_within (Some part) h = omega arith

pub step_bytes : (m n : Machine) (bytes : List ℕ) → 0 < room_of m → length bytes ≤ room_of m
    → ((args : Arguments) (past : List Own) → Stands m args past → Continues m args bytes → Stands n args past)
    → n ≡ record m { heard = n.heard } → n.heard.fed ≡ m.heard.fed + length bytes → (asks m ≡ Some Message → n.heard.verdict ≢ Whole)
    → IsFed m n None bytes
step_bytes m n bytes some fits stands rest fed message =
    let e = asks_some m some in
    let within = room_within (asks m) m.heard in
    fed_bytes m n e.0 bytes e.1 stands rest fed message (omega arith)

pub step_end : (m n : Machine) (end : InputEnd) → 0 < room_of m
    → ((args : Arguments) (past : List Own) → Stands m args past → Ends m args end → Stands n args past)
    → n ≡ record m { heard = over_by (asks m) m.heard end } → asks n ≡ None
    → IsFed m n (Some end) []
step_end m n end some stands over none =
    let e = asks_some m some in
    let within = room_within (asks m) m.heard in
    fed_end m n e.0 end e.1 stands over none (omega arith)

-- One portion after the other

pub fed_then : (m n k : Machine) (end : Option InputEnd) (a b : List ℕ) → asks n ≡ asks m → IsFed m n None a → IsFed n k end b → IsFed m k end (a ++ b)
fed_then m n k end a b same one two = record {
  stands = λ args past s t. two.stands args past
      (one.stands args past s (tells_first (asks m) m.heard.fed args end a b t))
      (subst (λ o. TellsBy o n.heard.fed args end b) (sym same)
      (subst (λ f. TellsBy (asks m) f args end b) (sym one.fed) (tells_rest (asks m) m.heard.fed args end a b t)));
  rest = two.rest ∙ ap (λ (x : Machine). record x { heard = k.heard }) one.rest;
  fed = let size = length-append a b in let first = one.fed in let second = two.fed in omega arith;
  still = λ part e. let still = two.still part e in (sym same ∙ still.0, still.1);
  whole = λ asked over. two.whole (same ∙ asked) over;
  short = λ before. two.short (one.short before);
}

-- How much is left to feed

abbrev pub left_by : Option Part → ℕ → ℕ
left_by None fed = 0
left_by (Some part) fed = 1 + (most - fed)

abbrev pub left_to_feed : Machine → ℕ
left_to_feed m = left_by (asks m) m.heard.fed
